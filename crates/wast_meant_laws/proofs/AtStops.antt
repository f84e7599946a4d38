-- A module that fields stand for, stop by stop.
use Rattle.std.proofs.Common.{◌≡◌, ℕ, ◌+◌, Bool, ◌&&◌, not, List, [], ◌∷◌, map, length, filter, Option, codes, refl, sym, ap, ◌∙◌}
use Rattle.std.specs.List.{flat_map}
use std.Path.{fun_ext}
use Rattle.wast_grammar.specs.Tokens.{Name}
use Rattle.wast_customs.specs.CustomTree.{Custom}
use Rattle.wast_field_syntax.specs.FieldTree.{Field}
use Rattle.wasm_layout.specs.AbstractModule.{AbstractModule}
use Rattle.wasm_layout.specs.Section.{SectionKind, Types, Imports, Functions, Tables, Memories, Tags, Globals, Exports, Starts, Elements, DataCount, Hints, Codes, Datas, Names, order}
use Rattle.wasm_layout.specs.Present.{has_names, is_present}
use Rattle.wasm_layout.specs.Layout.{section, sections, weave, pieces}
use Rattle.wast_meant.specs.NamesMeant.{GivenName}
use Rattle.wast_meant.specs.CustomsMeant.{custom_of, customs_in, at_place, stops, gaps_from}
use Rattle.wast_meant.specs.Meaning.{without_customs, with_customs, meant}
use Rattle.wast_meant.specs.Binary.{bytes_of, in_bytes}
use Rattle.wast_meant.proofs.Renamed.{same_sections}
use Rattle.wast_meant_laws.specs.Stops.{stop_pieces}
use Rattle.wast_meant_laws.proofs.Woven.{woven}
use Rattle.wast_meant_laws.proofs.Gaps.{count, called_same}

-- with all custom sections in one gap, wherever they stand
abbrev pub in_one_gap : {A P : Type 0} → List (Custom P) → AbstractModule A → AbstractModule A
in_one_gap cs m = record m { customs = map custom_of cs ∷ [] }

module _ {N P : Type 0} (eq : N → N → Bool) (made : N → Bool) (fs : List (Field N P)) where
  -- the sections that are there are those by which the gaps were told
  pub same_there : (m : AbstractModule (GivenName N)) (k : SectionKind) → is_present (in_one_gap (flat_map customs_in fs) m) k ≡ is_present (with_customs eq made fs m) k
  same_there m Names =
      ap (λ b. has_names m.names && not b) (sym (called_same (codes "name") (flat_map customs_in fs) (is_present (in_one_gap (flat_map customs_in fs) m))))
  same_there m Types = refl
  same_there m Imports = refl
  same_there m Functions = refl
  same_there m Tables = refl
  same_there m Memories = refl
  same_there m Tags = refl
  same_there m Globals = refl
  same_there m Exports = refl
  same_there m Starts = refl
  same_there m Elements = refl
  same_there m DataCount = refl
  same_there m Hints = refl
  same_there m Codes = refl
  same_there m Datas = refl

module _ {P : Type 0} (eq : Name → Name → Bool) (made : Name → Bool) (name : Option (GivenName Name)) (fs : List (Field Name P)) where
  abbrev that : AbstractModule (List ℕ)
  that = in_bytes (meant eq made name fs)

  there : is_present (in_one_gap (flat_map customs_in fs) (without_customs eq made name fs)) ≡ is_present that
  there = fun_ext (λ k. same_there eq made fs (without_customs eq made name fs) k ∙ sym (same_sections bytes_of (meant eq made name fs) k))

  pub laid_out : pieces that ≡ flat_map (stop_pieces (at_place (flat_map customs_in fs)) (is_present that) (section that)) stops
  laid_out =
      ap (λ is_there. weave (sections that) (gaps_from (at_place (flat_map customs_in fs)) is_there stops)) there
      ∙ woven (at_place (flat_map customs_in fs)) (is_present that) (section that) stops

  pub gap_count : length that.customs ≡ length (filter (is_present that) order) + 1
  gap_count =
      ap (λ is_there. length (gaps_from (at_place (flat_map customs_in fs)) is_there stops)) there
      ∙ count (at_place (flat_map customs_in fs)) (is_present that) stops
