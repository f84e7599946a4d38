-- The pieces of a module without names are those of the module but for the section of names.
use Rattle.std.proofs.Common.{◌≡◌, ℕ, Bool, true, false, cond, not, List, [], ◌∷◌, ◌++◌, map, filter, Option, refl, sym, ap, ◌∙◌}
use Rattle.std.specs.List.{flat_map}
use Rattle.std.proofs.lemmas.List.Elements.{filter-append}
use std.Path.{fun_ext}
use Rattle.wast_grammar.specs.Tokens.{Name}
use Rattle.wasm_encoder_custom.specs.Custom.{Custom}
use Rattle.wast_field_syntax.specs.FieldTree.{Field}
use Rattle.wasm_layout.specs.AbstractModule.{AbstractModule}
use Rattle.wasm_layout.specs.Section.{SectionKind, Types, Imports, Functions, Tables, Memories, Tags, Globals, Exports, Starts, Elements, DataCount, Hints, Codes, Datas, Names, same_section}
use Rattle.wasm_layout.specs.Present.{is_present}
use Rattle.wasm_layout.specs.Layout.{if_there, Section, section, sections, Piece, Known, Free, weave, pieces}
use Rattle.wasm_layout.specs.Lays.{bare}
use Rattle.wast_meant.specs.NamesMeant.{GivenName}
use Rattle.wast_meant.specs.CustomsMeant.{Stop, At, Of, stops, gaps_from}
use Rattle.wast_meant.specs.Meaning.{meant}
use Rattle.wast_meant.specs.Binary.{bytes_of, in_bytes}
use Rattle.wast_meant_laws.specs.Stops.{stop_pieces, is_unnamed}
use Rattle.wast_meant_laws.proofs.Woven.{woven}
use Rattle.wast_meant_laws.proofs.AtStops.{laid_out}
use Rattle.wast_meant_laws.proofs.Bare.{bare_with, bare_so, unnamed, placed, there_with}

filtered_each : {A B : Type 0} (p : B → Bool) (f : A → List B) (xs : List A) → filter p (flat_map f xs) ≡ flat_map (λ x. filter p (f x)) xs
filtered_each p f [] = refl
filtered_each p f (x ∷ xs) = filter-append p (f x) (flat_map f xs) ∙ ap (λ ys. filter p (f x) ++ ys) (filtered_each p f xs)

free_left : (cs : List Custom) → filter is_unnamed (map Free cs) ≡ map Free cs
free_left [] = refl
free_left (c ∷ cs) = ap (λ ps. Free c ∷ ps) (free_left cs)

module _ {P : Type 0} (eq : Name → Name → Bool) (made : Name → Bool) (name : Option (GivenName Name)) (fs : List (Field Name P)) where
  abbrev that : AbstractModule (List ℕ)
  that = in_bytes (meant eq made name fs)

  abbrev left : AbstractModule (List ℕ)
  left = in_bytes (record (unnamed eq made name fs) { customs = gaps_from (placed eq made name fs) (there_with (unnamed eq made name fs) false) stops })

  left_so : bare that ≡ left
  left_so = bare_with bytes_of (meant eq made name fs) ∙ ap in_bytes (bare_so eq made name fs)

  there_left : (k : SectionKind) → there_with (unnamed eq made name fs) false k ≡ is_present left k
  there_left Names = refl
  there_left Types = refl
  there_left Imports = refl
  there_left Functions = refl
  there_left Tables = refl
  there_left Memories = refl
  there_left Tags = refl
  there_left Globals = refl
  there_left Exports = refl
  there_left Starts = refl
  there_left Elements = refl
  there_left DataCount = refl
  there_left Hints = refl
  there_left Codes = refl
  there_left Datas = refl

  -- a section stays, but that of names
  abbrev kept : SectionKind → List Piece
  kept k = filter is_unnamed (map Known (if_there (is_present that k) (section that k)))

  section_left : (b : Bool) (s : Section) → not (same_section s.kind Names) ≡ true → filter is_unnamed (map Known (if_there b s)) ≡ map Known (if_there b s)
  section_left true s h = ap (λ c. cond c (Known s ∷ []) []) h
  section_left false s h = refl

  names_left : (b : Bool) (contents : List ℕ) → filter is_unnamed (map Known (if_there b (record { kind = Names; contents = contents }))) ≡ []
  names_left true contents = refl
  names_left false contents = refl

  kind_left : (k : SectionKind) → kept k ≡ map Known (if_there (is_present left k) (section left k))
  kind_left Names = names_left (is_present that Names) (section that Names).contents
  kind_left Types = section_left (is_present that Types) (section that Types) refl
  kind_left Imports = section_left (is_present that Imports) (section that Imports) refl
  kind_left Functions = section_left (is_present that Functions) (section that Functions) refl
  kind_left Tables = section_left (is_present that Tables) (section that Tables) refl
  kind_left Memories = section_left (is_present that Memories) (section that Memories) refl
  kind_left Tags = section_left (is_present that Tags) (section that Tags) refl
  kind_left Globals = section_left (is_present that Globals) (section that Globals) refl
  kind_left Exports = section_left (is_present that Exports) (section that Exports) refl
  kind_left Starts = section_left (is_present that Starts) (section that Starts) refl
  kind_left Elements = section_left (is_present that Elements) (section that Elements) refl
  kind_left DataCount = section_left (is_present that DataCount) (section that DataCount) refl
  kind_left Hints = section_left (is_present that Hints) (section that Hints) refl
  kind_left Codes = section_left (is_present that Codes) (section that Codes) refl
  kind_left Datas = section_left (is_present that Datas) (section that Datas) refl

  stop_left : (s : Stop) → filter is_unnamed (stop_pieces (placed eq made name fs) (is_present that) (section that) s) ≡ stop_pieces (placed eq made name fs) (is_present left) (section left) s
  stop_left (At place) = free_left (placed eq made name fs place)
  stop_left (Of kind) = kind_left kind

  pub pieces_left : pieces (bare that) ≡ filter is_unnamed (pieces that)
  pieces_left =
      ap pieces left_so
      ∙ ap (λ is_there. weave (sections left) (gaps_from (placed eq made name fs) is_there stops)) (fun_ext there_left)
      ∙ woven (placed eq made name fs) (is_present left) (section left) stops
      ∙ ap (λ each. flat_map each stops) (sym (fun_ext stop_left))
      ∙ sym (filtered_each is_unnamed (stop_pieces (placed eq made name fs) (is_present that) (section that)) stops)
      ∙ ap (filter is_unnamed) (sym (laid_out eq made name fs))
