-- The module without names is the same for any names.
use Rattle.std.proofs.Common.{◌≡◌, Bool, true, false, List, [], ◌∷◌, ◌++◌, Option, refl, sym, ap, ◌∙◌, append_assoc}
use Rattle.std.specs.Prelude.{if◌then◌else◌}
use Rattle.std.specs.List.{flat_map, list_all}
use Rattle.std.proofs.lemmas.Bool.{and_parts}
use std.Path.{fun_ext}
use Rattle.wast_grammar.specs.Tokens.{Name}
use Rattle.wasm_encoder_custom.specs.Custom as binary
use Rattle.wast_customs.specs.CustomTree.{CustomPlace, AfterLast}
use Rattle.wast_field_syntax.specs.FieldTree.{Field}
use Rattle.wasm_layout.specs.AbstractModule.{AbstractModule}
use Rattle.wasm_layout.specs.Section.{SectionKind, Types, Imports, Functions, Tables, Memories, Tags, Globals, Exports, Starts, Elements, DataCount, Hints, Codes, Datas, Names}
use Rattle.wasm_layout.specs.Present.{is_present}
use Rattle.wasm_layout.specs.Lays.{no_names, last_joined, bare}
use Rattle.wast_meant.specs.NamesMeant.{GivenName}
use Rattle.wast_meant.specs.CustomsMeant.{customs_in, Stop, At, Of, stops, precede, gaps_from, at_place}
use Rattle.wast_meant.specs.Meaning.{without_customs, meant}
use Rattle.wast_meant.specs.Binary.{module_with, bytes_of, in_bytes}
use Rattle.wast_meant.proofs.Renamed.{same_sections}
use Rattle.wast_meant_laws.proofs.AtStops.{in_one_gap, same_there}

-- A MODULE WITH OTHER NAMES
module _ {A B : Type 0} (f : A → B) where
  pub bare_with : (m : AbstractModule A) → bare (module_with f m) ≡ module_with f (bare m)
  bare_with m = λ i. record {
    types = m.types;
    imports = m.imports;
    functions = m.functions;
    tables = m.tables;
    memories = m.memories;
    tags = m.tags;
    globals = m.globals;
    exports = m.exports;
    start = m.start;
    elements = m.elements;
    datas = m.datas;
    names = no_names;
    hints = m.hints;
    customs = if same_sections f m Names i then last_joined m.customs else m.customs;
  }

-- names that are renamed, and then are bytes, are none without names
pub bare_renamed : {A B C : Type 0} (f : A → B) (g : B → C) (h : A → C) (m : AbstractModule A) → bare (module_with g (module_with f m)) ≡ bare (module_with h m)
bare_renamed f g h m = bare_with g (module_with f m) ∙ ap (module_with g) (bare_with f m) ∙ sym (bare_with h m)

-- THE LAST TWO GAPS
abbrev has_two : {A : Type 0} → List A → Bool
has_two (x ∷ y ∷ rest) = true
has_two xs = false

module _ {A : Type 0} where
  two_behind : (xs : List A) (gs : List (List A)) → has_two gs ≡ true → has_two (precede xs gs) ≡ true
  two_behind xs [] h = absurd (cc)
  two_behind xs (g ∷ []) h = absurd (cc)
  two_behind xs (g ∷ h ∷ gs) two = refl

  two_more : (g : List A) (gs : List (List A)) → has_two gs ≡ true → has_two (g ∷ gs) ≡ true
  two_more g [] h = absurd (cc)
  two_more g (h ∷ gs) two = refl

  joined_behind : (xs : List A) (gs : List (List A)) → has_two gs ≡ true → last_joined (precede xs gs) ≡ precede xs (last_joined gs)
  joined_behind xs [] h = absurd (cc)
  joined_behind xs (g ∷ []) h = absurd (cc)
  joined_behind xs (g ∷ h ∷ []) two = ap (λ v. v ∷ []) (append_assoc xs g h)
  joined_behind xs (g ∷ h ∷ k ∷ gs) two = refl

  joined_more : (g : List A) (gs : List (List A)) → has_two gs ≡ true → last_joined (g ∷ gs) ≡ g ∷ last_joined gs
  joined_more g [] h = absurd (cc)
  joined_more g (h ∷ []) two = absurd (cc)
  joined_more g (h ∷ k ∷ gs) two = refl

-- STOPS: the last are the section of names and the last place
abbrev last_stops : List Stop
last_stops = Of Names ∷ At AfterLast ∷ []

abbrev front : {A : Type 0} → List A → List A
front (x ∷ y ∷ []) = []
front (x ∷ y ∷ z ∷ rest) = x ∷ front (y ∷ z ∷ rest)
front xs = []

abbrev is_known : SectionKind → Bool
is_known Names = false
is_known k = true

abbrev is_before : Stop → Bool
is_before (At place) = true
is_before (Of kind) = is_known kind

front_stops : stops ≡ front stops ++ last_stops
front_stops = refl

all_before : list_all is_before (front stops) ≡ true
all_before = refl

-- which sections are there, given whether that of names is
abbrev pub there_with : {A : Type 0} → AbstractModule A → Bool → SectionKind → Bool
there_with m b Names = b
there_with m b k = is_present m k

there_either : {A : Type 0} (m : AbstractModule A) (k : SectionKind) → is_known k ≡ true → there_with m true k ≡ there_with m false k
there_either m Names h = absurd (cc)
there_either m Types h = refl
there_either m Imports h = refl
there_either m Functions h = refl
there_either m Tables h = refl
there_either m Memories h = refl
there_either m Tags h = refl
there_either m Globals h = refl
there_either m Exports h = refl
there_either m Starts h = refl
there_either m Elements h = refl
there_either m DataCount h = refl
there_either m Hints h = refl
there_either m Codes h = refl
there_either m Datas h = refl

-- two gaps at least, whose last two are joined to those
pub record JoinedTo (gs hs : List (List binary.Custom)) : Type 0 where
  pub two : has_two gs ≡ true
  pub joined : last_joined gs ≡ hs

joined_kind : (b c : Bool) → b ≡ c → (gs hs : List (List binary.Custom)) → JoinedTo gs hs
    → JoinedTo (elim b as (λ b. List (List binary.Custom)) [ true ↦ [] ∷ gs | false ↦ gs ]) (elim c as (λ c. List (List binary.Custom)) [ true ↦ [] ∷ hs | false ↦ hs ])
joined_kind true true e gs hs j = record { two = two_more [] gs j.two; joined = joined_more [] gs j.two ∙ ap (λ v. [] ∷ v) j.joined }
joined_kind false false e gs hs j = j
joined_kind true false e gs hs j = absurd (cc)
joined_kind false true e gs hs j = absurd (cc)

module _ {A : Type 0} (at : CustomPlace → List binary.Custom) (m : AbstractModule A) where
  joined_before : (ss : List Stop) → list_all is_before ss ≡ true → JoinedTo (gaps_from at (there_with m true) (ss ++ last_stops)) (gaps_from at (there_with m false) (ss ++ last_stops))
  joined_before [] h = record { two = refl; joined = refl }
  joined_before (At place ∷ ss) h =
      let j = joined_before ss h in
      record {
        two = two_behind (at place) (gaps_from at (there_with m true) (ss ++ last_stops)) j.two;
        joined = joined_behind (at place) (gaps_from at (there_with m true) (ss ++ last_stops)) j.two ∙ ap (precede (at place)) j.joined;
      }
  joined_before (Of kind ∷ ss) h =
      let each = and_parts (is_known kind) (list_all is_before ss) h in
      joined_kind (there_with m true kind) (there_with m false kind) (there_either m kind each.0)
      (gaps_from at (there_with m true) (ss ++ last_stops)) (gaps_from at (there_with m false) (ss ++ last_stops)) (joined_before ss each.1)

  joined_stops : last_joined (gaps_from at (there_with m true) stops) ≡ gaps_from at (there_with m false) stops
  joined_stops =
      ap (λ ss. last_joined (gaps_from at (there_with m true) ss)) front_stops
      ∙ (joined_before (front stops) all_before).joined
      ∙ ap (gaps_from at (there_with m false)) (sym front_stops)

  -- joined where the section of names is there, they are those without it
  joined_where : (b : Bool) → (if b then last_joined (gaps_from at (there_with m b) stops) else gaps_from at (there_with m b) stops) ≡ gaps_from at (there_with m false) stops
  joined_where true = joined_stops
  joined_where false = refl

-- MODULES MEANT
module _ {N P : Type 0} (eq : N → N → Bool) (made : N → Bool) (name : Option (GivenName N)) (fs : List (Field N P)) where
  abbrev plain : AbstractModule (GivenName N)
  plain = without_customs eq made name fs

  abbrev pub unnamed : AbstractModule (GivenName N)
  unnamed = record plain { names = no_names }

  abbrev named : Bool
  named = is_present (in_one_gap (flat_map customs_in fs) plain) Names

  there_so : (k : SectionKind) → is_present (in_one_gap (flat_map customs_in fs) plain) k ≡ there_with unnamed named k
  there_so Names = refl
  there_so Types = refl
  there_so Imports = refl
  there_so Functions = refl
  there_so Tables = refl
  there_so Memories = refl
  there_so Tags = refl
  there_so Globals = refl
  there_so Exports = refl
  there_so Starts = refl
  there_so Elements = refl
  there_so DataCount = refl
  there_so Hints = refl
  there_so Codes = refl
  there_so Datas = refl

  abbrev pub placed : CustomPlace → List binary.Custom
  placed = at_place (flat_map customs_in fs)

  customs_so : (if is_present (meant eq made name fs) Names then last_joined (meant eq made name fs).customs else (meant eq made name fs).customs)
      ≡ gaps_from placed (there_with unnamed false) stops
  customs_so =
      ap (λ b. if b then last_joined (meant eq made name fs).customs else (meant eq made name fs).customs) (sym (same_there eq made fs plain Names))
      ∙ ap (λ is_there. if named then last_joined (gaps_from placed is_there stops) else gaps_from placed is_there stops) (fun_ext there_so)
      ∙ joined_where placed unnamed named

  -- what is meant without names, from the fields alone
  pub bare_so : bare (meant eq made name fs) ≡ record unnamed { customs = gaps_from placed (there_with unnamed false) stops }
  bare_so = λ i. record unnamed { customs = customs_so i }

pub names_apart : {N P : Type 0} (eq : N → N → Bool) (made other : N → Bool) (name second : Option (GivenName N)) (fs : List (Field N P)) → bare (meant eq other second fs) ≡ bare (meant eq made name fs)
names_apart eq made other name second fs = bare_so eq other second fs ∙ sym (bare_so eq made name fs)

pub bytes_apart : {P : Type 0} (eq : Name → Name → Bool) (made other : Name → Bool) (name second : Option (GivenName Name)) (fs : List (Field Name P))
    → bare (in_bytes (meant eq other second fs)) ≡ bare (in_bytes (meant eq made name fs))
bytes_apart eq made other name second fs =
    bare_with bytes_of (meant eq other second fs) ∙ ap (module_with bytes_of) (names_apart eq made other name second fs) ∙ sym (bare_with bytes_of (meant eq made name fs))
