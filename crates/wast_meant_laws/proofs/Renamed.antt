-- Conditions, modules and binaries of renamed fields.
use Rattle.std.proofs.Common.{◌≡◌, ◌↔◌, ℕ, Bool, true, List, [], ◌∷◌, map, Option, Some, None, option_map, refl, sym, ◌∙◌, ap}
use std.Equiv.{Iso}
use Rattle.wast_grammar.specs.Tokens.{Name}
use Rattle.wast_grammar.specs.Spelling.{same_name}
use Rattle.wast_grammar.specs.Alike.{Keeps}
use Rattle.wast_field_syntax.specs.FieldTree.{Field}
use Rattle.wast_meaning.specs.WellFormed.{breaches}
use Rattle.wasm_layout.specs.AbstractModule.{Naming, InnerNaming, NameMaps, AbstractModule}
use Rattle.wasm_layout.specs.Lays.{bare}
use Rattle.wast_resolve_laws.specs.Renamed.{renamed, FieldList, fields_renamed}
use Rattle.wast_resolve_laws.proofs.Renamed.{renamed_so}
use Rattle.wast_resolve_laws.proofs.Renamed as one_test
use Rattle.wast_resolve_laws.proofs.RenamedFields.{naming_so, names_kept}
use Rattle.wast_conversions.specs.Covered.{Form}
use Rattle.wast_meant.specs.NamesMeant.{GivenName, Identifier, Bytes}
use Rattle.wast_meant.specs.Covered.{uncovered}
use Rattle.wast_meant.specs.Meaning.{meant}
use Rattle.wast_meant.specs.Binary.{naming_with, inner_with, maps_with, module_with, bytes_of, in_bytes}
use Rattle.wast_meant_laws.specs.Renamed.{given_renamed, form_moved}
use Rattle.wast_meant_laws.proofs.Free.{free}
use Rattle.wast_meant_laws.proofs.Bare.{bare_renamed, bytes_apart}

-- WHERE NAMES AND PLACES STAY, so does what is made of them
map_still : {A : Type 0} (f : A → A) → ((x : A) → f x ≡ x) → (xs : List A) → map f xs ≡ xs
map_still f e [] = refl
map_still f e (x ∷ xs) = λ i. e x i ∷ map_still f e xs i

option_still : {A : Type 0} (f : A → A) → ((x : A) → f x ≡ x) → (o : Option A) → option_map f o ≡ o
option_still f e None = refl
option_still f e (Some x) = ap Some (e x)

given_still : {N : Type 0} (x : GivenName N) → given_renamed (λ n. n) x ≡ x
given_still (Identifier n) = refl
given_still (Bytes bytes) = refl

module _ {A : Type 0} (f : A → A) (e : (x : A) → f x ≡ x) where
  naming_still : (n : Naming A) → naming_with f n ≡ n
  naming_still n = λ i. record { index = n.index; name = e n.name i }

  inner_still : (n : InnerNaming A) → inner_with f n ≡ n
  inner_still n = λ i. record { index = n.index; names = map_still (naming_with f) naming_still n.names i }

  maps_still : (names : NameMaps A) → maps_with f names ≡ names
  maps_still names = λ i. record {
    module_name = option_still f e names.module_name i;
    items = λ space. map_still (naming_with f) naming_still (names.items space) i;
    inner = λ space. map_still (inner_with f) inner_still (names.inner space) i;
  }

  module_still : (m : AbstractModule A) → module_with f m ≡ m
  module_still m = λ i. record m { names = maps_still m.names i }

-- what is made, over names and places
abbrev Places : Type 0 → Type 0 → Type 0
Places N P = List P

abbrev FoundForm : Type 0 → Type 0 → Type 0
FoundForm N P = Option (P × Form)

abbrev Called : Type 0 → Type 0 → Type 0
Called N P = Option (GivenName N)

abbrev pub Meant : Type 0 → Type 0 → Type 0
Meant N P = AbstractModule (GivenName N)

-- fields, and the fresh names that are made for them; fields, and the module's name
abbrev pub Given : Type 0 → Type 0 → Type 0
Given N P = (ℕ → N) × List (Field N P)

abbrev CalledFields : Type 0 → Type 0 → Type 0
CalledFields N P = Called N P × List (Field N P)

module _ {N M P Q : Type 0} (names : Iso N M) (places : Iso P Q) where
  places_so : (ps : List P) → renamed Places names places ps ≡ map places.fun ps
  places_so ps = renamed_so Places (λ N M P Q f g ps. map g ps) (λ N P ps. map_still (λ p. p) (λ p. refl) ps) names places ps

  form_so : (o : Option (P × Form)) → renamed FoundForm names places o ≡ option_map (form_moved places.fun) o
  form_so o = renamed_so FoundForm (λ N M P Q f g o. option_map (form_moved g) o) (λ N P o. option_still (form_moved (λ p. p)) (λ found. refl) o) names places o

  called_so : (o : Option (GivenName N)) → renamed Called names places o ≡ option_map (given_renamed names.fun) o
  called_so o = renamed_so Called (λ N M P Q f g o. option_map (given_renamed f) o) (λ N P o. option_still (given_renamed (λ n. n)) given_still o) names places o

  pub meant_so : (m : AbstractModule (GivenName N)) → renamed Meant names places m ≡ module_with (given_renamed names.fun) m
  meant_so m = renamed_so Meant (λ N M P Q f g m. module_with (given_renamed f) m) (λ N P m. module_still (given_renamed (λ n. n)) given_still m) names places m

  module _ (eq : N → N → Bool) (new : M → M → Bool) (keeps : Keeps eq new names.fun) (fs : List (Field N P)) where
    -- the forms that aren't covered, whatever names are made
    pub uncovered_renamed : (naming : ℕ → N) → uncovered (λ n. names.fun (naming n)) (fields_renamed names places fs) ≡ option_map (form_moved places.fun) (uncovered naming fs)
    uncovered_renamed naming =
        ap (λ made. uncovered made (fields_renamed names places fs)) (sym (naming_so names places naming))
        ∙ one_test.free Given FoundForm (λ N P eq x. uncovered x.0 x.1) names places eq new keeps (naming, fs)
        ∙ form_so (uncovered naming fs)

    module _ (made : N → Bool) (other : M → Bool) (kept : (n : N) → other (names.fun n) ≡ made n) where
      pub breaches_renamed : breaches new other (fields_renamed names places fs) ≡ map places.fun (breaches eq made fs)
      breaches_renamed = free FieldList Places (λ N P eq made fs. breaches eq made fs) names places eq new keeps made other kept fs ∙ places_so (breaches eq made fs)

      pub meant_renamed : (name : Option (GivenName N)) → meant new other (option_map (given_renamed names.fun) name) (fields_renamed names places fs) ≡ module_with (given_renamed names.fun) (meant eq made name fs)
      meant_renamed name =
          ap (λ called. meant new other called (fields_renamed names places fs)) (sym (called_so name))
          ∙ free CalledFields Meant (λ N P eq made x. meant eq made x.0 x.1) names places eq new keeps made other kept (name, fs)
          ∙ meant_so (meant eq made name fs)

-- EMPTY where the other is
some_place : {P Q : Type 0} (g : P → Q) (ps : List P) → (map g ps ≡ []) ↔ (ps ≡ [])
some_place g [] = (λ e. refl, λ e. refl)
some_place g (p ∷ ps) = (λ e. absurd (cc), λ e. absurd (cc))

some_form : {A B : Type 0} (g : A → B) (o : Option A) → (option_map g o ≡ None) ↔ (o ≡ None)
some_form g None = (λ e. refl, λ e. refl)
some_form g (Some x) = (λ e. absurd (cc), λ e. absurd (cc))

along_either : {A B : Type 0} {a b : A} {c : A} {d e : B} → a ≡ b → (b ≡ c) ↔ (d ≡ e) → (a ≡ c) ↔ (d ≡ e)
along_either p h = (λ q. h.0 (sym p ∙ q), λ q. p ∙ h.1 q)

module _ {N M P Q : Type 0} (names : Iso N M) (places : Iso P Q) (eq : N → N → Bool) (new : M → M → Bool) (keeps : Keeps eq new names.fun) where
  pub covered_either : (fs : List (Field N P)) (naming : ℕ → N) → (uncovered (λ n. names.fun (naming n)) (fields_renamed names places fs) ≡ None) ↔ (uncovered naming fs ≡ None)
  covered_either fs naming = along_either (uncovered_renamed names places eq new keeps fs naming) (some_form (form_moved places.fun) (uncovered naming fs))

  module _ (made : N → Bool) (other : M → Bool) (kept : (n : N) → other (names.fun n) ≡ made n) where
    pub formed_either : (fs : List (Field N P)) → (breaches new other (fields_renamed names places fs) ≡ []) ↔ (breaches eq made fs ≡ [])
    formed_either fs = along_either (breaches_renamed names places eq new keeps fs made other kept) (some_place places.fun (breaches eq made fs))

-- BINARIES without names: whichever names are made up, so as if all were
module _ {P Q : Type 0} (names : Iso Name Name) (places : Iso P Q) (made other : Name → Bool) (name second : Option (GivenName Name)) (fs : List (Field Name P)) where
  abbrev each : Name → Bool
  each n = true

  pub binary_renamed : bare (in_bytes (meant same_name other second (fields_renamed names places fs))) ≡ bare (in_bytes (meant same_name made name fs))
  binary_renamed =
      bytes_apart same_name each other (option_map (given_renamed names.fun) name) second (fields_renamed names places fs)
      ∙ ap (λ m. bare (in_bytes m)) (meant_renamed names places same_name same_name (names_kept names) fs each each (λ n. refl) name)
      ∙ bare_renamed (given_renamed names.fun) bytes_of bytes_of (meant same_name each name fs)
      ∙ bytes_apart same_name made each name name fs
