-- Name maps are had back from their subsections.
use Rattle.std.proofs.Common.{ℕ, ◌≡◌, ◌≢◌, Bool, true, false, cond, nat_eq, is_some, List, [], ◌∷◌, ◌++◌, map, Option, Some, None, option_to_list, refl, sym, ap, ◌∙◌, flat_map}
use Rattle.std.specs.List.{list_any}
use Rattle.std.proofs.lemmas.Bool.{or_parts}
use Rattle.wasm_encoder_base.specs.Unique.{Any}
use Rattle.wasm_encoder_base.proofs.UniqueParts.{cons_head, cons_tail, no_cons, any_each, injective_all}
use Rattle.wasm_encoder_custom.specs.Names as subsections
use Rattle.wasm_encoder_custom.specs.Names.{Space, Functions, Types, Tables, Memories, Globals, Elements, DataSegments, Tags, InnerSpace, Locals, Labels, Fields, Parameters, TagParameters, number_of, inner_number_of, NameSubsection, ModuleName, Names, InnerNames, name_subsection_bytes}
use Rattle.wasm_encoder_custom.proofs.UniqueNames.{unique_name_subsection}
use Rattle.wasm_layout.specs.AbstractModule.{Naming, InnerNaming, NameMaps}
use Rattle.wasm_layout.specs.Present.{has_any, MapKind, OfModule, OfItems, Inner, map_order, has_map, has_names}
use Rattle.wasm_layout.specs.Layout.{if_there, naming, inner_naming, subsection_of, name_bytes}
use Rattle.wasm_layout.proofs.HadBack.{true_is_not_false, AreOf, once, had_back}

-- maps of lists
pub map_back : {A B : Type 0} (f : A → B) → ((x y : A) → f x ≡ f y → x ≡ y) → (xs ys : List A) → map f xs ≡ map f ys → xs ≡ ys
map_back f one [] [] e = refl
map_back f one [] (y ∷ ys) e = no_cons (sym e)
map_back f one (x ∷ xs) [] e = no_cons e
map_back f one (x ∷ xs) (y ∷ ys) e =
    let first = one x y (cons_head e) in
    let rest = map_back f one xs ys (cons_tail e) in
    λ i. first i ∷ rest i

naming_one : (x y : Naming (List ℕ)) → naming x ≡ naming y → x ≡ y
naming_one x y e = λ i. record { index = (e i).index; name = (e i).name }

inner_one : (x y : InnerNaming (List ℕ)) → inner_naming x ≡ inner_naming y → x ≡ y
inner_one x y e =
    let names = map_back naming naming_one x.names y.names (ap (λ n. n.names) e) in
    λ i. record { index = (e i).index; names = names i }

-- the numbers of subsections, and of the kinds of maps
abbrev subsection_number : NameSubsection → ℕ
subsection_number (ModuleName name) = 0
subsection_number (Names space names) = number_of space
subsection_number (InnerNames space names) = inner_number_of space

abbrev map_number : MapKind → ℕ
map_number OfModule = 0
map_number (OfItems space) = number_of space
map_number (Inner space) = inner_number_of space

map_at : ℕ → MapKind
map_at n =
    cond (nat_eq n 0) OfModule (cond (nat_eq n 1) (OfItems Functions) (cond (nat_eq n 2) (Inner Locals) (cond (nat_eq n 3) (Inner Labels) (cond (nat_eq n 4) (OfItems Types)
    (cond (nat_eq n 5) (OfItems Tables) (cond (nat_eq n 6) (OfItems Memories) (cond (nat_eq n 7) (OfItems Globals) (cond (nat_eq n 8) (OfItems Elements) (cond (nat_eq n 9) (OfItems DataSegments)
    (cond (nat_eq n 10) (Inner Fields) (cond (nat_eq n 11) (OfItems Tags) (cond (nat_eq n 12) (Inner Parameters) (Inner TagParameters)))))))))))))

record IsNumbered (k : MapKind) : Type 0 where
  had_back : map_at (map_number k) ≡ k
  is_once : once map_number (map_number k) map_order ≡ true

numbered : (k : MapKind) → IsNumbered k
unfolding map_at
numbered OfModule = record { had_back = refl; is_once = refl }
numbered (OfItems Functions) = record { had_back = refl; is_once = refl }
numbered (OfItems Types) = record { had_back = refl; is_once = refl }
numbered (OfItems Tables) = record { had_back = refl; is_once = refl }
numbered (OfItems Memories) = record { had_back = refl; is_once = refl }
numbered (OfItems Globals) = record { had_back = refl; is_once = refl }
numbered (OfItems Elements) = record { had_back = refl; is_once = refl }
numbered (OfItems DataSegments) = record { had_back = refl; is_once = refl }
numbered (OfItems Tags) = record { had_back = refl; is_once = refl }
numbered (Inner Locals) = record { had_back = refl; is_once = refl }
numbered (Inner Labels) = record { had_back = refl; is_once = refl }
numbered (Inner Fields) = record { had_back = refl; is_once = refl }
numbered (Inner Parameters) = record { had_back = refl; is_once = refl }
numbered (Inner TagParameters) = record { had_back = refl; is_once = refl }

same_number : (j k : MapKind) → map_number j ≡ map_number k → j ≡ k
same_number j k e = sym (numbered j).had_back ∙ ap map_at e ∙ (numbered k).had_back

-- the subsections of a kind
module_of : (o : Option (List ℕ)) → AreOf subsection_number 0 (map ModuleName (option_to_list o))
module_of None = tt
module_of (Some name) = (refl, tt)

there_of : (b : Bool) (s : NameSubsection) (n : ℕ) → subsection_number s ≡ n → AreOf subsection_number n (if_there b s)
there_of true s n e = (e, tt)
there_of false s n e = tt

of_kind : (names : NameMaps (List ℕ)) (k : MapKind) → AreOf subsection_number (map_number k) (subsection_of names k)
of_kind names OfModule = module_of names.module_name
of_kind names (OfItems space) = there_of (has_any (names.items space)) (Names space (map naming (names.items space))) (number_of space) refl
of_kind names (Inner space) = there_of (has_any (names.inner space)) (InnerNames space (map inner_naming (names.inner space))) (inner_number_of space) refl

-- what they are of
module_back : (o p : Option (List ℕ)) → map ModuleName (option_to_list o) ≡ map ModuleName (option_to_list p) → o ≡ p
module_back None None e = refl
module_back None (Some y) e = no_cons (sym e)
module_back (Some x) None e = no_cons e
module_back (Some x) (Some y) e = ap Some (one (cons_head e))
  where
    one : ModuleName x ≡ ModuleName y → x ≡ y
    one h = cc

names_one : {space : Space} {a b : List subsections.Naming} → Names space a ≡ Names space b → a ≡ b
names_one e = cc

inner_names_one : {space : InnerSpace} {a b : List subsections.InnerNaming} → InnerNames space a ≡ InnerNames space b → a ≡ b
inner_names_one e = cc

items_back : (space : Space) (xs ys : List (Naming (List ℕ))) → if_there (has_any xs) (Names space (map naming xs)) ≡ if_there (has_any ys) (Names space (map naming ys)) → xs ≡ ys
items_back space [] [] e = refl
items_back space [] (y ∷ ys) e = no_cons (sym e)
items_back space (x ∷ xs) [] e = no_cons e
items_back space (x ∷ xs) (y ∷ ys) e = map_back naming naming_one (x ∷ xs) (y ∷ ys) (names_one (cons_head e))

inner_back : (space : InnerSpace) (xs ys : List (InnerNaming (List ℕ))) → if_there (has_any xs) (InnerNames space (map inner_naming xs)) ≡ if_there (has_any ys) (InnerNames space (map inner_naming ys)) → xs ≡ ys
inner_back space [] [] e = refl
inner_back space [] (y ∷ ys) e = no_cons (sym e)
inner_back space (x ∷ xs) [] e = no_cons e
inner_back space (x ∷ xs) (y ∷ ys) e = map_back inner_naming inner_one (x ∷ xs) (y ∷ ys) (inner_names_one (cons_head e))

pub maps_back : (m n : NameMaps (List ℕ)) → flat_map (subsection_of m) map_order ≡ flat_map (subsection_of n) map_order → m ≡ n
maps_back m n e =
    let each : (k : MapKind) → subsection_of m k ≡ subsection_of n k =
    λ k. had_back subsection_number map_number same_number (subsection_of m) (subsection_of n) (of_kind m) (of_kind n) map_order e k (numbered k).is_once in
    let given = module_back m.module_name n.module_name (each OfModule) in
    let items : (space : Space) → m.items space ≡ n.items space = λ space. items_back space (m.items space) (n.items space) (each (OfItems space)) in
    let inner : (space : InnerSpace) → m.inner space ≡ n.inner space = λ space. inner_back space (m.inner space) (n.inner space) (each (Inner space)) in
    λ i. record { module_name = given i; items = λ space. items space i; inner = λ space. inner space i }

-- from the bytes
subsection_full : (s : NameSubsection) → Any s → name_subsection_bytes s ≢ []
subsection_full (ModuleName name) p e = no_cons e
subsection_full (Names space names) p e = no_cons e
subsection_full (InnerNames space names) p e = no_cons e

pub names_back : (m n : NameMaps (List ℕ)) → name_bytes m ≡ name_bytes n → m ≡ n
names_back m n e =
    let xs = flat_map (subsection_of m) map_order in
    let ys = flat_map (subsection_of n) map_order in
    maps_back m n ((injective_all unique_name_subsection subsection_full).reads xs ys (any_each xs) (any_each ys) e)

-- without names there are no bytes
no_module : (o : Option (List ℕ)) → is_some o ≡ false → map ModuleName (option_to_list o) ≡ []
no_module None h = refl
no_module (Some name) h = true_is_not_false h

no_map : (names : NameMaps (List ℕ)) (k : MapKind) → has_map names k ≡ false → subsection_of names k ≡ []
no_map names OfModule h = no_module names.module_name h
no_map names (OfItems space) h = ap (λ b. if_there b (Names space (map naming (names.items space)))) h
no_map names (Inner space) h = ap (λ b. if_there b (InnerNames space (map inner_naming (names.inner space)))) h

no_maps : (names : NameMaps (List ℕ)) (ks : List MapKind) → list_any (has_map names) ks ≡ false → flat_map (subsection_of names) ks ≡ []
no_maps names [] h = refl
no_maps names (k ∷ ks) h =
    let p = or_parts (has_map names k) (list_any (has_map names) ks) h in
    ap (λ v. v ++ flat_map (subsection_of names) ks) (no_map names k p.0) ∙ no_maps names ks p.1

pub no_names_back : (m n : NameMaps (List ℕ)) → has_names m ≡ false → has_names n ≡ false → m ≡ n
no_names_back m n p q = maps_back m n (no_maps m map_order p ∙ sym (no_maps n map_order q))
