-- The gaps of stops: how many they are, and which custom sections stand in them.
use Rattle.std.proofs.Common.{◌≡◌, ℕ, ◌+◌, Bool, true, false, cond, ◌&&◌, ◌||◌, List, [], ◌∷◌, map, length, filter, refl, sym, ap, ◌∙◌, arith}
use Rattle.std.specs.List.{flat_map, list_any}
use Rattle.std.proofs.lemmas.List.Folds.{list_any-append}
use Rattle.wasm_encoder_base.specs.Table.{same_text}
use Rattle.wasm_encoder_custom.specs.Custom.{Custom}
use Rattle.wast_customs.specs.CustomTree as tree
use Rattle.wast_customs.specs.CustomTree.{Anchor, TypeItem, Import, Func, Table, Memory, Global, Export, Start, Elem, Code, Data, Tag, CustomPlace, BeforeFirst, Before, After, AfterLast, place_of}
use Rattle.wasm_layout.specs.Section.{SectionKind}
use Rattle.wasm_layout.specs.Present.{is_called}
use Rattle.wast_meant.specs.CustomsMeant.{custom_of, same_place, Stop, At, Of, stops, precede, gaps_from, at_place, gaps}
use Rattle.wast_meant_laws.proofs.Woven.{kind_in}

-- HOW MANY: one more than the sections that are there
count_behind : {A : Type 0} (xs : List A) (gs : List (List A)) (n : ℕ) → length gs ≡ n + 1 → length (precede xs gs) ≡ n + 1
count_behind xs [] n e = absurd (omega arith)
count_behind xs (g ∷ gs) n e = e

module _ (at : CustomPlace → List Custom) (is_there : SectionKind → Bool) where
  count_kind : (b : Bool) (k : SectionKind) (ks : List SectionKind) (gs : List (List Custom)) → length gs ≡ length ks + 1
      → length (elim b as (λ b. List (List Custom)) [ true ↦ [] ∷ gs | false ↦ gs ]) ≡ length (cond b (k ∷ ks) ks) + 1
  count_kind true k ks gs e = omega arith
  count_kind false k ks gs e = e

  pub count : (ss : List Stop) → length (gaps_from at is_there ss) ≡ length (filter is_there (flat_map kind_in ss)) + 1
  count [] = refl
  count (At place ∷ ss) = count_behind (at place) (gaps_from at is_there ss) (length (filter is_there (flat_map kind_in ss))) (count ss)
  count (Of kind ∷ ss) = count_kind (is_there kind) kind (filter is_there (flat_map kind_in ss)) (gaps_from at is_there ss) (count ss)

-- WHICH CUSTOM SECTIONS: those of all places
or_false : (b : Bool) → (b || false) ≡ b
or_false true = refl
or_false false = refl

or_assoc : (a b c : Bool) → ((a || b) || c) ≡ (a || (b || c))
or_assoc true b c = refl
or_assoc false b c = refl

abbrev place_in : Stop → List CustomPlace
place_in (At place) = place ∷ []
place_in (Of kind) = []

abbrev calls : List ℕ → List Custom → Bool
calls name cs = list_any (λ c. same_text name c.name) cs

called_behind : (name : List ℕ) (xs : List Custom) (gs : List (List Custom)) → is_called name (precede xs gs) ≡ (calls name xs || is_called name gs)
called_behind name xs [] = refl
called_behind name xs (g ∷ gs) =
    ap (λ b. b || is_called name gs) (list_any-append (λ c. same_text name c.name) xs g) ∙ or_assoc (calls name xs) (calls name g) (is_called name gs)

called_kind : (name : List ℕ) (b : Bool) (gs : List (List Custom)) → is_called name (elim b as (λ b. List (List Custom)) [ true ↦ [] ∷ gs | false ↦ gs ]) ≡ is_called name gs
called_kind name true gs = refl
called_kind name false gs = refl

module _ (name : List ℕ) (at : CustomPlace → List Custom) (is_there : SectionKind → Bool) where
  called_at : (ss : List Stop) → is_called name (gaps_from at is_there ss) ≡ list_any (λ place. calls name (at place)) (flat_map place_in ss)
  called_at [] = refl
  called_at (At place ∷ ss) = called_behind name (at place) (gaps_from at is_there ss) ∙ ap (λ b. calls name (at place) || b) (called_at ss)
  called_at (Of kind ∷ ss) = called_kind name (is_there kind) (gaps_from at is_there ss) ∙ called_at ss

-- each place is a stop
before_stops : (a : Anchor) → list_any (λ place. same_place place (Before a)) (flat_map place_in stops) ≡ true
before_stops TypeItem = refl
before_stops Import = refl
before_stops Func = refl
before_stops Table = refl
before_stops Memory = refl
before_stops Global = refl
before_stops Export = refl
before_stops Start = refl
before_stops Elem = refl
before_stops Code = refl
before_stops Data = refl
before_stops Tag = refl

after_stops : (a : Anchor) → list_any (λ place. same_place place (After a)) (flat_map place_in stops) ≡ true
after_stops TypeItem = refl
after_stops Import = refl
after_stops Func = refl
after_stops Table = refl
after_stops Memory = refl
after_stops Global = refl
after_stops Export = refl
after_stops Start = refl
after_stops Elem = refl
after_stops Code = refl
after_stops Data = refl
after_stops Tag = refl

is_stop : (q : CustomPlace) → list_any (λ place. same_place place q) (flat_map place_in stops) ≡ true
is_stop BeforeFirst = refl
is_stop (Before a) = before_stops a
is_stop (After a) = after_stops a
is_stop AfterLast = refl

-- so some section of a place passes a test where one of all sections does
shuffle : (a y b c d : Bool) → (((a && y) || b) || ((c && y) || d)) ≡ (((a || c) && y) || (b || d))
shuffle true true b c d = refl
shuffle true false true true d = refl
shuffle true false true false d = refl
shuffle true false false true d = refl
shuffle true false false false d = refl
shuffle false true true true d = refl
shuffle false true true false d = refl
shuffle false false true true d = refl
shuffle false false true false d = refl
shuffle false y false c d = refl

any_with : {A : Type 0} (y : Bool) (a b : A → Bool) (xs : List A) → list_any (λ x. (a x && y) || b x) xs ≡ ((list_any a xs && y) || list_any b xs)
any_with y a b [] = refl
any_with y a b (x ∷ xs) = ap (λ rest. ((a x && y) || b x) || rest) (any_with y a b xs) ∙ shuffle (a x) y (b x) (list_any a xs) (list_any b xs)

any_none : {A : Type 0} (xs : List A) → list_any (λ x. false) xs ≡ false
any_none [] = refl
any_none (x ∷ xs) = any_none xs

any_same : {A : Type 0} (a b : A → Bool) → ((x : A) → a x ≡ b x) → (xs : List A) → list_any a xs ≡ list_any b xs
any_same a b e [] = refl
any_same a b e (x ∷ xs) = λ i. e x i || any_same a b e xs i

module _ {P : Type 0} (p : Custom → Bool) where
  any_more : (b : Bool) (c : tree.Custom P) (cs : List (tree.Custom P)) → list_any p (map custom_of (cond b (c ∷ cs) cs)) ≡ ((b && p (custom_of c)) || list_any p (map custom_of cs))
  any_more true c cs = refl
  any_more false c cs = refl

  any_placed : (places : List CustomPlace) → ((q : CustomPlace) → list_any (λ place. same_place place q) places ≡ true)
      → (cs : List (tree.Custom P)) → list_any (λ place. list_any p (at_place cs place)) places ≡ list_any p (map custom_of cs)
  any_placed places all [] = any_none places
  any_placed places all (c ∷ cs) =
      any_same (λ place. list_any p (at_place (c ∷ cs) place)) (λ place. (same_place place (place_of c) && p (custom_of c)) || list_any p (at_place cs place))
      (λ place. any_more (same_place place (place_of c)) c (filter (λ d. same_place place (place_of d)) cs)) places
      ∙ any_with (p (custom_of c)) (λ place. same_place place (place_of c)) (λ place. list_any p (at_place cs place)) places
      ∙ ap (λ b. (b && p (custom_of c)) || list_any (λ place. list_any p (at_place cs place)) places) (all (place_of c))
      ∙ ap (λ b. p (custom_of c) || b) (any_placed places all cs)

-- the gaps have the names of all custom sections
pub called_same : {P : Type 0} (name : List ℕ) (cs : List (tree.Custom P)) (is_there : SectionKind → Bool) → is_called name (gaps cs is_there) ≡ is_called name (map custom_of cs ∷ [])
called_same name cs is_there =
    called_at name (at_place cs) is_there stops ∙ any_placed (λ c. same_text name c.name) (flat_map place_in stops) is_stop cs ∙ sym (or_false (calls name (map custom_of cs)))
