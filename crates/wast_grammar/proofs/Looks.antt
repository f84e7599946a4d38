-- What tests say of looks.
use Rattle.std.proofs.Common.{◌≡◌, ℕ, Bool, true, false, List, [], ◌∷◌, Option, Some, None, inl, inr, refl, sym, ◌∙◌, ap, cond, ◌&&◌, ◌||◌, not, nat_eq}
use Rattle.std.proofs.lemmas.Bool.{cases_Bool, eqb-true, eq-eqb, and_parts, or_parts, not-true, and_from}
use Rattle.std.specs.Cmp.Lexicographic.{bytes_decides}
use Rattle.std.proofs.lemmas.Option.{same_Some}
use Rattle.wast_grammar.specs.Tokens.{SignificantToken, Open, Close, Id, Word, Mark, Integer, Float, Text, Reserved, Broken}
use Rattle.wast_grammar.specs.Spelling.{◌>>=◌, same_text, any_is}
use Rattle.wast_grammar.specs.Look.{Shape, AnEnd, AClose, AnOpen, AWord, AMark, AnId, AnInteger, AFloat, AString, AReserved, AFault, same_shape, same, ends, Look, seen_as, first, the_end, the_close, under, Texts, This, OneOf, Begun, Any, holds, any_holds, all_hold, meet, starts_with, Test, On, Opening, NotEnd, fits, clash, any_fits, at, any_end, any_clash, apart, join, faults, ask, is_plain, is_flat, all_flat, under_test, unders, covers_text, covers, any_covers, sub}

-- ANSWERS
pub bind_ok : {A B : Type 0} (r : Option A) (f : A → Option B) (y : B) → (r >>= f) ≡ Some y → (x : A) × (r ≡ Some x) × (f x ≡ Some y)
bind_ok None f y e = cc
bind_ok (Some x) f y e = (x, refl, e)

-- what one answers the other does
pub same_answers : {A : Type 0} (r s : Option A) → ((x : A) → r ≡ Some x → s ≡ Some x) → ((x : A) → s ≡ Some x → r ≡ Some x) → r ≡ s
same_answers None None f g = refl
same_answers None (Some y) f g = g y refl
same_answers (Some x) s f g = sym (f x refl)

pub absurd_of : {X : Type 0} (b : Bool) → b ≡ true → b ≡ false → X
absurd_of b p q = cc

no_two : (p q : Bool) → (p ≡ true → q ≡ false) → (p && q) ≡ false
no_two true q f = f refl
no_two false q f = refl

second : (p q : Bool) → (p && q) ≡ false → p ≡ true → q ≡ false
second true q e f = e
second false q e f = cc

pub cond_no : (p q : Bool) → cond p true q ≡ false → (p ≡ false) × (q ≡ false)
cond_no true q e = cc
cond_no false q e = (refl, e)

pub same_is : (a b : Bool) → same a b ≡ true → a ≡ b
same_is true true e = refl
same_is false false e = refl
same_is true false e = cc
same_is false true e = cc

pub same_refl : (a : Bool) → same a a ≡ true
same_refl true = refl
same_refl false = refl

-- LISTS
pub heads_same : {X : Type 0} {a b : X} {xs ys : List X} → a ∷ xs ≡ b ∷ ys → a ≡ b
heads_same e = cc

pub tails_same : {X : Type 0} {a b : X} {xs ys : List X} → a ∷ xs ≡ b ∷ ys → xs ≡ ys
tails_same e = cc

-- SHAPES
pub shape_is : (s r : Shape) → same_shape s r ≡ true → s ≡ r
shape_is AnEnd AnEnd e = refl
shape_is AClose AClose e = refl
shape_is AnOpen AnOpen e = refl
shape_is AWord AWord e = refl
shape_is AMark AMark e = refl
shape_is AnId AnId e = refl
shape_is AnInteger AnInteger e = refl
shape_is AFloat AFloat e = refl
shape_is AString AString e = refl
shape_is AReserved AReserved e = refl
shape_is AFault AFault e = refl
shape_is s r e = cc

pub shape_self : (s : Shape) → same_shape s s ≡ true
shape_self AnEnd = refl
shape_self AClose = refl
shape_self AnOpen = refl
shape_self AWord = refl
shape_self AMark = refl
shape_self AnId = refl
shape_self AnInteger = refl
shape_self AFloat = refl
shape_self AString = refl
shape_self AReserved = refl
shape_self AFault = refl

-- behind a parenthesis or not
pub first_deep : {N P : Type 0} (d : Bool) (ts : List (SignificantToken N P)) → (first d ts).deep ≡ d
first_deep d [] = refl
first_deep d (Open p ∷ ts) = refl
first_deep d (Close p ∷ ts) = refl
first_deep d (Id n p ∷ ts) = refl
first_deep d (Word w p ∷ ts) = refl
first_deep d (Mark w p ∷ ts) = refl
first_deep d (Integer n w p ∷ ts) = refl
first_deep d (Float w p ∷ ts) = refl
first_deep d (Text s p ∷ ts) = refl
first_deep d (Reserved w p ∷ ts) = refl
first_deep d (Broken ∷ ts) = refl

-- TEXTS
pub alike : (a b : List ℕ) → same_text a b ≡ true → a ≡ b
alike a b e = (bytes_decides a b).0 e

pub same_self : (a : List ℕ) → same_text a a ≡ true
same_self a = (bytes_decides a a).1 refl

meet_this : (v : List ℕ) (u : Texts) (w : List ℕ) → holds u v ≡ false → same_text v w ≡ true → holds u w ≡ false
meet_this v u w n s = ap (holds u) (sym (alike v w s)) ∙ n

meet_that : (u : Texts) (v w : List ℕ) → holds u v ≡ false → holds u w ≡ true → same_text v w ≡ false
meet_that u v w n h = elim (cases_Bool (same_text v w)) [ inl y ↦ absurd_of (holds u w) h (meet_this v u w n y) | inr z ↦ z ]

comparable : (p q w : List ℕ) → starts_with p w ≡ true → starts_with q w ≡ true → (starts_with p q || starts_with q p) ≡ true
comparable [] q w h k = refl
comparable (c ∷ p) [] w h k = refl
comparable (c ∷ p) (d ∷ q) [] h k = cc
comparable (c ∷ p) (d ∷ q) (b ∷ w) h k =
    let x = and_parts (nat_eq c b) (starts_with p w) h in
    let y = and_parts (nat_eq d b) (starts_with q w) k in
    let cb : c ≡ b = eqb-true c b x.0 in
    let db : d ≡ b = eqb-true d b y.0 in
    let r = comparable p q w x.1 y.1 in
    rw (eq-eqb c d (cb ∙ sym db), eq-eqb d c (db ∙ sym cb)) r

-- what begins with a text begins with what that begins with
begins_further : (q p w : List ℕ) → starts_with q p ≡ true → starts_with p w ≡ true → starts_with q w ≡ true
begins_further [] p w h k = refl
begins_further (c ∷ q) [] w h k = cc
begins_further (c ∷ q) (d ∷ p) [] h k = cc
begins_further (c ∷ q) (d ∷ p) (b ∷ w) h k =
    let x = and_parts (nat_eq c d) (starts_with q p) h in
    let y = and_parts (nat_eq d b) (starts_with p w) k in
    and_from (nat_eq c b) (starts_with q w) (eq-eqb c b (eqb-true c d x.0 ∙ eqb-true d b y.0)) (begins_further q p w x.1 y.1)

-- a word of a list, of which none is so, or all are
none_holds : (t : Texts) (but words : List (List ℕ)) (w : List ℕ) → any_holds t but words ≡ false → any_is w words ≡ true → any_is w but ≡ false → holds t w ≡ false
none_holds t but [] w n h k = cc
none_holds t but (v ∷ words) w n h k =
    let split = step (holds t v && not (any_is v but)) (any_holds t but words) n in
    elim (cases_Bool (same_text w v)) [
      | inl y ↦ (
          let e = alike w v y in
          let f : (holds t w && not (any_is w but)) ≡ false = ap (λ z. holds t z && not (any_is z but)) e ∙ split.0 in
          first_no (holds t w) (any_is w but) f k)
      | inr z ↦ none_holds t but words w split.1 (ap (λ b. cond b true (any_is w words)) (sym z) ∙ h) k
    ]
  where
    step : (b c : Bool) → (elim b as (λ _. Bool) [ true ↦ true | false ↦ c ]) ≡ false → (b ≡ false) × (c ≡ false)
    step true c e = cc
    step false c e = (refl, e)

    first_no : (p q : Bool) → (p && not q) ≡ false → q ≡ false → p ≡ false
    first_no true true e f = cc
    first_no true false e f = e
    first_no false q e f = refl

each_holds : (t : Texts) (but words : List (List ℕ)) (w : List ℕ) → all_hold t but words ≡ true → any_is w words ≡ true → any_is w but ≡ false → holds t w ≡ true
each_holds t but [] w n h k = cc
each_holds t but (v ∷ words) w n h k =
    let split = step (holds t v || any_is v but) (all_hold t but words) n in
    elim (cases_Bool (same_text w v)) [
      | inl y ↦ (
          let e = alike w v y in
          let f : (holds t w || any_is w but) ≡ true = ap (λ z. holds t z || any_is z but) e ∙ split.0 in
          first_yes (holds t w) (any_is w but) f k)
      | inr z ↦ each_holds t but words w split.1 (ap (λ b. cond b true (any_is w words)) (sym z) ∙ h) k
    ]
  where
    step : (b c : Bool) → (elim b as (λ _. Bool) [ true ↦ c | false ↦ false ]) ≡ true → (b ≡ true) × (c ≡ true)
    step true c e = (refl, e)
    step false c e = cc

    first_yes : (p q : Bool) → (p || q) ≡ true → q ≡ false → p ≡ true
    first_yes true q e f = refl
    first_yes false true e f = cc
    first_yes false false e f = e

-- one of the words but some
listed : (words but : List (List ℕ)) (w : List ℕ) → holds (OneOf words but) w ≡ true → (any_is w words ≡ true) × (any_is w but ≡ false)
listed words but w h = let b = and_parts (any_is w words) (not (any_is w but)) h in (b.0, not-true (any_is w but) b.1)

meet_one : (words but : List (List ℕ)) (u : Texts) (w : List ℕ) → any_holds u but words ≡ false → holds (OneOf words but) w ≡ true → holds u w ≡ false
meet_one words but u w n h = let l = listed words but w h in none_holds u but words w n l.0 l.1

meet_other : (t : Texts) (words but : List (List ℕ)) (w : List ℕ) → any_holds t but words ≡ false → holds t w ≡ true → holds (OneOf words but) w ≡ false
meet_other t words but w n h = elim (cases_Bool (holds (OneOf words but) w)) [ inl y ↦ absurd_of (holds t w) h (meet_one words but t w n y) | inr z ↦ z ]

meet_law : (t u : Texts) (w : List ℕ) → meet t u ≡ false → holds t w ≡ true → holds u w ≡ false
meet_law (This v) u w n h = meet_this v u w n h
meet_law (OneOf words but) (This v) w n h = meet_that (OneOf words but) v w n h
meet_law (Begun p) (This v) w n h = meet_that (Begun p) v w n h
meet_law Any (This v) w n h = meet_that Any v w n h
meet_law (OneOf words but) (OneOf others same) w n h = meet_one words but (OneOf others same) w n h
meet_law (OneOf words but) (Begun p) w n h = meet_one words but (Begun p) w n h
meet_law (OneOf words but) Any w n h = meet_one words but Any w n h
meet_law (Begun p) (OneOf words but) w n h = meet_other (Begun p) words but w n h
meet_law Any (OneOf words but) w n h = meet_other Any words but w n h
meet_law (Begun p) (Begun q) w n h = elim (cases_Bool (starts_with q w)) [ inl y ↦ absurd_of _ (comparable p q w h y) n | inr z ↦ z ]
meet_law (Begun p) Any w n h = cc
meet_law Any (Begun p) w n h = cc
meet_law Any Any w n h = cc

covers_text_law : (t u : Texts) (w : List ℕ) → covers_text t u ≡ true → holds t w ≡ true → holds u w ≡ true
covers_text_law (This v) (This u) w c h = ap (holds (This u)) (sym (alike v w h)) ∙ c
covers_text_law (This v) (OneOf words but) w c h = ap (holds (OneOf words but)) (sym (alike v w h)) ∙ c
covers_text_law (This v) (Begun p) w c h = ap (holds (Begun p)) (sym (alike v w h)) ∙ c
covers_text_law (OneOf words but) (This v) w c h = let l = listed words but w h in each_holds (This v) but words w c l.0 l.1
covers_text_law (OneOf words but) (OneOf others same) w c h = let l = listed words but w h in each_holds (OneOf others same) but words w c l.0 l.1
covers_text_law (OneOf words but) (Begun p) w c h = let l = listed words but w h in each_holds (Begun p) but words w c l.0 l.1
covers_text_law (Begun p) (Begun q) w c h = begins_further q p w c h
covers_text_law t Any w c h = refl
covers_text_law _ _ w c h = cc

-- TESTS
-- an end or none, of a look that has the shape of a test
shape_end : (d : Bool) (s : Shape) (x : Look) → same d x.deep ≡ true → same_shape s x.shape ≡ true → ends x.deep x.shape ≡ ends d s
shape_end d s x a b = ap (λ z. ends z x.shape) (sym (same_is d x.deep a)) ∙ ap (λ z. ends d z) (sym (shape_is s x.shape b))

-- behind a parenthesis or at an end
deep_no_end : (d : Bool) (s : Shape) → d ≡ true → not (ends d s) ≡ true
deep_no_end true s e = refl
deep_no_end false s e = cc

pub clash_law : (t u : Test) (x : Look) → clash t u ≡ false → fits t x ≡ true → fits u x ≡ false
clash_law (On d s t) (On c r u) x n h =
    let a = and_parts (same d x.deep) _ h in
    let b = and_parts (same_shape s x.shape) (holds t x.text) a.1 in
    no_two (same c x.deep) _ (λ f. no_two (same_shape r x.shape) (holds u x.text) (λ e.
    meet_law t u x.text (second (same_shape s r) (meet t u) (second (same d c) _ n (rw (same_is d x.deep a.0, same_is c x.deep f) (same_refl x.deep))) (rw (shape_is s x.shape b.0, shape_is r x.shape e) (shape_self x.shape))) b.1))
clash_law (On d s t) Opening x n h = let a = and_parts (same d x.deep) _ h in sym (same_is d x.deep a.0) ∙ n
clash_law Opening (On d s t) x n h = elim (cases_Bool (fits (On d s t) x)) [
  | inl y ↦ (let a = and_parts (same d x.deep) _ y in absurd_of x.deep h (sym (same_is d x.deep a.0) ∙ n))
  | inr z ↦ z
]
clash_law (On d s t) NotEnd x n h =
    let a = and_parts (same d x.deep) _ h in
    let b = and_parts (same_shape s x.shape) (holds t x.text) a.1 in
    ap not (shape_end d s x a.0 b.0) ∙ n
clash_law NotEnd (On d s t) x n h = elim (cases_Bool (fits (On d s t) x)) [
  | inl y ↦ (
      let a = and_parts (same d x.deep) _ y in
      let b = and_parts (same_shape s x.shape) (holds t x.text) a.1 in
      absurd_of (not (ends x.deep x.shape)) h (ap not (shape_end d s x a.0 b.0) ∙ n))
  | inr z ↦ z
]
clash_law Opening Opening x n h = cc
clash_law Opening NotEnd x n h = cc
clash_law NotEnd Opening x n h = cc
clash_law NotEnd NotEnd x n h = cc

covers_law : (t u : Test) (x : Look) → covers t u ≡ true → fits t x ≡ true → fits u x ≡ true
covers_law (On d s t) (On c r u) x k h =
    let a = and_parts (same d c) _ k in
    let b = and_parts (same_shape s r) (covers_text t u) a.1 in
    let f = and_parts (same d x.deep) _ h in
    let i = and_parts (same_shape s x.shape) (holds t x.text) f.1 in
    and_from (same c x.deep) _ (ap (λ z. same z x.deep) (sym (same_is d c a.0)) ∙ f.0) (and_from (same_shape r x.shape) (holds u x.text) (ap (λ z. same_shape z x.shape) (sym (shape_is s r b.0)) ∙ i.0) (covers_text_law t u x.text b.1 i.1))
covers_law (On d s t) Opening x k h = let f = and_parts (same d x.deep) _ h in sym (same_is d x.deep f.0) ∙ k
covers_law (On d s t) NotEnd x k h =
    let f = and_parts (same d x.deep) _ h in
    let i = and_parts (same_shape s x.shape) (holds t x.text) f.1 in
    ap not (shape_end d s x f.0 i.0) ∙ k
covers_law Opening Opening x k h = h
covers_law Opening NotEnd x k h = deep_no_end x.deep x.shape h
covers_law NotEnd NotEnd x k h = h
covers_law Opening (On d s t) x k h = cc
covers_law NotEnd (On d s t) x k h = cc
covers_law NotEnd Opening x k h = cc

-- LISTS OF TESTS
pub in_join : (x : Look) (a b : List Test) → any_fits (join a b) x ≡ cond (any_fits a x) true (any_fits b x)
in_join x [] b = refl
in_join x (t ∷ a) b = elim (fits t x) as (λ v. cond v true (any_fits (join a b) x) ≡ cond (cond v true (any_fits a x)) true (any_fits b x)) [ true ↦ refl | false ↦ in_join x a b ]

pub join_no : (x : Look) (a b : List Test) → any_fits (join a b) x ≡ false → (any_fits a x ≡ false) × (any_fits b x ≡ false)
join_no x a b e = cond_no (any_fits a x) (any_fits b x) (sym (in_join x a b) ∙ e)

pub join_none : (x : Look) (a b : List Test) → any_fits a x ≡ false → any_fits b x ≡ false → any_fits (join a b) x ≡ false
join_none x a b n m = in_join x a b ∙ ap (λ v. cond v true (any_fits b x)) n ∙ m

pub join_left : (x : Look) (a b : List Test) → any_fits a x ≡ true → any_fits (join a b) x ≡ true
join_left x a b e = in_join x a b ∙ ap (λ v. cond v true (any_fits b x)) e

pub join_right : (x : Look) (a b : List Test) → any_fits b x ≡ true → any_fits (join a b) x ≡ true
join_right x a b e = in_join x a b ∙ ap (λ v. cond (any_fits a x) true v) e ∙ elim (any_fits a x) as (λ v. cond v true true ≡ true) [ true ↦ refl | false ↦ refl ]

-- no test asks for an end
pub no_end : (tests : List Test) → any_end tests ≡ false → (any_fits tests the_end ≡ false) × (any_fits tests the_close ≡ false)
no_end tests e = or_parts (any_fits tests the_end) (any_fits tests the_close) e

pub end_none : (tests : List Test) → any_fits tests the_end ≡ false → any_fits tests the_close ≡ false → any_end tests ≡ false
end_none tests n m = ap (λ b. b || any_fits tests the_close) n ∙ m

pub apart_step : (p q : Bool) → cond p false q ≡ true → (p ≡ false) × (q ≡ true)
apart_step true q e = cc
apart_step false q e = (refl, e)

none_clash : (t : Test) (us : List Test) (x : Look) → any_clash t us ≡ false → fits t x ≡ true → any_fits us x ≡ false
none_clash t [] x n h = refl
none_clash t (u ∷ us) x n h =
    let s = cond_no (clash t u) (any_clash t us) n in
    ap (λ b. cond b true (any_fits us x)) (clash_law t u x s.0 h) ∙ none_clash t us x s.1 h

pub apart_no : (x : Look) (ts us : List Test) → apart ts us ≡ true → any_fits ts x ≡ true → any_fits us x ≡ false
apart_no x [] us e h = cc
apart_no x (t ∷ ts) us e h =
    let s = apart_step (any_clash t us) (apart ts us) e in
    elim (cases_Bool (fits t x)) [
      | inl y ↦ none_clash t us x s.0 y
      | inr n ↦ apart_no x ts us s.1 (ap (λ v. cond v true (any_fits ts x)) (sym n) ∙ h)
    ]

pub apart_no2 : (x : Look) (ts us : List Test) → apart ts us ≡ true → any_fits us x ≡ true → any_fits ts x ≡ false
apart_no2 x ts us e h = elim (cases_Bool (any_fits ts x)) [ inl y ↦ absurd_of _ h (apart_no x ts us e y) | inr n ↦ n ]

-- a look that meets no fault answers
pub asked : {N P : Type 0} → (tests : List Test) (ts : List (SignificantToken N P)) (b : Bool) → at (faults tests) ts ≡ false → at tests ts ≡ b → ask tests ts ≡ Some b
asked tests ts b n e = ap (λ v. cond v None (Some (at tests ts))) n ∙ ap (λ v. Some v) e

-- a look that answers met no fault, and this is its answer
pub answered : {N P : Type 0} → (tests : List Test) (ts : List (SignificantToken N P)) (b : Bool) → ask tests ts ≡ Some b → (at (faults tests) ts ≡ false) × (at tests ts ≡ b)
answered tests ts b e = elim (cases_Bool (at (faults tests) ts)) [
  | inl y ↦ (let q : None ≡ Some b = sym (ap (λ v. cond v None (Some (at tests ts))) y) ∙ e in cc)
  | inr n ↦ (n, same_Some _ _ (sym (ap (λ v. cond v None (Some (at tests ts))) n) ∙ e))
]

-- what such tests ask is plain
pub flat_plain : (tests : List Test) (x : Look) → all_flat tests ≡ true → any_fits tests x ≡ true → (x.deep ≡ false) × (is_plain x.shape ≡ true)
flat_plain [] x f h = cc
flat_plain (t ∷ tests) x f h =
    let k = and_parts (is_flat t) (all_flat tests) f in
    elim (cases_Bool (fits t x)) [
      | inl y ↦ one t k.0 y
      | inr n ↦ flat_plain tests x k.1 (ap (λ v. cond v true (any_fits tests x)) (sym n) ∙ h)
    ]
  where
    one : (t : Test) → is_flat t ≡ true → fits t x ≡ true → (x.deep ≡ false) × (is_plain x.shape ≡ true)
    one (On d s t) f y =
        let k = and_parts (not d) (is_plain s) f in
        let a = and_parts (same d x.deep) _ y in
        let b = and_parts (same_shape s x.shape) (holds t x.text) a.1 in
        (sym (same_is d x.deep a.0) ∙ not-true d k.0, ap is_plain (sym (shape_is s x.shape b.0)) ∙ k.1)
    one Opening f y = cc
    one NotEnd f y = cc

-- behind a parenthesis
under_true : (d : Bool) (s : Shape) (t : Texts) (x : Look) → same d x.deep ≡ true → (same_shape s x.shape && holds t x.text) ≡ true → fits (under_test (On d s t)) (under x) ≡ true
under_true true s t x a b = ap (λ v. fits (On true AnOpen Any) (cond v (seen_as true AnOpen []) (seen_as true x.shape x.text))) (sym (same_is true x.deep a))
under_true false s t x a b = ap (λ v. fits (On true s t) (cond v (seen_as true AnOpen []) (seen_as true x.shape x.text))) (sym (same_is false x.deep a)) ∙ b

under_opening : (x : Look) → x.deep ≡ true → fits (On true AnOpen Any) (under x) ≡ true
under_opening x h = ap (λ v. fits (On true AnOpen Any) (cond v (seen_as true AnOpen []) (seen_as true x.shape x.text))) h

under_deep : (d : Bool) (s : Shape) (w : List ℕ) → (under (seen_as d s w)).deep ≡ true
under_deep true s w = refl
under_deep false s w = refl

under_fits : (t : Test) (x : Look) → fits t x ≡ true → fits (under_test t) (under x) ≡ true
under_fits (On d s t) x h = let a = and_parts (same d x.deep) _ h in under_true d s t x a.0 a.1
under_fits Opening x h = under_opening x h
under_fits NotEnd x h = under_deep x.deep x.shape x.text

pub under_in : (x : Look) (ts : List Test) → any_fits ts x ≡ true → any_fits (unders ts) (under x) ≡ true
under_in x [] h = h
under_in x (t ∷ ts) h = elim (cases_Bool (fits t x)) [
  | inl y ↦ ap (λ v. cond v true (any_fits (unders ts) (under x))) (under_fits t x y)
  | inr n ↦ (
      let k = under_in x ts (ap (λ v. cond v true (any_fits ts x)) (sym n) ∙ h) in
      join_right _ (under_test t ∷ []) (unders ts) k)
]

-- BOUNDS
any_covers_law : (t : Test) (us : List Test) (x : Look) → any_covers t us ≡ true → fits t x ≡ true → any_fits us x ≡ true
any_covers_law t [] x c h = cc
any_covers_law t (u ∷ us) x c h = elim (cases_Bool (covers t u)) [
  | inl y ↦ ap (λ b. cond b true (any_fits us x)) (covers_law t u x y h)
  | inr n ↦ join_right x (u ∷ []) us (any_covers_law t us x (ap (λ b. cond b true (any_covers t us)) (sym n) ∙ c) h)
]

-- what fits one list of tests fits the other
abbrev pub within : List Test → List Test → Type 0
within ts us = (x : Look) → any_fits ts x ≡ true → any_fits us x ≡ true

pub within_self : (ts : List Test) → within ts ts
within_self ts x e = e

pub sub_law : (ts us : List Test) → sub ts us ≡ true → within ts us
sub_law [] us c x h = cc
sub_law (t ∷ ts) us c x h =
    let k = and_parts (any_covers t us) (sub ts us) c in
    elim (cases_Bool (fits t x)) [
      | inl y ↦ any_covers_law t us x k.0 y
      | inr n ↦ sub_law ts us k.1 x (ap (λ v. cond v true (any_fits ts x)) (sym n) ∙ h)
    ]
