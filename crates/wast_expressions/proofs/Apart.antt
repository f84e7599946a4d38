-- Tests that are apart from joined ones are apart from each.
use Rattle.std.proofs.Common.{◌≡◌, true, false, List, [], ◌∷◌, refl, ap}
use Rattle.wast_grammar.specs.Look.{Test, clash, any_clash, apart, join}
use Rattle.wast_grammar.proofs.Looks.{cond_no, apart_step}

pub join_nil : (a : List Test) → join a [] ≡ a
join_nil [] = refl
join_nil (t ∷ a) = ap (λ z. t ∷ z) (join_nil a)

clash_left : (t : Test) (a b : List Test) → any_clash t (join a b) ≡ false → any_clash t a ≡ false
clash_left t [] b e = refl
clash_left t (u ∷ a) b e = let k = cond_no (clash t u) (any_clash t (join a b)) e in rw (k.0, clash_left t a b k.1) refl

clash_right : (t : Test) (a b : List Test) → any_clash t (join a b) ≡ false → any_clash t b ≡ false
clash_right t [] b e = e
clash_right t (u ∷ a) b e = clash_right t a b (cond_no (clash t u) (any_clash t (join a b)) e).1

pub apart_left : (ts a b : List Test) → apart ts (join a b) ≡ true → apart ts a ≡ true
apart_left [] a b e = refl
apart_left (t ∷ ts) a b e = let k = apart_step (any_clash t (join a b)) (apart ts (join a b)) e in rw (clash_left t a b k.0, apart_left ts a b k.1) refl

pub apart_right : (ts a b : List Test) → apart ts (join a b) ≡ true → apart ts b ≡ true
apart_right [] a b e = refl
apart_right (t ∷ ts) a b e = let k = apart_step (any_clash t (join a b)) (apart ts (join a b)) e in rw (clash_right t a b k.0, apart_right ts a b k.1) refl
