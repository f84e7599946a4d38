-- Names that are equal in the order of the map are the same.
use Rattle.std.proofs.Common.{◌≡◌, ℕ, [], ◌∷◌, Bool, true, false, refl, sym, ◌∙◌, ap, nat_eq, ◌&&◌}
use Rattle.std.specs.declared.cmp.Ordering.TheVariants.{Equal}
use Rattle.std.specs.Ordering.{is_eq, nat_cmp}
use Rattle.std.specs.Cmp.{tied_then}
use Rattle.std.specs.Cmp.Lexicographic.{slice_cmp, bytes_decides}
use Rattle.std.proofs.lemmas.Bool.Decides.{Decides-eqb}
use Rattle.std.proofs.lemmas.Map.Text.{is_eq-slice_cmp}
use Rattle.wast_parser.specs.Tokens.{Name}
use Rattle.wast_parser.specs.Spelling.{same_name, same_text}
use Rattle.wast_parser.specs.Identifier.{compare}
use Rattle.wast_names.specs.Views.{borne}

and_true : (b : Bool) → (b && true) ≡ b
and_true true = refl
and_true false = refl

and_swap : (a b : Bool) → (a && b) ≡ (b && a)
and_swap true b = sym (and_true b)
and_swap false true = refl
and_swap false false = refl

numbers : (m n : ℕ) → is_eq (nat_cmp m n) ≡ nat_eq m n
numbers m n = sym (and_true (is_eq (nat_cmp m n))) ∙ tied_then (nat_cmp m n) Equal ∙ is_eq-slice_cmp (m ∷ []) (n ∷ []) ∙ and_true (nat_eq m n)

pub same_in_order : (a b : Name) → is_eq (compare (borne a) (borne b)) ≡ same_name a b
same_in_order a b =
    sym (tied_then (nat_cmp a.1 b.1) (slice_cmp nat_cmp a.0 b.0))
    ∙ ap (λ t. t && is_eq (slice_cmp nat_cmp a.0 b.0)) (numbers a.1 b.1)
    ∙ ap (λ t. nat_eq a.1 b.1 && t) (is_eq-slice_cmp a.0 b.0)
    ∙ and_swap (nat_eq a.1 b.1) (same_text a.0 b.0)

same_parts : (a b : Name) (x y : Bool) → same_text a.0 b.0 ≡ x → nat_eq a.1 b.1 ≡ y → (x && y) ≡ true → a ≡ b
same_parts a b true true p q h = λ i. ((bytes_decides a.0 b.0).0 p i, (Decides-eqb a.1 b.1).0 q i)
same_parts a b true false p q h = absurd (cc)
same_parts a b false y p q h = absurd (cc)

-- and are one
pub alike_names : (a b : Name) → same_name a b ≡ true → a ≡ b
alike_names a b = same_parts a b (same_text a.0 b.0) (nat_eq a.1 b.1) refl refl
