-- Two lists of types, one after the other.
use Rattle.std.proofs.Common.{◌≡◌, ℕ, ◌+◌, ◌<◌, ◌≤◌, List, [], ◌∷◌, Bool, true, false, Option, map, length, drop, get_or, refl, sym, ◌∙◌, ap, arith, drop-cons, nat_eq, inl, inr}
use Rattle.std.specs.Prelude.{◌&&◌}
use Rattle.std.specs.Cmp.Lexicographic.{pointwise}
use Rattle.std.proofs.lemmas.Bool.{cases_lt}
use Rattle.std.proofs.lemmas.Simd.{map-map}
use Rattle.std.proofs.lemmas.Bool.Decides.{Decides-eqb}
use Rattle.std.proofs.lemmas.List.{drop_all}
use Rattle.wast_names.proofs.Walk.{rest_is}
use Rattle.wast_parser_base.specs.Identifier.{Identifier}
use Rattle.wast_parser_base.specs.declared.index.NameAnnotation.{NameAnnotation}
use Rattle.wast_value_types.specs.ValueViews.{val_tree}
use Rattle.wast_value_types.specs.declared.val_type.ValType.{ValType}
use Rattle.wast_signatures.specs.SignatureViews.{param_tree}
use Rattle.wast_scopes.specs.declared.numbered.NumberedType.{NumberedType}
use Rattle.wast_scopes.specs.declared.numbered.NumberedType.TheVariants as numbered
use Rattle.wast_scopes.specs.Numbered.{Look, NumberedValue, numbered_value, same_numbered_value}
use Rattle.wast_scopes.specs.NumberedViews.{value_of_numbered}

abbrev pub param_value : Look → Option Identifier × Option NameAnnotation × ValType → NumberedValue
param_value look p = numbered_value look (param_tree p).val_type

abbrev pub result_value : Look → ValType → NumberedValue
result_value look t = numbered_value look (val_tree t)

pub two_views : {X Y : Type 0} (of : Y → NumberedValue) (view : X → Y) (xs : List X) (ys : List NumberedType) → pointwise same_numbered_value (map (λ x. of (view x)) xs) (map value_of_numbered ys) ≡ pointwise same_numbered_value (map of (map view xs)) (map value_of_numbered ys)
two_views of view xs ys = ap (λ l. pointwise same_numbered_value l (map value_of_numbered ys)) (sym (map-map of view xs))

module _ {X : Type 0} (seen : X → NumberedValue) where
  abbrev pub alike : List X → List NumberedType → Bool
  alike xs ys = pointwise same_numbered_value (map seen xs) (map value_of_numbered ys)

  both : (xs : List X) (ys : List NumberedType) (i : ℕ) (x : X) (y : NumberedType) → i < length xs → x ≡ get_or xs i x → i < length ys → y ≡ get_or ys i y
      → alike (drop i xs) (drop i ys) ≡ (same_numbered_value (seen x) (value_of_numbered y) && alike (drop (i + 1) xs) (drop (i + 1) ys))
  both xs ys i x y hx ex hy ey = ap (λ l. alike l (drop i ys)) (rest_is xs i x hx ex) ∙ ap (alike (x ∷ drop (i + 1) xs)) (rest_is ys i y hy ey)

  -- two that aren't end it
  pub alike_stops : (xs : List X) (ys : List NumberedType) (i : ℕ) (x : X) (y : NumberedType) (whole : Bool) → i < length xs → x ≡ get_or xs i x → i < length ys → y ≡ get_or ys i y
      → same_numbered_value (seen x) (value_of_numbered y) ≡ false → alike (drop i xs) (drop i ys) ≡ whole → false ≡ whole
  alike_stops xs ys i x y whole hx ex hy ey other l = sym (both xs ys i x y hx ex hy ey ∙ ap (λ b. b && alike (drop (i + 1) xs) (drop (i + 1) ys)) other) ∙ l

  ended : (ys : List NumberedType) (i : ℕ) → i ≤ length ys → alike [] (drop i ys) ≡ nat_eq i (length ys)
  ended ys i h = of (nat_eq i (length ys)) refl
    where
      of : (b : Bool) → nat_eq i (length ys) ≡ b → alike [] (drop i ys) ≡ b
      of true e = let same : i ≡ length ys = (Decides-eqb i (length ys)).0 e in ap (alike []) (drop_all i ys (omega (arith, same)))
      of false e =
          elim (cases_lt i (length ys)) [
            | inl lt ↦ ap (alike []) (drop-cons ys i numbered.I32 lt)
            | inr le ↦ let same : nat_eq i (length ys) ≡ true = (Decides-eqb i (length ys)).1 (omega (arith, le, h)) in absurd (cc)
          ]

  pub alike_ends : (xs : List X) (ys : List NumberedType) (i : ℕ) (whole : Bool) → length xs ≤ i → i ≤ length ys → alike (drop i xs) (drop i ys) ≡ whole → nat_eq i (length ys) ≡ whole
  alike_ends xs ys i whole hx hy l = sym (ap (λ l. alike l (drop i ys)) (drop_all i xs hx) ∙ ended ys i hy) ∙ l
