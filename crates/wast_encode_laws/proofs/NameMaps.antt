-- The indices of the name maps of the module meant rise.
use Rattle.std.proofs.Common.{◌≡◌, ℕ, suc, ◌+◌, ◌<◌, ◌≤◌, ◌^◌, Bool, List, [], ◌∷◌, ◌++◌, length, map, All, Option, Some, None, refl, sym, arith, subst}
use Rattle.std.specs.List.{AllByRecursion}
use Rattle.std.proofs.lemmas.List.{length-map}
use Rattle.std.proofs.lemmas.List.Elements.{All-head, All-tail}
use Rattle.wasm_encoder_custom.specs.Names as binary
use Rattle.wast_module_fields.specs.FieldTree.{Field}
use Rattle.wast_meaning.specs.Spaces.{Bound, items_in}
use Rattle.wasm_layout.specs.AbstractModule.{Naming, InnerNaming}
use Rattle.wasm_layout.specs.IsModule.{Rise, IsMap, IsInner, AreInner, AreNames}
use Rattle.wast_meant.specs.NamesMeant.{GivenName, naming, named_from, named, inner_naming, inner_from, inner_named, space_of, given_name, names_of, inner_names}
use Rattle.wast_encode_laws.specs.Bounds.{inner_lists, NamesFit}
use Rattle.wasm_layout.proofs.Joined.{all_joined}
use Rattle.wast_encode_laws.proofs.Hints.{rise_below}

module _ {A : Type 0} where
  own_rise : (n : ℕ) (o : Option A) (rest : List (Naming A)) → n < 2 ^ 32 → Rise (suc n) (map (λ x. x.index) rest) → Rise n (map (λ x. x.index) (naming n o ++ rest))
  own_rise n None rest l r = rise_below n (suc n) (map (λ (x : Naming A). x.index) rest) (omega arith) r
  own_rise n (Some name) rest l r = (omega arith, l, r)

  named_rise : (n : ℕ) (os : List (Option A)) → n + length os ≤ 2 ^ 32 → Rise n (map (λ x. x.index) (named_from n os))
  named_rise n [] l = tt
  named_rise n (o ∷ os) l = own_rise n o (named_from (suc n) os) (omega (arith, l)) (named_rise (suc n) os (omega (arith, l)))

  pub is_map : (os : List (Option A)) → length os ≤ 2 ^ 32 → IsMap (named os)
  is_map os l = named_rise 0 os (omega (arith, l))

  -- what is inside
  inner_rise : (n : ℕ) (names : List (Naming A)) (rest : List (InnerNaming A)) → n < 2 ^ 32 → Rise (suc n) (map (λ x. x.index) rest) → Rise n (map (λ x. x.index) (inner_naming n names ++ rest))
  inner_rise n [] rest l r = rise_below n (suc n) (map (λ (x : InnerNaming A). x.index) rest) (omega arith) r
  inner_rise n (x ∷ xs) rest l r = (omega arith, l, r)

  inners_rise : (n : ℕ) (groups : List (List (Option A))) → n + length groups ≤ 2 ^ 32 → Rise n (map (λ x. x.index) (inner_from n groups))
  inners_rise n [] l = tt
  inners_rise n (os ∷ rest) l = inner_rise n (named os) (inner_from (suc n) rest) (omega (arith, l)) (inners_rise (suc n) rest (omega (arith, l)))

  own_inner : (n : ℕ) (names : List (Naming A)) → IsMap names → AllByRecursion IsInner (inner_naming n names)
  own_inner n [] h = tt
  own_inner n (x ∷ xs) h = (record { is_some = omega arith; is_map = h }, tt)

  abbrev Fits : List (Option A) → Type 0
  Fits os = length os ≤ 2 ^ 32

  each_inner : (n : ℕ) (groups : List (List (Option A))) → All Fits groups → AllByRecursion IsInner (inner_from n groups)
  each_inner n [] h = tt
  each_inner n (os ∷ rest) h =
      all_joined IsInner (inner_naming n (named os)) (inner_from (suc n) rest) (own_inner n (named os) (is_map os (All-head Fits os rest h))) (each_inner (suc n) rest (All-tail Fits os rest h))

  pub are_inner : (groups : List (List (Option A))) → length groups ≤ 2 ^ 32 → All Fits groups → AreInner (inner_named groups)
  are_inner groups l h = record { indices = inners_rise 0 groups (omega (arith, l)); each = each_inner 0 groups h }

module _ {N P : Type 0} (eq : N → N → Bool) (is_made : N → Bool) (fs : List (Field N P)) where
  as_lists : (space : binary.InnerSpace) → inner_names is_made eq fs space ≡ inner_named (inner_lists eq is_made fs space)
  as_lists binary.Locals = refl
  as_lists binary.Labels = refl
  as_lists binary.Fields = refl
  as_lists binary.Parameters = refl
  as_lists binary.TagParameters = refl

  abbrev item_name : Bound N P → Option (GivenName N)
  item_name b = given_name is_made b.given b.id

  pub are_names : (name : Option (GivenName N)) → NamesFit eq is_made fs → AreNames (names_of is_made eq fs name)
  are_names name fit =
      let Fit : ℕ → Type 0 = λ n. n ≤ 2 ^ 32 in
      record {
        items = λ space. is_map (map item_name (items_in (space_of space) fs)) (subst Fit (sym (length-map (items_in (space_of space) fs) item_name)) (fit.items space));
        inner = λ space. subst AreInner (sym (as_lists space)) (are_inner (inner_lists eq is_made fs space) (fit.inner space) (fit.each space));
      }
