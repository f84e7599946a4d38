-- Keys that are equal in the order of the map are those of one shape.
use Rattle.std.proofs.Common.{◌≡◌, ℕ, List, [], ◌∷◌, Bool, true, false, refl, sym, ◌∙◌, ap, nat_eq, map, ◌&&◌}
use Rattle.std.specs.declared.cmp.Ordering.TheVariants.{Equal}
use Rattle.std.specs.Ordering.{is_eq, nat_cmp, bool_cmp, ordering_then}
use Rattle.std.specs.Cmp.{tied_then}
use Rattle.std.specs.Cmp.Lexicographic.{slice_cmp, pointwise, lists_ties}
use Rattle.std.proofs.lemmas.Map.Text.{is_eq-slice_cmp}
use Rattle.wast_parser.specs.Spelling.{same_name}
use Rattle.wast_parser.specs.Identifier.{Identifier, compare}
use Rattle.wast_names.proofs.Order.{same_in_order}
use Rattle.wast_meaning.specs.Implied.{same_flag, same_written}
use Rattle.wast_implied.specs.declared.key.IndexKey.{IndexKey}
use Rattle.wast_implied.specs.declared.key.IndexKey.TheVariants as indices
use Rattle.wast_implied.specs.declared.key.ValueKey.{ValueKey}
use Rattle.wast_implied.specs.declared.key.ValueKey.TheVariants as keys
use Rattle.wast_implied.specs.declared.key.Key.{Key}
use Rattle.wast_implied.specs.contracts.key.IndexKeyOrd.TheImpl as index_order
use Rattle.wast_implied.specs.contracts.key.ValueKeyOrd.TheImpl as value_order
use Rattle.wast_implied.specs.contracts.key.KeyOrd.TheImpl as key_order
use Rattle.wast_implied.specs.Shapes.{same_value, same_shape, index_of_key, value_of_key, shape_of_key}

and_true : (b : Bool) → (b && true) ≡ b
and_true true = refl
and_true false = refl

numbers : (m n : ℕ) → is_eq (nat_cmp m n) ≡ nat_eq m n
numbers m n = sym (and_true (is_eq (nat_cmp m n))) ∙ tied_then (nat_cmp m n) Equal ∙ is_eq-slice_cmp (m ∷ []) (n ∷ []) ∙ and_true (nat_eq m n)

flags : (a b : Bool) → is_eq (bool_cmp a b) ≡ same_flag a b
flags true true = refl
flags true false = refl
flags false true = refl
flags false false = refl

names : (a b : Identifier) → is_eq (compare a b) ≡ same_name (a.name, a.generation) (b.name, b.generation)
names a b = same_in_order (a.name, a.generation) (b.name, b.generation)

index_in_order : (a b : IndexKey) → is_eq (index_order.cmp-value.it a b) ≡ same_written same_name (index_of_key a) (index_of_key b)
index_in_order (indices.Num m) (indices.Num n) = numbers m n
index_in_order (indices.Num m) (indices.Id j) = refl
index_in_order (indices.Id i) (indices.Num n) = refl
index_in_order (indices.Id i) (indices.Id j) = names i j

value_in_order : (a b : ValueKey) → is_eq (value_order.cmp-value.it a b) ≡ same_value (value_of_key a) (value_of_key b)
value_in_order (keys.Abstract a s m) (keys.Abstract b t n) =
    sym (tied_then (bool_cmp a b) (ordering_then (bool_cmp s t) (nat_cmp m n)))
    ∙ ap (λ c. c && is_eq (ordering_then (bool_cmp s t) (nat_cmp m n))) (flags a b)
    ∙ ap (λ c. same_flag a b && c) (sym (tied_then (bool_cmp s t) (nat_cmp m n)) ∙ ap (λ c. c && is_eq (nat_cmp m n)) (flags s t) ∙ ap (λ c. same_flag s t && c) (numbers m n))
value_in_order (keys.Defined a s i) (keys.Defined b t j) =
    sym (tied_then (bool_cmp a b) (ordering_then (bool_cmp s t) (index_order.cmp-value.it i j)))
    ∙ ap (λ c. c && is_eq (ordering_then (bool_cmp s t) (index_order.cmp-value.it i j))) (flags a b)
    ∙ ap (λ c. same_flag a b && c)
    (sym (tied_then (bool_cmp s t) (index_order.cmp-value.it i j)) ∙ ap (λ c. c && is_eq (index_order.cmp-value.it i j)) (flags s t) ∙ ap (λ c. same_flag s t && c) (index_in_order i j))
value_in_order keys.I32 keys.I32 = refl
value_in_order keys.I64 keys.I32 = refl
value_in_order keys.F32 keys.I32 = refl
value_in_order keys.F64 keys.I32 = refl
value_in_order keys.V128 keys.I32 = refl
value_in_order a b = refl

list_in_order : (xs ys : List ValueKey) → is_eq (slice_cmp value_order.cmp-value.it xs ys) ≡ pointwise same_value (map value_of_key xs) (map value_of_key ys)
list_in_order xs ys = sym (lists_ties {E = λ x y. same_value (value_of_key x) (value_of_key y)} value_order.cmp-value.it (λ x y. sym (value_in_order x y)) xs ys) ∙ mapped xs ys
  where
    mapped : (xs ys : List ValueKey) → pointwise (λ x y. same_value (value_of_key x) (value_of_key y)) xs ys ≡ pointwise same_value (map value_of_key xs) (map value_of_key ys)
    mapped [] [] = refl
    mapped [] (y ∷ ys) = refl
    mapped (x ∷ xs) [] = refl
    mapped (x ∷ xs) (y ∷ ys) = ap (λ t. same_value (value_of_key x) (value_of_key y) && t) (mapped xs ys)

pub same_in_map : (a b : Key) → is_eq (key_order.cmp-value.it a b) ≡ same_shape (shape_of_key a) (shape_of_key b)
same_in_map a b =
    sym (tied_then (slice_cmp value_order.cmp-value.it a.params.items b.params.items) (slice_cmp value_order.cmp-value.it a.results.items b.results.items))
    ∙ ap (λ t. t && is_eq (slice_cmp value_order.cmp-value.it a.results.items b.results.items)) (list_in_order a.params.items b.params.items)
    ∙ ap (λ t. pointwise same_value (shape_of_key a).params (shape_of_key b).params && t) (list_in_order a.results.items b.results.items)
