-- The map of keys as a space of shapes: what an insertion changes.
use Rattle.std.proofs.Common.{◌≡◌, ℕ, List, [], ◌∷◌, Option, Some, None, Bool, true, false, refl, sym, ◌∙◌, ap, subst, cond}
use Rattle.std.specs.Prelude.{if◌then◌else◌, is_none}
use Rattle.std.specs.Option.{option_or}
use Rattle.std.specs.declared.cmp.Ordering.{Ordering}
use Rattle.std.specs.declared.cmp.Ordering.TheVariants.{Less, Equal, Greater}
use Rattle.std.specs.Ordering.{is_eq, match_ordering}
use Rattle.std.specs.Map.{lookup}
use Rattle.std.specs.BTreeMap.{insert_entry}
use Rattle.wast_names.specs.Space.{Space, grown}
use Rattle.wast_implied.specs.Shapes.{Shape, same_shape, shape_of_key}
use Rattle.wast_implied.specs.declared.key.Key.{Key}
use Rattle.wast_implied.specs.contracts.key.KeyOrd.TheImpl as key_order
use Rattle.wast_implied.proofs.Same.{one_shape, symmetric}
use Rattle.wast_implied.proofs.Order.{same_in_map}

twice : {A : Type 0} (b : Bool) (x y z : A) → cond b x z ≡ cond b x (cond b y z)
twice true x y z = refl
twice false x y z = refl

apart : {A : Type 0} (a b : Bool) (x y z : A) → (a ≡ true → b ≡ true → ⊥) → cond a x (cond b y z) ≡ cond b y (cond a x z)
apart true true x y z h = absurd (h refl refl)
apart true false x y z h = refl
apart false b x y z h = refl

-- the value at a shape once a key has another
pub after_insert : (es : List (Key × ℕ)) (k : Key) (n : ℕ) (s : Shape)
    → lookup (λ q. same_shape (shape_of_key q) s) (insert_entry key_order.cmp-value.it es k n) ≡ cond (same_shape (shape_of_key k) s) (Some n) (lookup (λ q. same_shape (shape_of_key q) s) es)
after_insert [] k n s = refl
after_insert (e ∷ es) k n s = by_order (key_order.cmp-value.it k e.0) refl (after_insert es k n s)
  where
    at : Key → Bool
    at q = same_shape (shape_of_key q) s

    not_both : (o : Ordering) → is_eq o ≡ false → key_order.cmp-value.it k e.0 ≡ o → at e.0 ≡ true → at k ≡ true → ⊥
    not_both o apart_is h p q =
        let here : same_shape (shape_of_key e.0) (shape_of_key k) ≡ true = subst (λ u. same_shape (shape_of_key e.0) u ≡ true) (sym (one_shape (shape_of_key k) s q)) p in
        let equal : is_eq o ≡ true = sym (ap is_eq h) ∙ same_in_map k e.0 ∙ symmetric (shape_of_key k) (shape_of_key e.0) ∙ here in
        let wrong : false ≡ true = sym apart_is ∙ equal in
        cc

    by_order : (o : Ordering) → key_order.cmp-value.it k e.0 ≡ o
        → lookup at (insert_entry key_order.cmp-value.it es k n) ≡ cond (at k) (Some n) (lookup at es)
        → lookup at (match_ordering o ((k, n) ∷ e ∷ es) ((e.0, n) ∷ es) (e ∷ insert_entry key_order.cmp-value.it es k n)) ≡ cond (at k) (Some n) (cond (at e.0) (Some e.1) (lookup at es))
    by_order Less h rest = refl
    by_order Equal h rest =
        let one : shape_of_key k ≡ shape_of_key e.0 = one_shape (shape_of_key k) (shape_of_key e.0) (sym (same_in_map k e.0) ∙ ap is_eq h) in
        twice (at e.0) (Some n) (Some e.1) (lookup at es)
        ∙ ap (λ u. cond (same_shape u s) (Some n) (cond (at e.0) (Some e.1) (lookup at es))) (sym one)
    by_order Greater h rest =
        ap (λ r. cond (at e.0) (Some e.1) r) rest
        ∙ apart (at e.0) (at k) (Some e.1) (Some n) (lookup at es) (not_both Greater refl h)

-- the value of a key is that of its shape
pub at_shape : (es : List (Key × ℕ)) (k : Key) → lookup (λ q. is_eq (key_order.cmp-value.it k q)) es ≡ lookup (λ q. same_shape (shape_of_key q) (shape_of_key k)) es
at_shape [] k = refl
at_shape (e ∷ es) k =
    ap (λ b. cond b (Some e.1) (lookup (λ q. is_eq (key_order.cmp-value.it k q)) es)) (same_in_map k e.0 ∙ symmetric (shape_of_key k) (shape_of_key e.0))
    ∙ ap (λ r. cond (same_shape (shape_of_key e.0) (shape_of_key k)) (Some e.1) r) (at_shape es k)

some_stays : (o p : Option ℕ) → is_none o ≡ false → o ≡ option_or o p
some_stays None p h = absurd (cc)
some_stays (Some n) p h = refl

none_stays : (o : Option ℕ) → o ≡ option_or o None
none_stays None = refl
none_stays (Some n) = refl

-- a shape that has a number keeps it
pub keeps : (s : Space Shape) (n q : Shape) → is_none (s.look n) ≡ false → s.look q ≡ (grown same_shape s (Some n)).look q
keeps s n q h = of (same_shape n q) refl
  where
    of : (b : Bool) → same_shape n q ≡ b → s.look q ≡ option_or (s.look q) (if b then Some s.count else None)
    of true e = some_stays (s.look q) (Some s.count) (subst (λ m. is_none (s.look m) ≡ false) (one_shape n q e) h)
    of false e = none_stays (s.look q)
