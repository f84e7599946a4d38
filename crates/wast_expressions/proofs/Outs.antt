-- What items unfold to, one at a time.
use Rattle.std.proofs.Common.{◌≡◌, ℕ, List, [], ◌∷◌, ◌++◌, Option, Some, None, refl, sym, ap, append_assoc}
use Rattle.wast_expressions.specs.Items.{Items, Made, unfolded, either_hint}
use Rattle.wast_expressions.specs.Expressions.{Inside, Operand, Body, Arms, Item, Alone, Grouped, item_before}

module _ {P I : Type 0} (m : Made P I) where
  abbrev pub Out : Type 0
  Out = List (Option ℕ × I)

  abbrev pub group_out : Option ℕ → I → Inside P I → P → Out
  group_out h i (Operand x) p = unfolded m x ++ (h, i) ∷ []
  group_out h i (Body x) p = (h, i) ∷ unfolded m x ++ (None, m.end_at p) ∷ []
  group_out h i (Arms c g y None) p = unfolded m c ++ ((either_hint h g, i) ∷ unfolded m y ++ (None, m.end_at p) ∷ [])
  group_out h i (Arms c g y (Some n)) p = unfolded m c ++ ((either_hint h g, i) ∷ unfolded m y ++ ((None, m.else_at n.0) ∷ [] ++ (unfolded m n.1 ++ (None, m.end_at p) ∷ [])))

  abbrev pub item_out : Option ℕ → Item P I → Out
  item_out h (Alone i) = (h, i) ∷ []
  item_out h (Grouped g) = group_out h g.head g.inside g.close

  pub group_before : (h : Option ℕ) (i : I) (x : Inside P I) (p : P) (after : Items P I) → unfolded m (item_before h (Grouped (record { head = i; inside = x; close = p })) after) ≡ group_out h i x p ++ unfolded m after
  group_before h i (Operand x) p after = sym (append_assoc (unfolded m x) ((h, i) ∷ []) (unfolded m after))
  group_before h i (Body x) p after = ap (λ z. (h, i) ∷ z) (sym (append_assoc (unfolded m x) ((None, m.end_at p) ∷ []) (unfolded m after)))
  group_before h i (Arms c g y None) p after = simp append_assoc
  group_before h i (Arms c g y (Some n)) p after = simp append_assoc

  pub before : (h : Option ℕ) (x : Item P I) (after : Items P I) → unfolded m (item_before h x after) ≡ item_out h x ++ unfolded m after
  before h (Alone i) after = refl
  before h (Grouped g) after = group_before h g.head g.inside g.close after
