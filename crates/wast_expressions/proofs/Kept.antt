-- Items whose instructions have the very tokens that spell them.
use Rattle.std.specs.Prelude.{codes}
use Rattle.std.proofs.Common.{◌≡◌, ℕ, zero, suc, true, false, List, [], ◌∷◌, ◌++◌, map, Option, Some, None, inl, inr, refl, sym, ◌∙◌, ap}
use Rattle.std.proofs.lemmas.List.{map-append}
use Rattle.wast_grammar.specs.Tokens.{SignificantToken}
use Rattle.wast_grammar.specs.Spelling as spelling
use Rattle.wast_grammar.specs.Look.{at}
use Rattle.wast_grammar.specs.Grammar.{Syntax, maybe, wide, paren, seq, word}
use Rattle.wast_grammar.specs.Recursion.{deep}
use Rattle.wast_grammar.specs.Behind.{row_spells}
use Rattle.wast_expressions.specs.Items.{Items, Done, Plain, Folded, Block, IfThen, IfElse, Made, unfolded}
use Rattle.wast_expressions.specs.Expressions.{Heads, GroupKind, OfOperands, OfBlock, OfArms, Inside, Operand, Body, Arms, Group, Item, Alone, Grouped, linked, item_before, chain, groups_chain, one_place, one_hint, group_tests, else_tests, own_item, item, items_over, inside, group_step, groups, items}
use Rattle.wast_expressions.specs.Laws.{kept, kept_heads, kept_made, without_tokens}

module _ {N P I : Type 0} where
  -- WITHOUT THE TOKENS
  abbrev pub strip : Items P (I × List (SignificantToken N P)) → Items P I
  strip Done = Done
  strip (Plain h i after) = Plain h i.0 (strip after)
  strip (Folded h i x p after) = Folded h i.0 (strip x) p (strip after)
  strip (Block h i x p after) = Block h i.0 (strip x) p (strip after)
  strip (IfThen h g i c y p after) = IfThen h g i.0 (strip c) (strip y) p (strip after)
  strip (IfElse h g i c y w n p after) = IfElse h g i.0 (strip c) (strip y) w (strip n) p (strip after)

  abbrev strip_else : Option (P × Items P (I × List (SignificantToken N P))) → Option (P × Items P I)
  strip_else None = None
  strip_else (Some n) = Some (n.0, strip n.1)

  abbrev strip_inside : Inside P (I × List (SignificantToken N P)) → Inside P I
  strip_inside (Operand x) = Operand (strip x)
  strip_inside (Body x) = Body (strip x)
  strip_inside (Arms c g y e) = Arms (strip c) g (strip y) (strip_else e)

  abbrev strip_group : Group P (I × List (SignificantToken N P)) → Group P I
  strip_group g = record { head = g.head.0; inside = strip_inside g.inside; close = g.close }

  abbrev strip_item : Item P (I × List (SignificantToken N P)) → Item P I
  strip_item (Alone i) = Alone i.0
  strip_item (Grouped g) = Grouped (strip_group g)

  abbrev strip_pair : Option ℕ × Item P (I × List (SignificantToken N P)) → Option ℕ × Item P I
  strip_pair x = (x.0, strip_item x.1)

  -- what is unfolded
  both : (a b : List (Option ℕ × (I × List (SignificantToken N P)))) (c d : List (Option ℕ × I)) → map without_tokens a ≡ c → map without_tokens b ≡ d → map without_tokens (a ++ b) ≡ c ++ d
  both a b c d e f = map-append without_tokens a b ∙ ap (λ z. z ++ map without_tokens b) e ∙ ap (λ z. c ++ z) f

  before : (x : Option ℕ × (I × List (SignificantToken N P))) (b : List (Option ℕ × (I × List (SignificantToken N P)))) (d : List (Option ℕ × I)) → map without_tokens b ≡ d → map without_tokens (x ∷ b) ≡ without_tokens x ∷ d
  before x b d f = ap (λ z. without_tokens x ∷ z) f

  pub unfolded_strip : (m : Made P I) (y : Items P (I × List (SignificantToken N P))) → map without_tokens (unfolded (kept_made m) y) ≡ unfolded m (strip y)
  unfolded_strip m Done = refl
  unfolded_strip m (Plain h i after) = before (h, i) _ _ (unfolded_strip m after)
  unfolded_strip m (Folded h i x p after) = both (unfolded (kept_made m) x) _ _ _ (unfolded_strip m x) (before (h, i) _ _ (unfolded_strip m after))
  unfolded_strip m (Block h i x p after) = before (h, i) _ _ (both (unfolded (kept_made m) x) _ _ _ (unfolded_strip m x) (before (None, (kept_made m).end_at p) _ _ (unfolded_strip m after)))
  unfolded_strip m (IfThen h g i c y p after) =
      both (unfolded (kept_made m) c) _ _ _ (unfolded_strip m c) (before (_, i) _ _ (both (unfolded (kept_made m) y) _ _ _ (unfolded_strip m y) (before (None, (kept_made m).end_at p) _ _ (unfolded_strip m after))))
  unfolded_strip m (IfElse h g i c y w n p after) =
      both (unfolded (kept_made m) c) _ _ _ (unfolded_strip m c) (before (_, i) _ _ (both (unfolded (kept_made m) y) _ _ _ (unfolded_strip m y) (before (None, (kept_made m).else_at w) _ _ (both (unfolded (kept_made m) n) _ _ _ (unfolded_strip m n) (before (None, (kept_made m).end_at p) _ _ (unfolded_strip m after))))))

  -- items and groups in a row
  strip_linked : (h : Option ℕ) (i : (I × List (SignificantToken N P))) (x : Inside P (I × List (SignificantToken N P))) (p : P) (after : Items P (I × List (SignificantToken N P))) → strip (linked h i x p after) ≡ linked h i.0 (strip_inside x) p (strip after)
  strip_linked h i (Operand x) p after = refl
  strip_linked h i (Body x) p after = refl
  strip_linked h i (Arms c g y None) p after = refl
  strip_linked h i (Arms c g y (Some n)) p after = refl

  strip_before : (h : Option ℕ) (x : Item P (I × List (SignificantToken N P))) (after : Items P (I × List (SignificantToken N P))) → strip (item_before h x after) ≡ item_before h (strip_item x) (strip after)
  strip_before h (Alone i) after = refl
  strip_before h (Grouped g) after = strip_linked h g.head g.inside g.close after

  strip_chain : (xs : List (Option ℕ × Item P (I × List (SignificantToken N P)))) → strip (chain xs) ≡ chain (map strip_pair xs)
  strip_chain [] = refl
  strip_chain (x ∷ xs) = strip_before x.0 x.1 (chain xs) ∙ ap (λ z. item_before x.0 (strip_item x.1) z) (strip_chain xs)

  strip_groups : (gs : List (Group P (I × List (SignificantToken N P)))) → strip (groups_chain gs) ≡ groups_chain (map strip_group gs)
  strip_groups [] = refl
  strip_groups (g ∷ gs) = strip_linked None g.head g.inside g.close (groups_chain gs) ∙ ap (λ z. linked None g.head.0 (strip_inside g.inside) g.close z) (strip_groups gs)

  -- hints
  one_place_strip : (x : Inside P (I × List (SignificantToken N P))) → one_place (strip_inside x) ≡ one_place x
  one_place_strip (Operand x) = refl
  one_place_strip (Body x) = refl
  one_place_strip (Arms c None y e) = refl
  one_place_strip (Arms c (Some v) y e) = refl

  one_hint_strip : (h : Option ℕ) (x : Item P (I × List (SignificantToken N P))) → one_hint (h, strip_item x) ≡ one_hint (h, x)
  one_hint_strip None (Alone i) = refl
  one_hint_strip None (Grouped g) = refl
  one_hint_strip (Some v) (Alone i) = refl
  one_hint_strip (Some v) (Grouped g) = one_place_strip g.inside

  one_alone : (h : Option ℕ) (i : (I × List (SignificantToken N P))) → one_hint {P = P} (h, Alone i) ≡ true
  one_alone None i = refl
  one_alone (Some v) i = refl

module _ {N P I : Type 0} (ins : Syntax N P I) (heads : Heads I) where
  abbrev Toks : Type 0
  Toks = List (SignificantToken N P)

  abbrev K : Syntax N P (I × Toks)
  K = kept ins

  abbrev kh : Heads (I × Toks)
  kh = kept_heads heads

  own_strip : (x : Item P (I × Toks)) → own_item ins heads (strip_item x) ≡ own_item K kh x
  own_strip (Alone i) = refl
  own_strip (Grouped g) = refl

  module _ (W : Syntax N P (Group P I)) (V : Syntax N P (Group P (I × Toks))) (lift : (g : Group P I) (ts : Toks) → W.spells g ts → (k : Group P (I × Toks)) × V.spells k ts × (strip_group k ≡ g)) where
    item_lift : (x : Option ℕ × Item P I) (us : Toks) → (item ins heads W).spells x us → (y : Option ℕ × Item P (I × Toks)) × (item K kh V).spells y us × (strip_pair y ≡ x)
    item_lift x us s = elim s.1.4 [
      | inl a ↦ ((x.0, Alone (a.0, s.1.1)), (one_alone x.0 (a.0, s.1.1), (s.1.0, s.1.1, s.1.2, s.1.3, inl ((a.0, s.1.1), refl, (a.2, refl)))), ap (λ z. (x.0, z)) a.1)
      | inr b ↦ (
          let k = lift b.0 s.1.1 b.2 in
          let e = ap (λ z. Grouped z) k.2 ∙ b.1 in
          ((x.0, Grouped k.0), (sym (one_hint_strip x.0 (Grouped k.0)) ∙ ap (λ z. one_hint (x.0, z)) e ∙ s.0, (s.1.0, s.1.1, s.1.2, s.1.3, inr (k.0, refl, k.1))), ap (λ z. (x.0, z)) e))
    ]

    row_lift : (xs : List (Option ℕ × Item P I)) (us : Toks) → row_spells (item ins heads W).spells (λ x. own_item ins heads x.1) xs us → (ys : List (Option ℕ × Item P (I × Toks))) × row_spells (item K kh V).spells (λ y. own_item K kh y.1) ys us × (map strip_pair ys ≡ xs)
    row_lift [] us s = ([], s, refl)
    row_lift (x ∷ xs) us s =
        let y = item_lift x s.0 s.3 in
        let r = row_lift xs s.1 s.4 in
        let free = ap (λ t. at t s.1) (sym (own_strip y.0.1) ∙ ap (λ (z : Option ℕ × Item P I). own_item ins heads z.1) y.2) ∙ s.5 in
        (y.0 ∷ r.0, (s.0, s.1, s.2, y.1, r.1, free), ap (λ z. z ∷ map strip_pair r.0) y.2 ∙ ap (λ z. x ∷ z) r.2)

    items_lift : (x : Items P I) (us : Toks) → (items_over ins heads W).spells x us → (y : Items P (I × Toks)) × (items_over K kh V).spells y us × (strip y ≡ x)
    items_lift x us s = let r = row_lift s.0 us s.2 in (chain r.0, (r.0, refl, r.1), strip_chain r.0 ∙ ap chain r.2 ∙ s.1)

    many_lift : (gs : List (Group P I)) (us : Toks) → spelling.many W.spells gs us → (ks : List (Group P (I × Toks))) × spelling.many V.spells ks us × (map strip_group ks ≡ gs)
    many_lift [] us s = ([], s, refl)
    many_lift (g ∷ gs) us s =
        let k = lift g s.0 s.3 in
        let r = many_lift gs s.1 s.4 in
        (k.0 ∷ r.0, (s.0, s.1, s.2, k.1, r.1), ap (λ z. z ∷ map strip_group r.0) k.2 ∙ ap (λ z. g ∷ z) r.2)

    abbrev else_part : Syntax N P (P × Items P I)
    else_part = paren (seq (word (codes "else")) (items_over ins heads W))

    abbrev kept_else : Syntax N P (P × Items P (I × Toks))
    kept_else = paren (seq (word (codes "else")) (items_over K kh V))

    else_lift : (e : Option (P × Items P I)) (us : Toks) → (maybe else_tests else_part).spells e us → (f : Option (P × Items P (I × Toks))) × (maybe else_tests kept_else).spells f us × (strip_else f ≡ e)
    else_lift None us s = (None, s, refl)
    else_lift (Some n) us s =
        let q = s.4 in
        let y = items_lift n.1 q.1 q.4 in
        (Some (n.0, y.0), (s.0, s.1, s.2, s.3, (q.0, q.1, q.2, q.3, y.1)), ap (λ z. Some (n.0, z)) y.2)

    inside_lift : (kind : GroupKind) (x : Inside P I) (us : Toks) → (inside ins heads W kind).spells x us → (y : Inside P (I × Toks)) × (inside K kh V kind).spells y us × (strip_inside y ≡ x)
    inside_lift OfOperands x us s = let y = items_lift s.0 us s.2 in (Operand y.0, (y.0, refl, y.1), ap (λ z. Operand z) y.2 ∙ s.1)
    inside_lift OfBlock x us s = let y = items_lift s.0 us s.2 in (Body y.0, (y.0, refl, y.1), ap (λ z. Body z) y.2 ∙ s.1)
    inside_lift OfArms x us s =
        let b = s.0 in
        let q = s.2 in
        let r = q.4 in
        let v = r.4 in
        let t = v.3.4 in
        let c = many_lift b.0 q.0 q.3 in
        let y = items_lift t.0.1 t.2.1 t.2.4 in
        let f = else_lift b.1.1.1 v.1 v.4 in
        let body = y.2 ∙ t.1 in (
          Arms (groups_chain c.0) b.1.0 y.0 f.0,
          ((c.0, (b.1.0, (y.0, f.0))), refl, (q.0, q.1, q.2, c.1, (r.0, r.1, r.2, r.3, (v.0, v.1, v.2, (v.3.0, v.3.1, v.3.2, v.3.3, ((t.0.0, y.0), refl, (t.2.0, t.2.1, t.2.2, t.2.3, y.1))), f.1)))),
          ap (λ z. Arms z b.1.0 (strip y.0) (strip_else f.0)) (strip_groups c.0 ∙ ap groups_chain c.2)
              ∙ ap (λ z. Arms (groups_chain b.0) b.1.0 z (strip_else f.0)) body
              ∙ ap (λ z. Arms (groups_chain b.0) b.1.0 b.1.1.0 z) f.2
              ∙ s.1,
        )

    step_lift : (g : Group P I) (ts : Toks) → (group_step ins heads W).spells g ts → (k : Group P (I × Toks)) × (group_step K kh V).spells k ts × (strip_group k ≡ g)
    step_lift g ts s =
        let a = s.0 in
        let f = s.2.3 in
        let k = inside_lift (heads.kind a.0.0) a.0.1 f.1 f.4 in (
          record { head = (a.0.0, f.0); inside = k.0; close = a.1 },
          ((((a.0.0, f.0), k.0), a.1), refl, (s.2.0, s.2.1, s.2.2, (f.0, f.1, f.2, (f.3, refl), k.1, f.5))),
          ap (λ z. record { head = a.0.0; inside = z; close = a.1 }) k.2 ∙ s.1,
        )

  groups_lift : (n : ℕ) (g : Group P I) (ts : Toks) → (deep (group_tests heads) false [] (group_step ins heads) n).spells g ts → (k : Group P (I × Toks)) × (deep (group_tests kh) false [] (group_step K kh) n).spells k ts × (strip_group k ≡ g)
  groups_lift zero g ts s = absurd s
  groups_lift (suc n) g ts s = step_lift (wide (group_tests heads) false [] (deep (group_tests heads) false [] (group_step ins heads) n)) (wide (group_tests kh) false [] (deep (group_tests kh) false [] (group_step K kh) n)) (groups_lift n) g ts s

  -- Each instruction has tokens of its own.
  pub items_kept : (x : Items P I) (ts : Toks) → (items ins heads).spells x ts → (y : Items P (I × Toks)) × (items K kh).spells y ts × (strip y ≡ x)
  items_kept x ts s = items_lift (groups ins heads) (groups K kh) (λ g us t. (let k = groups_lift t.0 g us t.1 in (k.0, (t.0, k.1), k.2))) x ts s
