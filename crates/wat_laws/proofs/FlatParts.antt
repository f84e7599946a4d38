-- Where the tokens of a flat body stand: at places of the folded one, each of them as often at most.
use Rattle.std.specs.Prelude.{codes, if◌then◌else◌}
use Rattle.std.proofs.Common.{◌≡◌, ◌≤◌, ◌+◌, ℕ, zero, suc, Bool, true, false, List, [], ◌∷◌, ◌++◌, map, Option, Some, None, inl, inr, sym, ◌∙◌, ap, subst, arith}
use Rattle.std.proofs.lemmas.Option.{same_Some}
use Rattle.wast_grammar.specs.Tokens.{SignificantToken, Open, Close, Id, Word, Mark, Integer, Float, Text, Reserved, Broken}
use Rattle.wast_grammar.specs.Spelling as spelling
use Rattle.wast_grammar.specs.Spelling.{same_text, that_one}
use Rattle.wast_grammar.specs.Grammar.{Syntax, maybe, wide, paren, seq, word}
use Rattle.wast_grammar.specs.Recursion.{deep}
use Rattle.wast_grammar.specs.Behind.{row_spells}
use Rattle.wast_grammar.specs.Alike.{place_of}
use Rattle.wast_expressions.specs.Items.{Items, Made, unfolded, either_hint, hints_from}
use Rattle.wast_expressions.specs.Expressions.{Heads, GroupKind, OfOperands, OfBlock, OfArms, Inside, Arms, Group, Item, chain, groups_chain, group_tests, else_tests, own_item, item, items_over, inside, group_step, groups, items}
use Rattle.wast_expressions.specs.Laws.{kept, kept_heads, kept_made, without_tokens, WrittenFlat}
use Rattle.wast_expressions.proofs.Outs as outs
use Rattle.wat_laws.proofs.Standing.{at_place, standing, standing_both}

module _ {N I : Type 0} (p : ℕ) where
  -- how many tokens of instructions stand there
  abbrev pub total : List (Option ℕ × (I × List (SignificantToken N ℕ))) → ℕ
  total [] = 0
  total (x ∷ xs) = standing p x.1.1 + total xs

  total_both : (xs ys : List (Option ℕ × (I × List (SignificantToken N ℕ)))) → total (xs ++ ys) ≡ total xs + total ys
  total_both [] ys = omega arith
  total_both (x ∷ xs) ys = let h = total_both xs ys in omega (arith, h)

  -- FLAT, without hints: as many
  pub flat_standing : (n : ℕ) (xs : List (Option ℕ × (I × List (SignificantToken N ℕ)))) (us : List (SignificantToken N ℕ)) → hints_from n (map without_tokens xs) ≡ [] → WrittenFlat xs us → standing p us ≤ total xs
  flat_standing n [] us e f = let none = ap (standing p) f in omega (arith, none)
  flat_standing n ((None, i) ∷ xs) us e f =
      let all = ap (standing p) f.2 in
      let both = standing_both p (f.0 ++ i.1) f.1 in
      let own = standing_both p f.0 i.1 in
      let no_hint = ap (standing p) f.3 in
      let rest = flat_standing (suc n) xs f.1 e f.4 in
      omega (arith, all, both, own, no_hint, rest)
  flat_standing n ((Some v, i) ∷ xs) us e f = absurd (cc)

-- the word that is read stands where it says
module _ {N : Type 0} (p w : ℕ) where
  word_stands : (v : List ℕ) (t : SignificantToken N ℕ) → that_one v t ≡ Some w → at_place p (Some w) ≡ at_place p (place_of t)
  word_stands v (Word u q) e = by_test (same_text v u) e
    where
      by_test : (same : Bool) → (if same then Some q else None) ≡ Some w → at_place p (Some w) ≡ at_place p (Some q)
      by_test true e = ap (λ z. at_place p (Some z)) (sym (same_Some q w e))
      by_test false e = absurd (cc)
  word_stands v (Open q) e = absurd (cc)
  word_stands v (Close q) e = absurd (cc)
  word_stands v (Id n q) e = absurd (cc)
  word_stands v (Mark u q) e = absurd (cc)
  word_stands v (Integer n u q) e = absurd (cc)
  word_stands v (Float u q) e = absurd (cc)
  word_stands v (Text u q) e = absurd (cc)
  word_stands v (Reserved u q) e = absurd (cc)
  word_stands v Broken e = absurd (cc)

-- FOLDED: no more stand there in what items unfold to than in the tokens that spell them
module _ {N I : Type 0} (ins : Syntax N ℕ I) (heads : Heads I) (m : Made ℕ I) (p : ℕ) where
  abbrev Tokens : Type 0
  Tokens = List (SignificantToken N ℕ)

  abbrev K : Syntax N ℕ (I × Tokens)
  K = kept ins

  abbrev kh : Heads (I × Tokens)
  kh = kept_heads heads

  abbrev km : Made ℕ (I × Tokens)
  km = kept_made m

  module _ (W : Syntax N ℕ (Group ℕ (I × Tokens))) (claim : (g : Group ℕ (I × Tokens)) (ts : Tokens) → W.spells g ts → (h : Option ℕ) → total p (outs.group_out km h g.head g.inside g.close) ≤ standing p ts) where
    one_within : (x : Option ℕ × Item ℕ (I × Tokens)) (us : Tokens) → (item K kh W).spells x us → total p (outs.item_out km x.0 x.1) ≤ standing p us
    one_within x us s =
        let all = ap (standing p) s.1.2 in
        let both = standing_both p s.1.0 s.1.1 in
        elim s.1.4 [
          | inl a ↦ subst (λ (z : Item ℕ (I × Tokens)). total p (outs.item_out km x.0 z) ≤ standing p us) a.1 (let own = ap (standing p) a.2.1 in omega (arith, all, both, own))
          | inr g ↦ subst (λ (z : Item ℕ (I × Tokens)). total p (outs.item_out km x.0 z) ≤ standing p us) g.1 (let own = claim g.0 s.1.1 g.2 x.0 in omega (arith, all, both, own))
        ]

    row_within : (xs : List (Option ℕ × Item ℕ (I × Tokens))) (us : Tokens) → row_spells (item K kh W).spells (λ x. own_item K kh x.1) xs us → total p (unfolded km (chain xs)) ≤ standing p us
    row_within [] us s = omega arith
    row_within (x ∷ xs) us s =
        let all = ap (standing p) s.2 in
        let both = standing_both p s.0 s.1 in
        let first = one_within x s.0 s.3 in
        let rest = row_within xs s.1 s.4 in
        let parts = ap (total p) (outs.before km x.0 x.1 (chain xs)) ∙ total_both p (outs.item_out km x.0 x.1) (unfolded km (chain xs)) in
        omega (arith, all, both, first, rest, parts)

    items_within : (x : Items ℕ (I × Tokens)) (us : Tokens) → (items_over K kh W).spells x us → total p (unfolded km x) ≤ standing p us
    items_within x us s = subst (λ z. total p (unfolded km z) ≤ standing p us) s.1 (row_within s.0 us s.2)

    conditions_within : (cs : List (Group ℕ (I × Tokens))) (us : Tokens) → spelling.many W.spells cs us → total p (unfolded km (groups_chain cs)) ≤ standing p us
    conditions_within [] us s = omega arith
    conditions_within (c ∷ cs) us s =
        let all = ap (standing p) s.2 in
        let both = standing_both p s.0 s.1 in
        let first = claim c s.0 s.3 None in
        let rest = conditions_within cs s.1 s.4 in
        let parts = ap (total p) (outs.group_before km None c.head c.inside c.close (groups_chain cs)) ∙ total_both p (outs.group_out km None c.head c.inside c.close) (unfolded km (groups_chain cs)) in
        omega (arith, all, both, first, rest, parts)

    abbrev else_part : Syntax N ℕ (ℕ × Items ℕ (I × Tokens))
    else_part = paren (seq (word (codes "else")) (items_over K kh W))

    -- the arm behind `else`, and the word
    other_within : (n : ℕ × Items ℕ (I × Tokens)) (us : Tokens) → else_part.spells n us → at_place p (Some n.0) + total p (unfolded km n.1) ≤ standing p us
    other_within n us k =
        let s = k.4 in
        let all = ap (standing p) k.3 in
        let outer = standing_both p k.0 (Close k.2 ∷ []) in
        let inner = ap (standing p) s.2 in
        let both = standing_both p s.0 s.1 in
        let own = ap (standing p) s.3.1 in
        let here = word_stands p n.0 (codes "else") s.3.0 s.3.2 in
        let rest = items_within n.1 s.1 s.4 in
        omega (arith, all, outer, inner, both, own, here, rest)

    -- behind its conditions
    arms_within : (h g : Option ℕ) (i : I × Tokens) (q : ℕ) (c y : Items ℕ (I × Tokens)) (e : Option (ℕ × Items ℕ (I × Tokens))) (cs is ys es : Tokens) → total p (unfolded km c) ≤ standing p cs → standing p i.1 ≤ standing p is → total p (unfolded km y) ≤ standing p ys → (maybe else_tests else_part).spells e es
        → total p (outs.group_out km h i (Arms c g y e) q) ≤ standing p cs + standing p is + standing p ys + standing p es + at_place p (Some q)
    arms_within h g i q c y None cs is ys es fc fi fy fe =
        let both = total_both p (unfolded km c) ((either_hint h g, i) ∷ unfolded km y ++ (None, km.end_at q) ∷ []) in
        let inner = total_both p (unfolded km y) ((None, km.end_at q) ∷ []) in
        omega (arith, both, inner, fc, fi, fy)
    arms_within h g i q c y (Some n) cs is ys es fc fi fy fe =
        let both = total_both p (unfolded km c) ((either_hint h g, i) ∷ unfolded km y ++ ((None, km.else_at n.0) ∷ [] ++ (unfolded km n.1 ++ (None, km.end_at q) ∷ []))) in
        let inner = total_both p (unfolded km y) ((None, km.else_at n.0) ∷ [] ++ (unfolded km n.1 ++ (None, km.end_at q) ∷ [])) in
        let last = total_both p (unfolded km n.1) ((None, km.end_at q) ∷ []) in
        let other = other_within n es fe in
        omega (arith, both, inner, last, other, fc, fi, fy)

    head_within : (kind : GroupKind) (h : Option ℕ) (i : I × Tokens) (x : Inside ℕ (I × Tokens)) (q : ℕ) (is ws : Tokens) → i.1 ≡ is → (inside K kh W kind).spells x ws → total p (outs.group_out km h i x q) ≤ standing p is + standing p ws + at_place p (Some q)
    head_within OfOperands h i x q is ws t u = subst (λ (z : Inside ℕ (I × Tokens)). total p (outs.group_out km h i z q) ≤ standing p is + standing p ws + at_place p (Some q)) u.1 (
        let both = total_both p (unfolded km u.0) ((h, i) ∷ []) in
        let own = ap (standing p) t in
        let rest = items_within u.0 ws u.2 in
        omega (arith, both, own, rest))
    head_within OfBlock h i x q is ws t u = subst (λ (z : Inside ℕ (I × Tokens)). total p (outs.group_out km h i z q) ≤ standing p is + standing p ws + at_place p (Some q)) u.1 (
        let both = total_both p (unfolded km u.0) ((None, km.end_at q) ∷ []) in
        let own = ap (standing p) t in
        let rest = items_within u.0 ws u.2 in
        omega (arith, both, own, rest))
    head_within OfArms h i x q is ws t u =
        let b = u.0 in
        let s = u.2 in
        let r = s.4 in
        let v = r.4 in
        let g = v.3 in
        let body = g.4 in
        let own = ap (standing p) t in
        let all = ap (standing p) s.2 in
        let both = standing_both p s.0 s.1 in
        let behind = ap (standing p) r.2 in
        let hinted = standing_both p r.0 r.1 in
        let arms = ap (standing p) v.2 in
        let two = standing_both p v.0 v.1 in
        let within = ap (standing p) g.3 in
        let closed = standing_both p g.0 (Close g.2 ∷ []) in
        let led = ap (standing p) body.2.2 in
        let inner = standing_both p body.2.0 body.2.1 in
        let conditions = conditions_within b.0 s.0 s.3 in
        let first = subst (λ z. total p (unfolded km z) ≤ standing p body.2.1) body.1 (items_within body.0.1 body.2.1 body.2.4) in
        let arm = arms_within h b.1.0 i q (groups_chain b.0) b.1.1.0 b.1.1.1 s.0 is body.2.1 v.1 conditions (omega (arith, own)) first v.4 in
        subst (λ (z : Inside ℕ (I × Tokens)). total p (outs.group_out km h i z q) ≤ standing p is + standing p ws + at_place p (Some q)) u.1 (omega (arith, all, both, behind, hinted, arms, two, within, closed, led, inner, arm))

  groups_within : (n : ℕ) (g : Group ℕ (I × Tokens)) (ts : Tokens) → (deep (group_tests kh) false [] (group_step K kh) n).spells g ts → (h : Option ℕ) → total p (outs.group_out km h g.head g.inside g.close) ≤ standing p ts
  groups_within zero g ts s h = absurd s
  groups_within (suc n) g ts s h =
      let a = s.0 in
      let f = s.2.3 in
      let all = ap (standing p) s.2.2 in
      let closed = standing_both p s.2.0 (Close a.1 ∷ []) in
      let parts = ap (standing p) f.2 in
      let both = standing_both p f.0 f.1 in
      let own = head_within (wide (group_tests kh) false [] (deep (group_tests kh) false [] (group_step K kh) n)) (groups_within n) (kh.kind a.0.0) h a.0.0 a.0.1 a.1 f.0 f.1 f.3.1 f.4 in
      subst (λ (z : Group ℕ (I × Tokens)). total p (outs.group_out km h z.head z.inside z.close) ≤ standing p ts) s.1 (omega (arith, all, closed, parts, both, own))

  pub folded_standing : (x : Items ℕ (I × Tokens)) (ts : Tokens) → (items K kh).spells x ts → total p (unfolded km x) ≤ standing p ts
  folded_standing x ts s = items_within (groups K kh) (λ g us t h. groups_within t.0 g us t.1 h) x ts s
