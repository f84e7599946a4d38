-- The loop answers what the production of items reads.
use Rattle.std.proofs.Common.{◌≡◌, ℕ, Bool, true, false, List, [], ◌∷◌, Option, Some, None, refl, ◌∙◌, ap, cond, not}
use Rattle.std.proofs.lemmas.Option.{same_Some}
use Rattle.wast_grammar.specs.Tokens.{SignificantToken, Open, Close, Id, Word, Mark, Integer, Float, Text, Reserved, Broken}
use Rattle.wast_grammar.specs.Spelling.{◌>>=◌}
use Rattle.wast_grammar.specs.Look.{NotEnd, at, ask}
use Rattle.wast_grammar.specs.Grammar.{Syntax, Reader}
use Rattle.wast_grammar.specs.Lawful.{LawfulBut}
use Rattle.wast_expressions.specs.Items.{Items, Made, unfolded, Expression, expression_of}
use Rattle.wast_expressions.specs.Expressions.{Heads, item_tests, one_ins, items, expression}
use Rattle.wast_expressions.specs.Heeds.{Heeds}
use Rattle.wast_expressions.specs.Machine.{Level, State, state, turn, step, is_done, Reach, Here, More, start}
use Rattle.wast_grammar.proofs.Looks.{absurd_of}
use Rattle.wast_grammar.proofs.BehindLaws.{opens_on}
use Rattle.wast_expressions.proofs.MachineLaws as laws
use Rattle.wast_expressions.proofs.TurnLaws.{row_part, level_outcome}

-- WHOLE EXPRESSIONS
module _ {N P I : Type 0} (ins : Syntax N P I) (heads : Heads I) (m : Made P I) (li : LawfulBut (one_ins ins heads) heads.own) (heeds : Heeds heads) where
  abbrev Out : Type 0
  Out = List (Option ℕ × I)

  abbrev Toks : Type 0
  Toks = List (SignificantToken N P)

  abbrev whole : Out → Toks → Option (Out × Toks)
  whole out ts = laws.whole ins heads m li heeds out ts

  abbrev finish : List (Level I) → Out → Toks → Option (Out × Toks)
  finish st = laws.finish_from ins heads m li heeds whole st

  abbrev outcome : State N P I → Option (Out × Toks)
  outcome s = finish s.stack s.out s.rest

  abbrev all_items : Reader N P (Items P I)
  all_items = (items ins heads).reads

  abbrev given : Out → Toks → Option (Out × Toks)
  given out ts = Some (out, ts)

  -- where items stand no more and no end stands
  no_end_left : (out : Out) (ts : Toks) (b : Bool) → at (NotEnd ∷ []) ts ≡ b → not b ≡ false → cond b None (given out ts) ≡ None
  no_end_left out ts true e n = refl
  no_end_left out ts false e n = cc

  turn_outcome : (st : List (Level I)) (out : Out) (ts : Toks) → is_done ins heads m (state st out ts) ≡ false → finish st out ts ≡ (turn ins heads m st out ts >>= outcome)
  turn_outcome [] out ts n =
      laws.row_step ins heads m li heeds given out ts
      ∙ row_part ins heads m li heeds whole [] out ts (ask (item_tests heads) ts) (cond (at (NotEnd ∷ []) ts) None (given out ts)) (no_end_left out ts (at (NotEnd ∷ []) ts) refl n)
  turn_outcome (l ∷ st) out ts n = level_outcome ins heads m li heeds whole l st out ts

  step_outcome : (s : State N P I) → is_done ins heads m s ≡ false → outcome s ≡ (step ins heads m s >>= outcome)
  step_outcome s n = turn_outcome s.stack s.out s.rest n

  reach_outcome : {s t : State N P I} → Reach ins heads m (is_done ins heads m) s t → outcome s ≡ outcome t
  reach_outcome Here = refl
  reach_outcome (More {s = s} {t = t} n e r) = step_outcome s n ∙ ap (λ z. z >>= outcome) e ∙ reach_outcome r

  -- where an end stands no item begins
  at_end : (ts : Toks) → not (at (NotEnd ∷ []) ts) ≡ true → (at (NotEnd ∷ []) ts ≡ false) × (ask (item_tests heads) ts ≡ Some false)
  at_end [] n = (refl, refl)
  at_end (Close p ∷ ts) n = (refl, refl)
  at_end (Open p ∷ ts) n = absurd_of (not (at (NotEnd ∷ []) (Open p ∷ ts))) n (ap not (opens_on p ts))
  at_end (Id k q ∷ ts) n = cc
  at_end (Word w q ∷ ts) n = cc
  at_end (Mark w q ∷ ts) n = cc
  at_end (Integer k w q ∷ ts) n = cc
  at_end (Float w q ∷ ts) n = cc
  at_end (Text k q ∷ ts) n = cc
  at_end (Reserved w q ∷ ts) n = cc
  at_end (Broken ∷ ts) n = cc

  done_outcome : (st : List (Level I)) (out : Out) (ts : Toks) → is_done ins heads m (state st out ts) ≡ true → finish st out ts ≡ Some (out, ts)
  done_outcome [] out ts n = let e = at_end ts n in laws.row_step ins heads m li heeds given out ts ∙ rw (e.1, e.0) refl
  done_outcome (l ∷ st) out ts n = cc

  abbrev flat : Items P I × Toks → Option (Out × Toks)
  flat x = Some (unfolded m x.0, x.1)

  abbrev shown : Items P I × Toks → Option (Expression I × Toks)
  shown x = Some (expression_of (unfolded m x.0), x.1)

  -- WHAT THE LOOP ANSWERS is what the production reads: where it is done, and where it can take no turn.
  pub loop_answers : (ts : Toks) (t : State N P I) → Reach ins heads m (is_done ins heads m) (start ins heads m ts) t → is_done ins heads m t ≡ true → (expression ins heads m).reads ts ≡ Some (expression_of t.out, t.rest)
  loop_answers ts t r n = by_items (all_items ts) (reach_outcome r ∙ done_outcome t.stack t.out t.rest n)
    where
      by_items : (q : Option (Items P I × Toks)) → (q >>= flat) ≡ Some (t.out, t.rest) → (q >>= shown) ≡ Some (expression_of t.out, t.rest)
      by_items None e = cc
      by_items (Some x) e = ap (λ (z : Out × Toks). Some (expression_of z.0, z.1)) (same_Some _ _ e)

  pub loop_refuses : (ts : Toks) (t : State N P I) → Reach ins heads m (is_done ins heads m) (start ins heads m ts) t → is_done ins heads m t ≡ false → step ins heads m t ≡ None → (expression ins heads m).reads ts ≡ None
  loop_refuses ts t r n e = ap (λ q. q >>= shown) (none_of (all_items ts) (reach_outcome r ∙ step_outcome t n ∙ ap (λ z. z >>= outcome) e))
    where
      none_of : (q : Option (Items P I × Toks)) → (q >>= flat) ≡ None → q ≡ None
      none_of None e = refl
      none_of (Some x) e = cc
