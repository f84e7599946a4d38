-- The same loop with one level at first reads (ins item*), the unfolding of the items and then ins: it stops where no level is left.
use Rattle.std.proofs.Common.{◌≡◌, ℕ, true, false, List, [], ◌∷◌, ◌++◌, Option, Some, None, refl, ◌∙◌, ap}
use Rattle.wast_grammar.specs.Tokens.{SignificantToken}
use Rattle.wast_grammar.specs.Spelling.{◌>>=◌, that_open, that_close}
use Rattle.wast_grammar.specs.Grammar.{Syntax, Reader, one_of}
use Rattle.wast_grammar.specs.Lawful.{LawfulBut}
use Rattle.wast_expressions.specs.Items.{Items, Made, unfolded, Expression, expression_of}
use Rattle.wast_expressions.specs.Expressions.{Heads, one_ins, items, folded_of, folded_instruction}
use Rattle.wast_expressions.specs.Heeds.{Heeds}
use Rattle.wast_expressions.specs.Machine.{Level, State, state, turn, step, is_folded, Reach, Here, More, EndWith, folded_head}
use Rattle.wast_expressions.proofs.MachineLaws as laws
use Rattle.wast_expressions.proofs.TurnLaws.{level_outcome}

module _ {N P I : Type 0} (ins : Syntax N P I) (heads : Heads I) (m : Made P I) (li : LawfulBut (one_ins ins heads) heads.own) (heeds : Heeds heads) where
  abbrev Out : Type 0
  Out = List (Option ℕ × I)

  abbrev Toks : Type 0
  Toks = List (SignificantToken N P)

  abbrev given : Out → Toks → Option (Out × Toks)
  given out ts = Some (out, ts)

  abbrev pub outcome : State N P I → Option (Out × Toks)
  outcome s = laws.finish_from ins heads m li heeds given s.stack s.out s.rest

  open_outcome : (st : List (Level I)) (out : Out) (ts : Toks) → is_folded ins heads m (state st out ts) ≡ false → outcome (state st out ts) ≡ (turn ins heads m st out ts >>= outcome)
  open_outcome [] out ts n = cc
  open_outcome (l ∷ st) out ts n = level_outcome ins heads m li heeds given l st out ts

  reach_outcome : {s t : State N P I} → Reach ins heads m (is_folded ins heads m) s t → outcome s ≡ outcome t
  reach_outcome Here = refl
  reach_outcome (More {s = s} n e r) = open_outcome s.stack s.out s.rest n ∙ ap (λ z. z >>= outcome) e ∙ reach_outcome r

  closed_outcome : (st : List (Level I)) (out : Out) (ts : Toks) → is_folded ins heads m (state st out ts) ≡ true → outcome (state st out ts) ≡ Some (out, ts)
  closed_outcome [] out ts n = refl
  closed_outcome (l ∷ st) out ts n = cc

  abbrev all_items : Reader N P (Items P I)
  all_items = (items ins heads).reads

  abbrev one : Reader N P I
  one = (one_ins ins heads).reads

  abbrev closed : Reader N P P
  closed ts = one_of that_close ts

  abbrev shown : Out × Toks → Option (Expression I × Toks)
  shown x = Some (expression_of x.0, x.1)

  abbrev started : I × Toks → State N P I
  started i = state (EndWith None i.0 ∷ []) [] i.1

  abbrev beside : I → Items P I × Toks → Option ((I × Items P I) × Toks)
  beside i x = Some ((i, x.0), x.1)

  abbrev keep : I × Items P I → P × Toks → Option ((I × Items P I) × Toks)
  keep a c = Some (a, c.1)

  abbrev fence_off : (I × Items P I) × Toks → Option ((I × Items P I) × Toks)
  fence_off a = closed a.1 >>= keep a.0

  abbrev folded : (I × Items P I) × Toks → Option (Expression I × Toks)
  folded a = Some (folded_of ins heads m a.0, a.1)

  close_part : (i : I) (x : Items P I) (c : Option (P × Toks)) → ((c >>= keep (i, x)) >>= folded) ≡ ((c >>= λ c. given (unfolded m x ++ (None, i) ∷ []) c.1) >>= shown)
  close_part i x None = refl
  close_part i x (Some c) = refl

  items_part : (i : I) (q : Option (Items P I × Toks)) → (((q >>= beside i) >>= fence_off) >>= folded) ≡ ((q >>= λ x. closed x.1 >>= λ c. given (unfolded m x.0 ++ (None, i) ∷ []) c.1) >>= shown)
  items_part i None = refl
  items_part i (Some x) = close_part i x.0 (closed x.1)

  abbrev with_items : I × Toks → Option ((I × Items P I) × Toks)
  with_items i = all_items i.1 >>= beside i.0

  ins_part : (p : Option (I × Toks)) → (((p >>= with_items) >>= fence_off) >>= folded) ≡ ((p >>= λ i. outcome (started i)) >>= shown)
  ins_part None = refl
  ins_part (Some i) = items_part i.0 (all_items i.1)

  open_part : (o : Option (P × Toks)) → ((o >>= λ o. (one o.1 >>= with_items) >>= fence_off) >>= folded) ≡ ((o >>= λ o. one o.1 >>= λ i. outcome (started i)) >>= shown)
  open_part None = refl
  open_part (Some o) = ins_part (one o.1)

  -- what is read is the outcome of a loop behind the head
  pub folded_reads : (ts : Toks) → (folded_instruction ins heads m).reads ts ≡ ((one_of that_open ts >>= λ o. one o.1 >>= λ i. outcome (started i)) >>= shown)
  folded_reads ts = open_part (one_of that_open ts)

  begun : (ts : Toks) → (folded_instruction ins heads m).reads ts ≡ ((folded_head ins heads [] [] ts >>= outcome) >>= shown)
  begun ts = folded_reads ts ∙ ap (λ z. z >>= shown) (opened (one_of that_open ts))
    where
      head_opened : (p : Option (I × Toks)) → (p >>= λ i. outcome (started i)) ≡ ((p >>= λ i. Some (started i)) >>= outcome)
      head_opened None = refl
      head_opened (Some i) = refl

      opened : (o : Option (P × Toks)) → (o >>= λ o. one o.1 >>= λ i. outcome (started i)) ≡ ((o >>= λ o. one o.1 >>= λ i. Some (started i)) >>= outcome)
      opened None = refl
      opened (Some o) = head_opened (one o.1)

  -- where no parenthesis opens, or no instruction stands behind it
  pub folded_none : (ts : Toks) → folded_head ins heads [] [] ts ≡ None → (folded_instruction ins heads m).reads ts ≡ None
  folded_none ts e = begun ts ∙ ap (λ z. (z >>= outcome) >>= shown) e

  -- WHAT THE LOOP ANSWERS behind the head is what the production reads.
  pub folded_answers : (ts : Toks) (s t : State N P I) → folded_head ins heads [] [] ts ≡ Some s → Reach ins heads m (is_folded ins heads m) s t → is_folded ins heads m t ≡ true → (folded_instruction ins heads m).reads ts ≡ Some (expression_of t.out, t.rest)
  folded_answers ts s t e r n = begun ts ∙ ap (λ z. (z >>= outcome) >>= shown) e ∙ ap (λ z. z >>= shown) (reach_outcome r ∙ closed_outcome t.stack t.out t.rest n)

  pub folded_refuses : (ts : Toks) (s t : State N P I) → folded_head ins heads [] [] ts ≡ Some s → Reach ins heads m (is_folded ins heads m) s t → is_folded ins heads m t ≡ false → step ins heads m t ≡ None → (folded_instruction ins heads m).reads ts ≡ None
  folded_refuses ts s t h r n e = begun ts ∙ ap (λ z. (z >>= outcome) >>= shown) h ∙ ap (λ z. z >>= shown) (reach_outcome r ∙ open_outcome t.stack t.out t.rest n ∙ ap (λ z. z >>= outcome) e)
