-- Expressions keep the laws, if their instructions do.
use Rattle.std.specs.Prelude.{codes}
use Rattle.std.proofs.Common.{◌≡◌, ℕ, suc, Bool, cond, true, false, List, [], ◌∷◌, refl, sym, ◌∙◌, subst, Some, ap}
use Rattle.std.proofs.lemmas.Option.{same_Some}
use Rattle.wast_grammar.specs.Look.{On, AWord, fits, this_group, this_annotation, holds, OneOf, apart, any_end, join}
use Rattle.wast_grammar.specs.Grammar.{Syntax, wide, seq, seen, only, maybe, many, either, paren, group, word, string, mark}
use Rattle.wast_grammar.specs.Behind.{row}
use Rattle.wast_grammar.specs.Lawful.{Lawful, LawfulBut}
use Rattle.wast_grammar.proofs.Looks.{join_left, within_self}
use Rattle.wast_grammar.proofs.GrammarLaws.{word_laws, string_laws, mark_laws, seen_laws, seq_laws, only_laws, maybe_laws, many_laws, group_laws, paren_laws, fenced_laws, either_laws}
use Rattle.wast_grammar.proofs.RecursionLaws.{Under, Steps, under_self, under_seen, under_only, under_seq, under_led, under_next_but, under_maybe, under_many, under_row, under_either, under_paren, under_fenced, under_less, fix_laws}
use Rattle.wast_grammar.proofs.BehindLaws.{Second, but_of, seen_but, only_but, seq_but, either_but, next_but_laws, row_laws}
use Rattle.wast_expressions.specs.Items.{Items, Made}
use Rattle.wast_expressions.specs.Expressions.{GroupKind, OfOperands, OfBlock, OfArms, Heads, hint_mark, hint_tests, is_hint, hint_value, hint_body, hint, Group, Item, Alone, Grouped, chain, one_hint, ins_tests, group_tests, item_tests, then_tests, else_tests, inside_tests, one_ins, own_item, item, items_over, arms_of, arms, inside, group_of, group_step, groups, items, expression, plain_of, plain_step, plain, led_or_plain, without_hints, folded_of, folded_instruction, data_offset}
use Rattle.wast_expressions.specs.Heeds.{Heeds}
use Rattle.wast_expressions.specs.Laws.{OneReading}
use Rattle.wast_expressions.proofs.Apart.{join_nil, apart_left, apart_right}

-- HINTS
module _ {N P : Type 0} where
  pub hint_body_laws : Lawful (hint_body {N = N} {P = P})
  hint_body_laws = seen_laws (λ x. x.1) _ (seq_laws (mark hint_mark) (only is_hint string) (mark_laws hint_mark) (only_laws is_hint string string_laws) refl)

  pub hint_laws : Lawful (hint {N = N} {P = P})
  hint_laws = seen_laws hint_value _ (paren_laws hint_body hint_body_laws refl refl)

  pub maybe_hint_laws : Lawful (maybe hint_tests (hint {N = N} {P = P}))
  maybe_hint_laws = maybe_laws hint_tests hint hint_laws refl refl refl

-- four tests, the third left out and in another order
reorder : (g h i t : Bool) → cond g true (cond h true (cond t true false)) ≡ true → cond h true (cond i true (cond g true (cond t true false))) ≡ true
reorder g true i t e = refl
reorder g false true t e = refl
reorder true false false t e = refl
reorder false false false t e = e

module _ {N P I : Type 0} (ins : Syntax N P I) (heads : Heads I) (li : LawfulBut (one_ins ins heads) heads.own) (heeds : Heeds heads) where
  behind_items : apart heads.stops (item_tests heads) ≡ true
  behind_items = apart_left heads.stops (item_tests heads) then_tests heeds.behind

  behind_groups : apart heads.stops (group_tests heads) ≡ true
  behind_groups = apart_right heads.stops (ins_tests heads) (group_tests heads) (apart_right heads.stops hint_tests (join (ins_tests heads) (group_tests heads)) behind_items)

  -- the stops of an item are those of instructions
  stops_joined : join (join (join heads.stops []) []) [] ≡ heads.stops
  stops_joined = join_nil (join (join heads.stops []) []) ∙ join_nil (join heads.stops []) ∙ join_nil heads.stops

  own_item_ended : (x : Item P I) → any_end (own_item ins heads x) ≡ false
  own_item_ended (Alone i) = heeds.own_ended i
  own_item_ended (Grouped x) = refl

  -- over groups that keep the laws
  module _ (g : Syntax N P (Group P I)) (lg : Lawful (wide (group_tests heads) false [] g)) where
    abbrev w : Syntax N P (Group P I)
    w = wide (group_tests heads) false [] g

    pub item_laws : LawfulBut (item ins heads w) (λ x. own_item ins heads x.1)
    item_laws = only_but one_hint (λ x. own_item ins heads x.1) (seq (maybe hint_tests hint) (either (ins_tests heads) (seen Alone (one_ins ins heads)) (seen Grouped w)))
        (seq_but (maybe hint_tests hint) (either (ins_tests heads) (seen Alone (one_ins ins heads)) (seen Grouped w)) (own_item ins heads) maybe_hint_laws
        (either_but (ins_tests heads) (seen Alone (one_ins ins heads)) (seen Grouped w) (own_item ins heads)
        (seen_but Alone (own_item ins heads) (one_ins ins heads) li)
        (seen_but Grouped (own_item ins heads) w (but_of w lg)) refl refl refl refl refl) refl refl)

    pub items_over_laws : Lawful (items_over ins heads w)
    items_over_laws = seen_laws chain (row (item_tests heads) (item ins heads w) (λ x. own_item ins heads x.1)) (row_laws (item_tests heads) (item ins heads w) (λ x. own_item ins heads x.1) item_laws refl refl refl refl refl refl (subst (λ z. apart z (item_tests heads) ≡ true) (sym stops_joined) behind_items) (subst (λ z. any_end z ≡ false) (sym stops_joined) heeds.stops_ended) (λ x. own_item_ended x.1))

    abbrev then_part : Syntax N P (Items P I)
    then_part = group (codes "then") (items_over ins heads w)

    abbrev else_part : Syntax N P (P × Items P I)
    else_part = paren (seq (word (codes "else")) (items_over ins heads w))

    then_laws : Lawful then_part
    then_laws = group_laws (codes "then") (items_over ins heads w) items_over_laws refl

    else_laws : Lawful else_part
    else_laws = paren_laws (seq (word (codes "else")) (items_over ins heads w)) (seq_laws (word (codes "else")) (items_over ins heads w) (word_laws (codes "else")) items_over_laws refl) refl refl

    tail_laws : Lawful (seq then_part (maybe else_tests else_part))
    tail_laws = seq_laws then_part (maybe else_tests else_part) then_laws (maybe_laws else_tests else_part else_laws refl refl refl) refl

    hinted_laws : Lawful (seq (maybe hint_tests hint) (seq then_part (maybe else_tests else_part)))
    hinted_laws = seq_laws (maybe hint_tests hint) (seq then_part (maybe else_tests else_part)) maybe_hint_laws tail_laws refl

    pub arms_laws : Lawful (arms ins heads w)
    arms_laws = seen_laws (arms_of ins heads) _ (seq_laws (many (group_tests heads) w) (seq (maybe hint_tests hint) (seq then_part (maybe else_tests else_part))) (many_laws (group_tests heads) w lg refl refl refl refl refl) hinted_laws (rw heeds.no_then refl))

    pub inside_second : (k : GroupKind) → Second (inside ins heads w k) (inside_tests heads)
    inside_second OfOperands = record { laws = seen_laws _ (items_over ins heads w) items_over_laws; open_ended = refl; begins = λ x y. join_left x (item_tests heads) then_tests y }
    inside_second OfBlock = record { laws = seen_laws _ (items_over ins heads w) items_over_laws; open_ended = refl; begins = λ x y. join_left x (item_tests heads) then_tests y }
    inside_second OfArms = record { laws = arms_laws; open_ended = refl; begins = λ x y. reorder (fits (On true AWord (OneOf heads.words heads.but)) x) (fits (this_annotation hint_mark) x) (fits (On false AWord (OneOf heads.words heads.but)) x) (fits (this_group (codes "then")) x) y }

    pub step_laws : Lawful (wide (group_tests heads) false [] (group_step ins heads w))
    step_laws = seen_laws (group_of ins heads) _ (fenced_laws _ (next_but_laws (one_ins ins heads) heads.own (λ i. inside ins heads w (heads.kind i)) (inside_tests heads) li (λ i. inside_second (heads.kind i)) refl heeds.stops_ended heeds.own_ended refl heeds.behind) refl refl)

  -- What is within is shorter.
  module _ (n : ℕ) (g h : Syntax N P (Group P I)) (u : Under n g h) where
    one_under : Under n (either (ins_tests heads) (seen Alone (one_ins ins heads)) (seen Grouped g)) (either (ins_tests heads) (seen Alone (one_ins ins heads)) (seen Grouped h))
    one_under = under_either n (ins_tests heads) (seen Alone (one_ins ins heads)) (seen Alone (one_ins ins heads)) (seen Grouped g) (seen Grouped h) (under_self n (seen Alone (one_ins ins heads))) (under_seen n Grouped g h u)

    item_under : Under n (item ins heads g) (item ins heads h)
    item_under = under_only n one_hint _ _ (under_seq n (maybe hint_tests hint) (maybe hint_tests hint) _ _ (under_self n (maybe hint_tests hint)) one_under)

    items_under : Under n (items_over ins heads g) (items_over ins heads h)
    items_under = under_seen n chain _ _ (under_row n (item ins heads g) (item ins heads h) item_under (item_tests heads) (λ x. own_item ins heads x.1))

    then_under : Under n (group (codes "then") (items_over ins heads g)) (group (codes "then") (items_over ins heads h))
    then_under = under_less n _ _ (under_paren n _ _ (under_led n (codes "then") _ _ items_under))

    else_under : Under n (paren (seq (word (codes "else")) (items_over ins heads g))) (paren (seq (word (codes "else")) (items_over ins heads h)))
    else_under = under_less n _ _ (under_paren n _ _ (under_seq n (word (codes "else")) (word (codes "else")) _ _ (under_self n (word (codes "else"))) items_under))

    arms_under : Under n (arms ins heads g) (arms ins heads h)
    arms_under = under_seen n (arms_of ins heads) _ _ (under_seq n _ _ _ _ (under_many n g h u (group_tests heads)) (under_seq n (maybe hint_tests hint) (maybe hint_tests hint) _ _ (under_self n (maybe hint_tests hint)) (under_seq n _ _ _ _ then_under (under_maybe n _ _ else_under else_tests))))

    inside_under : (k : GroupKind) → Under n (inside ins heads g k) (inside ins heads h k)
    inside_under OfOperands = under_seen n _ _ _ items_under
    inside_under OfBlock = under_seen n _ _ _ items_under
    inside_under OfArms = arms_under

    step_under : Under (suc n) (group_step ins heads g) (group_step ins heads h)
    step_under = under_seen (suc n) (group_of ins heads) _ _ (under_fenced n _ _ (under_next_but n (one_ins ins heads) (one_ins ins heads) heads.own (λ i. inside ins heads g (heads.kind i)) (λ i. inside ins heads h (heads.kind i)) (inside_tests heads) (under_self n (one_ins ins heads)) (λ i. inside_under (heads.kind i))))

  pub group_steps : Steps (group_tests heads) false [] (group_step ins heads)
  group_steps = record { keeps = step_laws; guards = λ n g h u. step_under n (wide (group_tests heads) false [] g) (wide (group_tests heads) false [] h) u }

  -- THE LAWS of groups, items and expressions
  pub groups_laws : Lawful (groups ins heads)
  groups_laws = fix_laws (group_tests heads) false [] (group_step ins heads) group_steps

  pub items_laws : Lawful (items ins heads)
  items_laws = items_over_laws (groups ins heads) groups_laws

  pub expression_laws : (m : Made P I) → Lawful (expression ins heads m)
  expression_laws m = seen_laws _ (items ins heads) items_laws

  pub one_reading : OneReading ins heads
  one_reading x y front rest back tail e er et s t =
      let q : Some (x, rest) ≡ Some (y, tail) = sym (items_laws.complete x front rest s er) ∙ ap (items ins heads).reads e ∙ items_laws.complete y back tail t et in
      let p : (x, rest) ≡ (y, tail) = same_Some (x, rest) (y, tail) q in
      (ap (λ z. z.0) p, ap (λ z. z.1) p)

  -- of plain
  pub plain_row_laws : (g : Syntax N P (List I)) → Lawful (wide (group_tests heads) false [] g) → Lawful (row (group_tests heads) (wide (group_tests heads) false [] g) (λ _. []))
  plain_row_laws g lg = row_laws (group_tests heads) (wide (group_tests heads) false [] g) (λ _. []) (but_of (wide (group_tests heads) false [] g) lg) refl refl refl refl refl refl refl refl (λ _. refl)

  plain_step_laws : (g : Syntax N P (List I)) → Lawful (wide (group_tests heads) false [] g) → Lawful (wide (group_tests heads) false [] (plain_step ins heads (wide (group_tests heads) false [] g)))
  plain_step_laws g lg = seen_laws (plain_of ins heads) _ (paren_laws _ (next_but_laws (one_ins ins heads) heads.own (λ _. row (group_tests heads) (wide (group_tests heads) false [] g) (λ _. [])) (group_tests heads) li (λ _. record { laws = plain_row_laws g lg; open_ended = refl; begins = within_self (group_tests heads) }) refl heeds.stops_ended heeds.own_ended refl behind_groups) refl refl)

  plain_under : (n : ℕ) (g h : Syntax N P (List I)) → Under n g h → Under (suc n) (plain_step ins heads g) (plain_step ins heads h)
  plain_under n g h u = under_seen (suc n) (plain_of ins heads) _ _ (under_paren n _ _ (under_next_but n (one_ins ins heads) (one_ins ins heads) heads.own (λ _. row (group_tests heads) g (λ _. [])) (λ _. row (group_tests heads) h (λ _. [])) (group_tests heads) (under_self n (one_ins ins heads)) (λ _. under_row n g h u (group_tests heads) (λ _. []))))

  pub plain_steps : Steps (group_tests heads) false [] (plain_step ins heads)
  plain_steps = record { keeps = plain_step_laws; guards = λ n g h u. plain_under n (wide (group_tests heads) false [] g) (wide (group_tests heads) false [] h) u }

  pub plain_laws : Lawful (plain ins heads)
  plain_laws = fix_laws (group_tests heads) false [] (plain_step ins heads) plain_steps

  -- of offsets and of items of elements, whose word is no instruction
  led_expression_laws : (m : Made P I) (v : List ℕ) → Lawful (group v (expression ins heads m))
  led_expression_laws m v = group_laws v (expression ins heads m) (expression_laws m) refl

  pub led_or_plain_laws : (m : Made P I) (v : List ℕ) → holds (OneOf heads.words heads.but) v ≡ false → Lawful (led_or_plain ins heads m v)
  led_or_plain_laws m v free = either_laws (this_group v ∷ []) (group v (expression ins heads m)) (seen (without_hints ins heads) (plain ins heads)) (led_expression_laws m v) (seen_laws (without_hints ins heads) (plain ins heads) plain_laws) refl refl refl (rw free refl)

  pub folded_laws : (m : Made P I) → Lawful (folded_instruction ins heads m)
  folded_laws m = seen_laws (folded_of ins heads m) _ (paren_laws _ (next_but_laws (one_ins ins heads) heads.own (λ _. items ins heads) (item_tests heads) li (λ _. record { laws = items_laws; open_ended = refl; begins = within_self (item_tests heads) }) refl heeds.stops_ended heeds.own_ended refl behind_items) refl refl)

  pub data_offset_laws : (m : Made P I) → Lawful (data_offset ins heads m)
  data_offset_laws m = either_laws (this_group (codes "offset") ∷ []) (group (codes "offset") (expression ins heads m)) (folded_instruction ins heads m) (led_expression_laws m (codes "offset")) (folded_laws m) refl refl refl (rw heeds.no_offset refl)
