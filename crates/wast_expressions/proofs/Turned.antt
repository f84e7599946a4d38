-- What the turns of the code answer, by those of the machine.
use Rattle.std.proofs.Common.{◌≡◌, ℕ, ◌<◌, Bool, true, false, not, List, [], ◌∷◌, ◌++◌, length, suc, map, Option, Some, None, inl, inr, refl, sym, ◌∙◌, ap, subst, cond, arith, ◌+◌}
use Rattle.std.specs.Prelude.{if◌then◌else◌, Result, Ok, Err, OnOk, IfErr, codes}
use Rattle.std.proofs.lemmas.Bool.{cases_lt}
use Rattle.std.proofs.lemmas.List.{map-append}
use Rattle.wast_grammar.specs.Tokens.{Name, Open, Close, Id, Word, Mark, Integer, Float, Text, Reserved, Broken}
use Rattle.wast_grammar.specs.Significant.{TextToken}
use Rattle.wast_grammar.specs.Spelling.{◌>>=◌, that_open, that_close, that_one}
use Rattle.wast_grammar.specs.Look.{Opening, NotEnd, at, ask}
use Rattle.wast_grammar.specs.Grammar.{Syntax, maybe, one_of}
use Rattle.wast_grammar.specs.Lawful.{LawfulBut}
use Rattle.wast_grammar.proofs.BehindLaws.{opens_on}
use Rattle.wast_grammar.proofs.Looks.{absurd_of, first_deep}
use Rattle.wast_parser_base.specs.Problem.{Problem}
use Rattle.wast_parser_core.specs.State.{State, ahead, Keeps}
use Rattle.wast_parser_core.specs.Reading.{out_of_memory, ends_here}
use Rattle.wast_parser_core.specs.Openings.{opens_here, closes_here}
use Rattle.wast_expressions.specs.Items.{Made, either_hint, expression_of, hint_at, hints_from}
use Rattle.wast_expressions.specs.Expressions.{Heads, hint_tests, hint, ins_tests, group_tests, item_tests, one_ins}
use Rattle.wast_expressions.specs.Machine as machine
use Rattle.wast_expressions.specs.Machine.{Reach, Here, More, step, done, none_open, both_hints, open_group, plain_item, one_item, close_level, close_items, row_turn, then_turn, else_turn, turn}
use Rattle.wast_expressions.specs.Partial.{Partial, expression, takes_items}
use Rattle.wast_expressions.specs.declared.stack.Instructions.{Instructions}
use Rattle.wast_expressions.specs.declared.stack.Level.{Level}
use Rattle.wast_expressions.specs.declared.stack.Level.TheVariants as levels
use Rattle.wast_expressions.specs.Views.{here, instructions_tree, level_tree, levels_tree, out_tree, Turns, arm_word}
use Rattle.wast_expressions.proofs.ReadLaws.{bind_bind}
use Rattle.wast_expressions.proofs.Peeks.{no_token, fault_stands, open_stands, is_opening, item_word, item_other}

-- what succeeds has turned, what fails wants memory
pub turned : {A N P T : Type 0} (r : Result A Problem) (gives : Option (machine.State N P T)) (new : machine.State N P T) → OnOk r (gives ≡ Some new) → IfErr r (λ e. e ≡ out_of_memory) → Turns r gives new
turned (Ok x) gives new f g = f
turned (Err e) gives new f g = inl g

pub turns_so : {A N P T : Type 0} (r : Result A Problem) (gives others : Option (machine.State N P T)) (new : machine.State N P T) → gives ≡ others → Turns r gives new → Turns r others new
turns_so r gives others new e t = subst (λ z. Turns r z new) e t

-- one instruction more
pub out_more : {I T : Type 0} (tree : I → T) (out : List (Option ℕ × I)) (h : Option ℕ) (i : I) → out_tree tree (out ++ (h, i) ∷ []) ≡ out_tree tree out ++ (h, tree i) ∷ []
out_more tree out h i = map-append (λ x. (x.0, tree x.1)) out ((h, i) ∷ [])

-- where a group or the text ends
pub ends_so : (ts : List TextToken) → ends_here ts ≡ not (at (NotEnd ∷ []) ts)
ends_so [] = refl
ends_so (Close p ∷ ts) = refl
ends_so (Open p ∷ ts) = rw (opens_on p ts) refl
ends_so (Id n p ∷ ts) = refl
ends_so (Word w p ∷ ts) = refl
ends_so (Mark w p ∷ ts) = refl
ends_so (Integer n w p ∷ ts) = refl
ends_so (Float w p ∷ ts) = refl
ends_so (Text s p ∷ ts) = refl
ends_so (Reserved w p ∷ ts) = refl
ends_so (Broken ∷ ts) = refl

-- behind a word that leads a group
pub behind_word : {B : Type 0} (w : List ℕ) (ts : List TextToken) (f : ℕ × List TextToken → Option B) → (one_of that_open ts >>= λ o. one_of (that_one w) o.1 >>= f) ≡ (arm_word w ts >>= f)
behind_word w ts f = sym (bind_bind (one_of that_open ts) (λ o. one_of (that_one w) o.1) f)

module _ {I T : Type 0} (tree : I → T) (ins : Syntax Name ℕ T) (heads : Heads T) (m : Made ℕ T) where
  -- where no word of an instruction stands none is read
  none_read : LawfulBut (one_ins ins heads) heads.own → (ts : List TextToken) → at (ins_tests heads) ts ≡ false → ins.reads ts ≡ None
  none_read li ts n = go (ins.reads ts) refl
    where
      go : (o : Option (T × List TextToken)) → ins.reads ts ≡ o → o ≡ None
      go None e = refl
      go (Some x) e =
          let t = li.sound ts x e in
          elim (li.leads x.0 t.taken x.1 t.spelled) [
            | inl h ↦ absurd_of (at (ins_tests heads) ts) (ap (λ z. at (ins_tests heads) z) t.parts ∙ h) n
            | inr h ↦ absurd_of false h.0 refl
          ]

  -- a group opens
  abbrev headed_by : List (machine.Level T) → List (Option ℕ × T) → Option ℕ → T × List TextToken → Option (machine.State Name ℕ T)
  headed_by st out h i = Some (machine.headed ins heads m (heads.kind i.0) st out h i.0 i.1)

  -- Items may be read by the parenthesis that stands in front.
  module _ (li : LawfulBut (one_ins ins heads) heads.own) (st : List (machine.Level T)) (out : List (Option ℕ × T)) where
    abbrev alone : Option ℕ → List TextToken → Option (machine.State Name ℕ T)
    alone h ts = plain_item ins heads m h st out ts

    abbrev opening : Option ℕ → List TextToken → Option (machine.State Name ℕ T)
    opening h ts = open_group ins heads m st out h ts

    -- behind a hint
    abbrev led : Option ℕ → List TextToken → Option (machine.State Name ℕ T)
    led h ts = ask (ins_tests heads) ts >>= λ b. if b then alone h ts else opening h ts

    abbrev one : List TextToken → Option (machine.State Name ℕ T)
    one ts = one_item ins heads m st out ts

    abbrev in_row : List TextToken → Option (machine.State Name ℕ T)
    in_row ts = row_turn ins heads m st out ts

    abbrev put : Option ℕ → T × List TextToken → Option (machine.State Name ℕ T)
    put h i = Some (machine.state st (out ++ (h, i.0) ∷ []) i.1)

    none_put : (h : Option ℕ) (ts : List TextToken) → at (ins_tests heads) ts ≡ false → alone h ts ≡ None
    none_put h ts n = ap (λ z. z >>= put h) (none_read li ts n)

    none_headed : (h : Option ℕ) (p : ℕ) (ts : List TextToken) → at (ins_tests heads) ts ≡ false → opening h (Open p ∷ ts) ≡ None
    none_headed h p ts n = ap (λ z. z >>= headed_by st out h) (none_read li ts n)

    led_by : (h : Option ℕ) (ts : List TextToken) (b : Bool) → ask (ins_tests heads) ts ≡ Some b → led h ts ≡ (if b then alone h ts else opening h ts)
    led_by h ts b e = ap (λ z. z >>= λ b. if b then alone h ts else opening h ts) e

    word_led : (h : Option ℕ) (w : List ℕ) (p : ℕ) (ts : List TextToken) (b : Bool) → ask (ins_tests heads) (Word w p ∷ ts) ≡ Some b → at (ins_tests heads) (Word w p ∷ ts) ≡ b → alone h (Word w p ∷ ts) ≡ led h (Word w p ∷ ts)
    word_led h w p ts true e f = sym (led_by h (Word w p ∷ ts) true e)
    word_led h w p ts false e f = none_put h (Word w p ∷ ts) f ∙ sym (led_by h (Word w p ∷ ts) false e)

    pub plain_led : (h : Option ℕ) (ts : List TextToken) → ask (Opening ∷ []) ts ≡ Some false → alone h ts ≡ led h ts
    plain_led h [] e = none_put h [] refl
    plain_led h (Open p ∷ ts) e = is_opening p ts (Some false) e (λ q. absurd (cc))
    plain_led h (Close p ∷ ts) e = none_put h (Close p ∷ ts) refl
    plain_led h (Id n p ∷ ts) e = none_put h (Id n p ∷ ts) refl
    plain_led h (Word w p ∷ ts) e = word_led h w p ts (at (ins_tests heads) (Word w p ∷ ts)) refl refl
    plain_led h (Mark w p ∷ ts) e = none_put h (Mark w p ∷ ts) refl
    plain_led h (Integer n w p ∷ ts) e = none_put h (Integer n w p ∷ ts) refl
    plain_led h (Float w p ∷ ts) e = none_put h (Float w p ∷ ts) refl
    plain_led h (Text s p ∷ ts) e = none_put h (Text s p ∷ ts) refl
    plain_led h (Reserved w p ∷ ts) e = none_put h (Reserved w p ∷ ts) refl
    plain_led h (Broken ∷ ts) e = cc

    no_word : (p : ℕ) (ts : List TextToken) → ask (ins_tests heads) (Open p ∷ ts) ≡ Some false
    no_word p ts = rw (first_deep true ts) refl

    pub group_led : (h : Option ℕ) (ts : List TextToken) → ask (Opening ∷ []) ts ≡ Some true → opening h ts ≡ led h ts
    group_led h ts e = let s = open_stands ts e in rw s.2 (sym (led_by h (Open s.0 ∷ s.1) false (no_word s.0 s.1)))

    pub led_fault : (h : Option ℕ) (ts : List TextToken) → ask (Opening ∷ []) ts ≡ None → led h ts ≡ None
    led_fault h ts e = let s = fault_stands ts (no_token (Opening ∷ []) ts e) in rw s.1 refl

    pub hinted_led : (h : Option ℕ) (ts us : List TextToken) → (maybe hint_tests hint).reads ts ≡ Some (h, us) → led h us ≡ one ts
    hinted_led h ts us e = sym (rw e refl)

    -- a row, by what it asks
    row_is : (ts : List TextToken) → ask (item_tests heads) ts ≡ Some true → one ts ≡ in_row ts
    row_is ts f = sym (rw f refl)

    closes_none : (st : List (machine.Level T)) (ts : List TextToken) → one_of that_close ts ≡ None → close_items ins heads m st out ts ≡ None
    closes_none [] ts c = refl
    closes_none (machine.EndWith h i ∷ st) ts c = rw c refl
    closes_none (machine.BlockEnd ∷ st) ts c = rw c refl
    closes_none (machine.Conditions h i ∷ st) ts c = refl
    closes_none (machine.Arm ∷ st) ts c = rw c refl
    closes_none (machine.AfterThen ∷ st) ts c = refl
    closes_none (machine.AfterElse ∷ st) ts c = refl

    row_not : (ts : List TextToken) → ask (item_tests heads) ts ≡ Some false → one_of that_close ts ≡ None → one ts ≡ None → one ts ≡ in_row ts
    row_not ts f c n = n ∙ sym (rw f (closes_none st ts c))

    word_row : (w : List ℕ) (p : ℕ) (ts : List TextToken) (b : Bool) → ask (ins_tests heads) (Word w p ∷ ts) ≡ Some b → one (Word w p ∷ ts) ≡ in_row (Word w p ∷ ts)
    word_row w p ts true e = row_is (Word w p ∷ ts) (item_word heads (Word w p ∷ ts) e)
    word_row w p ts false e = row_not (Word w p ∷ ts) (item_other heads (Word w p ∷ ts) e) refl (led_by None (Word w p ∷ ts) false e)

    group_row : (p : ℕ) (w : List ℕ) (q : ℕ) (ts : List TextToken) (b : Bool) → at (ins_tests heads) (Word w q ∷ ts) ≡ b → one (Open p ∷ Word w q ∷ ts) ≡ in_row (Open p ∷ Word w q ∷ ts)
    group_row p w q ts true e = row_is (Open p ∷ Word w q ∷ ts) (ap (λ b. Some b) e)
    group_row p w q ts false e = row_not (Open p ∷ Word w q ∷ ts) (ap (λ b. Some b) e) refl (none_headed None p (Word w q ∷ ts) e)

    hint_row : (p : ℕ) (w : List ℕ) (q : ℕ) (ts : List TextToken) (b : Bool) → at hint_tests (Open p ∷ Mark w q ∷ ts) ≡ b → one (Open p ∷ Mark w q ∷ ts) ≡ in_row (Open p ∷ Mark w q ∷ ts)
    hint_row p w q ts true e = row_is (Open p ∷ Mark w q ∷ ts) (ap (λ b. Some b) e)
    hint_row p w q ts false e = row_not (Open p ∷ Mark w q ∷ ts) (ap (λ b. Some b) e) refl (rw e (none_headed None p (Mark w q ∷ ts) refl))

    behind_row : (p : ℕ) (ts : List TextToken) → one (Open p ∷ ts) ≡ in_row (Open p ∷ ts)
    behind_row p [] = row_not (Open p ∷ []) refl refl (none_headed None p [] refl)
    behind_row p (Open q ∷ ts) = row_not (Open p ∷ Open q ∷ ts) refl refl (none_headed None p (Open q ∷ ts) (rw (first_deep true ts) refl))
    behind_row p (Close q ∷ ts) = row_not (Open p ∷ Close q ∷ ts) refl refl (none_headed None p (Close q ∷ ts) refl)
    behind_row p (Id n q ∷ ts) = row_not (Open p ∷ Id n q ∷ ts) refl refl (none_headed None p (Id n q ∷ ts) refl)
    behind_row p (Word w q ∷ ts) = group_row p w q ts (at (ins_tests heads) (Word w q ∷ ts)) refl
    behind_row p (Mark w q ∷ ts) = hint_row p w q ts (at hint_tests (Open p ∷ Mark w q ∷ ts)) refl
    behind_row p (Integer n w q ∷ ts) = row_not (Open p ∷ Integer n w q ∷ ts) refl refl (none_headed None p (Integer n w q ∷ ts) refl)
    behind_row p (Float w q ∷ ts) = row_not (Open p ∷ Float w q ∷ ts) refl refl (none_headed None p (Float w q ∷ ts) refl)
    behind_row p (Text s q ∷ ts) = row_not (Open p ∷ Text s q ∷ ts) refl refl (none_headed None p (Text s q ∷ ts) refl)
    behind_row p (Reserved w q ∷ ts) = row_not (Open p ∷ Reserved w q ∷ ts) refl refl (none_headed None p (Reserved w q ∷ ts) refl)
    behind_row p (Broken ∷ ts) = refl

    -- where no group closes: an item, or nothing
    pub item_row : (ts : List TextToken) → closes_here ts ≡ false → one ts ≡ in_row ts
    item_row [] e = row_not [] refl refl refl
    item_row (Open p ∷ ts) e = behind_row p ts
    item_row (Close p ∷ ts) e = cc
    item_row (Id n p ∷ ts) e = row_not (Id n p ∷ ts) refl refl refl
    item_row (Word w p ∷ ts) e = word_row w p ts (at (ins_tests heads) (Word w p ∷ ts)) refl
    item_row (Mark w p ∷ ts) e = row_not (Mark w p ∷ ts) refl refl refl
    item_row (Integer n w p ∷ ts) e = row_not (Integer n w p ∷ ts) refl refl refl
    item_row (Float w p ∷ ts) e = row_not (Float w p ∷ ts) refl refl refl
    item_row (Text s p ∷ ts) e = row_not (Text s p ∷ ts) refl refl refl
    item_row (Reserved w p ∷ ts) e = row_not (Reserved w p ∷ ts) refl refl refl
    item_row (Broken ∷ ts) e = refl

    -- where one opens: an item, or nothing
    pub opened_row : (ts : List TextToken) → opens_here ts ≡ true → one ts ≡ in_row ts
    opened_row [] e = cc
    opened_row (Open p ∷ ts) e = behind_row p ts
    opened_row (Close p ∷ ts) e = cc
    opened_row (Id n p ∷ ts) e = cc
    opened_row (Word w p ∷ ts) e = cc
    opened_row (Mark w p ∷ ts) e = cc
    opened_row (Integer n w p ∷ ts) e = cc
    opened_row (Float w p ∷ ts) e = cc
    opened_row (Text s p ∷ ts) e = cc
    opened_row (Reserved w p ∷ ts) e = cc
    opened_row (Broken ∷ ts) e = cc

  -- where no group is open and no parenthesis opens: an instruction, or nothing
  pub plain_row : LawfulBut (one_ins ins heads) heads.own → (out : List (Option ℕ × T)) (ts : List TextToken) → opens_here ts ≡ false → plain_item ins heads m None [] out ts ≡ row_turn ins heads m [] out ts
  plain_row li out [] e = none_put li [] out None [] refl
  plain_row li out (Open p ∷ ts) e = cc
  plain_row li out (Close p ∷ ts) e = none_put li [] out None (Close p ∷ ts) refl
  plain_row li out (Id n p ∷ ts) e = none_put li [] out None (Id n p ∷ ts) refl
  plain_row li out (Word w p ∷ ts) e = plain_led li [] out None (Word w p ∷ ts) refl ∙ item_row li [] out (Word w p ∷ ts) refl
  plain_row li out (Mark w p ∷ ts) e = none_put li [] out None (Mark w p ∷ ts) refl
  plain_row li out (Integer n w p ∷ ts) e = none_put li [] out None (Integer n w p ∷ ts) refl
  plain_row li out (Float w p ∷ ts) e = none_put li [] out None (Float w p ∷ ts) refl
  plain_row li out (Text s p ∷ ts) e = none_put li [] out None (Text s p ∷ ts) refl
  plain_row li out (Reserved w p ∷ ts) e = none_put li [] out None (Reserved w p ∷ ts) refl
  plain_row li out (Broken ∷ ts) e = none_put li [] out None (Broken ∷ ts) refl

  pub row_plain : (u : Partial I) (ts : List TextToken) → LawfulBut (one_ins ins heads) heads.own → u.stack ≡ [] → opens_here ts ≡ false → plain_item ins heads m None (levels_tree tree u.stack) (out_tree tree u.out) ts ≡ row_turn ins heads m (levels_tree tree u.stack) (out_tree tree u.out) ts
  row_plain u ts li e f =
      ap (λ st. plain_item ins heads m None (levels_tree tree st) (out_tree tree u.out) ts) e
      ∙ plain_row li (out_tree tree u.out) ts f
      ∙ sym (ap (λ st. row_turn ins heads m (levels_tree tree st) (out_tree tree u.out) ts) e)

  -- where a group is open: an item
  pub row_item : (u w : Partial I) (l : Level I) (ts : List TextToken) → LawfulBut (one_ins ins heads) heads.own → w ≡ record u { stack = l ∷ u.stack } → closes_here ts ≡ false → one_item ins heads m (levels_tree tree w.stack) (out_tree tree w.out) ts ≡ row_turn ins heads m (level_tree tree l ∷ levels_tree tree u.stack) (out_tree tree u.out) ts
  row_item u w l ts li e f = ap (λ (z : Partial I). one_item ins heads m (levels_tree tree z.stack) (out_tree tree z.out) ts) e ∙ item_row li (level_tree tree l ∷ levels_tree tree u.stack) (out_tree tree u.out) ts f

  -- or its end
  pub row_close : (l : machine.Level T) (st : List (machine.Level T)) (out : List (Option ℕ × T)) (ts : List TextToken) → closes_here ts ≡ true → close_level ins heads m l st out ts ≡ row_turn ins heads m (l ∷ st) out ts
  row_close l st out [] e = cc
  row_close l st out (Open p ∷ ts) e = cc
  row_close l st out (Close p ∷ ts) e = refl
  row_close l st out (Id n p ∷ ts) e = cc
  row_close l st out (Word w p ∷ ts) e = cc
  row_close l st out (Mark w p ∷ ts) e = cc
  row_close l st out (Integer n w p ∷ ts) e = cc
  row_close l st out (Float w p ∷ ts) e = cc
  row_close l st out (Text s p ∷ ts) e = cc
  row_close l st out (Reserved w p ∷ ts) e = cc
  row_close l st out (Broken ∷ ts) e = cc

  -- a turn by what the stack waits for
  pub turn_top : (u v : Partial I) (k l : Level I) (ts : List TextToken) → u ≡ record v { stack = k ∷ v.stack } → k ≡ l → turn ins heads m (level_tree tree l ∷ levels_tree tree v.stack) (out_tree tree v.out) ts ≡ turn ins heads m (levels_tree tree u.stack) (out_tree tree u.out) ts
  turn_top u v k l ts e f =
      ap (λ z. turn ins heads m (level_tree tree z ∷ levels_tree tree v.stack) (out_tree tree v.out) ts) (sym f)
      ∙ sym (ap (λ (z : Partial I). turn ins heads m (levels_tree tree z.stack) (out_tree tree z.out) ts) e)

  pub turn_items : (ls : List (Level I)) (out : List (Option ℕ × T)) (ts : List TextToken) → takes_items ls ≡ true → row_turn ins heads m (levels_tree tree ls) out ts ≡ turn ins heads m (levels_tree tree ls) out ts
  turn_items [] out ts e = cc
  turn_items (levels.EndWith h i ∷ ls) out ts e = refl
  turn_items (levels.BlockEnd ∷ ls) out ts e = refl
  turn_items (levels.Conditions h i ∷ ls) out ts e = cc
  turn_items (levels.Arm ∷ ls) out ts e = refl
  turn_items (levels.AfterThen ∷ ls) out ts e = cc
  turn_items (levels.AfterElse ∷ ls) out ts e = cc

  pub turn_none : (u v : Partial I) (ts : List TextToken) → u.stack ≡ [] → v ≡ u → row_turn ins heads m (levels_tree tree v.stack) (out_tree tree v.out) ts ≡ turn ins heads m (levels_tree tree u.stack) (out_tree tree u.out) ts
  turn_none u v ts e f =
      ap (λ (z : Partial I). row_turn ins heads m (levels_tree tree z.stack) (out_tree tree z.out) ts) f
      ∙ ap (λ st. row_turn ins heads m (levels_tree tree st) (out_tree tree u.out) ts) e
      ∙ sym (ap (λ st. turn ins heads m (levels_tree tree st) (out_tree tree u.out) ts) e)

  -- one more condition
  pub more_condition : (u w : Partial I) (h : Option ℕ) (i : I) (ts : List TextToken) → w ≡ record u { stack = levels.Conditions h i ∷ u.stack } → ask (group_tests heads) ts ≡ Some true → open_group ins heads m (levels_tree tree w.stack) (out_tree tree w.out) None ts ≡ turn ins heads m (machine.Conditions h (tree i) ∷ levels_tree tree u.stack) (out_tree tree u.out) ts
  more_condition u w h i ts e f = ap (λ (z : Partial I). open_group ins heads m (levels_tree tree z.stack) (out_tree tree z.out) None ts) e ∙ sym (rw f refl)

  pub group_opened : (st : List (machine.Level T)) (out : List (Option ℕ × T)) (h : Option ℕ) (p : ℕ) (t : T) (ts us rest : List TextToken) → one_of that_open ts ≡ Some (p, us) → ins.reads us ≡ Some (t, rest) → open_group ins heads m st out h ts ≡ Some (machine.headed ins heads m (heads.kind t) st out h t rest)
  group_opened st out h p t ts us rest e f = ap (λ z. z >>= λ o. ins.reads o.1 >>= headed_by st out h) e ∙ ap (λ z. z >>= headed_by st out h) f

  -- a plain group opens or closes
  pub plain_opens : (u : Partial I) (ts : List TextToken) → (u.stack ≡ [] → ⊥) → ask (group_tests heads) ts ≡ Some true → machine.folded_head ins heads (levels_tree tree u.stack) (out_tree tree u.out) ts ≡ machine.plain_turn ins heads m (levels_tree tree u.stack) (out_tree tree u.out) ts
  plain_opens u ts n f = go u.stack n
    where
      go : (st : List (Level I)) → (st ≡ [] → ⊥) → machine.folded_head ins heads (levels_tree tree st) (out_tree tree u.out) ts ≡ machine.plain_turn ins heads m (levels_tree tree st) (out_tree tree u.out) ts
      go [] n = absurd (n refl)
      go (l ∷ st) n = sym (rw f refl)

  pub plain_closes : (u v : Partial I) (l : Level I) (ts : List TextToken) → u ≡ record v { stack = l ∷ v.stack } → ask (group_tests heads) ts ≡ Some false → close_level ins heads m (level_tree tree l) (levels_tree tree v.stack) (out_tree tree v.out) ts ≡ machine.plain_turn ins heads m (levels_tree tree u.stack) (out_tree tree u.out) ts
  plain_closes u v l ts e f = sym (ap (λ (z : Partial I). machine.plain_turn ins heads m (levels_tree tree z.stack) (out_tree tree z.out) ts) e ∙ rw f refl)

  -- the head of a folded instruction
  abbrev ended_by : List (machine.Level T) → List (Option ℕ × T) → T × List TextToken → Option (machine.State Name ℕ T)
  ended_by st out i = Some (machine.state (machine.EndWith None i.0 ∷ st) out i.1)

  pub head_opened : (st : List (machine.Level T)) (out : List (Option ℕ × T)) (p : ℕ) (t : T) (ts us rest : List TextToken) → one_of that_open ts ≡ Some (p, us) → ins.reads us ≡ Some (t, rest) → machine.folded_head ins heads st out ts ≡ Some (machine.state (machine.EndWith None t ∷ st) out rest)
  head_opened st out p t ts us rest e f = ap (λ z. z >>= λ o. ins.reads o.1 >>= ended_by st out) e ∙ ap (λ z. z >>= ended_by st out) f

  -- an arm opens
  pub arm_here : (u v w : Partial I) (l : Level I) (h g : Option ℕ) (i : I) (t : T) (rest : List TextToken) → v ≡ record u { out = u.out ++ (h, i) ∷ [] } → w ≡ record v { stack = levels.Arm ∷ l ∷ v.stack } → h ≡ g → tree i ≡ t → machine.state (machine.Arm ∷ level_tree tree l ∷ levels_tree tree u.stack) (out_tree tree u.out ++ (g, t) ∷ []) rest ≡ here tree w rest
  arm_here u v w l h g i t rest e f p q = sym (
      ap (λ (z : Partial I). here tree z rest) f
      ∙ ap (λ (z : Partial I). here tree (record { stack = levels.Arm ∷ l ∷ z.stack; out = z.out }) rest) e
      ∙ ap (λ z. machine.state (machine.Arm ∷ level_tree tree l ∷ levels_tree tree u.stack) z rest) (out_more tree u.out h i ∙ ap (λ k. out_tree tree u.out ++ (k, tree i) ∷ []) p ∙ ap (λ k. out_tree tree u.out ++ (g, k) ∷ []) q))

  -- the arms
  abbrev arm_state : List (Option ℕ × T) → machine.Level T → List (machine.Level T) → ℕ × List TextToken → Option (machine.State Name ℕ T)
  arm_state out l st w = Some (machine.state (machine.Arm ∷ l ∷ st) out w.1)

  abbrev else_state : List (machine.Level T) → List (Option ℕ × T) → ℕ × List TextToken → Option (machine.State Name ℕ T)
  else_state st out w = Some (machine.state (machine.Arm ∷ machine.AfterElse ∷ st) (out ++ (None, m.else_at w.0) ∷ []) w.1)

  pub else_word : (st : List (machine.Level T)) (out : List (Option ℕ × T)) (ts rest : List TextToken) (p : ℕ) → arm_word (codes "else") ts ≡ Some (p, rest) → else_turn ins heads m st out ts ≡ Some (machine.state (machine.Arm ∷ machine.AfterElse ∷ st) (out ++ (None, m.else_at p) ∷ []) rest)
  else_word st out ts rest p e = behind_word (codes "else") ts (else_state st out) ∙ ap (λ z. z >>= else_state st out) e

  pub else_none : (st : List (machine.Level T)) (out : List (Option ℕ × T)) (ts : List TextToken) → arm_word (codes "else") ts ≡ None → else_turn ins heads m st out ts ≡ None
  else_none st out ts e = behind_word (codes "else") ts (else_state st out) ∙ ap (λ z. z >>= else_state st out) e

  abbrev then_word_of : Option ℕ → T → List (machine.Level T) → List (Option ℕ × T) → Option ℕ → List TextToken → Option (machine.State Name ℕ T)
  then_word_of h i st out g ts = cond (both_hints h g) None (arm_word (codes "then") ts >>= arm_state (out ++ (either_hint h g, i) ∷ []) machine.AfterThen st)

  then_hint : (h : Option ℕ) (i : T) (st : List (machine.Level T)) (out : List (Option ℕ × T)) (ts us : List TextToken) (g : Option ℕ) → (maybe hint_tests hint).reads ts ≡ Some (g, us) → then_turn ins heads m h i st out ts ≡ then_word_of h i st out g us
  then_hint h i st out ts us g e = rw e (ap (λ z. cond (both_hints h g) None z) (behind_word (codes "then") us (arm_state (out ++ (either_hint h g, i) ∷ []) machine.AfterThen st)))

  pub then_word : (h : Option ℕ) (i : T) (st : List (machine.Level T)) (out : List (Option ℕ × T)) (ts us rest : List TextToken) (g : Option ℕ) (p : ℕ) → (maybe hint_tests hint).reads ts ≡ Some (g, us) → both_hints h g ≡ false → arm_word (codes "then") us ≡ Some (p, rest) → then_turn ins heads m h i st out ts ≡ Some (machine.state (machine.Arm ∷ machine.AfterThen ∷ st) (out ++ (either_hint h g, i) ∷ []) rest)
  then_word h i st out ts us rest g p e n f = then_hint h i st out ts us g e ∙ ap (λ b. cond b None (arm_word (codes "then") us >>= arm_state (out ++ (either_hint h g, i) ∷ []) machine.AfterThen st)) n ∙ ap (λ z. z >>= arm_state (out ++ (either_hint h g, i) ∷ []) machine.AfterThen st) f

  pub then_none : (h : Option ℕ) (i : T) (st : List (machine.Level T)) (out : List (Option ℕ × T)) (ts us : List TextToken) (g : Option ℕ) → (maybe hint_tests hint).reads ts ≡ Some (g, us) → arm_word (codes "then") us ≡ None → then_turn ins heads m h i st out ts ≡ None
  then_none h i st out ts us g e f = then_hint h i st out ts us g e ∙ ap (λ z. cond (both_hints h g) None (z >>= arm_state (out ++ (either_hint h g, i) ∷ []) machine.AfterThen st)) f ∙ either_none (both_hints h g)
    where
      either_none : {A : Type 0} (b : Bool) → cond {A = Option A} b None None ≡ None
      either_none true = refl
      either_none false = refl

-- one turn more
pub further : {N P T : Type 0} (ins : Syntax N P T) (heads : Heads T) (m : Made P T) (ends : machine.State N P T → Bool) {s t u : machine.State N P T} → Reach ins heads m ends s t → ends t ≡ false → step ins heads m t ≡ Some u → Reach ins heads m ends s u
further ins heads m ends Here n e = More n e Here
further ins heads m ends (More k f r) n e = More k f (further ins heads m ends r n e)

pub further_turns : {N P T : Type 0} (ins : Syntax N P T) (heads : Heads T) (m : Made P T) (ends : machine.State N P T → Bool) {s t u : machine.State N P T} (r : Reach ins heads m ends s t) (n : ends t ≡ false) (e : step ins heads m t ≡ Some u) → machine.turns ins heads m (further ins heads m ends r n e) ≡ machine.turns ins heads m r + 1
unfolding further
further_turns ins heads m ends Here n e = refl
further_turns ins heads m ends (More k f r) n e = let i = further_turns ins heads m ends r n e in omega (arith, i)

-- whether items are read, by the stack of the code
pub done_tree : {I T : Type 0} (tree : I → T) (u : Partial I) (ts : List TextToken) (b : Bool) → done u.stack ts ≡ b → done (levels_tree tree u.stack) ts ≡ b
done_tree tree u ts b e = go u.stack e
  where
    go : (st : List (Level _)) → done st ts ≡ b → done (levels_tree tree st) ts ≡ b
    go [] e = e
    go (l ∷ st) e = e

-- whether no group is open, by the stack of the code
pub none_tree : {I T : Type 0} (tree : I → T) (st : List (Level I)) (b : Bool) → none_open st ≡ b → none_open (levels_tree tree st) ≡ b
none_tree tree [] b e = e
none_tree tree (l ∷ st) b e = e

pub none_is : {I : Type 0} (st : List (Level I)) → st ≡ [] → none_open st ≡ true
none_is st e = rw e refl

pub some_is : {I : Type 0} (st : List (Level I)) → (st ≡ [] → ⊥) → none_open st ≡ false
some_is [] f = absurd (f refl)
some_is (l ∷ st) f = refl

pub no_levels : {I T : Type 0} (tree : I → T) (st : List (Level I)) → levels_tree tree st ≡ [] → st ≡ []
no_levels tree [] e = refl
no_levels tree (l ∷ st) e = cc

-- what was unfolded, as an expression
hints_kept : {I T : Type 0} (tree : I → T) (n : ℕ) (xs : List (Option ℕ × I)) → hints_from n xs ≡ hints_from n (out_tree tree xs)
hints_kept tree n [] = refl
hints_kept tree n (x ∷ xs) = ap (λ z. hint_at n x.0 ++ z) (hints_kept tree (suc n) xs)

instrs_kept : {I T : Type 0} (tree : I → T) (xs : List (Option ℕ × I)) → map tree (map (λ x. x.1) xs) ≡ map (λ x. x.1) (out_tree tree xs)
instrs_kept tree [] = refl
instrs_kept tree (x ∷ xs) = ap (λ z. tree x.1 ∷ z) (instrs_kept tree xs)

pub finished : {I T : Type 0} (tree : I → T) (r : Instructions I) (out : List (Option ℕ × I)) → expression r ≡ expression_of out → expression_of (out_tree tree out) ≡ instructions_tree tree r
finished tree r out e = sym (
    ap (λ z. record { instrs = map tree z.instrs; hints = z.hints }) e
    ∙ ap (λ z. record { instrs = z; hints = hints_from 0 out }) (instrs_kept tree out)
    ∙ ap (λ z. record { instrs = map (λ x. x.1) (out_tree tree out); hints = z }) (hints_kept tree 0 out))

-- two hints
pub joined_some : {A : Type 0} (b : Bool) (x y : A) → cond b None (Some x) ≡ Some y → (b ≡ false) × (x ≡ y)
joined_some true x y e = cc
joined_some false x y e = (refl, cc)

-- PROGRESS
-- where fewer tokens are left, one was taken
pub moved : (a b : State) → Keeps a b → length (ahead b) < length (ahead a) → a.at < b.at
moved a b k l = elim (cases_lt a.at b.at) [
  | inl p ↦ p
  | inr q ↦ (
      let o = k.onward in
      let s : b.at ≡ a.at = omega (arith, q, o) in
      let same : ahead b ≡ ahead a = rw (k.source, k.names, s) refl in
      let n : length (ahead b) ≡ length (ahead a) = ap length same in
      let no : ⊥ = omega (arith, l, n) in
      absurd no)
]
