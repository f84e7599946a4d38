-- Reading expressions by a stack, on lists: what the loops of this crate do.
use Rattle.std.specs.Prelude.{◌≡◌, ℕ, suc, Bool, true, false, not, if◌then◌else◌, List, [], ◌∷◌, ◌++◌, Option, Some, None, codes}
use Rattle.wast_grammar.specs.Tokens.{SignificantToken}
use Rattle.wast_grammar.specs.Spelling.{◌>>=◌, that_open, that_close, that_one}
use Rattle.wast_grammar.specs.Look.{NotEnd, at, ask}
use Rattle.wast_grammar.specs.Grammar.{Syntax, maybe, one_of}
use Rattle.wast_expressions.specs.Items.{Made, either_hint}
use Rattle.wast_expressions.specs.Expressions.{GroupKind, OfOperands, OfBlock, OfArms, Heads, hint_tests, hint, ins_tests, group_tests, item_tests, else_tests, one_ins}

-- What the stack waits for, the innermost first.
pub data Level (I : Type 0) : Type 0 where
  -- operands: where they end stands their instruction
  EndWith : Option ℕ → I → Level I
  -- the items of a block: where they end stands an `end`
  BlockEnd : Level I
  -- the conditions of an `if`
  Conditions : Option ℕ → I → Level I
  -- an arm, and what may stand behind the first and behind the second
  Arm : Level I
  AfterThen : Level I
  AfterElse : Level I

-- the stack, the instructions so far with their hints, and the tokens that are left
pub record State (N P I : Type 0) : Type 0 where
  pub stack : List (Level I)
  pub out : List (Option ℕ × I)
  pub rest : List (SignificantToken N P)

abbrev pub state : {N P I : Type 0} → List (Level I) → List (Option ℕ × I) → List (SignificantToken N P) → State N P I
state st out ts = record { stack = st; out = out; rest = ts }

-- whether two hints are one too many
abbrev pub both_hints : Option ℕ → Option ℕ → Bool
both_hints (Some v) (Some u) = true
both_hints g h = false

-- Items are read where no group is open and an end stands there.
abbrev pub done : {N P L : Type 0} → List L → List (SignificantToken N P) → Bool
done [] ts = not (at (NotEnd ∷ []) ts)
done (l ∷ st) ts = false

-- A folded instruction is read where no group is open.
abbrev pub none_open : {L : Type 0} → List L → Bool
none_open [] = true
none_open (l ∷ st) = false

module _ {N P I : Type 0} (ins : Syntax N P I) (heads : Heads I) (m : Made P I) where
  abbrev pub Turn : Type 0
  Turn = List (Level I) → List (Option ℕ × I) → List (SignificantToken N P) → Option (State N P I)

  abbrev pub closing : List (SignificantToken N P) → Option (P × List (SignificantToken N P))
  closing ts = one_of that_close ts

  -- behind the head of a group
  abbrev pub headed : GroupKind → List (Level I) → List (Option ℕ × I) → Option ℕ → I → List (SignificantToken N P) → State N P I
  headed OfOperands st out h i r = state (EndWith h i ∷ st) out r
  headed OfBlock st out h i r = state (BlockEnd ∷ st) (out ++ (h, i) ∷ []) r
  headed OfArms st out h i r = state (Conditions h i ∷ st) out r

  abbrev pub open_group : List (Level I) → List (Option ℕ × I) → Option ℕ → List (SignificantToken N P) → Option (State N P I)
  open_group st out h ts = one_of that_open ts >>= λ o. (one_ins ins heads).reads o.1 >>= λ i. Some (headed (heads.kind i.0) st out h i.0 i.1)

  abbrev pub plain_item : Option ℕ → Turn
  plain_item h st out ts = (one_ins ins heads).reads ts >>= λ i. Some (state st (out ++ (h, i.0) ∷ []) i.1)

  abbrev pub one_item : Turn
  one_item st out ts = (maybe hint_tests hint).reads ts >>= λ h. ask (ins_tests heads) h.1 >>= λ b. if b then plain_item h.0 st out h.1 else open_group st out h.0 h.1

  -- where items stand no more
  abbrev pub close_level : Level I → Turn
  close_level (EndWith h i) st out ts = closing ts >>= λ c. Some (state st (out ++ (h, i) ∷ []) c.1)
  close_level BlockEnd st out ts = closing ts >>= λ c. Some (state st (out ++ (None, m.end_at c.0) ∷ []) c.1)
  close_level Arm st out ts = closing ts >>= λ c. Some (state st out c.1)
  close_level l st out ts = None

  abbrev pub close_items : Turn
  close_items [] out ts = None
  close_items (l ∷ st) out ts = close_level l st out ts

  abbrev pub row_turn : Turn
  row_turn st out ts = ask (item_tests heads) ts >>= λ b. if b then one_item st out ts else close_items st out ts

  -- the arm `then`: behind the conditions, after a hint where none stood before the group
  abbrev pub then_turn : Option ℕ → I → Turn
  then_turn h i st out ts = (maybe hint_tests hint).reads ts >>= λ g. if both_hints h g.0 then None else (one_of that_open g.1 >>= λ o. one_of (that_one (codes "then")) o.1 >>= λ w. Some (state (Arm ∷ AfterThen ∷ st) (out ++ (either_hint h g.0, i) ∷ []) w.1))

  abbrev pub else_turn : Turn
  else_turn st out ts = one_of that_open ts >>= λ o. one_of (that_one (codes "else")) o.1 >>= λ w. Some (state (Arm ∷ AfterElse ∷ st) (out ++ (None, m.else_at w.0) ∷ []) w.1)

  abbrev pub end_turn : Turn
  end_turn st out ts = closing ts >>= λ c. Some (state st (out ++ (None, m.end_at c.0) ∷ []) c.1)

  -- one turn of the loop
  abbrev pub turn : Turn
  turn (Conditions h i ∷ st) out ts = ask (group_tests heads) ts >>= λ b. if b then open_group (Conditions h i ∷ st) out None ts else then_turn h i st out ts
  turn (AfterThen ∷ st) out ts = ask else_tests ts >>= λ b. if b then else_turn st out ts else end_turn st out ts
  turn (AfterElse ∷ st) out ts = end_turn st out ts
  turn st out ts = row_turn st out ts

  abbrev pub step : State N P I → Option (State N P I)
  step s = turn s.stack s.out s.rest

  abbrev pub is_done : State N P I → Bool
  is_done s = done s.stack s.rest

  abbrev pub is_folded : State N P I → Bool
  is_folded s = none_open s.stack

  -- turns that lead from one state to another, none of them from where the loop ends
  pub data Reach (ends : State N P I → Bool) : State N P I → State N P I → Type 0 where
    Here : {s : State N P I} → Reach ends s s
    More : {s t u : State N P I} → ends s ≡ false → step s ≡ Some t → Reach ends t u → Reach ends s u

  -- how many they are
  abbrev pub turns : {ends : State N P I → Bool} {s t : State N P I} → Reach ends s t → ℕ
  turns Here = 0
  turns (More n e r) = suc (turns r)

  abbrev pub start : List (SignificantToken N P) → State N P I
  start ts = state [] [] ts

-- a folded instruction, behind its head
abbrev pub folded_head : {N P I : Type 0} → Syntax N P I → Heads I → List (Level I) → List (Option ℕ × I) → List (SignificantToken N P) → Option (State N P I)
folded_head ins heads st out ts = one_of that_open ts >>= λ o. (one_ins ins heads).reads o.1 >>= λ i. Some (state (EndWith None i.0 ∷ st) out i.1)

-- PLAIN: a group opens, or the innermost closes
abbrev pub plain_turn : {N P I : Type 0} → Syntax N P I → Heads I → Made P I → List (Level I) → List (Option ℕ × I) → List (SignificantToken N P) → Option (State N P I)
plain_turn ins heads m [] out ts = None
plain_turn ins heads m (l ∷ st) out ts = ask (group_tests heads) ts >>= λ b. if b then folded_head ins heads (l ∷ st) out ts else close_level ins heads m l st out ts
