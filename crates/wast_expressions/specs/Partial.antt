-- Instructions and groups that are open, as the code holds them.
use Rattle.std.specs.Prelude.{ℕ, suc, Bool, true, false, if◌then◌else◌, List, [], ◌∷◌, map, Option, Some, None, nat_eq}
use Rattle.wast_expressions.specs.declared.hint.BranchHint.{BranchHint}
use Rattle.wast_expressions.specs.declared.stack.Level.{Level}
use Rattle.wast_expressions.specs.declared.stack.Level.TheVariants as levels
use Rattle.wast_expressions.specs.declared.stack.Instructions.{Instructions}
use Rattle.wast_expressions.specs.Items.{Hint, Expression}

-- the groups that are open, the innermost first, and the instructions so far
pub record Partial (I : Type 0) : Type 0 where
  pub stack : List (Level I)
  pub out : List (Option ℕ × I)

-- whether items stand in the innermost group
abbrev pub takes_items : {I : Type 0} → List (Level I) → Bool
takes_items (levels.EndWith hint instr ∷ ls) = true
takes_items (levels.BlockEnd ∷ ls) = true
takes_items (levels.Arm ∷ ls) = true
takes_items _ = false

abbrev pub hint_tree : BranchHint → Hint
hint_tree h = record { index = h.instr_index; value = h.value }

abbrev pub expression : {I : Type 0} → Instructions I → Expression I
expression x = record { instrs = x.instrs.items; hints = map hint_tree x.hints.items }

-- instructions of which the first has this index, each with its hint
abbrev pub hinted_from : {I : Type 0} → ℕ → List I → List Hint → List (Option ℕ × I)
hinted_from n [] hs = []
hinted_from n (i ∷ is) [] = (None, i) ∷ hinted_from (suc n) is []
hinted_from n (i ∷ is) (h ∷ hs) = if nat_eq h.index n then (Some h.value, i) ∷ hinted_from (suc n) is hs else (None, i) ∷ hinted_from (suc n) is (h ∷ hs)

abbrev pub hinted : {I : Type 0} → Expression I → List (Option ℕ × I)
hinted x = hinted_from 0 x.instrs x.hints
