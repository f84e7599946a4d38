-- What the grammar sees of the types of the code.
use Rattle.std.specs.Prelude.{◌≡◌, ◌≤◌, ◌+◌, ℕ, true, false, if◌then◌else◌, List, [], ◌∷◌, map, Option, Some, None, Result, Ok, Err}
use Rattle.wast_grammar.specs.Tokens.{Name}
use Rattle.wast_parser.specs.Reading.{Refuses}
use Rattle.wast_parser.specs.Grammar.{Syntax, words, one_of}
use Rattle.wast_parser.specs.Look.{OneOf, holds}
use Rattle.wast_parser.specs.Significant.{TextToken}
use Rattle.wast_parser.specs.Spelling.{◌>>=◌, that_open, that_one}
use Rattle.wast_parser_base.specs.Problem.{Problem}
use Rattle.wast_expressions.specs.declared.operation.GroupKind.{GroupKind}
use Rattle.wast_expressions.specs.declared.operation.GroupKind.TheVariants as kinds
use Rattle.wast_expressions.specs.declared.operation.Origin.{Origin}
use Rattle.wast_expressions.specs.declared.operation.Origin.TheVariants as origins
use Rattle.wast_expressions.specs.declared.operation.MadeKind.{MadeKind}
use Rattle.wast_expressions.specs.declared.operation.MadeKind.TheVariants as making
use Rattle.wast_expressions.specs.declared.stack.Level.{Level}
use Rattle.wast_expressions.specs.declared.stack.Level.TheVariants as levels
use Rattle.wast_expressions.specs.declared.stack.Instructions.{Instructions}
use Rattle.wast_expressions.specs.Items.{Made, Expression}
use Rattle.wast_expressions.specs.Partial.{Partial, hint_tree}
use Rattle.wast_expressions.specs.Expressions as spec
use Rattle.wast_expressions.specs.Expressions.{is_hint}
use Rattle.wast_expressions.specs.Machine as machine

abbrev pub kind_of : GroupKind → spec.GroupKind
kind_of kinds.Operands = spec.OfOperands
kind_of kinds.Block = spec.OfBlock
kind_of kinds.Arms = spec.OfArms

-- the instruction of this kind that a group makes
abbrev pub made_as : {I : Type 0} → Made ℕ I → MadeKind → ℕ → I
made_as m making.Else p = m.else_at p
made_as m making.End p = m.end_at p

-- the instruction that is read, or made, and the tokens after it
abbrev pub obtained : {I : Type 0} → Syntax Name ℕ I → Made ℕ I → Origin → List TextToken → Option (I × List TextToken)
obtained g m origins.Written ts = g.reads ts
obtained g m (origins.Made kind p) ts = Some (made_as m kind p, ts)

-- a hint's bytes, and their value
abbrev pub IsHintOf : List ℕ → Option ℕ → Type 0
IsHintOf bytes None = is_hint bytes ≡ false
IsHintOf bytes (Some v) = (is_hint bytes ≡ true) × (bytes ≡ v ∷ [])

-- a word of an instruction
abbrev pub any_word : {I : Type 0} → spec.Heads I → Syntax Name ℕ (List ℕ × ℕ)
any_word heads = words (λ w. if holds (OneOf heads.words heads.but) w then Some w else None) (OneOf heads.words heads.but)

module _ {I T : Type 0} (tree : I → T) where
  abbrev pub instructions_tree : Instructions I → Expression T
  instructions_tree x = record { instrs = map tree x.instrs.items; hints = map hint_tree x.hints.items }

  abbrev pub out_tree : List (Option ℕ × I) → List (Option ℕ × T)
  out_tree xs = map (λ x. (x.0, tree x.1)) xs

  abbrev pub level_tree : Level I → machine.Level T
  level_tree (levels.EndWith h i) = machine.EndWith h (tree i)
  level_tree levels.BlockEnd = machine.BlockEnd
  level_tree (levels.Conditions h i) = machine.Conditions h (tree i)
  level_tree levels.Arm = machine.Arm
  level_tree levels.AfterThen = machine.AfterThen
  level_tree levels.AfterElse = machine.AfterElse

  abbrev pub levels_tree : List (Level I) → List (machine.Level T)
  levels_tree ls = map level_tree ls

-- where a loop is
abbrev pub here : {I T : Type 0} → (I → T) → Partial I → List TextToken → machine.State Name ℕ T
here tree u ts = machine.state (levels_tree tree u.stack) (out_tree tree u.out) ts

-- what a turn answers and leaves
abbrev pub Turns : {A N P T : Type 0} → Result A Problem → Option (machine.State N P T) → machine.State N P T → Type 0
Turns (Ok x) gives new = gives ≡ Some new
Turns (Err p) gives new = Refuses p gives

-- what is read behind a parenthesis that opens: a word
abbrev pub arm_word : List ℕ → List TextToken → Option (ℕ × List TextToken)
arm_word w ts = one_of that_open ts >>= λ o. one_of (that_one w) o.1

-- a turn that is refused counts too
abbrev pub refused_turns : {A : Type 0} → Result A Problem → ℕ
refused_turns (Ok x) = 0
refused_turns (Err p) = 1

-- A loop that answers has ended here; one that is refused has not, and no further turn can be taken, or there was no memory.
abbrev pub EndsAt : {T A : Type 0} → Syntax Name ℕ T → spec.Heads T → Made ℕ T → Result A Problem → machine.State Name ℕ T → Type 0
EndsAt ins heads m (Ok x) t = machine.is_done ins heads m t ≡ true
EndsAt ins heads m (Err p) t = (machine.is_done ins heads m t ≡ false) × Refuses p (machine.step ins heads m t)

-- So many turns were taken from these tokens on, up to where the loop ended or was refused.
abbrev pub Counts : {T A : Type 0} → Syntax Name ℕ T → spec.Heads T → Made ℕ T → List TextToken → Result A Problem → ℕ → Type 0
Counts {T} ins heads m ts result n = (t : machine.State Name ℕ T) × (r : machine.Reach ins heads m (machine.is_done ins heads m) (machine.start ins heads m ts) t) × EndsAt ins heads m result t × (n ≡ machine.turns ins heads m r + refused_turns result)
