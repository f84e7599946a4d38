-- The walks of `wast_meaning` in other orders: each space by itself, labels handed on from instruction to instruction, and demands
-- tested on the way.
use Rattle.std.specs.Prelude.{List, [], ◌∷◌, ◌++◌, Option, None}
use Rattle.std.specs.Option.{option_or}
use Rattle.std.specs.List.{flat_map}
use Rattle.std.specs.Prelude.{Bool}
use Rattle.wasm_encoder_base.specs.Table.{Space, Fields}
use Rattle.wast_parser.specs.Identifiers.{Named}
use Rattle.wast_names.specs.Walk.{walked}
use Rattle.wast_names.specs.Demand.{Demand}
use Rattle.wast_names.specs.Space as names
use Rattle.wast_core_instr.specs.InstructionTree.{Instruction}
use Rattle.wast_meaning.specs.Mentions.{instr_mentions}
use Rattle.wast_meaning.specs.Spaces.{Bound, space_word, listed}
use Rattle.wast_meaning.specs.Scope.{Scope, turn_of_head, labels_found, labels_or}
use Rattle.wast_meaning.specs.Demands.{mention_demands}

-- TESTED ON THE WAY: the first answer of the elements, each by what is known before it
abbrev pub tested : {S X D : Type 0} → (S → X → Option D) → (S → X → S) → S → List X → Option D
tested test after s [] = None
tested test after s (x ∷ xs) = option_or (test s x) (tested test after (after s x) xs)

-- EACH SPACE BY ITSELF: what the items of one space must keep to
module _ {N P : Type 0} (eq : N → N → Bool) (s : Space) where
  abbrev pub own_demand : names.Space N → Bound N P → List (Demand N P)
  own_demand space b = names.fresh (space_word s) space b.id ++ names.distinct eq (space_word Fields) b.fields

  abbrev pub own_space : names.Space N → Bound N P → names.Space N
  own_space space b = names.after_item eq (space_word s) space b.id

  abbrev pub own_demands : List (Bound N P) → List (Demand N P)
  own_demands bs = walked own_demand own_space names.empty bs

-- LABELS HANDED ON
module _ {N P : Type 0} (eq : N → N → Bool) (s : Scope N P) where
  -- for an instruction among these labels
  abbrev pub scope_among : List (Option (Named N P)) → Instruction N P → Scope N P
  scope_among labels i = record s { spaces = labels_or (listed eq (labels_found (turn_of_head i.head) labels)) s.spaces; blocks = labels }

  abbrev pub demands_among : List (Option (Named N P)) → Instruction N P → List (Demand N P)
  demands_among labels i = flat_map (mention_demands eq (scope_among labels i)) (instr_mentions i)
