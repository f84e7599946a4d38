use Rattle.std.proofs.Common.{◌≡◌, [], ◌∷◌, ap, subst, ◌∙◌}
use Rattle.std.specs.Prelude.{option_map}
use Rattle.wasm_encoder_base.specs.Balanced.{Opens, Closes}
use Rattle.wast_parser.specs.Identifiers.{identifier_tree}
use Rattle.wast_typed_operands.specs.declared.block.BlockType.{BlockType}
use Rattle.wast_core_instr.specs.InstructionViews.{instruction_tree}
use Rattle.wast_meaning.specs.Scope.{turn_of_head, own_label}
use Rattle.wast_mentions.proofs.Turns.{block_opens, loop_opens, if_opens, try_opens, try_table_opens, end_closes, delegate_closes, other_turn}
use Rattle.wast_name_maps.specs.Gathered.{opened_name}
use Rattle.wast_name_maps.specs.Given.{identified}
use Rattle.wast_name_maps.specs.Numbered.{NamesJoin, NamesJoined}
use Rattle.wast_name_maps.proofs.Joining.{joined_none}
use Rattle.wast_name_maps.proofs.labels.add_label.Goals as goal

pub returns-in-Block : goal.returns-in-Block
returns-in-Block c =
    let i = instruction_tree c.args.instruction.now in
    let call = c.add_identified in
    let turn : Opens ≡ turn_of_head i.head = rw (c.in-Block.is) block_opens in
    let own : option_map identifier_tree c.deref.result.now.label ≡ own_label i.operands = rw (c.in-Block.is) (ap (λ (b : BlockType). option_map identifier_tree b.label) c.deref.ensures) in
    subst (NamesJoin call.result c.args.names.now call.new.names) (ap (λ l. identified l ∷ []) own ∙ ap (λ t. opened_name t (own_label i.operands)) turn) call.ensures

pub returns-in-Loop : goal.returns-in-Loop
returns-in-Loop c =
    let i = instruction_tree c.args.instruction.now in
    let call = c.add_identified-in-Loop in
    let turn : Opens ≡ turn_of_head i.head = rw (c.in-Loop.is) loop_opens in
    let own : option_map identifier_tree c.deref-in-Loop.result.now.label ≡ own_label i.operands = rw (c.in-Loop.is) (ap (λ (b : BlockType). option_map identifier_tree b.label) c.deref-in-Loop.ensures) in
    subst (NamesJoin call.result c.args.names.now call.new.names) (ap (λ l. identified l ∷ []) own ∙ ap (λ t. opened_name t (own_label i.operands)) turn) call.ensures

pub returns-in-If : goal.returns-in-If
returns-in-If c =
    let i = instruction_tree c.args.instruction.now in
    let call = c.add_identified-in-If in
    let turn : Opens ≡ turn_of_head i.head = rw (c.in-If.is) if_opens in
    let own : option_map identifier_tree c.deref-in-If.result.now.label ≡ own_label i.operands = rw (c.in-If.is) (ap (λ (b : BlockType). option_map identifier_tree b.label) c.deref-in-If.ensures) in
    subst (NamesJoin call.result c.args.names.now call.new.names) (ap (λ l. identified l ∷ []) own ∙ ap (λ t. opened_name t (own_label i.operands)) turn) call.ensures

pub returns-in-Try : goal.returns-in-Try
returns-in-Try c =
    let i = instruction_tree c.args.instruction.now in
    let call = c.add_identified-in-Try in
    let turn : Opens ≡ turn_of_head i.head = rw (c.in-Try.is) try_opens in
    let own : option_map identifier_tree c.deref-in-Try.result.now.label ≡ own_label i.operands = rw (c.in-Try.is) (ap (λ (b : BlockType). option_map identifier_tree b.label) c.deref-in-Try.ensures) in
    subst (NamesJoin call.result c.args.names.now call.new.names) (ap (λ l. identified l ∷ []) own ∙ ap (λ t. opened_name t (own_label i.operands)) turn) call.ensures

pub returns-in-TryTable : goal.returns-in-TryTable
returns-in-TryTable c =
    let i = instruction_tree c.args.instruction.now in
    let call = c.add_identified-in-TryTable in
    let turn : Opens ≡ turn_of_head i.head = rw (c.in-TryTable.is) try_table_opens in
    let own : option_map identifier_tree c.deref-in-TryTable.result.now.label ≡ own_label i.operands = rw (c.in-TryTable.is) (ap (λ (b : BlockType). option_map identifier_tree b.label) c.deref-in-TryTable.ensures) in
    subst (NamesJoin call.result c.args.names.now call.new.names) (ap (λ l. identified l ∷ []) own ∙ ap (λ t. opened_name t (own_label i.operands)) turn) call.ensures

pub returns-in-End : goal.returns-in-End
returns-in-End c =
    let i = instruction_tree c.args.instruction.now in
    let turn : Closes ≡ turn_of_head i.head = rw (c.in-End.is) end_closes in
    subst (NamesJoined c.args.names.now c.args.names.now) (ap (λ t. opened_name t (own_label i.operands)) turn) (joined_none c.args.names.now)

pub returns-in-Delegate : goal.returns-in-Delegate
returns-in-Delegate c =
    let i = instruction_tree c.args.instruction.now in
    let turn : Closes ≡ turn_of_head i.head = rw (c.in-Delegate.is) delegate_closes in
    subst (NamesJoined c.args.names.now c.args.names.now) (ap (λ t. opened_name t (own_label i.operands)) turn) (joined_none c.args.names.now)

pub returns-in_default : goal.returns-in_default
returns-in_default c =
    let d = c.in_default in
    let i = instruction_tree c.args.instruction.now in
    let turn = other_turn c.args.instruction.now d.not-Block d.not-Loop d.not-If d.not-Try d.not-TryTable d.not-End d.not-Delegate in
    subst (NamesJoined c.args.names.now c.args.names.now) (ap (λ t. opened_name t (own_label i.operands)) turn) (joined_none c.args.names.now)
