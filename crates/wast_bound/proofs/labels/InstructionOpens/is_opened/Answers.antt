use Rattle.std.proofs.Common.{◌≡◌, ap, ◌∙◌}
use Rattle.std.specs.Prelude.{option_map}
use Rattle.wasm_encoder_base.specs.Balanced.{Opens}
use Rattle.wast_parser.specs.Identifiers.{identifier_tree}
use Rattle.wast_core_instr.specs.InstructionViews.{instruction_tree}
use Rattle.wast_meaning.specs.Scope.{turn_of_head, own_label}
use Rattle.wast_typed_operands.specs.declared.block.BlockType.{BlockType}
use Rattle.wast_mentions.proofs.Turns.{block_opens, loop_opens, if_opens, try_opens, try_table_opens, end_closes, delegate_closes, other_turn}
use Rattle.wast_bound.proofs.Open.{borne_opened, closes_none, stays_none}
use Rattle.wast_bound.proofs.labels.InstructionOpens.is_opened.Goals as goal

pub returns-in-Block : goal.returns-in-Block
returns-in-Block c =
    let i = instruction_tree c.args.self.now in
    let turn : Opens ≡ turn_of_head i.head = rw (c.in-Block.is) block_opens in
    let own : option_map identifier_tree c.deref.result.now.label ≡ own_label i.operands = rw (c.in-Block.is) (ap (λ (b : BlockType). option_map identifier_tree b.label) c.deref.ensures) in
    c.is_borne.ensures ∙ borne_opened (identifier_tree c.args.id.now).0 (turn_of_head i.head) (option_map identifier_tree c.deref.result.now.label) (own_label i.operands) c.args.closed c.if-closed-gt0.false turn own

pub returns-in-Loop : goal.returns-in-Loop
returns-in-Loop c =
    let i = instruction_tree c.args.self.now in
    let turn : Opens ≡ turn_of_head i.head = rw (c.in-Loop.is) loop_opens in
    let own : option_map identifier_tree c.deref-in-Loop.result.now.label ≡ own_label i.operands = rw (c.in-Loop.is) (ap (λ (b : BlockType). option_map identifier_tree b.label) c.deref-in-Loop.ensures) in
    c.is_borne-in-Loop.ensures ∙ borne_opened (identifier_tree c.args.id.now).0 (turn_of_head i.head) (option_map identifier_tree c.deref-in-Loop.result.now.label) (own_label i.operands) c.args.closed c.if-closed-gt0.false turn own

pub returns-in-If : goal.returns-in-If
returns-in-If c =
    let i = instruction_tree c.args.self.now in
    let turn : Opens ≡ turn_of_head i.head = rw (c.in-If.is) if_opens in
    let own : option_map identifier_tree c.deref-in-If.result.now.label ≡ own_label i.operands = rw (c.in-If.is) (ap (λ (b : BlockType). option_map identifier_tree b.label) c.deref-in-If.ensures) in
    c.is_borne-in-If.ensures ∙ borne_opened (identifier_tree c.args.id.now).0 (turn_of_head i.head) (option_map identifier_tree c.deref-in-If.result.now.label) (own_label i.operands) c.args.closed c.if-closed-gt0.false turn own

pub returns-in-Try : goal.returns-in-Try
returns-in-Try c =
    let i = instruction_tree c.args.self.now in
    let turn : Opens ≡ turn_of_head i.head = rw (c.in-Try.is) try_opens in
    let own : option_map identifier_tree c.deref-in-Try.result.now.label ≡ own_label i.operands = rw (c.in-Try.is) (ap (λ (b : BlockType). option_map identifier_tree b.label) c.deref-in-Try.ensures) in
    c.is_borne-in-Try.ensures ∙ borne_opened (identifier_tree c.args.id.now).0 (turn_of_head i.head) (option_map identifier_tree c.deref-in-Try.result.now.label) (own_label i.operands) c.args.closed c.if-closed-gt0.false turn own

pub returns-in-TryTable : goal.returns-in-TryTable
returns-in-TryTable c =
    let i = instruction_tree c.args.self.now in
    let turn : Opens ≡ turn_of_head i.head = rw (c.in-TryTable.is) try_table_opens in
    let own : option_map identifier_tree c.deref-in-TryTable.result.now.label ≡ own_label i.operands = rw (c.in-TryTable.is) (ap (λ (b : BlockType). option_map identifier_tree b.label) c.deref-in-TryTable.ensures) in
    c.is_borne-in-TryTable.ensures ∙ borne_opened (identifier_tree c.args.id.now).0 (turn_of_head i.head) (option_map identifier_tree c.deref-in-TryTable.result.now.label) (own_label i.operands) c.args.closed c.if-closed-gt0.false turn own

pub returns-in-End : goal.returns-in-End
returns-in-End c = rw (c.in-End.is) (closes_none (identifier_tree c.args.id.now).0 _ _ c.args.closed end_closes)

pub returns-in-Delegate : goal.returns-in-Delegate
returns-in-Delegate c = rw (c.in-Delegate.is) (closes_none (identifier_tree c.args.id.now).0 _ _ c.args.closed delegate_closes)

pub returns-in_default : goal.returns-in_default
returns-in_default c =
    let i = c.args.self.now in
    let d = c.in_default in
    stays_none (identifier_tree c.args.id.now).0 (turn_of_head (instruction_tree i).head) (own_label (instruction_tree i).operands) c.args.closed
    (other_turn i d.not-Block d.not-Loop d.not-If d.not-Try d.not-TryTable d.not-End d.not-Delegate)
