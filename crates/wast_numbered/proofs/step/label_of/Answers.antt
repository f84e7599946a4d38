use Rattle.std.proofs.Common.{◌≡◌, ap, ◌∙◌}
use Rattle.std.specs.Prelude.{option_map}
use Rattle.std.proofs.lemmas.Result.{IfOk-weaker}
use Rattle.wast_parser.specs.Identifiers.{identifier_tree}
use Rattle.wast_typed_operands.specs.declared.block.BlockType.{BlockType}
use Rattle.wast_core_instr.specs.InstructionViews.{instruction_operands}
use Rattle.wast_meaning.specs.Scope.{own_label}
use Rattle.wast_numbered.proofs.Labelled.{unlabelled}
use Rattle.wast_numbered.proofs.step.label_of.Goals as goal

pub returns-in-Block : goal.returns-in-Block
returns-in-Block c =
    let own : option_map identifier_tree c.deref.result.now.label ≡ own_label (instruction_operands c.args.instruction.now) = rw (c.in-Block.is) (ap (λ (b : BlockType). option_map identifier_tree b.label) c.deref.ensures) in
    IfOk-weaker c.copied_id.result _ _ (λ label h. ap (option_map identifier_tree) h ∙ own) c.copied_id.ensures.same

pub returns-in-Loop : goal.returns-in-Loop
returns-in-Loop c =
    let own : option_map identifier_tree c.deref-in-Loop.result.now.label ≡ own_label (instruction_operands c.args.instruction.now) = rw (c.in-Loop.is) (ap (λ (b : BlockType). option_map identifier_tree b.label) c.deref-in-Loop.ensures) in
    IfOk-weaker c.copied_id-in-Loop.result _ _ (λ label h. ap (option_map identifier_tree) h ∙ own) c.copied_id-in-Loop.ensures.same

pub returns-in-If : goal.returns-in-If
returns-in-If c =
    let own : option_map identifier_tree c.deref-in-If.result.now.label ≡ own_label (instruction_operands c.args.instruction.now) = rw (c.in-If.is) (ap (λ (b : BlockType). option_map identifier_tree b.label) c.deref-in-If.ensures) in
    IfOk-weaker c.copied_id-in-If.result _ _ (λ label h. ap (option_map identifier_tree) h ∙ own) c.copied_id-in-If.ensures.same

pub returns-in-Try : goal.returns-in-Try
returns-in-Try c =
    let own : option_map identifier_tree c.deref-in-Try.result.now.label ≡ own_label (instruction_operands c.args.instruction.now) = rw (c.in-Try.is) (ap (λ (b : BlockType). option_map identifier_tree b.label) c.deref-in-Try.ensures) in
    IfOk-weaker c.copied_id-in-Try.result _ _ (λ label h. ap (option_map identifier_tree) h ∙ own) c.copied_id-in-Try.ensures.same

pub returns-in-TryTable : goal.returns-in-TryTable
returns-in-TryTable c =
    let own : option_map identifier_tree c.deref-in-TryTable.result.now.label ≡ own_label (instruction_operands c.args.instruction.now) = rw (c.in-TryTable.is) (ap (λ (b : BlockType). option_map identifier_tree b.label) c.deref-in-TryTable.ensures) in
    IfOk-weaker c.copied_id-in-TryTable.result _ _ (λ label h. ap (option_map identifier_tree) h ∙ own) c.copied_id-in-TryTable.ensures.same

pub returns-in_default : goal.returns-in_default
returns-in_default c = unlabelled c.args.instruction.now c.in_default.not-Block c.in_default.not-Loop c.in_default.not-If c.in_default.not-Try c.in_default.not-TryTable
