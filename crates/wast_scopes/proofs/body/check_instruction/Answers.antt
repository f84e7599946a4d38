use Rattle.std.proofs.Common.{◌≡◌, ◌∷◌, ap, subst, sym, refl, append-nil}
use Rattle.std.specs.Prelude.{option_map, OnOk}
use Rattle.wasm_encoder_base.specs.Balanced.{Opens, Closes}
use Rattle.wasm_encoder_base.specs.Table.{table}
use Rattle.wasm_encoder_base.specs.Leb.{uleb, leb, digits}
use Rattle.wast_parser.specs.Identifiers.{identifier_tree}
use Rattle.wast_core_instr.specs.InstructionViews.{instruction_tree}
use Rattle.wast_meaning.specs.Scope.{turn_of_head, own_label}
use Rattle.wast_scopes.specs.Views.{known}
use Rattle.wast_typed_operands.specs.declared.block.BlockType.{BlockType}
use Rattle.wast_scopes.proofs.Outcomes.{on_always}
use Rattle.wast_scopes.proofs.Judged.{answers_as}
use Rattle.wast_scopes.proofs.Scopes.{opened, closed, stayed, heard_opened, heard_closed, heard_stayed}
use Rattle.wast_mentions.proofs.Turns.{block_opens, loop_opens, if_opens, try_opens, try_table_opens, end_closes, delegate_closes, other_turn}
use Rattle.wast_scopes.proofs.body.check_instruction.Goals as goal

pub returns-in-Block-clause-answers : goal.returns-in-Block-clause-answers
returns-in-Block-clause-answers c =
    let i = instruction_tree c.args.instruction.now in
    let turn : Opens ≡ turn_of_head i.head = rw (c.in-Block.is) block_opens in
    heard_opened c.check_opener.result (known c.args.scope.now) c.args.labels.now c.check_opener.new.labels i turn c.check_opener.ensures.answers

pub returns-in-Loop-clause-answers : goal.returns-in-Loop-clause-answers
returns-in-Loop-clause-answers c =
    let i = instruction_tree c.args.instruction.now in
    let turn : Opens ≡ turn_of_head i.head = rw (c.in-Loop.is) loop_opens in
    heard_opened c.check_opener-in-Loop.result (known c.args.scope.now) c.args.labels.now c.check_opener-in-Loop.new.labels i turn c.check_opener-in-Loop.ensures.answers

pub returns-in-If-clause-answers : goal.returns-in-If-clause-answers
returns-in-If-clause-answers c =
    let i = instruction_tree c.args.instruction.now in
    let turn : Opens ≡ turn_of_head i.head = rw (c.in-If.is) if_opens in
    heard_opened c.check_opener-in-If.result (known c.args.scope.now) c.args.labels.now c.check_opener-in-If.new.labels i turn c.check_opener-in-If.ensures.answers

pub returns-in-Try-clause-answers : goal.returns-in-Try-clause-answers
returns-in-Try-clause-answers c =
    let i = instruction_tree c.args.instruction.now in
    let turn : Opens ≡ turn_of_head i.head = rw (c.in-Try.is) try_opens in
    heard_opened c.check_opener-in-Try.result (known c.args.scope.now) c.args.labels.now c.check_opener-in-Try.new.labels i turn c.check_opener-in-Try.ensures.answers

pub returns-in-TryTable-clause-answers : goal.returns-in-TryTable-clause-answers
returns-in-TryTable-clause-answers c =
    let i = instruction_tree c.args.instruction.now in
    let turn : Opens ≡ turn_of_head i.head = rw (c.in-TryTable.is) try_table_opens in
    heard_opened c.check_opener-in-TryTable.result (known c.args.scope.now) c.args.labels.now c.check_opener-in-TryTable.new.labels i turn c.check_opener-in-TryTable.ensures.answers

pub returns-in_default-clause-answers : goal.returns-in_default-clause-answers
returns-in_default-clause-answers c =
    let d = c.in_default in
    let i = instruction_tree c.args.instruction.now in
    let turn = other_turn c.args.instruction.now d.not-Block d.not-Loop d.not-If d.not-Try d.not-TryTable d.not-End d.not-Delegate in
    heard_stayed c.check_plain.result (known c.args.scope.now) c.args.labels.now c.args.labels.now i turn c.check_plain.ensures

pub returns-in-Block-clause-labels : goal.returns-in-Block-clause-labels
returns-in-Block-clause-labels c =
    let i = instruction_tree c.args.instruction.now in
    let turn : Opens ≡ turn_of_head i.head = rw (c.in-Block.is) block_opens in
    let own : option_map identifier_tree c.deref.result.now.label ≡ own_label i.operands = rw (c.in-Block.is) (ap (λ (b : BlockType). option_map identifier_tree b.label) c.deref.ensures) in
    opened c.check_opener.result (known c.args.scope.now) c.args.labels.now c.check_opener.new.labels i turn (subst (λ l. OnOk c.check_opener.result (c.check_opener.new.labels ≡ l ∷ c.args.labels.now)) own c.check_opener.ensures.labels)

pub returns-in-Loop-clause-labels : goal.returns-in-Loop-clause-labels
returns-in-Loop-clause-labels c =
    let i = instruction_tree c.args.instruction.now in
    let turn : Opens ≡ turn_of_head i.head = rw (c.in-Loop.is) loop_opens in
    let own : option_map identifier_tree c.deref-in-Loop.result.now.label ≡ own_label i.operands = rw (c.in-Loop.is) (ap (λ (b : BlockType). option_map identifier_tree b.label) c.deref-in-Loop.ensures) in
    opened c.check_opener-in-Loop.result (known c.args.scope.now) c.args.labels.now c.check_opener-in-Loop.new.labels i turn (subst (λ l. OnOk c.check_opener-in-Loop.result (c.check_opener-in-Loop.new.labels ≡ l ∷ c.args.labels.now)) own c.check_opener-in-Loop.ensures.labels)

pub returns-in-If-clause-labels : goal.returns-in-If-clause-labels
returns-in-If-clause-labels c =
    let i = instruction_tree c.args.instruction.now in
    let turn : Opens ≡ turn_of_head i.head = rw (c.in-If.is) if_opens in
    let own : option_map identifier_tree c.deref-in-If.result.now.label ≡ own_label i.operands = rw (c.in-If.is) (ap (λ (b : BlockType). option_map identifier_tree b.label) c.deref-in-If.ensures) in
    opened c.check_opener-in-If.result (known c.args.scope.now) c.args.labels.now c.check_opener-in-If.new.labels i turn (subst (λ l. OnOk c.check_opener-in-If.result (c.check_opener-in-If.new.labels ≡ l ∷ c.args.labels.now)) own c.check_opener-in-If.ensures.labels)

pub returns-in-Try-clause-labels : goal.returns-in-Try-clause-labels
returns-in-Try-clause-labels c =
    let i = instruction_tree c.args.instruction.now in
    let turn : Opens ≡ turn_of_head i.head = rw (c.in-Try.is) try_opens in
    let own : option_map identifier_tree c.deref-in-Try.result.now.label ≡ own_label i.operands = rw (c.in-Try.is) (ap (λ (b : BlockType). option_map identifier_tree b.label) c.deref-in-Try.ensures) in
    opened c.check_opener-in-Try.result (known c.args.scope.now) c.args.labels.now c.check_opener-in-Try.new.labels i turn (subst (λ l. OnOk c.check_opener-in-Try.result (c.check_opener-in-Try.new.labels ≡ l ∷ c.args.labels.now)) own c.check_opener-in-Try.ensures.labels)

pub returns-in-TryTable-clause-labels : goal.returns-in-TryTable-clause-labels
returns-in-TryTable-clause-labels c =
    let i = instruction_tree c.args.instruction.now in
    let turn : Opens ≡ turn_of_head i.head = rw (c.in-TryTable.is) try_table_opens in
    let own : option_map identifier_tree c.deref-in-TryTable.result.now.label ≡ own_label i.operands = rw (c.in-TryTable.is) (ap (λ (b : BlockType). option_map identifier_tree b.label) c.deref-in-TryTable.ensures) in
    opened c.check_opener-in-TryTable.result (known c.args.scope.now) c.args.labels.now c.check_opener-in-TryTable.new.labels i turn (subst (λ l. OnOk c.check_opener-in-TryTable.result (c.check_opener-in-TryTable.new.labels ≡ l ∷ c.args.labels.now)) own c.check_opener-in-TryTable.ensures.labels)

pub returns-in-End-clause-labels : goal.returns-in-End-clause-labels
returns-in-End-clause-labels c =
    let i = instruction_tree c.args.instruction.now in
    let turn : Closes ≡ turn_of_head i.head = rw (c.in-End.is) end_closes in
    closed c.check_end.result (known c.args.scope.now) c.args.labels.now c.check_end.new.labels i turn c.check_end.ensures.labels

pub returns-in-Delegate-clause-labels : goal.returns-in-Delegate-clause-labels
returns-in-Delegate-clause-labels c =
    let i = instruction_tree c.args.instruction.now in
    let turn : Closes ≡ turn_of_head i.head = rw (c.in-Delegate.is) delegate_closes in
    closed c.check_delegate.result (known c.args.scope.now) c.args.labels.now c.check_delegate.new.labels i turn (on_always c.check_delegate.result c.check_delegate.ensures.labels)

pub returns-in-Delegate-clause-answers : goal.returns-in-Delegate-clause-answers
unfolding table uleb leb digits
returns-in-Delegate-clause-answers c =
    let i = instruction_tree c.args.instruction.now in
    let turn : Closes ≡ turn_of_head i.head = rw (c.in-Delegate.is) delegate_closes in
    heard_closed c.check_delegate.result (known c.args.scope.now) c.args.labels.now c.check_delegate.new.labels i turn
    (rw (c.in-Delegate.is) (answers_as c.check_delegate.result _ _ (sym (append-nil _)) c.check_delegate.ensures.answers))

pub returns-in_default-clause-labels : goal.returns-in_default-clause-labels
returns-in_default-clause-labels c =
    let d = c.in_default in
    let i = instruction_tree c.args.instruction.now in
    let turn = other_turn c.args.instruction.now d.not-Block d.not-Loop d.not-If d.not-Try d.not-TryTable d.not-End d.not-Delegate in
    stayed c.check_plain.result (known c.args.scope.now) c.args.labels.now c.args.labels.now i turn (on_always c.check_plain.result refl)
