use Rattle.std.proofs.Common.{Some, sym, ap, ◌∙◌}
use Rattle.std.proofs.lemmas.Result.{on_ok_weaker}
use Rattle.wast_parser_core.specs.State.{ahead}
use Rattle.wast_expressions.specs.Partial.{Partial}
use Rattle.wast_expressions.specs.Views.{here, levels_tree, out_tree}
use Rattle.wast_expressions.proofs.Turned.{turned, head_opened}
use Rattle.wast_expressions.proofs.offset.head.Goals as goal

pub returns-in-Ok-parse_operation-clause-gives : goal.returns-in-Ok-parse_operation-clause-gives
returns-in-Ok-parse_operation-clause-gives g c =
    let T = g.I.Operation in
    let rest = ahead c.parse_operation.new.parser in
    turned c.open-in-Ok-parse_operation.result _ _
    (on_ok_weaker c.open-in-Ok-parse_operation.result (λ e. head_opened T.tree T.syntax T.heads T.made (levels_tree T.tree c.args.work.now.stack) (out_tree T.tree c.args.work.now.out) c.in-Ok.field-0 (T.tree c.in-Ok-parse_operation.instr) (ahead c.args.parser.now) (ahead c.open.new.parser) rest c.in-Ok.ensures.read c.in-Ok-parse_operation.ensures.read ∙ ap (λ v. Some v) (sym (ap (λ (z : Partial _). here T.tree z rest) e))) c.open-in-Ok-parse_operation.ensures.opened)
    c.open-in-Ok-parse_operation.ensures.memory
