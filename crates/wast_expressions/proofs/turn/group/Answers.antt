use Rattle.std.proofs.Common.{Some, sym, ap, ◌∙◌}
use Rattle.std.proofs.lemmas.Result.{on_ok_weaker}
use Rattle.wast_parser_core.specs.State.{ahead}
use Rattle.wast_expressions.specs.Views.{levels_tree, out_tree}
use Rattle.wast_expressions.proofs.Turned.{turned, group_opened}
use Rattle.wast_expressions.proofs.turn.group.Goals as goal

pub returns-in-Ok-parse_head-clause-gives : goal.returns-in-Ok-parse_head-clause-gives
returns-in-Ok-parse_head-clause-gives g c =
    let T = g.I.Operation in
    let rest = ahead c.parse_head.new.parser in
    turned c.head.result _ _
    (on_ok_weaker c.head.result (λ e. group_opened T.tree T.syntax T.heads T.made (levels_tree T.tree c.args.work.now.stack) (out_tree T.tree c.args.work.now.out) c.args.hint c.in-Ok.field-0 (T.tree c.in-Ok-parse_head.instr) (ahead c.args.parser.now) (ahead c.open.new.parser) rest c.in-Ok.ensures.read c.in-Ok-parse_head.ensures.read ∙ ap (λ v. Some v) (sym (e rest))) c.head.ensures.opened)
    c.head.ensures.memory
