use Rattle.std.proofs.Common.{◌∙◌, sym}
use Rattle.wast_parser_core.specs.State.{ahead}
use Rattle.wast_expressions.specs.Views.{level_tree, levels_tree, out_tree}
use Rattle.wast_expressions.proofs.Turned.{turns_so, row_item, row_close}
use Rattle.wast_expressions.proofs.turn.items_within.Goals as goal

pub returns-then-closes-clause-gives : goal.returns-then-closes-clause-gives
returns-then-closes-clause-gives g c =
    let T = g.I.Operation in
    turns_so c.close_level.result _ _ _ (row_close T.tree T.syntax T.heads T.made (level_tree T.tree c.args.level) (levels_tree T.tree c.args.work.now.stack) (out_tree T.tree c.args.work.now.out) (ahead c.args.parser.now) (sym c.closes.ensures ∙ c.if-closes.true)) c.close_level.ensures.gives

pub returns-in-Ok-clause-gives : goal.returns-in-Ok-clause-gives
returns-in-Ok-clause-gives g c =
    let T = g.I.Operation in
    turns_so c.item.result _ _ _ (row_item T.tree T.syntax T.heads T.made c.args.work.now c.open.new.self c.args.level (ahead c.args.parser.now) c.lawful.ensures c.in-Ok.ensures.opened (sym c.closes.ensures ∙ c.if-closes.false)) c.item.ensures.gives
