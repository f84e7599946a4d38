use Rattle.std.proofs.Common.{◌∙◌, sym}
use Rattle.wast_parser_core.specs.State.{ahead}
use Rattle.wast_expressions.specs.Views.{levels_tree, out_tree}
use Rattle.wast_expressions.proofs.Turned.{turns_so, opened_row, row_plain}
use Rattle.wast_expressions.proofs.turn.items.Goals as goal

pub returns-then-opens-clause-gives : goal.returns-then-opens-clause-gives
returns-then-opens-clause-gives g c =
    let T = g.I.Operation in
    turns_so c.item.result _ _ _ (opened_row T.tree T.syntax T.heads T.made c.lawful.ensures (levels_tree T.tree c.args.work.now.stack) (out_tree T.tree c.args.work.now.out) (ahead c.args.parser.now) (sym c.opens.ensures ∙ c.if-opens.true)) c.item.ensures.gives

pub returns-else-opens-clause-gives : goal.returns-else-opens-clause-gives
returns-else-opens-clause-gives g c =
    let T = g.I.Operation in
    turns_so c.plain.result _ _ _ (row_plain T.tree T.syntax T.heads T.made c.args.work.now (ahead c.args.parser.now) c.lawful.ensures c.requires (sym c.opens.ensures ∙ c.if-opens.false)) c.plain.ensures.gives
