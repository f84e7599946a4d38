use Rattle.std.proofs.Common.{◌∷◌, ap, sym, ◌∙◌}
use Rattle.std.proofs.lemmas.Result.{on_ok_weaker}
use Rattle.wast_expressions.specs.Machine as machine
use Rattle.wast_expressions.specs.Machine.{headed, state}
use Rattle.wast_expressions.specs.Partial.{Partial}
use Rattle.wast_expressions.specs.declared.stack.Level.TheVariants as levels
use Rattle.wast_expressions.specs.Views.{here, kind_of, levels_tree, out_tree}
use Rattle.wast_expressions.proofs.Turned.{out_more}
use Rattle.wast_expressions.proofs.turn.head.Goals as goal

pub returns-in-Operands-clause-opened : goal.returns-in-Operands-clause-opened
returns-in-Operands-clause-opened g c =
    let T = g.I.Operation in
    on_ok_weaker c.open.result (λ e ts. ap (λ (u : Partial _). here T.tree u ts) e ∙ ap (λ k. headed T.syntax T.heads T.made k (levels_tree T.tree c.args.work.now.stack) (out_tree T.tree c.args.work.now.out) c.args.hint (T.tree c.args.instr) ts) (ap kind_of (sym c.in-Operands.is) ∙ c.requires)) c.open.ensures.opened

pub returns-in-Ok-clause-opened : goal.returns-in-Ok-clause-opened
returns-in-Ok-clause-opened g c =
    let T = g.I.Operation in
    on_ok_weaker c.open-in-Ok.result
    (λ e ts.
    ap (λ (u : Partial _). here T.tree u ts) e
    ∙ ap (λ (u : Partial _). here T.tree (record { stack = levels.BlockEnd ∷ u.stack; out = u.out }) ts) c.in-Ok.ensures.pushed
    ∙ ap (λ z. state (machine.BlockEnd ∷ levels_tree T.tree c.args.work.now.stack) z ts) (out_more T.tree c.args.work.now.out c.args.hint c.args.instr)
    ∙ ap (λ k. headed T.syntax T.heads T.made k (levels_tree T.tree c.args.work.now.stack) (out_tree T.tree c.args.work.now.out) c.args.hint (T.tree c.args.instr) ts) (ap kind_of (sym c.in-Block.is) ∙ c.requires))
    c.open-in-Ok.ensures.opened

pub returns-in-Arms-clause-opened : goal.returns-in-Arms-clause-opened
returns-in-Arms-clause-opened g c =
    let T = g.I.Operation in
    on_ok_weaker c.open-in-Arms.result (λ e ts. ap (λ (u : Partial _). here T.tree u ts) e ∙ ap (λ k. headed T.syntax T.heads T.made k (levels_tree T.tree c.args.work.now.stack) (out_tree T.tree c.args.work.now.out) c.args.hint (T.tree c.args.instr) ts) (ap kind_of (sym c.in-Arms.is) ∙ c.requires)) c.open-in-Arms.ensures.opened
