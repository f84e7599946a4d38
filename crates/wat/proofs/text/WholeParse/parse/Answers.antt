use Rattle.std.proofs.Common.{sym, ◌∙◌, ap}
use Rattle.std.proofs.lemmas.Result.{err_from_is_err_and}
use Rattle.wast_core.specs.ModuleSyntax.{wat}
use Rattle.wast_core.specs.ModuleViews.{module_tree}
use Rattle.wast_parser.specs.State.{ahead}
use Rattle.wast_parser.specs.Reading.{ends_here}
use Rattle.wat.proofs.Reading.{read_whole, read_more}
use Rattle.wat.proofs.text.WholeParse.parse.Goals as goal
use Rattle.wat.proofs.text.WholeParse.parse.Goals.{then-not-is_empty+in_ok-end, else-not-is_empty}

pub returns-in_err-end-clause-read : goal.returns-in_err-end-clause-read
returns-in_err-end-clause-read c =
    let back = err_from_is_err_and c.from_residual-in_err-end.result c.from_residual-in_err-end.ensures.1 in
    rw (back.1, back.2)
    (read_more wat.reads (ahead c.args.parser.now) (module_tree c.in_ok-text.text.«module») (ahead c.parse.new.parser) c.in_err-end.field-0.0 c.in_ok-text.ensures.read
    (sym c.is_empty.ensures ∙ c.if-not-is_empty.true))

pub returns-clause-read : goal.returns-clause-read
returns-clause-read c =
    read_whole wat.reads (ahead c.args.parser.now) (module_tree c.in_ok-text.text.«module») (ahead c.parse.new.parser) c.in_ok-text.ensures.read
    (elim c.if-not-is_empty.branch [
      | then-not-is_empty+in_ok-end w ↦ ap ends_here w.in_ok-end.ensures.ends
      | else-not-is_empty w ↦ sym c.is_empty.ensures ∙ w.if-not-is_empty.false
    ])
