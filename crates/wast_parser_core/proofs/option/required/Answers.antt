use Rattle.std.proofs.Common.{◌≡◌, inr, ap, Some, false, ◌∙◌}
use Rattle.wast_grammar.specs.Look.{ask}
use Rattle.wast_parser_core.specs.State.{ahead}
use Rattle.wast_parser_core.proofs.Unread.{unread}
use Rattle.wast_parser_core.proofs.option.required.Goals as goal

pub returns-in-Ok-false-clause-read : goal.returns-in-Ok-false-clause-read
returns-in-Ok-false-clause-read g c =
    let s = g.T.Meaning.syntax in
    let no : ask s.starts (ahead c.args.parser.now) ≡ Some false = c.in-Ok-false.ensures ∙ ap (λ v. Some v) c.in-Ok-false.field-0-test in
    inr (unread s c.lawful.ensures c.requires g.met.T.Peek.sure _ (λ e. cc))

pub returns-in-Err-clause-read : goal.returns-in-Err-clause-read
returns-in-Err-clause-read g c =
    let s = g.T.Meaning.syntax in
    let no = c.in-Err.ensures.0 in
    inr (unread s c.lawful.ensures c.requires g.met.T.Peek.sure _ (λ e. cc))
