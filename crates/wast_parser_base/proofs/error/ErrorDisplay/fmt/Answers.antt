use Rattle.std.proofs.Common.{sym, ap, subst, ◌∙◌}
use Rattle.std.specs.Fmt.{HasWritten}
use Rattle.wast_parser_base.specs.Reasons.{lines_of}
use Rattle.wast_parser_base.proofs.Displayed.{displayed_offset}
use Rattle.wast_parser_base.proofs.error.ErrorDisplay.fmt.Goals as goal

pub returns-in-Offset-clause-writes : goal.returns-in-Offset-clause-writes
returns-in-Offset-clause-writes g c = λ plain ok.
    subst (λ l. HasWritten g.W.Write.write_str_gives c.args.f.now l c.write.new.self)
    (displayed_offset c.args.self.now _ _ c.text-text.ensures (c.offset-offset.ensures ∙ ap (λ p. p.place) c.self.view_is)
    (sym (ap (λ p. p.lines) c.self.view_is) ∙ ap lines_of c.in-Offset.is))
    (c.write.ensures.writes plain ok)
