use Rattle.std.proofs.Common.{◌++◌, ap, ◌∙◌, arith}
use Rattle.std.specs.Prelude.{slice_range}
use Rattle.wast_lexer_strings.specs.StringScan.{more, meant}
use Rattle.wast_lexer_strings.proofs.StringScanLaws.{more_more}
use Rattle.wast_lexer_strings.proofs.string.string_end.Goals as goal

pub elements-init : goal.elements-init
elements-init c = record { low = c.plain_end-at.ensures.inside.0; high = c.plain_end-at.ensures.inside.1; rest = (slice_range c.args.text.now c.args.from c.plain_end-at.result, c.plain_end-at.ensures.passed) }

pub elements-preserved : goal.elements-preserved
elements-preserved c =
    let before = c.elements.invariant.rest.0 ++ meant c.in-Ok.field-0-0 in
    let to_end = c.elements.invariant.rest.1 ∙ ap (more c.elements.invariant.rest.0) c.in-Ok.ensures.2 ∙ more_more c.elements.invariant.rest.0 (meant c.in-Ok.field-0-0) _ in
    record { low = omega (arith, c.in-Ok.ensures.0, c.elements.invariant.low, c.plain_end-at-in-Ok.ensures.inside.0); high = c.plain_end-at-in-Ok.ensures.inside.1; rest = (before ++ slice_range c.args.text.now c.in-Ok.end c.plain_end-at-in-Ok.result, to_end ∙ ap (more before) c.plain_end-at-in-Ok.ensures.passed ∙ more_more before (slice_range c.args.text.now c.in-Ok.end c.plain_end-at-in-Ok.result) _) }
