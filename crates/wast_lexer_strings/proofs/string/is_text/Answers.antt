use Rattle.std.proofs.Common.{arith, refl, sym, ap, ◌∙◌, []}
use Rattle.std.specs.Prelude.{◌&&◌}
use Rattle.wast_lexer_strings.specs.StringScan.{meant}
use Rattle.wast_lexer_strings.proofs.StringScanLaws.{more_none}
use Rattle.wast_lexer_strings.proofs.Following.{begin, turn, fails, at_quote, meant_some}
use Rattle.wast_lexer_strings.proofs.string.is_text.Goals as goal

pub elements-init : goal.elements-init
elements-init c = record { low = omega arith; high = c.requires; reads = ([], sym (more_none _), λ bytes. begin bytes _ refl refl refl, refl) }

pub elements-preserved : goal.elements-preserved
elements-preserved c = record { low = omega (arith, c.in-Ok.ensures.0, c.elements.invariant.low); high = c.in-Ok.ensures.1; reads = turn c.args.text.now c.args.from c.elements.at c.in-Ok.end c.elements.tail c.in-Some.next c.elements.some (meant c.in-Ok.piece) c.elements.invariant.reads c.in-Ok.ensures.2 c.in-Some.ensures (meant_some c.in-Ok.piece) }

pub returns-in-None : goal.returns-in-None
returns-in-None c = fails c.args.text.now c.args.from c.elements.at c.in-Ok.end c.elements.tail c.elements.some (meant c.in-Ok.piece) c.elements.invariant.reads c.in-Ok.ensures.2 c.in-None.ensures

pub returns-then-text-at-eq34 : goal.returns-then-text-at-eq34
returns-then-text-at-eq34 c = c.are_all.ensures ∙ ap (λ b. c.is_closed.result && c.elements.some && b) c.is_end.ensures ∙ sym (at_quote c.args.text.now c.args.from c.elements.at c.elements.tail c.elements.some c.is_closed.result c.elements-test.true c.if-text-at-eq34.true c.elements.invariant.reads c.is_closed.ensures)
