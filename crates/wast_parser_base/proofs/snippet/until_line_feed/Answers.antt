use Rattle.std.proofs.Common.{sym, ◌∙◌, subst, Some, None, ap, take, ℕ, ◌≡◌, ◌-◌, arith}
use Rattle.memchr.specs.Find.{IsFirstByte, is_byte}
use Rattle.wast_parser_base.proofs.Lines.{line_ends_found, line_ends_nowhere}
use Rattle.wast_parser_base.proofs.snippet.until_line_feed.Goals as goal

from_start : (end : ℕ) → end - 0 ≡ end
from_start end = omega arith

pub returns-in-Some : goal.returns-in-Some
returns-in-Some c =
    let found = subst (λ l. IsFirstByte (is_byte 10) l (Some c.in-Some.end)) c.as_bytes.ensures.value c.in-Some.ensures in
    c.range.ensures.value ∙ ap (λ n. take n c.args.text.now) (from_start c.in-Some.end) ∙ sym (line_ends_found c.args.text.now c.in-Some.end found)

pub returns-in-None : goal.returns-in-None
returns-in-None c =
    sym (line_ends_nowhere c.args.text.now (subst (λ l. IsFirstByte (is_byte 10) l None) c.as_bytes.ensures.value c.in-None.ensures))
