use Rattle.std.proofs.Common.{sym, ap}
use Rattle.std.proofs.lemmas.List.{drop_all, drop_more}
use Rattle.wast_lexer_strings.specs.StringScan.{is_empty}
use Rattle.wast_lexer_strings.proofs.string.is_end.Goals as goal

pub returns-then-at-text : goal.returns-then-at-text
returns-then-at-text c = sym (ap is_empty (drop_more c.args.text.now c.args.at 0 c.if-at-text.true))

pub returns : goal.returns
returns c = sym (ap is_empty (drop_all c.args.at c.args.text.now c.if-at-text.false))
