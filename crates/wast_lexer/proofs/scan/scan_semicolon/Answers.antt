use Rattle.std.proofs.Common.{sym, ◌∙◌, ap, subst, List, ℕ, drop}
use Rattle.std.specs.Prelude.{Some}
use Rattle.wast_lexer.specs.declared.token.TokenKind.TheVariants.{LineComment}
use Rattle.wast_lexer.specs.Scan.{comment, FindsToken}
use Rattle.wast_lexer.proofs.CommentSteps.{next_line}
use Rattle.wast_lexer.proofs.scan.scan_semicolon.Goals as goal

pub returns : goal.returns
returns c = subst (FindsToken c.comment.result c.args.text.now c.args.at) (sym (next_line c.args.allow c.args.opened c.args.text.now c.args.at c.requires.inside c.requires.semicolon c.if-not-is_semicolon_at.ensures.value ∙ ap (λ (y : List ℕ). comment c.args.allow LineComment (drop c.args.at c.args.text.now) (Some y)) (sym c.find_either-end.ensures.rest))) c.comment.ensures
