use Rattle.std.proofs.Common.{sym, ◌∙◌, ap, subst}
use Rattle.wast_lexer.specs.declared.token.TokenKind.TheVariants.{BlockComment}
use Rattle.wast_lexer.specs.Scan.{comment, FindsToken}
use Rattle.wast_lexer.proofs.CommentSteps.{next_block}
use Rattle.wast_lexer.proofs.scan.scan_open.Goals as goal

pub returns-in-None : goal.returns-in-None
returns-in-None c = next_block c.args.allow c.args.opened c.args.text.now c.args.at c.requires.inside c.requires.opens c.if-not-is_semicolon_at.ensures.value ∙ ap (comment c.args.allow BlockComment _) c.in-None.ensures

pub returns-in-Some : goal.returns-in-Some
returns-in-Some c = subst (FindsToken c.comment.result c.args.text.now c.args.at) (sym (next_block c.args.allow c.args.opened c.args.text.now c.args.at c.requires.inside c.requires.opens c.if-not-is_semicolon_at.ensures.value ∙ ap (comment c.args.allow BlockComment _) c.in-Some.ensures.1)) c.comment.ensures
