use Rattle.std.proofs.Common.{◌∙◌, ap, subst, drop}
use Rattle.wast_lexer.specs.Kinds.{IsLexeme}
use Rattle.wast_lexer.specs.TokenText.{text_of}
use Rattle.wast_lexer.proofs.TokenTextLaws.{id_name, bad_id}
use Rattle.wast_lexer.proofs.token.Token.id.Goals as goal

pub returns-in-Ok-None-clause-err : goal.returns-in-Ok-None-clause-err
returns-in-Ok-None-clause-err c =
    let word = text_of c.args.text.now c.args.self.now in
    let none = rw c.in-Ok-None.field-0-is at (c.in-Ok-None.ensures.ok) in
    let own = c.requires.of_text.lexeme in
    let is = subst (λ k. IsLexeme own.0 k word) c.requires.kind own.1 in
    let rest = c.range_from.ensures.value ∙ ap (drop 1) c.src-word.ensures in
    bad_id word c.args.self.now.offset c.refused.result c.refused.ensures none.0 (id_name word _ none.0 is.0 rest none.1) none.2
