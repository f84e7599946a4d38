use Rattle.std.proofs.Common.{◌∙◌, ap, subst, drop}
use Rattle.wast_lexer.specs.Kinds.{IsLexeme}
use Rattle.wast_lexer.specs.TokenText.{text_of}
use Rattle.wast_lexer.proofs.TokenTextLaws.{annotated_name}
use Rattle.wast_lexer.proofs.token.Token.annotation.Goals as goal

pub unreachable-requires : goal.unreachable-requires
unreachable-requires c =
    let word = text_of c.args.text.now c.args.self.now in
    let none = rw c.in-None.is at (c.in_ok-name.ensures.ok) in
    let own = c.requires.of_text.lexeme in
    let is = subst (λ k. IsLexeme own.0 k word) c.requires.kind own.1 in
    let rest = c.range_from.ensures.value ∙ ap (drop 1) c.src-word.ensures in
    none.2 ((annotated_name word _ none.0 is.0 rest none.1).utf8)

pub returns-clause-ok : goal.returns-clause-ok
returns-clause-ok c =
    let word = text_of c.args.text.now c.args.self.now in
    let some = rw c.in-Some.is at (c.in_ok-name.ensures.ok) in
    let own = c.requires.of_text.lexeme in
    let is = subst (λ k. IsLexeme own.0 k word) c.requires.kind own.1 in
    let rest = c.range_from.ensures.value ∙ ap (drop 1) c.src-word.ensures in
    annotated_name word _ _ is.0 rest some.0
