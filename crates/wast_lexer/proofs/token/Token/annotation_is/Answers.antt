use Rattle.std.proofs.Common.{◌∙◌, sym, ap, subst, drop}
use Rattle.wast_lexer.specs.Kinds.{IsLexeme, IsNameOf}
use Rattle.wast_lexer.specs.TokenText.{text_of}
use Rattle.wast_lexer.proofs.TokenTextLaws.{annotated_name}
use Rattle.wast_lexer.proofs.token.Token.annotation_is.Goals as goal

pub returns : goal.returns
returns c =
    let word = text_of c.args.text.now c.args.self.now in
    let own = c.requires.of_text.lexeme in
    let is = subst (λ k. IsLexeme own.0 k word) c.requires.kind own.1 in
    let rest = c.range_from.ensures.value ∙ ap (drop 1) c.src-word.ensures in (
      λ h. annotated_name word _ c.args.name.now is.0 rest (c.name_is.ensures.0 h),
      λ a. c.name_is.ensures.1 (subst (λ y. IsNameOf y c.args.name.now) (sym (rest ∙ ap (drop 1) a.split)) a.is),
    )
