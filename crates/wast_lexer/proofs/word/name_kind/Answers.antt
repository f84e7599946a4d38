use Rattle.std.proofs.Common.{◌≡◌, ◌∙◌, ap, arith, true, length, Bool}
use Rattle.std.specs.Prelude.{nat_lt, Option, Some, if◌then◌else◌}
use Rattle.std.proofs.lemmas.Bool.Decides.{nat_tests}
use Rattle.wast_lexer.specs.declared.token.TokenKind.{TokenKind}
use Rattle.wast_lexer.specs.declared.token.TokenKind.TheVariants.{Id, Reserved}
use Rattle.wast_lexer.proofs.NameLaws.{annotation_kind, dollar_kind, then_some_is}
use Rattle.wast_lexer.proofs.word.name_kind.Goals as goal

pub returns-then-first-eq64 : goal.returns-then-first-eq64
returns-then-first-eq64 c = c.then_some.ensures ∙ then_some_is _ _ ∙ annotation_kind c.args.word.now c.requires.all c.requires.nonempty c.args.opened c.if-opened.true c.if-first-eq64.true

pub returns-then-word-gt1 : goal.returns-then-word-gt1
returns-then-word-gt1 c =
    let more : true ≡ nat_lt 1 (length c.args.word.now) = grind (arith, nat_tests) in
    ap (λ (b : Bool). let o : Option TokenKind = Some (if b then Id else Reserved) in o) more ∙ dollar_kind c.args.word.now c.requires.all c.requires.nonempty c.args.opened c.if-first-eq36.true
