use Rattle.std.proofs.Common.{◌≡◌, None, Some, [], ◌∷◌, subst, ap, ◌∙◌, inr}
use Rattle.std.specs.Prelude.{is_some}
use Rattle.wast_parser.specs.Look.{this_word}
use Rattle.wast_parser.specs.Spelling.{that_one}
use Rattle.wast_parser.specs.Grammar.{one_of}
use Rattle.wast_parser.specs.State.{ahead}
use Rattle.wast_words.proofs.MaybeWord.{taken, refused}
use Rattle.wast_words.proofs.group.optional.Goals as goal

pub returns-in-Ok-clause-read : goal.returns-in-Ok-clause-read
returns-in-Ok-clause-read g c =
    let w = g.N.KeywordName.word in
    let ts = ahead c.args.parser.now in
    taken is_some (this_word w ∷ []) (one_of (that_one w)) ts (c.in_ok-peek.ensures ∙ ap Some c.if-not-branch.false) c.in-Ok.field-0 (ahead c.word.new.self)
    (subst (λ v. one_of (that_one v) ts ≡ Some (c.in-Ok.field-0, ahead c.word.new.self)) c.text.ensures c.in-Ok.ensures.read)

pub returns-in-Err-clause-exact : goal.returns-in-Err-clause-exact
returns-in-Err-clause-exact g c =
    let w = g.N.KeywordName.word in
    let ts = ahead c.args.parser.now in
    refused is_some (this_word w ∷ []) (one_of (that_one w)) ts (c.in_ok-peek.ensures ∙ ap Some c.if-not-branch.false)
    (subst (λ v. one_of (that_one v) ts ≡ None) c.text.ensures c.in-Err.ensures.exact)

pub returns-in-Err-clause-read : goal.returns-in-Err-clause-read
returns-in-Err-clause-read g c = inr (returns-in-Err-clause-exact g c)
