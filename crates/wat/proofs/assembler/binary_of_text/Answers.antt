use Rattle.std.proofs.Common.{sym, ◌∙◌, subst}
use Rattle.std.specs.Prelude.{MatchResult}
use Rattle.std.proofs.lemmas.Result.{MatchResult-weaker}
use Rattle.wat_verdict.specs.Spells.{Spells}
use Rattle.wat.specs.TextViews.{wat_tree}
use Rattle.wat.specs.Unspelled.{IsUnspelled}
use Rattle.wat.proofs.Deserved.{misspelled, told_of}
use Rattle.wat.proofs.assembler.binary_of_text.Goals as goal

pub returns-in-Ok : goal.returns-in-Ok
returns-in-Ok c =
    let text = c.args.buffer.now.text in
    let tree = wat_tree c.in-Ok.text in
    let spelled = subst (λ r. MatchResult r (λ w. Spells text (wat_tree w)) (λ e. IsUnspelled text e)) c.in-Ok.is c.parse_text.ensures in
    MatchResult-weaker c.binary_of.result c.binary_of.ensures (λ binary l. (tree, spelled, l)) (λ fault j. told_of text tree spelled fault j)

pub returns-in-Err-2 : goal.returns-in-Err-2
returns-in-Err-2 c = misspelled c.args.buffer.now.text c.in-Err.error (sym c.is_memory.ensures ∙ c.if-is_memory.false) c.in-Err.ensures
