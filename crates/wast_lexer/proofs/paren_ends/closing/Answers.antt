use Rattle.std.proofs.Common.{◌<◌, sym, ◌∙◌, arith, length}
use Rattle.wast_lexer.specs.declared.paren.Paren.TheVariants.{Opens, Closes, Other}
use Rattle.wast_lexer.specs.Entries.{parens_of}
use Rattle.wast_lexer.proofs.EntryLaws.{paren_kept, parens_length}
use Rattle.wast_lexer.proofs.ParenEndLaws.{turn_other, turn_opens, turn_closes, turn_last}
use Rattle.wast_lexer.proofs.paren_ends.closing.Goals.{in-Opens, in-Closes+else-depth-eq0, in-Other}
use Rattle.wast_lexer.proofs.paren_ends.closing.Goals as goal

pub returns-then-depth-eq0 : goal.returns-then-depth-eq0
returns-then-depth-eq0 c =
    let es = c.args.entries.now in
    let inside : c.tokens.at < length (parens_of es) = omega (arith, parens_length es, c.tokens-test.true) in
    sym (c.tokens.invariant.found ∙ turn_last (parens_of es) c.tokens.depth c.tokens.at inside (paren_kept es c.tokens.at _ Closes c.tokens-test.true c.in-Closes.ensures) c.if-depth-eq0.true)

pub tokens-preserved : goal.tokens-preserved
tokens-preserved c =
    let es = c.args.entries.now in
    let depth = c.tokens.depth in
    let at = c.tokens.at in
    let known = c.tokens.invariant in
    let inside : at < length (parens_of es) = omega (arith, parens_length es, c.tokens-test.true) in
    elim c.match-paren_of.branch [
      | in-Opens w ↦ record {
        within = omega arith;
        shallow = omega (arith, w.depth-is, known.shallow);
        found = rw w.depth-is (known.found ∙ turn_opens (parens_of es) depth at inside (paren_kept es at _ Opens c.tokens-test.true w.in-Opens.ensures));
      }
      | in-Closes+else-depth-eq0 w ↦ record {
        within = omega arith;
        shallow = omega (arith, w.depth-is, known.shallow);
        found = rw w.depth-is (known.found ∙ turn_closes (parens_of es) depth at inside (paren_kept es at _ Closes c.tokens-test.true w.in-Closes.ensures) (λ e. omega (arith, e, w.if-depth-eq0.false)));
      }
      | in-Other w ↦ record {
        within = omega arith;
        shallow = omega (arith, w.depth-is, known.shallow);
        found = rw w.depth-is (known.found ∙ turn_other (parens_of es) depth at inside (paren_kept es at _ Other c.tokens-test.true w.in-Other.ensures));
      }
    ]
