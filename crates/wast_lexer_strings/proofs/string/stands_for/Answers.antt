use Rattle.std.proofs.Common.{arith, ◌≡◌, nat_eq, true, ℕ}
use Rattle.std.proofs.lemmas.Bool.Decides.{nat_tests}
use Rattle.wast_lexer_strings.specs.StringScan.{meant}
use Rattle.wast_lexer_strings.proofs.Standing.{turn, differs, fault, past, ends, ended}
use Rattle.wast_lexer_strings.proofs.string.stands_for.Goals as goal

same_of : (a b : ℕ) → nat_eq a b ≡ true → a ≡ b
same_of a b h = grind (arith, nat_tests)

of_same : (a b : ℕ) → a ≡ b → nat_eq a b ≡ true
of_same a b h = grind (arith, nat_tests)

pub returns-then-at-word : goal.returns-then-at-word
returns-then-at-word c = (
  λ h. ends c.args.word.now c.elements.at c.args.bytes.now c.elements.left.now c.elements.invariant.reads c.elements-test.true (omega (arith, c.elements-test.true)) c.if-word-ne34.false c.if-word-at-eq34.true c.if-at-word.true (same_of _ _ h),
  λ s. of_same _ _ (ended c.args.word.now c.elements.at c.args.bytes.now c.elements.left.now c.elements.invariant.reads c.elements-test.true c.if-word-at-eq34.true s).1,
)

pub returns-else-at-word : goal.returns-else-at-word
returns-else-at-word c = (
  λ h. absurd (c.if-at-word.false (same_of _ _ h)),
  λ s. of_same _ _ (ended c.args.word.now c.elements.at c.args.bytes.now c.elements.left.now c.elements.invariant.reads c.elements-test.true c.if-word-at-eq34.true s).0,
)

pub returns-in-Err : goal.returns-in-Err
returns-in-Err c = (λ h. absurd (cc), λ s. absurd (fault c.args.word.now c.elements.at c.args.bytes.now c.elements.left.now c.elements.invariant.reads c.in-Err.ensures s))

pub returns-in-None : goal.returns-in-None
returns-in-None c = (λ h. absurd (cc), λ s. absurd (differs c.args.word.now c.elements.at c.in-Ok.end c.args.bytes.now c.elements.left.now (meant c.in-Ok.piece) c.elements.invariant.reads c.in-Ok.ensures.2 c.in-None.ensures s))

pub elements-preserved : goal.elements-preserved
elements-preserved c = record { low = omega (arith, c.in-Ok.ensures.0, c.elements.invariant.low); high = c.in-Ok.ensures.1; reads = turn c.args.word.now c.elements.at c.in-Ok.end c.args.bytes.now c.elements.left.now c.in-Some.rest.now (meant c.in-Ok.piece) c.elements.invariant.reads c.in-Ok.ensures.2 c.in-Some.ensures }

pub returns : goal.returns
returns c = (λ h. absurd (cc), λ s. absurd (past c.args.word.now c.elements.at c.args.bytes.now c.elements.left.now c.elements.invariant.reads c.elements-test.false s))
