use Rattle.std.proofs.Common.{reverse, ap, ◌∙◌, arith}
use Rattle.wast_scopes.specs.Open.{labels_of}
use Rattle.wast_scopes.proofs.Blocks.{popped, kept_still}
use Rattle.wast_scopes.proofs.labels.Labels.open.Goals as goal

pub invariant_of-self-in-Err : goal.invariant_of-self-in-Err
invariant_of-self-in-Err c =
    let before = c.self.inside.blocks.items in
    let rest = c.pop.new.self.items in
    kept_still (reverse before) (reverse rest) c.self.inside.levels c.enter.new.levels
    (ap reverse (popped before c.push.new.self.items rest c.in_ok-block.block _ (omega (arith, c.push.new.self.ok.0)) c.in_ok-push.ensures.items c.pop.ensures.rest)) c.self.invariant c.in-Err.ensures.refused

pub returns-in-Err-clause-refused : goal.returns-in-Err-clause-refused
returns-in-Err-clause-refused c =
    let before = c.self.inside.blocks.items in
    let rest = c.pop.new.self.items in
    ap (λ blocks. labels_of (reverse blocks))
    (popped before c.push.new.self.items rest c.in_ok-block.block _ (omega (arith, c.push.new.self.ok.0)) c.in_ok-push.ensures.items c.pop.ensures.rest)
    ∙ c.self.view_is
