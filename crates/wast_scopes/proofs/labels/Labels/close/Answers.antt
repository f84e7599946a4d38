use Rattle.std.proofs.Common.{◌≡◌, ◌∷◌, ◌++◌, Option, reverse, subst, ◌∙◌, ap}
use Rattle.std.specs.Prelude.{option_to_list}
use Rattle.wast_scopes.specs.declared.block.OpenBlock.{OpenBlock}
use Rattle.wast_scopes.specs.Open.{IsKept}
use Rattle.wast_scopes.proofs.Blocks.{reversed, kept_there, kept_closed}
use Rattle.wast_scopes.proofs.labels.Labels.close.Goals as goal

pub leave-requires : goal.leave-requires
leave-requires c =
    let rest = c.pop.new.self.items in
    let whole : reverse c.self.inside.blocks.items ≡ c.in-Some.block ∷ reverse rest =
    ap reverse (c.pop.ensures.items ∙ ap (λ (o : Option OpenBlock). rest ++ option_to_list o) c.in-Some.is) ∙ reversed rest c.in-Some.block in
    λ id e. kept_there (reverse rest) c.self.inside.levels c.in-Some.block id (subst (λ bs. IsKept bs c.self.inside.levels) whole c.self.invariant) e

pub invariant_of-self : goal.invariant_of-self
invariant_of-self c =
    let rest = c.pop.new.self.items in
    let whole : reverse c.self.inside.blocks.items ≡ c.in-Some.block ∷ reverse rest =
    ap reverse (c.pop.ensures.items ∙ ap (λ (o : Option OpenBlock). rest ++ option_to_list o) c.in-Some.is) ∙ reversed rest c.in-Some.block in
    kept_closed (reverse rest) c.self.inside.levels c.leave.new.levels c.in-Some.block (subst (λ bs. IsKept bs c.self.inside.levels) whole c.self.invariant) c.leave.ensures
