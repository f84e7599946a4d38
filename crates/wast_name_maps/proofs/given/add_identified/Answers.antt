use Rattle.std.proofs.Common.{[], ◌∷◌, subst}
use Rattle.wast_name_maps.specs.Numbered.{NamesJoin}
use Rattle.wast_name_maps.proofs.given.add_identified.Goals as goal

pub returns : goal.returns
returns c = subst (λ o. NamesJoin c.add.result c.args.names.now c.add.new.self (o ∷ [])) c.identified.ensures c.add.ensures
