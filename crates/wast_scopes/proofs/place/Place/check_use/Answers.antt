use Rattle.std.specs.List.{flat_map}
use Rattle.wast_signatures.specs.SignatureViews.{use_tree}
use Rattle.wast_meaning.specs.Mentions.{use_mentions}
use Rattle.wast_scopes.specs.Known.{says_by, agreements_by}
use Rattle.wast_scopes.specs.Views.{known_here}
use Rattle.wast_scopes.proofs.Judged.{answers_then}
use Rattle.wast_names.proofs.Demands.{refuses_first}
use Rattle.wast_scopes.proofs.place.Place.check_use.Goals as goal

pub returns-in-Ok : goal.returns-in-Ok
returns-in-Ok c = answers_then c.check_agreement.result _ _ c.in-Ok.ensures c.check_agreement.ensures

pub returns-in-Err : goal.returns-in-Err
returns-in-Err c = refuses_first (flat_map (says_by (known_here c.args.self.now)) (use_mentions (use_tree c.args.ty.now))) (agreements_by (known_here c.args.self.now) (use_tree c.args.ty.now)) c.in-Err.e c.in-Err.ensures
