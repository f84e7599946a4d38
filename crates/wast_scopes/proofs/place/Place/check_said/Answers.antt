use Rattle.wast_signatures.specs.SignatureViews.{use_tree}
use Rattle.wast_meaning.specs.Mentions.{use_mentions}
use Rattle.wast_scopes.specs.Known.{says_by}
use Rattle.wast_scopes.specs.Views.{known_here}
use Rattle.wast_scopes.proofs.Judged.{answers_all}
use Rattle.wast_scopes.proofs.place.Place.check_said.Goals as goal

pub returns : goal.returns
returns c = answers_all (says_by (known_here c.args.self.now)) c.tell.result (use_mentions (use_tree c.args.ty.now)) c.tell.ensures
