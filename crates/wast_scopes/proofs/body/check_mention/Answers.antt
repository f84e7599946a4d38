use Rattle.std.proofs.Common.{[], ◌∷◌, ap, ◌∙◌, append-nil}
use Rattle.wast_mentions.specs.Views.{mention_tree}
use Rattle.wast_scopes.specs.Known.{mention_by}
use Rattle.wast_scopes.proofs.Judged.{answers_as, answers_all}
use Rattle.wast_scopes.proofs.Scopes.{outside}
use Rattle.wast_scopes.proofs.body.check_mention.Goals as goal

pub returns : goal.returns
returns c =
    answers_as c.judge.result _ _ (append-nil _ ∙ ap (λ k. mention_by k (mention_tree c.args.mention)) (outside c.args.scope.now _ c.new-labels.ensures)) (answers_all _ c.judge.result (mention_tree c.args.mention ∷ []) c.judge.ensures)
