use Rattle.std.proofs.Common.{ap}
use Rattle.std.specs.List.{flat_map}
use Rattle.wast_module_fields.specs.FuncViews.{local_tree}
use Rattle.wast_meaning.specs.Mentions.{val_mentions}
use Rattle.wast_scopes.specs.Known.{mention_by}
use Rattle.wast_scopes.proofs.Judged.{answers_as, answers_all}
use Rattle.wast_scopes.proofs.Scopes.{outside}
use Rattle.wast_scopes.proofs.body.check_local_type.Goals as goal

pub returns : goal.returns
returns c =
    let ms = val_mentions (local_tree c.args.local.now).val_type in
    answers_as c.tell.result _ _ (ap (λ k. flat_map (mention_by k) ms) (outside c.args.scope.now _ c.new-labels.ensures)) (answers_all _ c.tell.result ms c.tell.ensures)
