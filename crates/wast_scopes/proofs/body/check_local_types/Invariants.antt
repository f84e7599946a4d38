use Rattle.wast_module_fields.specs.FuncViews.{local_tree}
use Rattle.wast_meaning.specs.Mentions.{val_mentions}
use Rattle.wast_names.specs.Demand.{is_met}
use Rattle.wast_mentions.proofs.Judging.{Left}
use Rattle.wast_scopes.specs.Known.{mention_by}
use Rattle.wast_scopes.specs.Views.{known, Refused}
use Rattle.wast_scopes.proofs.body.check_local_types.Given as goal

abbrev pub invariant-loop-local : goal.invariant-loop-local
invariant-loop-local l = Left (mention_by (known l.scope)) is_met Refused (λ x. val_mentions (local_tree x).val_type) l.locals l.local-index
