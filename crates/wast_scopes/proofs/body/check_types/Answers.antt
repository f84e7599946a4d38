use Rattle.std.proofs.Common.{map}
use Rattle.std.specs.List.{flat_map}
use Rattle.wasm_encoder_base.specs.Table as table
use Rattle.wast_signatures.specs.SignatureViews.{use_tree}
use Rattle.wast_module_fields.specs.FuncViews.{local_tree}
use Rattle.wast_names.specs.Space as names
use Rattle.wast_meaning.specs.Mentions.{local_mentions}
use Rattle.wast_scopes.specs.Known.{use_by, mention_by}
use Rattle.wast_scopes.specs.Views.{known}
use Rattle.wast_names.proofs.Demands.{refuses_first}
use Rattle.wast_scopes.proofs.Judged.{answers_then}
use Rattle.wast_scopes.proofs.body.check_types.Goals as goal

pub returns-in-Ok : goal.returns-in-Ok
returns-in-Ok c = answers_then c.check_local_types.result (use_by (known c.args.scope.now) (use_tree c.args.ty.now)) (flat_map (mention_by (known c.args.scope.now)) (local_mentions (map local_tree c.args.locals.now))) c.in-Ok.ensures c.check_local_types.ensures

pub returns-in-Err : goal.returns-in-Err
returns-in-Err c = refuses_first (use_by (known c.args.scope.now) (use_tree c.args.ty.now)) (flat_map (mention_by (known c.args.scope.now)) (local_mentions (map local_tree c.args.locals.now))) c.in-Err.e c.in-Err.ensures
