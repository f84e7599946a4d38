use Rattle.std.proofs.Common.{◌++◌, map}
use Rattle.std.specs.List.{flat_map}
use Rattle.wasm_encoder_base.specs.Table as table
use Rattle.wast_grammar.specs.Spelling.{same_name}
use Rattle.wast_signatures.specs.SignatureViews.{use_tree}
use Rattle.wast_module_fields.specs.FuncViews.{local_tree}
use Rattle.wast_names.specs.Space as names
use Rattle.wast_meaning.specs.Mentions.{local_mentions}
use Rattle.wast_meaning.specs.Spaces.{space_word}
use Rattle.wast_scopes.specs.Known.{use_by, mention_by, params_by}
use Rattle.wast_scopes.specs.Views.{known}
use Rattle.wast_names.proofs.Demands.{refuses_first}
use Rattle.wast_scopes.proofs.Judged.{answers_then}
use Rattle.wast_scopes.proofs.body.check_head.Goals as goal

pub returns-in-Ok-clause-answers : goal.returns-in-Ok-clause-answers
returns-in-Ok-clause-answers c = answers_then c.local_names.result (use_by (known c.args.scope.now) (use_tree c.args.ty.now) ++ flat_map (mention_by (known c.args.scope.now)) (local_mentions (map local_tree c.args.locals.now))) (names.distinct same_name (space_word table.Locals) (params_by (known c.args.scope.now) (use_tree c.args.ty.now) ++ map (λ l. l.id) (map local_tree c.args.locals.now))) c.in-Ok.ensures c.local_names.ensures.answers

pub returns-in-Err-clause-answers : goal.returns-in-Err-clause-answers
returns-in-Err-clause-answers c = refuses_first (use_by (known c.args.scope.now) (use_tree c.args.ty.now) ++ flat_map (mention_by (known c.args.scope.now)) (local_mentions (map local_tree c.args.locals.now))) (names.distinct same_name (space_word table.Locals) (params_by (known c.args.scope.now) (use_tree c.args.ty.now) ++ map (λ l. l.id) (map local_tree c.args.locals.now))) c.in-Err.e c.in-Err.ensures
