use Rattle.std.proofs.Common.{[], ◌++◌, map, ap, ◌∙◌}
use Rattle.std.specs.List.{flat_map}
use Rattle.wasm_encoder_base.specs.Table as table
use Rattle.wast_grammar.specs.Spelling.{same_name}
use Rattle.wast_signatures.specs.SignatureViews.{use_tree}
use Rattle.wast_core_instr.specs.ExpressionViews.{expression_tree}
use Rattle.wast_module_fields.specs.FuncViews.{function_tree, local_tree}
use Rattle.wast_names.specs.Space as names
use Rattle.wast_names.specs.Views.{space}
use Rattle.wast_meaning.specs.Mentions.{local_mentions}
use Rattle.wast_meaning.specs.Spaces.{space_word}
use Rattle.wast_scopes.specs.Known.{use_by, mention_by, params_by, locals_by, instrs_by, with_locals}
use Rattle.wast_scopes.specs.Views.{known}
use Rattle.wast_names.proofs.Demands.{refuses_first}
use Rattle.wast_scopes.proofs.Judged.{answers_then, answers_as}
use Rattle.wast_scopes.proofs.Scopes.{known_with}
use Rattle.wast_scopes.proofs.body.check_func.Goals as goal

pub returns-in-Ok : goal.returns-in-Ok
returns-in-Ok c =
    let f = function_tree c.args.ty.now c.args.locals.now c.args.body.now in
    let inner = known_with c.args.scope.now c.with_locals.result (locals_by (known c.args.scope.now) f) c.with_locals.ensures.spaces c.with_locals.ensures.signatures (ap space c.with_locals.ensures.locals ∙ c.in-Ok.ensures.numbers) in
    answers_then c.check_constant.result (use_by (known c.args.scope.now) (use_tree c.args.ty.now) ++ flat_map (mention_by (known c.args.scope.now)) (local_mentions (map local_tree c.args.locals.now)) ++ names.distinct same_name (space_word table.Locals) (params_by (known c.args.scope.now) (use_tree c.args.ty.now) ++ map (λ l. l.id) (map local_tree c.args.locals.now))) (instrs_by (with_locals (known c.args.scope.now) (locals_by (known c.args.scope.now) (function_tree c.args.ty.now c.args.locals.now c.args.body.now))) [] (expression_tree c.args.body.now).instrs) c.in-Ok.ensures.answers
    (answers_as c.check_constant.result _ _ (ap (λ k. instrs_by k [] (expression_tree c.args.body.now).instrs) inner) c.check_constant.ensures)

pub returns-in-Err : goal.returns-in-Err
returns-in-Err c = refuses_first (use_by (known c.args.scope.now) (use_tree c.args.ty.now) ++ flat_map (mention_by (known c.args.scope.now)) (local_mentions (map local_tree c.args.locals.now)) ++ names.distinct same_name (space_word table.Locals) (params_by (known c.args.scope.now) (use_tree c.args.ty.now) ++ map (λ l. l.id) (map local_tree c.args.locals.now))) (instrs_by (with_locals (known c.args.scope.now) (locals_by (known c.args.scope.now) (function_tree c.args.ty.now c.args.locals.now c.args.body.now))) [] (expression_tree c.args.body.now).instrs) c.in-Err.e c.in-Err.ensures.answers
