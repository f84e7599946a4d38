use Rattle.std.proofs.Common.{◌≡◌, ◌++◌, map, ap, ◌∙◌}
use Rattle.std.specs.Prelude.{option_map}
use Rattle.std.proofs.lemmas.List.{map-append}
use Rattle.wasm_encoder_base.specs.Table as table
use Rattle.wast_grammar.specs.Spelling.{same_name}
use Rattle.wast_parser.specs.Identifiers.{identifier_tree}
use Rattle.wast_signatures.specs.SignatureViews.{use_tree}
use Rattle.wast_module_fields.specs.FuncViews.{local_tree}
use Rattle.wast_names.specs.Space as names
use Rattle.wast_meaning.specs.Spaces.{space_word}
use Rattle.wast_scopes.specs.Known.{params_by}
use Rattle.wast_scopes.specs.Views.{known}
use Rattle.wast_scopes.proofs.Ids.{local_ids}
use Rattle.wast_scopes.proofs.Judged.{answers_as}
use Rattle.wast_scopes.proofs.body.local_names.Goals as goal

pub returns-clause-answers : goal.returns-clause-answers
returns-clause-answers c =
    let ids : map (option_map identifier_tree) c.deref.result.now ≡ params_by (known c.args.scope.now) (use_tree c.args.ty.now) ++ map (λ l. l.id) (map local_tree c.args.locals.now) =
    ap (map (option_map identifier_tree)) (c.deref.ensures.value ∙ c.in_ok-add_locals.ensures)
    ∙ map-append (option_map identifier_tree) c.in_ok-ids.ids.items (map (λ l. l.id) c.args.locals.now)
    ∙ ap (λ l. l ++ map (option_map identifier_tree) (map (λ x. x.id) c.args.locals.now)) c.in_ok-ids.ensures
    ∙ ap (λ l. params_by (known c.args.scope.now) (use_tree c.args.ty.now) ++ l) (local_ids c.args.locals.now) in
    answers_as c.of.result _ _ (ap (names.distinct same_name (space_word table.Locals)) ids) c.of.ensures.answers
