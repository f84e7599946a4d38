use Rattle.std.proofs.Common.{ℕ, List, Option, Some, ◌++◌, map, ap, sym, ◌∙◌}
use Rattle.std.specs.Prelude.{option_map}
use Rattle.std.specs.List.{flat_map}
use Rattle.std.proofs.lemmas.Result.{IfOk-weaker}
use Rattle.std.proofs.lemmas.List.{map-append}
use Rattle.wasm_encoder_base.specs.Table as table
use Rattle.wast_grammar.specs.Tokens.{Name}
use Rattle.wast_signatures.specs.TypeTree.{Sig}
use Rattle.wast_module_fields.specs.ModuleFieldViews.{field_tree}
use Rattle.wast_names.specs.Space as names
use Rattle.wast_names.specs.Views.{space}
use Rattle.wast_meaning.specs.Implied.{written_types}
use Rattle.wast_spaces.specs.Views.{spaces_of}
use Rattle.wast_implied.specs.Views.{known}
use Rattle.wast_scopes.specs.Numbered.{numbered_sig}
use Rattle.wast_scopes.specs.Signatures.{func_type}
use Rattle.wast_scopes.proofs.signatures.Signatures.of.Goals as goal

pub returns-in-Ok : goal.returns-in-Ok
returns-in-Ok c =
    let types = spaces_of c.args.spaces.now table.Types in
    let written : List (Option (Sig Name ℕ)) = map func_type (flat_map written_types (map field_tree c.args.fields.now)) in
    let implied : List (Option (Sig Name ℕ)) = map (λ u. Some u.1) (known c.args.implied.now).implied in
    IfOk-weaker c.with_implied.result _ _ (λ s h.
    h ∙ ap (λ l. l ++ map (option_map (numbered_sig (space c.space-in-Ok.result.now).look)) implied) (c.in-Ok.ensures ∙ ap (λ (q : names.Space Name). map (option_map (numbered_sig q.look)) written) c.space.ensures)
    ∙ ap (λ (q : names.Space Name). map (option_map (numbered_sig types.look)) written ++ map (option_map (numbered_sig q.look)) implied) c.space-in-Ok.ensures
    ∙ sym (map-append (option_map (numbered_sig types.look)) written implied)) c.with_implied.ensures
