use Rattle.std.proofs.Common.{◌≡◌, None, [], ◌∷◌, ap, inl, inr, subst, sym, ◌∙◌}
use Rattle.std.specs.Prelude.{option_map}
use Rattle.std.proofs.lemmas.Result.{err_from_is_err_and}
use Rattle.wasm_encoder_base.specs.Table as table
use Rattle.wast_parser.specs.Identifiers.{identifier_tree}
use Rattle.wast_signatures.specs.SignatureViews.{name_tree}
use Rattle.wast_module_fields.specs.ElemViews.{defined_table, table_definition}
use Rattle.wast_module_fields.specs.FieldTree.{Define}
use Rattle.wast_meaning.specs.Spaces.{bound, bound_segment, items}
use Rattle.wast_meaning.specs.Views.{space_view}
use Rattle.wast_spaces.proofs.Written.{table_items}
use Rattle.wast_name_maps.specs.Gathered.{bound_names}
use Rattle.wast_name_maps.specs.Numbered.{NamesJoined}
use Rattle.wast_name_maps.proofs.Gathering.{join_definition, unfit_definition}
use Rattle.wast_name_maps.proofs.items.add_table.Goals as goal

pub returns-in_err-add : goal.returns-in_err-add
returns-in_err-add c =
    let t = c.args.table.now in
    let first = bound table.Tables (option_map identifier_tree t.id) (option_map name_tree t.name) in
    let p = err_from_is_err_and c.from_residual.result c.from_residual.ensures.1 in
    rw (p.1, p.2) (
    unfit_definition (space_view c.args.space) c.args.names.now (first ∷ []) (bound_segment (defined_table t.kind)) (items (Define (table_definition t))) _ (table_items t) c.in_err-add.ensures
    )

pub returns-in-Inline : goal.returns-in-Inline
returns-in-Inline c =
    let t = c.args.table.now in
    let first = bound table.Tables (option_map identifier_tree t.id) (option_map name_tree t.name) in
    join_definition c.add_segment.result (space_view c.args.space) c.args.names.now c.add.new.names c.add_segment.new.names (first ∷ []) (bound table.Elems None None ∷ []) (items (Define (table_definition t)))
    (table_items t ∙ ap (λ k. first ∷ bound_segment (defined_table k)) c.in-Inline.is) c.in_ok-add.ensures c.add_segment.ensures

pub returns-in-Import : goal.returns-in-Import
returns-in-Import c =
    let t = c.args.table.now in
    let first = bound table.Tables (option_map identifier_tree t.id) (option_map name_tree t.name) in
    let alone : bound_segment (defined_table t.kind) ≡ [] = elim c.in-Import.is [ inl h ↦ ap (λ k. bound_segment (defined_table k)) h.2 | inr h ↦ ap (λ k. bound_segment (defined_table k)) h.2 ] in
    subst (NamesJoined c.args.names.now c.add.new.names) (ap (bound_names (space_view c.args.space)) (sym (table_items t ∙ ap (λ l. first ∷ l) alone))) c.in_ok-add.ensures
