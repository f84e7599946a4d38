use Rattle.std.proofs.Common.{◌≡◌, None, [], ◌∷◌, ap, inl, inr, subst, sym, ◌∙◌}
use Rattle.std.specs.Prelude.{option_map}
use Rattle.std.proofs.lemmas.Result.{err_from_is_err_and}
use Rattle.wasm_encoder_base.specs.Table as table
use Rattle.wast_parser.specs.Identifiers.{identifier_tree}
use Rattle.wast_signatures.specs.SignatureViews.{name_tree}
use Rattle.wast_module_fields.specs.MemoryViews.{defined_memory, memory_definition}
use Rattle.wast_module_fields.specs.FieldTree.{Define}
use Rattle.wast_meaning.specs.Spaces.{bound, bound_segment, items}
use Rattle.wast_meaning.specs.Views.{space_view}
use Rattle.wast_spaces.proofs.Written.{memory_items}
use Rattle.wast_name_maps.specs.Gathered.{bound_names}
use Rattle.wast_name_maps.specs.Numbered.{NamesJoined}
use Rattle.wast_name_maps.proofs.Gathering.{join_definition, unfit_definition}
use Rattle.wast_name_maps.proofs.items.add_memory.Goals as goal

pub returns-in_err-add : goal.returns-in_err-add
returns-in_err-add c =
    let t = c.args.memory.now in
    let first = bound table.Memories (option_map identifier_tree t.id) (option_map name_tree t.name) in
    let p = err_from_is_err_and c.from_residual.result c.from_residual.ensures.1 in
    rw (p.1, p.2) (
    unfit_definition (space_view c.args.space) c.args.names.now (first ∷ []) (bound_segment (defined_memory t.kind)) (items (Define (memory_definition t))) _ (memory_items t) c.in_err-add.ensures
    )

pub returns-in-Inline : goal.returns-in-Inline
returns-in-Inline c =
    let t = c.args.memory.now in
    let first = bound table.Memories (option_map identifier_tree t.id) (option_map name_tree t.name) in
    join_definition c.add_segment.result (space_view c.args.space) c.args.names.now c.add.new.names c.add_segment.new.names (first ∷ []) (bound table.Datas None None ∷ []) (items (Define (memory_definition t)))
    (memory_items t ∙ ap (λ k. first ∷ bound_segment (defined_memory k)) c.in-Inline.is) c.in_ok-add.ensures c.add_segment.ensures

pub returns-in-Import : goal.returns-in-Import
returns-in-Import c =
    let t = c.args.memory.now in
    let first = bound table.Memories (option_map identifier_tree t.id) (option_map name_tree t.name) in
    let alone : bound_segment (defined_memory t.kind) ≡ [] = elim c.in-Import.is [ inl h ↦ ap (λ k. bound_segment (defined_memory k)) h.2 | inr h ↦ ap (λ k. bound_segment (defined_memory k)) h.1 ] in
    subst (NamesJoined c.args.names.now c.add.new.names) (ap (bound_names (space_view c.args.space)) (sym (memory_items t ∙ ap (λ l. first ∷ l) alone))) c.in_ok-add.ensures
