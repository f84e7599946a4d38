use Rattle.std.proofs.Common.{◌≡◌, None, [], ◌∷◌, ap, inl, inr, subst, sym}
use Rattle.std.specs.Prelude.{option_map}
use Rattle.std.proofs.lemmas.Result.{err_from_is_err_and}
use Rattle.wasm_encoder_base.specs.Table as table
use Rattle.wast_parser.specs.Identifiers.{identifier_tree}
use Rattle.wast_signatures.specs.SignatureViews.{name_tree}
use Rattle.wast_module_fields.specs.MemoryViews.{defined_memory}
use Rattle.wast_names.specs.Demand.{Refuses}
use Rattle.wast_meaning.specs.Spaces.{bound, bound_segment}
use Rattle.wast_spaces.specs.Joins.{Joined, Joins, joining}
use Rattle.wast_spaces.specs.Views.{spaces_of}
use Rattle.wast_spaces.proofs.Joins.{joins_then, refused_first}
use Rattle.wast_spaces.proofs.Written.{memory_items}
use Rattle.wast_spaces.proofs.spaces.Spaces.add_memory.Goals as goal

pub returns-in_err-add : goal.returns-in_err-add
returns-in_err-add c =
    let old = c.args.self.now in
    let t = c.args.memory.now in
    let one = bound table.Memories (option_map identifier_tree t.id) (option_map name_tree t.name) ∷ [] in
    let p = err_from_is_err_and c.from_residual.result c.from_residual.ensures.1 in
    rw (p.1, p.2) (
    subst (λ bs. Refuses (joining (spaces_of old) bs) c.in_err-add.field-0.0) (sym (memory_items t))
    (refused_first old one (bound_segment (defined_memory t.kind)) _ (c.in_err-add.ensures (option_map name_tree t.name)))
    )

pub returns-in-Inline : goal.returns-in-Inline
returns-in-Inline c =
    let old = c.args.self.now in
    let mid = c.add.new.self in
    let new = c.add-in-Inline.new.self in
    let t = c.args.memory.now in
    let one = bound table.Memories (option_map identifier_tree t.id) (option_map name_tree t.name) ∷ [] in
    subst (Joins c.add-in-Inline.result old new) (sym (memory_items t)) (
    joins_then c.add-in-Inline.result old mid new one (bound_segment (defined_memory t.kind)) (c.in_ok-add.ensures (option_map name_tree t.name))
    (subst (λ k. Joins c.add-in-Inline.result mid new (bound_segment (defined_memory k))) (sym c.in-Inline.is) (c.add-in-Inline.ensures None))
    )

pub returns-in-Import : goal.returns-in-Import
returns-in-Import c =
    let old = c.args.self.now in
    let mid = c.add.new.self in
    let t = c.args.memory.now in
    let first = bound table.Memories (option_map identifier_tree t.id) (option_map name_tree t.name) in
    let alone : bound_segment (defined_memory t.kind) ≡ [] = elim c.in-Import.is [ inl h ↦ ap (λ k. bound_segment (defined_memory k)) h.2 | inr h ↦ ap (λ k. bound_segment (defined_memory k)) h.1 ] in
    subst (Joined old mid) (sym (memory_items t)) (subst (λ l. Joined old mid (first ∷ l)) (sym alone) (c.in_ok-add.ensures (option_map name_tree t.name)))
