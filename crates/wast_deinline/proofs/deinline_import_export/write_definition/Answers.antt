use Rattle.std.proofs.Common.{◌+◌, ◌++◌, [], ◌∷◌, map, ap, sym, ◌∙◌}
use Rattle.std.specs.Prelude.{if◌then◌else◌}
use Rattle.std.proofs.lemmas.Result.{on_ok_weaker}
use Rattle.wast_parser.specs.Identifiers.{identifier_tree}
use Rattle.wast_module_fields.specs.ModuleFieldViews.{field_tree}
use Rattle.wast_meaning.specs.Made.{made}
use Rattle.wast_parser_core.proofs.WordSets.{some_map}
use Rattle.wast_deinline.specs.Definitions.{definition_view}
use Rattle.wast_deinline.proofs.Parts.{said_parts, said_count, unsaid_count, unsaid_out, unsaid_segment}
use Rattle.wast_deinline.proofs.deinline_import_export.write_definition.Goals as goal

pub returns-in_ok-clone-clause-written : goal.returns-in_ok-clone-clause-written
returns-in_ok-clone-clause-written c =
    let d = definition_view c.args.definition in
    let said = sym c.is_said-is_said.ensures ∙ c.if-is_said.true in
    on_ok_weaker c.write_parts.result
    (λ h. h ∙ ap (λ l. map field_tree c.args.out.now.items ++ l)
    (said_parts (made c.args.gensym.now) d (identifier_tree c.own_id-id.result) _ said c.own_id-id.ensures.named (ap identifier_tree c.in_ok-clone.ensures.same)))
    c.write_parts.ensures

pub returns-in_ok-clone-clause-counted : goal.returns-in_ok-clone-clause-counted
returns-in_ok-clone-clause-counted c =
    let d = definition_view c.args.definition in
    let said = sym c.is_said-is_said.ensures ∙ c.if-is_said.true in
    said_count d c.args.gensym.now _ said
    (c.own_id-id.ensures.counted ∙ ap (λ b. if b then c.args.gensym.now else c.args.gensym.now + 1) (sym (some_map identifier_tree c.args.definition.id)))

pub returns-in_err-clone-clause-counted : goal.returns-in_err-clone-clause-counted
returns-in_err-clone-clause-counted c =
    let d = definition_view c.args.definition in
    let said = sym c.is_said-is_said.ensures ∙ c.if-is_said.true in
    said_count d c.args.gensym.now _ said
    (c.own_id-id.ensures.counted ∙ ap (λ b. if b then c.args.gensym.now else c.args.gensym.now + 1) (sym (some_map identifier_tree c.args.definition.id)))

pub returns-else-is_said-clause-written : goal.returns-else-is_said-clause-written
returns-else-is_said-clause-written c =
    let d = definition_view c.args.definition in
    let unsaid = sym c.is_said-is_said.ensures ∙ c.if-is_said.false in
    on_ok_weaker c.push.result
    (λ h. h ∙ ap (λ f. map field_tree c.args.out.now.items ++ f ∷ []) (c.into_field.ensures (unsaid_segment d unsaid))
    ∙ ap (λ l. map field_tree c.args.out.now.items ++ l) (sym (unsaid_out (made c.args.gensym.now) d unsaid)))
    c.push.ensures

pub returns-else-is_said-clause-counted : goal.returns-else-is_said-clause-counted
returns-else-is_said-clause-counted c =
    unsaid_count (definition_view c.args.definition) c.args.gensym.now (sym c.is_said-is_said.ensures ∙ c.if-is_said.false)
