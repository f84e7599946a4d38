use Rattle.std.proofs.Common.{ℕ, List, arith}
use Rattle.std.proofs.lemmas.Result.{err_from_is_err_and}
use Rattle.wast_grammar.specs.Tokens.{Name}
use Rattle.wasm_encoder_custom.specs.Custom.{Custom, CustomFits}
use Rattle.wast_customs.specs.CustomViews.{place_tree}
use Rattle.wast_module_fields.specs.FieldTree.{Field}
use Rattle.wast_module_fields.specs.ModuleFieldViews.{field_tree}
use Rattle.wast_custom_sections.specs.Parts.{section_bytes, sections_at}
use Rattle.wast_custom_sections.proofs.Errors.{same_error}
use Rattle.wast_custom_sections.proofs.Placed.{places_append}
use Rattle.wast_custom_sections.proofs.Steps.{bytes_more, part_of_all, all_more}
use Rattle.wast_custom_sections.proofs.customs.sections_at.Goals as goal

pub loop-field-preserved : goal.loop-field-preserved
loop-field-preserved c =
    let place = place_tree c.args.place in
    let parts : List (Field Name ℕ) → List Custom = λ fs. sections_at fs place in
    let fields = c.args.fields.now in
    let i = c.loop-field.field-index in
    record {
      made = bytes_more parts (places_append place) section_bytes field_tree fields i c.field-item.result (omega arith) c.field-item.is c.loop-field.invariant.made c.in_ok-put_field.ensures.spelled;
      fits = all_more parts (places_append place) section_bytes field_tree CustomFits fields i c.field-item.result (omega arith) c.field-item.is c.loop-field.invariant.fits c.in_ok-put_field.ensures.fit;
    }

pub returns-in_err-put_field-clause-too_large : goal.returns-in_err-put_field-clause-too_large
returns-in_err-put_field-clause-too_large c =
    let place = place_tree c.args.place in
    let parts : List (Field Name ℕ) → List Custom = λ fs. sections_at fs place in
    let r = err_from_is_err_and c.from_residual.result c.from_residual.ensures.1 in
    rw (r.1, r.2) (λ e f. c.in_err-put_field.ensures.too_large (same_error e) (part_of_all parts (places_append place) section_bytes field_tree CustomFits c.args.fields.now c.loop-field.field-index c.field-item.result (omega arith) c.field-item.is f))
