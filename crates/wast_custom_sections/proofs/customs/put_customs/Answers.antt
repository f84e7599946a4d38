use Rattle.std.proofs.Common.{◌∙◌, map, refl, sym, subst}
use Rattle.std.proofs.lemmas.List.Folds.{flat_map-map}
use Rattle.std.proofs.lemmas.Result.{err_from_is_err_and}
use Rattle.wasm_layout.specs.Layout.{Free, piece_bytes}
use Rattle.wast_customs.specs.CustomViews.{place_tree}
use Rattle.wast_customs.proofs.Encodings.{encodes_as}
use Rattle.wast_module_fields.specs.ModuleFieldViews.{field_tree}
use Rattle.wast_custom_sections.specs.Parts.{AreCustom, sections_at}
use Rattle.wast_custom_sections.proofs.Errors.{same_error}
use Rattle.wast_custom_sections.proofs.Placed.{are_custom, pieces_fit, customs_fit}
use Rattle.wast_custom_sections.proofs.customs.put_customs.Goals as goal

pub put_sections-requires : goal.put_sections-requires
put_sections-requires c =
    let there = sections_at (map field_tree c.args.fields.now) (place_tree c.args.place) in
    subst AreCustom (sym (c.deref.ensures.value ∙ c.in_ok-sections.ensures.made)) (are_custom there)

pub returns-in_err-sections : goal.returns-in_err-sections
returns-in_err-sections c =
    let there = sections_at (map field_tree c.args.fields.now) (place_tree c.args.place) in
    let r = err_from_is_err_and c.from_residual.result c.from_residual.ensures.1 in
    rw (r.1, r.2) (record { spelled = tt; fit = tt; unchanged = refl; too_large = λ e f. c.in_err-sections.ensures.too_large (same_error e) (customs_fit there f) })

pub returns : goal.returns
returns c =
    let there = sections_at (map field_tree c.args.fields.now) (place_tree c.args.place) in
    encodes_as (c.deref.ensures.value ∙ c.in_ok-sections.ensures.made ∙ sym (flat_map-map piece_bytes Free there)) (λ u. pieces_fit there c.in_ok-sections.ensures.fits) (λ f. tt) c.put_sections.ensures
