use Rattle.std.proofs.Common.{◌≡◌, ◌++◌, ◌<◌, ◌^◌, OnOk, map, length, ap, sym, subst, ◌∙◌}
use Rattle.std.specs.Prelude.{option_map}
use Rattle.std.specs.List.{flat_map}
use Rattle.std.proofs.lemmas.Result.{err_from_is_err_and, on_ok_weaker}
use Rattle.wasm_encoder_base.specs.Lists.{list_bytes}
use Rattle.wasm_encoder_custom.specs.Names.{number_of}
use Rattle.wasm_layout.specs.IsModule.{IsMap}
use Rattle.wast_parser.specs.Identifiers.{identifier_tree}
use Rattle.wast_signatures.specs.SignatureViews.{name_tree}
use Rattle.wast_module_fields.specs.ModuleFieldViews.{field_tree}
use Rattle.wast_meaning.specs.Spaces.{items}
use Rattle.wast_meaning.specs.Views.{space_view}
use Rattle.wast_meant.specs.NamesMeant.{named}
use Rattle.wast_name_maps.specs.Gathered.{bound_names}
use Rattle.wast_name_maps.specs.Kinds.{items_view, maps_of}
use Rattle.wast_name_maps.specs.Subsections.{subsection_if}
use Rattle.wast_name_maps.proofs.Meant.{items_meant}
use Rattle.wast_name_maps.proofs.Ordered.{items_fit, items_if, items_listed, items_rise, items_size_fits}
use Rattle.wast_name_maps.proofs.section.add_items.Goals as goal

pub returns-clause-added : goal.returns-clause-added
returns-clause-added c =
    let fs = map field_tree c.args.fields.now in
    let k = items_view c.args.kind in
    let names = bound_names (space_view c.space.result) (flat_map items fs) in
    let same = ap (λ space. named (bound_names space (flat_map items fs))) c.space.ensures ∙ items_meant (option_map name_tree c.args.name.now) (option_map identifier_tree c.args.id.now) fs k in
    subst (λ b. OnOk c.add_names.result (c.add_names.new.section ≡ c.args.section.now ++ b))
    (ap (subsection_if (number_of k)) (items_listed (maps_of c.args.name.now c.args.id.now c.args.fields.now) k names c.in_ok-names.names same c.in_ok-names.ensures) ∙ items_if k ((maps_of c.args.name.now c.args.id.now c.args.fields.now).items k))
    c.add_names.ensures.added

pub returns-clause-in_range : goal.returns-clause-in_range
returns-clause-in_range c =
    let fs = map field_tree c.args.fields.now in
    let k = items_view c.args.kind in
    let names = bound_names (space_view c.space.result) (flat_map items fs) in
    let same = ap (λ space. named (bound_names space (flat_map items fs))) c.space.ensures ∙ items_meant (option_map name_tree c.args.name.now) (option_map identifier_tree c.args.id.now) fs k in
    on_ok_weaker c.add_names.result (λ h. subst IsMap same (items_rise names c.in_ok-names.ensures.fit)) c.add_names.ensures.added

pub returns-clause-too_large : goal.returns-clause-too_large
returns-clause-too_large c = λ e fits.
    let fs = map field_tree c.args.fields.now in
    let k = items_view c.args.kind in
    let names = bound_names (space_view c.space.result) (flat_map items fs) in
    let same = ap (λ space. named (bound_names space (flat_map items fs))) c.space.ensures ∙ items_meant (option_map name_tree c.args.name.now) (option_map identifier_tree c.args.id.now) fs k in
    c.add_names.ensures.too_large e (subst (λ l. length (list_bytes l) < 2 ^ 32) (sym (items_listed (maps_of c.args.name.now c.args.id.now c.args.fields.now) k names c.in_ok-names.names same c.in_ok-names.ensures)) (items_size_fits (maps_of c.args.name.now c.args.id.now c.args.fields.now) k fits))

pub returns-in_err-names-clause-too_large : goal.returns-in_err-names-clause-too_large
returns-in_err-names-clause-too_large c =
    let fs = map field_tree c.args.fields.now in
    let k = items_view c.args.kind in
    let names = bound_names (space_view c.space.result) (flat_map items fs) in
    let same = ap (λ space. named (bound_names space (flat_map items fs))) c.space.ensures ∙ items_meant (option_map name_tree c.args.name.now) (option_map identifier_tree c.args.id.now) fs k in
    let p = err_from_is_err_and c.from_residual.result c.from_residual.ensures.1 in
    rw (p.1, p.2) (λ e fits. c.in_err-names.ensures (cc) (items_fit (maps_of c.args.name.now c.args.id.now c.args.fields.now) k names same fits))
