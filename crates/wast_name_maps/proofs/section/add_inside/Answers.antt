use Rattle.std.proofs.Common.{◌≡◌, ◌++◌, ◌<◌, ◌^◌, OnOk, map, length, ap, sym, subst, ◌∙◌}
use Rattle.std.specs.Prelude.{option_map}
use Rattle.std.specs.List.{flat_map}
use Rattle.std.proofs.lemmas.Result.{err_from_is_err_and, on_ok_weaker}
use Rattle.wasm_encoder_base.specs.Lists.{list_bytes}
use Rattle.wasm_encoder_custom.specs.Names.{inner_number_of}
use Rattle.wasm_layout.specs.IsModule.{AreInner}
use Rattle.wast_parser.specs.Identifiers.{identifier_tree}
use Rattle.wast_signatures.specs.SignatureViews.{name_tree}
use Rattle.wast_module_fields.specs.ModuleFieldViews.{field_tree}
use Rattle.wast_meaning.specs.Implied.{written_types}
use Rattle.wast_name_maps.specs.Gathered.{field_groups}
use Rattle.wast_name_maps.specs.Kinds.{inside_view, maps_of}
use Rattle.wast_spaces.specs.Params.{param_count}
use Rattle.wast_name_maps.specs.Subsections.{subsection_if}
use Rattle.wast_name_maps.proofs.Meant.{inside_meant}
use Rattle.wast_name_maps.proofs.Ordered.{inside_fit, inside_if, inside_listed, inside_rise, inside_size_fits}
use Rattle.wast_name_maps.proofs.section.add_inside.Goals as goal

pub returns-clause-added : goal.returns-clause-added
returns-clause-added c =
    let fs = map field_tree c.args.fields.now in
    let k = inside_view c.args.kind in
    let groups = flat_map (field_groups k (map param_count (flat_map written_types fs))) fs in
    let same = inside_meant fs (option_map name_tree c.args.name.now) (option_map identifier_tree c.args.id.now) c.requires k in
    subst (λ b. OnOk c.add_groups.result (c.add_groups.new.section ≡ c.args.section.now ++ b))
    (ap (subsection_if (inner_number_of k)) (inside_listed (maps_of c.args.name.now c.args.id.now c.args.fields.now) k groups c.in_ok-groups.groups same c.in_ok-groups.ensures) ∙ inside_if k ((maps_of c.args.name.now c.args.id.now c.args.fields.now).inner k))
    c.add_groups.ensures.added

pub returns-clause-in_range : goal.returns-clause-in_range
returns-clause-in_range c =
    let fs = map field_tree c.args.fields.now in
    let k = inside_view c.args.kind in
    let groups = flat_map (field_groups k (map param_count (flat_map written_types fs))) fs in
    let same = inside_meant fs (option_map name_tree c.args.name.now) (option_map identifier_tree c.args.id.now) c.requires k in
    on_ok_weaker c.add_groups.result (λ h. subst AreInner same (inside_rise groups c.in_ok-groups.ensures.fit)) c.add_groups.ensures.added

pub returns-clause-too_large : goal.returns-clause-too_large
returns-clause-too_large c = λ e fits.
    let fs = map field_tree c.args.fields.now in
    let k = inside_view c.args.kind in
    let groups = flat_map (field_groups k (map param_count (flat_map written_types fs))) fs in
    let same = inside_meant fs (option_map name_tree c.args.name.now) (option_map identifier_tree c.args.id.now) c.requires k in
    c.add_groups.ensures.too_large e (subst (λ l. length (list_bytes l) < 2 ^ 32) (sym (inside_listed (maps_of c.args.name.now c.args.id.now c.args.fields.now) k groups c.in_ok-groups.groups same c.in_ok-groups.ensures)) (inside_size_fits (maps_of c.args.name.now c.args.id.now c.args.fields.now) k fits))

pub returns-in_err-groups-clause-too_large : goal.returns-in_err-groups-clause-too_large
returns-in_err-groups-clause-too_large c =
    let fs = map field_tree c.args.fields.now in
    let k = inside_view c.args.kind in
    let groups = flat_map (field_groups k (map param_count (flat_map written_types fs))) fs in
    let same = inside_meant fs (option_map name_tree c.args.name.now) (option_map identifier_tree c.args.id.now) c.requires k in
    let p = err_from_is_err_and c.from_residual.result c.from_residual.ensures.1 in
    rw (p.1, p.2) (λ e fits. c.in_err-groups.ensures (cc) (inside_fit (maps_of c.args.name.now c.args.id.now c.args.fields.now) k groups same fits))
