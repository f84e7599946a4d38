use Rattle.std.proofs.Common.{◌++◌, ap, ◌∙◌, map, length, arith}
use Rattle.std.specs.Prelude.{option_map}
use Rattle.wasm_layout.specs.Layout.{name_bytes}
use Rattle.wast_parser.specs.Identifiers.{identifier_tree}
use Rattle.wast_signatures.specs.SignatureViews.{name_tree}
use Rattle.wast_module_fields.specs.ModuleFieldViews.{field_tree}
use Rattle.wast_name_maps.specs.Maps.{maps_in}
use Rattle.wast_name_maps.specs.Subsections.{if_any}
use Rattle.wast_name_maps.proofs.Ordered.{data_is}
use Rattle.wast_name_maps.proofs.section.name_section.Goals as goal

pub returns-clause-named : goal.returns-clause-named
returns-clause-named c =
    let maps = maps_in (option_map name_tree c.args.name.now) (option_map identifier_tree c.args.id.now) (map field_tree c.args.fields.now) in
    c.if_any.ensures ∙ ap if_any (c.in_ok-add_maps.ensures.added ∙ ap (λ v. v ++ name_bytes maps) c.new-section.ensures) ∙ data_is maps

pub returns-clause-fits : goal.returns-clause-fits
returns-clause-fits c =
    let maps = maps_in (option_map name_tree c.args.name.now) (option_map identifier_tree c.args.id.now) (map field_tree c.args.fields.now) in
    let same = ap length (c.in_ok-add_maps.ensures.added ∙ ap (λ v. v ++ name_bytes maps) c.new-section.ensures) in
    let small = c.is_too_large.ensures.small c.if-is_too_large.false in
    omega (arith, same, small)

pub returns-then-is_too_large-clause-too_large : goal.returns-then-is_too_large-clause-too_large
returns-then-is_too_large-clause-too_large c = λ e fits.
    let maps = maps_in (option_map name_tree c.args.name.now) (option_map identifier_tree c.args.id.now) (map field_tree c.args.fields.now) in
    let same = ap length (c.in_ok-add_maps.ensures.added ∙ ap (λ v. v ++ name_bytes maps) c.new-section.ensures) in
    let large = c.is_too_large.ensures.large c.if-is_too_large.true in
    let size = fits.size in
    absurd (omega (arith, same, large, size))
