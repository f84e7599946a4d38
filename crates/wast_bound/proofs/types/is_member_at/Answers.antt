use Rattle.std.proofs.Common.{ℕ, map, refl, ◌-◌, ◌+◌, ◌∙◌, ap, arith}
use Rattle.std.specs.Prelude.{slice_get}
use Rattle.std.specs.List.{flat_map}
use Rattle.wast_parser.specs.Identifiers.{identifier_tree}
use Rattle.wast_core.specs.ModuleFieldViews.{field_tree}
use Rattle.wast_bound.specs.Bound.{has, types}
use Rattle.wast_bound.proofs.TypeWalk.{types_from, number_here, number_past}
use Rattle.wast_bound.proofs.types.is_member_at.Goals as goal

pub returns-then-number-count : goal.returns-then-number-count
returns-then-number-count c =
    let fs = c.args.fields.now in
    let view = field_tree in
    let x = c.field-item.result in
    let k : ℕ = c.loop-field.number in
    c.has_at.ensures ∙ ap (has (identifier_tree c.args.id.now).0) (number_here view types fs c.loop-field.field-index x (types (view x)) k (slice_get (flat_map types (map view fs)) c.args.number) c.loop-field-test.true c.field-item.is refl
    (omega (arith, c.if-number-count.true, c.type_count-count.ensures)) c.loop-field.invariant)

pub loop-field-preserved : goal.loop-field-preserved
loop-field-preserved c =
    let fs = c.args.fields.now in
    let view = field_tree in
    let x = c.field-item.result in
    let k : ℕ = c.loop-field.number in
    let i : ℕ = c.loop-field.field-index in
    ap (λ m. slice_get (types_from view types fs (i + 1)) (k - m)) c.type_count-count.ensures
    ∙ number_past view types fs i x (types (view x)) k (slice_get (flat_map types (map view fs)) c.args.number) c.loop-field-test.true c.field-item.is refl
    (omega (arith, c.if-number-count.false, c.type_count-count.ensures)) c.loop-field.invariant
