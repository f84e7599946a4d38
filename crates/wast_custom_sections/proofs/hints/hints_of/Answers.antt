use Rattle.std.proofs.Common.{◌≡◌, ◌+◌, map, take, drop, flat_map}
use Rattle.std.proofs.lemmas.Result.{err_from_is_err_and}
use Rattle.wast_module_fields.specs.ModuleFieldViews.{field_tree}
use Rattle.wast_meant.specs.NamesMeant.{bodies_in}
use Rattle.wast_conversions.proofs.Each.{of_item}
use Rattle.wast_custom_sections.specs.Hints.{HintReady}
use Rattle.wast_custom_sections.proofs.Errors.{same_error}
use Rattle.wast_custom_sections.proofs.Numbered.{field_listed, field_fits, field_counted, field_of_all, field_room}
use Rattle.wast_custom_sections.proofs.Steps.{flat_more, flat_split}
use Rattle.wast_custom_sections.proofs.hints.hints_of.Goals as goal

pub put_field-requires : goal.put_field-requires
put_field-requires c = of_item HintReady field_tree c.args.fields.now c.loop-field.field-index c.field-item.result c.loop-field-test.true c.field-item.is c.requires

pub loop-field-preserved : goal.loop-field-preserved
loop-field-preserved c =
    let fields = c.args.fields.now in
    let i = c.loop-field.field-index in
    let x = c.field-item.result in
    let os = flat_map bodies_in (map field_tree (take i fields)) in
    let qs = bodies_in (field_tree x) in
    let bs = flat_map bodies_in (map field_tree (take (i + 1) fields)) in
    let more : bs ≡ _ = flat_more bodies_in field_tree fields i x c.loop-field-test.true c.field-item.is in
    let so_far = c.loop-field.invariant in
    let put = c.in_ok-put_field.ensures in
    record {
      made = field_listed os qs bs c.loop-field.number so_far.numbered more so_far.made put.fit put.added;
      fits = field_fits os qs bs c.loop-field.number so_far.numbered more so_far.fits put.fit;
      numbered = field_counted os qs bs c.loop-field.number so_far.numbered more c.function_count.ensures c.saturating_add-number.ensures;
    }

pub returns-in_err-put_field-clause-too_large : goal.returns-in_err-put_field-clause-too_large
returns-in_err-put_field-clause-too_large c =
    let fields = c.args.fields.now in
    let i = c.loop-field.field-index in
    let x = c.field-item.result in
    let os = flat_map bodies_in (map field_tree (take i fields)) in
    let qs = bodies_in (field_tree x) in
    let all = flat_map bodies_in (map field_tree fields) in
    let rest = flat_map bodies_in (map field_tree (drop (i + 1) fields)) in
    let split = flat_split bodies_in field_tree fields i x c.loop-field-test.true c.field-item.is in
    let so_far = c.loop-field.invariant in
    let r = err_from_is_err_and c.from_residual.result c.from_residual.ensures.1 in
    rw (r.1, r.2) (λ e f l. c.in_err-put_field.ensures.too_large (same_error e)
    (field_of_all os qs all c.loop-field.number so_far.numbered rest split f)
    (field_room os qs all c.loop-field.number so_far.numbered rest split f so_far.made l))
