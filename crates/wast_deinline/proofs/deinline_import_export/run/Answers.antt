use Rattle.std.proofs.Common.{map, length, ap, sym, ◌∙◌}
use Rattle.std.proofs.lemmas.Iterator.Adapters.{YieldsList-from_vec}
use Rattle.std.proofs.lemmas.Iterator.Consumers.{YieldsList-turn, YieldsList-so_far}
use Rattle.std.proofs.lemmas.List.{map-id}
use Rattle.wast_module_fields.specs.ModuleFieldViews.{field_tree}
use Rattle.wast_meaning.specs.Made.{made}
use Rattle.wast_deinline.proofs.Counting.{written_more, count_more, count_within}
use Rattle.wast_deinline.proofs.deinline_import_export.run.Goals as goal

pub loop-field-preserved : goal.loop-field-preserved
loop-field-preserved c = record {
  written =
      written_more made field_tree c.args.gensym.now c.loop-field.gensym (map field_tree c.loop-field.out.items) _ c.loop-field.yielded c.in-Some.field
      c.loop-field.invariant.written c.loop-field.invariant.count c.in_ok-write_out.ensures.written;
  count =
      count_more field_tree c.args.gensym.now c.loop-field.gensym _ c.loop-field.yielded c.in-Some.field c.loop-field.invariant.count
      c.write_out.ensures.counted;
}

pub returns-in_err-write_out-clause-bounded : goal.returns-in_err-write_out-clause-bounded
returns-in_err-write_out-clause-bounded c =
    let items = c.args.fields.items in
    let gives = c.into_iter-field-iterator.ensures.into_iter_gives.0 in
    let road = YieldsList-from_vec items gives (c.into_iter-field-iterator.result.rest.ok.0 ∙ ap length gives) in
    let yielded = c.loop-field.yielded in
    let turn = YieldsList-turn road yielded _ c.loop-field.yielded_by c.next.result c.next.new.self c.in-Some.field c.in-Some.is c.next.ensures.steps in
    let so_far = sym (map-id yielded) ∙ YieldsList-so_far road yielded _ c.loop-field.yielded_by in
    count_within field_tree c.args.gensym.now c.loop-field.gensym _ items yielded c.in-Some.field so_far turn.0 turn.1 c.loop-field.invariant.count c.write_out.ensures.counted
