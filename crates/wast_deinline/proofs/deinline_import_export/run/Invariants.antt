use Rattle.std.proofs.Common.{◌≡◌, ◌+◌, map}
use Rattle.std.specs.List.{count_by}
use Rattle.wast_module_fields.specs.ModuleFieldViews.{field_tree}
use Rattle.wast_meaning.specs.Written.{by_counter, takes_name, written_out}
use Rattle.wast_meaning.specs.Made.{made}
use Rattle.wast_deinline.proofs.deinline_import_export.run.Given as goal

abbrev pub invariant-loop-field : goal.invariant-loop-field
invariant-loop-field l = record {
  written : map field_tree l.out.items ≡ written_out (by_counter made l.fn.gensym (map field_tree l.yielded)) (map field_tree l.yielded);
  count : l.gensym ≡ l.fn.gensym + count_by takes_name (map field_tree l.yielded);
}
