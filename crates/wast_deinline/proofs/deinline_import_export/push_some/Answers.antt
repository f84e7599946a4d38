use Rattle.std.proofs.Common.{sym, append-nil, map}
use Rattle.wast_module_fields.specs.ModuleFieldViews.{field_tree}
use Rattle.wast_deinline.proofs.deinline_import_export.push_some.Goals as goal

pub returns-in-Some : goal.returns-in-Some
returns-in-Some c = rw c.in-Some.is c.push.ensures

pub returns-in-None : goal.returns-in-None
returns-in-None c = rw c.in-None.is (sym (append-nil (map field_tree c.args.out.now.items)))
