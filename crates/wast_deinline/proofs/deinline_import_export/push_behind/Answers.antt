use Rattle.std.proofs.lemmas.Result.{on_ok_weaker}
use Rattle.wast_deinline.proofs.Parts.{then_more}
use Rattle.wast_deinline.proofs.deinline_import_export.push_behind.Goals as goal

pub returns-in-Ok : goal.returns-in-Ok
returns-in-Ok c = on_ok_weaker c.push_some.result (λ h. then_more _ _ _ _ _ c.in-Ok.ensures h) c.push_some.ensures
