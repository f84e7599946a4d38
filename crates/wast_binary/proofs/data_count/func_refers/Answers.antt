use Rattle.std.proofs.Common.{ap, ◌∙◌}
use Rattle.std.specs.List.{list_any}
use Rattle.wast_binary.specs.DataCount.{is_of_data}
use Rattle.wast_binary.proofs.DataCount.{says_in_body, says_imported}
use Rattle.wast_binary.proofs.data_count.func_refers.Goals as goal

pub returns-in-Inline : goal.returns-in-Inline
returns-in-Inline c = c.body_refers.ensures ∙ ap (list_any is_of_data) c.deref.ensures.value ∙ says_in_body c.args.func.now _ _ c.in-Inline.is

pub returns-in-Import : goal.returns-in-Import
returns-in-Import c = says_imported c.args.func.now _ _ c.in-Import.is
