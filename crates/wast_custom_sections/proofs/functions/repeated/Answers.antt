use Rattle.std.proofs.Common.{◌≡◌, true, false}
use Rattle.wasm_layout.specs.Present.{has_any}
use Rattle.wast_imports.specs.ImportViews.{extern_tree}
use Rattle.wast_meant.specs.NamesMeant.{imported_function}
use Rattle.wast_custom_sections.proofs.Counted.{as_many, as_none}
use Rattle.wast_custom_sections.proofs.functions.repeated.Goals as goal

pub returns-then-is_function : goal.returns-then-is_function
returns-then-is_function c =
    let t = extern_tree c.args.kind.now in
    let is : has_any (imported_function t) ≡ true = cc in
    as_many t c.args.count is

pub returns-else-is_function : goal.returns-else-is_function
returns-else-is_function c =
    let t = extern_tree c.args.kind.now in
    let is : has_any (imported_function t) ≡ false = cc in
    as_none t c.args.count is
