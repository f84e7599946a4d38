use Rattle.std.proofs.Common.{◌<◌, length, ◌∙◌, rules}
use Rattle.wast_parser.specs.Identifiers.{identifier_tree}
use Rattle.wast_imports.specs.ImportViews.{member_name_tree}
use Rattle.wast_imports.specs.ImportViews.{item_tree as imported_tree}
use Rattle.wast_meaning.specs.Spaces.{bound_import}
use Rattle.wast_meaning.specs.Views.{space_view}
use Rattle.wast_bound.specs.Bound.{joins}
use Rattle.wast_bound.proofs.Alike.{alike_named}
use Rattle.wast_bound.proofs.items.are_imports_named.Goals as goal

pub returns-then-not-is_empty : goal.returns-then-not-is_empty
returns-then-not-is_empty c =
    let some : 0 < length c.in-Group2.items.items = search rules in
    rw (c.in-Group2.is) (c.is_import_named-then-not-is_empty.ensures
    ∙ alike_named (joins (space_view c.args.space) (identifier_tree c.args.id.now).0) (bound_import (imported_tree c.in-Group2.sig)) member_name_tree c.in-Group2.items.items some)
