use Rattle.std.proofs.Common.{◌+◌, ◌≤◌, map, IfSome, List, sym, subst}
use Rattle.wast_imports.specs.ImportViews.{items_tree, member_tree}
use Rattle.wast_imports.specs.declared.import.ImportGroup1Item.{ImportGroup1Item}
use Rattle.wast_imports.specs.declared.import.ImportItems.{ImportItems}
use Rattle.wast_binary.specs.Weight.{total, extern_weight, import_weight}
use Rattle.wast_binary.proofs.room.behind_imports.Goals as goal

pub returns-in-Group1 : goal.returns-in-Group1
returns-in-Group1 c =
    subst (λ (v : ImportItems). IfSome c.behind_members.result (λ left. left + import_weight (items_tree v) ≤ c.args.room)) (sym c.in-Group1.is)
    (subst (λ (ms : List ImportGroup1Item). IfSome c.behind_members.result (λ left. left + total (λ i. extern_weight i.1.extern_type + 1) (map member_tree ms) ≤ c.args.room)) c.deref.ensures.value c.behind_members.ensures)
