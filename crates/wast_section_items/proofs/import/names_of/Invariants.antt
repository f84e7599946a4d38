use Rattle.std.proofs.Common.{◌≡◌, map, take}
use Rattle.wast_imports.specs.ImportViews.{member_name_tree}
use Rattle.wast_section_items.proofs.import.names_of.Given as goal

abbrev pub invariant-loop-member : goal.invariant-loop-member
invariant-loop-member l = map (λ n. n.now) l.names.items ≡ map member_name_tree (take l.member-index l.members)
