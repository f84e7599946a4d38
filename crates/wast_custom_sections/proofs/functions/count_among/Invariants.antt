use Rattle.std.proofs.Common.{◌≡◌, ◌≤◌, length, map, take, flat_map}
use Rattle.wast_imports.specs.ImportViews.{member_tree}
use Rattle.wast_meant.specs.NamesMeant.{imported_function}
use Rattle.wast_custom_sections.proofs.functions.count_among.Given as goal

abbrev pub invariant-loop-member : goal.invariant-loop-member
invariant-loop-member l = record {
  counted : l.count ≡ length (flat_map imported_function (map (λ i. i.1.extern_type) (map member_tree (take l.member-index l.members))));
  few : l.count ≤ l.member-index;
}
