use Rattle.std.proofs.Common.{◌≡◌, map, take, flat_map}
use Rattle.wast_customs.specs.CustomViews.{subsection_tree}
use Rattle.wast_custom_sections.specs.Parts.{subsection_bytes}
use Rattle.wast_custom_sections.proofs.dylink.subsections.Given as goal

abbrev pub invariant-loop-subsection : goal.invariant-loop-subsection
invariant-loop-subsection l = l.contents.items ≡ flat_map subsection_bytes (map subsection_tree (take l.subsection-index l.subsections))
