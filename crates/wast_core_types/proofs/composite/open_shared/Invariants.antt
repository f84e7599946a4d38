use Rattle.std.proofs.Common.{◌≡◌, length}
use Rattle.wast_parser.specs.State.{ahead, Keeps}
use Rattle.wast_signatures.specs.TypeSyntax.{comp_type}
use Rattle.wast_core_types.specs.Depths.{within}
use Rattle.wast_core_types.proofs.composite.open_shared.Given as goal

abbrev pub invariant-groups : goal.invariant-groups
invariant-groups l = record {
  keeps : Keeps l.fn.parser l.parser;
  same : within l.depth (ahead l.parser) ≡ comp_type.reads (ahead l.fn.parser);
}

abbrev pub decreases-groups : goal.decreases-groups
decreases-groups l = length (ahead l.parser)
