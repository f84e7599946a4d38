use Rattle.std.proofs.Common.{◌≡◌, ◌+◌, ◌^◌, ◌<◌, ◌≤◌, length, take}
use Rattle.wast_parser.specs.Identifiers.{identifier_tree}
use Rattle.wast_bound.proofs.Open.{open_behind}
use Rattle.wast_bound.proofs.labels.is_open.Given as goal

abbrev pub decreases-loop-index : goal.decreases-loop-index
decreases-loop-index g l = l.index

abbrev pub invariant-loop-index : goal.invariant-loop-index
invariant-loop-index g l =
    let behind = open_behind g.I.Opens.tree (identifier_tree l.id).0 l.instructions in
    (behind (take l.index l.instructions) l.closed ≡ behind l.instructions l.fn.closed) × ((l.index ≤ length l.instructions) × ((l.closed + l.index ≤ length l.instructions + 1) × (length l.instructions < 2 ^ 64)))
