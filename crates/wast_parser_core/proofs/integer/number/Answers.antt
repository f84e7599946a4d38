use Rattle.std.proofs.Common.{subst, ◌≡◌, true}
use Rattle.wast_parser_core.specs.Literals.{is_within}
use Rattle.wast_parser_core.proofs.IntegerLaws.{read_within}
use Rattle.wast_parser_core.proofs.integer.number.Goals as goal

pub from_literal-requires : goal.from_literal-requires
from_literal-requires g c = subst (λ x. is_within x.0 x.1 (record { minus = c.in_ok-minus.minus; size = c.in_ok-minus.size }) ≡ true) c.range-most.ensures (read_within c.range-most.result.0 c.range-most.result.1 _ _ c.in_ok-minus.ensures.read)
