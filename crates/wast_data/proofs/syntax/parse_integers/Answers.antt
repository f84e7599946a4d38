use Rattle.std.proofs.Common.{Some, ◌∙◌, ap, sym}
use Rattle.std.specs.List.{flat_map}
use Rattle.wast_parser.specs.State.{ahead}
use Rattle.wast_data.specs.DataTree as spec
use Rattle.wast_data.proofs.Appended.{seen_bytes}
use Rattle.wast_data.proofs.syntax.parse_integers.Goals as goal

pub returns-clause-read : goal.returns-clause-read
returns-clause-read g c bytes same =
    rw c.in_ok-integers.ensures.read
    (ap (λ b. Some (spec.Integral b, ahead c.list_of.new.parser)) (seen_bytes g.T.Meaning.tree g.T.DataInteger.bytes bytes same c.in_ok-integers.integers.items ∙ ap (flat_map g.T.DataInteger.bytes) (sym c.deref.ensures.value) ∙ sym c.in_ok-bytes.ensures))
