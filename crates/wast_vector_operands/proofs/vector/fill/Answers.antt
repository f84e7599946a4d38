use Rattle.std.proofs.Common.{◌∙◌}
use Rattle.std.proofs.lemmas.List.{length-set}
use Rattle.wast_parser.specs.State.{ahead}
use Rattle.wast_parser.proofs.States.{keeps_trans, keeps_plain, read_plain}
use Rattle.wast_vector_operands.proofs.Filling.{one_more}
use Rattle.wast_vector_operands.proofs.vector.fill.Goals as goal

pub places-preserved : goal.places-preserved
places-preserved g c =
    let t = g.T.Meaning in
    let read = read_plain t.registers t.syntax.reads (t.tree c.in-Ok.value) c.places.parser c.parse.new.parser c.requires c.in-Ok.ensures.read in
    record {
      keeps = keeps_trans _ _ _ c.places.invariant.keeps (keeps_plain t.registers _ _ c.requires c.in-Ok.ensures.keeps);
      places = length-set c.places.places c.places.i c.in-Ok.value ∙ c.places.invariant.places;
      same = one_more t.tree t.syntax.reads c.places.places c.places.i c.in-Ok.value (ahead c.places.parser) (ahead c.parse.new.parser) c.places-test.true read ∙ c.places.invariant.same;
    }
