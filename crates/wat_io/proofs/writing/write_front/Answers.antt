use Rattle.std.proofs.Common.{rules}
use Rattle.wat_io.proofs.KnownBytes.{appended_more}
use Rattle.wat_io.proofs.writing.write_front.Goals as goal

pub loop-written-preserved : goal.loop-written-preserved
loop-written-preserved g c =
    let before = c.loop-written.invariant in
    record {
      within = search rules;
      appended = appended_more _ _ _ _ _ _ before.appended c.in-Ok.ensures.bytes;
    }
