use Rattle.std.proofs.Common.{append-nil, [], ◌≤◌, ◌++◌, length, sym, subst, ap, ◌∙◌, arith, refl, Bool, ◌≡◌, ℕ, Err}
use Rattle.std.specs.Io.KnownBytes.{Consumes}
use Rattle.std.proofs.KnownBytes.{Consumes-nil, Consumes-trans}
use Rattle.wat_io.proofs.KnownBytes.{whole_at_bound, whole_after_last, consumed_more, within_more}
use Rattle.wat_io.specs.Counted.{after_reading}
use Rattle.wat_io.specs.declared.reading.ReadFault.{ReadFault}
use Rattle.wat_io.specs.declared.reading.ReadFault.TheVariants as faults
use Rattle.wat_io.proofs.reading.read_within.Goals as goal

-- a count after a fault, whatever the answer would have carried had it been none
same_failures : (before between after : ℕ) (fault : ReadFault)
    → after ≡ after_reading {A = Bool} between (Err fault) → between ≡ before → after ≡ after_reading {A = Unit {0}} before (Err fault)
same_failures before between after faults.Read counted same = cc
same_failures before between after faults.Memory counted same = cc

pub loop-input-init : goal.loop-input-init
loop-input-init g c = record {
  bounded = omega (arith, c.args.input.now.ok.0, ap length c.requires);
  consumed = subst (Consumes _ _) (sym c.requires) (Consumes-nil _);
  failures = refl;
  piece = c.in-Ok.ensures.len;
}

pub loop-input-preserved : goal.loop-input-preserved
loop-input-preserved g c =
    let before = c.loop-input.invariant in
    let given = c.in-Ok-true.ensures.given in
    let fits : length (c.loop-input.input.items ++ given.0) ≤ c.args.bound =
    within_more c.loop-input.input.items given.0 c.as_mut_slice.result.now c.min-room.result c.args.bound (omega (arith, c.loop-input.input.ok.0))
    (omega (arith, c.loop-input.input.ok.0)) given.2 in
    record {
      bounded = omega (arith, c.read_piece.new.input.ok.0, ap length given.3, fits);
      consumed = consumed_more _ _ _ _ _ _ before.consumed given.1 given.3;
      failures = c.in-Ok-true.ensures.failures ∙ before.failures;
      piece = before.piece;
    }

pub returns-in-Ok-false-clause-given : goal.returns-in-Ok-false-clause-given
returns-in-Ok-false-clause-given g c =
    let before = c.loop-input.invariant in
    let given = c.in-Ok-false.ensures.given in
    let fits : length (c.loop-input.input.items ++ given.0) ≤ c.args.bound =
    within_more c.loop-input.input.items given.0 c.as_mut_slice.result.now c.min-room.result c.args.bound (omega (arith, c.loop-input.input.ok.0))
    (omega (arith, c.loop-input.input.ok.0)) given.2 in
    (_, Consumes-trans _ _ _ _ _ before.consumed given.1, fits, given.3, [], sym given.3 ∙ sym (append-nil _))

pub returns-in-Ok-false-clause-whole : goal.returns-in-Ok-false-clause-whole
returns-in-Ok-false-clause-whole g c =
    let before = c.loop-input.invariant in
    let given = c.in-Ok-false.ensures.given in
    let fits : length (c.loop-input.input.items ++ given.0) ≤ c.args.bound =
    within_more c.loop-input.input.items given.0 c.as_mut_slice.result.now c.min-room.result c.args.bound (omega (arith, c.loop-input.input.ok.0))
    (omega (arith, c.loop-input.input.ok.0)) given.2 in
    whole_after_last _ _ _ _ _ _ _ before.consumed given.1 given.3 (rw c.in-Ok-false.field-0-test at c.in-Ok-false.ensures.more) fits

pub returns-in-Err-clause-given : goal.returns-in-Err-clause-given
returns-in-Err-clause-given g c =
    let before = c.loop-input.invariant in
    let given = c.in-Err.ensures.given in
    let fits : length (c.loop-input.input.items ++ given.0) ≤ c.args.bound =
    within_more c.loop-input.input.items given.0 c.as_mut_slice.result.now c.min-room.result c.args.bound (omega (arith, c.loop-input.input.ok.0))
    (omega (arith, c.loop-input.input.ok.0)) given.2 in
    (_, Consumes-trans _ _ _ _ _ before.consumed given.1, fits, tt, given.0, ap (λ l. l ++ given.0) (sym c.in-Err.ensures.stays))

pub returns-in-Err-clause-failures : goal.returns-in-Err-clause-failures
returns-in-Err-clause-failures g c =
    let before = c.loop-input.invariant in
    same_failures c.args.reader.now.failures c.loop-input.reader.failures _ c.in-Err.fault
    c.in-Err.ensures.failures before.failures

pub returns-clause-given : goal.returns-clause-given
returns-clause-given g c =
    let before = c.loop-input.invariant in
    (c.loop-input.input.items, before.consumed, omega (arith, c.loop-input.input.ok.0, before.bounded), refl, [], sym (append-nil c.loop-input.input.items))

pub returns-clause-whole : goal.returns-clause-whole
returns-clause-whole g c =
    let before = c.loop-input.invariant in
    whole_at_bound _ _ _ _ before.consumed (omega (arith, c.loop-input.input.ok.0))
