use Rattle.std.proofs.Common.{ℕ, ◌+◌, ◌*◌, ◌%◌, refl, sym, ap, add-one, ◌∙◌, drop, arith, get_or}
use Rattle.std.proofs.Math.ListN.{drop_of_length-le}
use Rattle.std.proofs.Math.Seq.{drop-cons}
use Rattle.std.specs.List.{fold}
use Rattle.wast_mnemonics.specs.Rows.{hash}
use Rattle.wast_mnemonics.proofs.slots.hash.Goals as goal

abbrev next : ℕ → ℕ → ℕ
next h byte = (h * 33 + byte) % 65536

pub loop-byte-init : goal.loop-byte-init
unfolding hash
loop-byte-init c = (omega arith, refl)

pub overflow_mul-hash : goal.overflow_mul-hash
overflow_mul-hash c = let h = c.loop-byte.invariant.0 in omega arith

pub overflow_add-hash : goal.overflow_add-hash
overflow_add-hash c = let b = c.type_inv.text c.loop-byte.byte-index in let h = c.loop-byte.invariant.0 in omega arith

pub loop-byte-preserved : goal.loop-byte-preserved
loop-byte-preserved c =
    let t = c.args.text.now in
    let h = c.loop-byte.hash in
    let i = c.loop-byte.byte-index in
    (omega arith, ap (λ n. fold next (next h (get_or t i 0)) (drop n t)) (add-one i) ∙ sym (ap (fold next h) (drop-cons t i 0 c.loop-byte-test.true)) ∙ c.loop-byte.invariant.1)

pub returns : goal.returns
returns c = sym (ap (fold next c.loop-byte.hash) (drop_of_length-le c.args.text.now c.loop-byte-test.false)) ∙ c.loop-byte.invariant.1
