use Rattle.std.proofs.Common.{ℕ, ◌≡◌, ◌/◌, ◌<◌, ◌≤◌, length, sym, arith}
use Rattle.wasm_encoder_bytes.specs.Leb.{uleb}
use Rattle.wasm_encoder_bytes.proofs.LebSteps.{length-uleb-last, length-uleb-more}
use Rattle.wasm_encoder_bytes.proofs.leb.encoding_size.Goals as goal

-- the sizes of the numbers below each power of 128
two : (n : ℕ) → 128 ≤ n → n < 16384 → length (uleb n) ≡ 2
two n p q = omega (arith, length-uleb-more n p, length-uleb-last (n / 128) (omega arith))

three : (n : ℕ) → 16384 ≤ n → n < 2097152 → length (uleb n) ≡ 3
three n p q = omega (arith, length-uleb-more n (omega arith), two (n / 128) (omega arith) (omega arith))

four : (n : ℕ) → 2097152 ≤ n → n < 268435456 → length (uleb n) ≡ 4
four n p q = omega (arith, length-uleb-more n (omega arith), three (n / 128) (omega arith) (omega arith))

five : (n : ℕ) → 268435456 ≤ n → n < 34359738368 → length (uleb n) ≡ 5
five n p q = omega (arith, length-uleb-more n (omega arith), four (n / 128) (omega arith) (omega arith))

pub returns-in-0-to-127 : goal.returns-in-0-to-127
returns-in-0-to-127 c = sym (length-uleb-last c.args.n (omega arith))

pub returns-in-128-to-16383 : goal.returns-in-128-to-16383
returns-in-128-to-16383 c = sym (two c.args.n (omega arith) (omega arith))

pub returns-in-16384-to-2097151 : goal.returns-in-16384-to-2097151
returns-in-16384-to-2097151 c = sym (three c.args.n (omega arith) (omega arith))

pub returns-in-2097152-to-268435455 : goal.returns-in-2097152-to-268435455
returns-in-2097152-to-268435455 c = sym (four c.args.n (omega arith) (omega arith))

pub returns-in_default : goal.returns-in_default
returns-in_default c = sym (five c.args.n (omega arith) (omega arith))
