-- Counts of failed calls.
use Rattle.std.specs.Prelude.{ℕ, ◌+◌, ◌-◌, ◌^◌, ◌&&◌, ◌==◌, nat_lt, min, if◌then◌else◌, List, length, Result, Ok, Err}
use Rattle.wat_io.specs.declared.reading.ReadFault.{ReadFault}
use Rattle.wat_io.specs.declared.reading.ReadFault.TheVariants as faults

-- a reader or a writer, and how many of its calls failed
pub record Tally (T : Type 0) : Type 0 where
  pub inner : T
  pub failures : ℕ

-- one more failed call; a count stops at the greatest u64
abbrev pub one_more : ℕ → ℕ
one_more count = min (count + 1) (2 ^ 64 - 1)

-- the count after a call
abbrev pub after_call : {A E : Type 0} → ℕ → Result A E → ℕ
after_call count (Ok answer) = count
after_call count (Err error) = one_more count

-- the count after a write of these bytes: to take none of some bytes is to fail
abbrev pub after_write : {E : Type 0} → ℕ → Result ℕ E → List ℕ → ℕ
after_write count (Ok taken) bytes = if (taken == 0) && nat_lt 0 (length bytes) then one_more count else count
after_write count (Err error) bytes = one_more count

-- the count after reading: one more where it ended with a failed call
abbrev pub after_reading : {A : Type 0} → ℕ → Result A ReadFault → ℕ
after_reading count (Ok answer) = count
after_reading count (Err faults.Read) = one_more count
after_reading count (Err faults.Memory) = count
