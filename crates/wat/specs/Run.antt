-- What a run reads, writes and answers.
use Rattle.std.specs.Prelude.{◌≡◌, ℕ, ◌≤◌, List, [], length, take, Option, Result, Ok, Err, IfSome}
use Rattle.std.specs.Io.KnownBytes.{Appends, Consumes}
use Rattle.wat_io.specs.Counted.{one_more}
use Rattle.wat_verdict.specs.Verdict.{Assembles}
use Rattle.wat.specs.Headline.{Deserves}
use Rattle.wat.specs.declared.fault.Fault.{Fault}
use Rattle.wat.specs.declared.fault.Fault.TheVariants as faults

-- The output after this answer, where the whole input is as given: the binary of the input; its front, as long as the
-- fault says; or nothing. A fault that isn't of the run itself is the one that the input deserves.
abbrev pub Outcome : List ℕ → List ℕ → Result ℕ Fault → Type 0
Outcome input output (Ok written) = Assembles input output × (written ≡ length output)
Outcome input output (Err (faults.Write written)) =
    (binary : List ℕ) × Assembles input binary × (written ≤ length binary) × (output ≡ take written binary)
Outcome input output (Err faults.Read) = output ≡ []
Outcome input output (Err faults.Memory) = output ≡ []
Outcome input output (Err fault) = Deserves input fault × (output ≡ [])

-- The answer came before the whole input was read: a read failed, or no memory was found.
abbrev pub IsCutShort : {A : Type 0} → Result A Fault → Type 0
IsCutShort (Err faults.Read) = Unit {0}
IsCutShort (Err faults.Memory) = Unit {0}
IsCutShort answer = ⊥

-- A run that reads at most so many bytes. `left` and `left_after` are what the reader has left before and after,
-- `held` and `held_after` what the writer holds, where these are known.
pub record Runs (bound : ℕ) (left left_after held held_after : Option (List ℕ)) (input : List ℕ) (answer : Result ℕ Fault) : Type 0 where
  -- these bytes were read, no more than the bound
  pub given : List ℕ
  pub consumed : Consumes left left_after given
  pub bounded : length given ≤ bound
  -- unless it was cut short they are the input
  pub read : ¬ IsCutShort answer → input ≡ given
  -- and that is all that was left, or as much of its front as the bound lets in
  pub whole : ¬ IsCutShort answer → IfSome left (λ bytes. input ≡ take bound bytes)
  -- these bytes went out
  pub output : List ℕ
  pub appended : Appends held held_after output
  pub outcome : Outcome input output answer

-- The reader's and the writer's count of failed calls after a run: one more with `Read` and `Write`, which come so only
-- where that count rose or stood at its greatest, and else as before.
abbrev pub reader_failures : {A : Type 0} → ℕ → Result A Fault → ℕ
reader_failures count (Err faults.Read) = one_more count
reader_failures count answer = count

abbrev pub writer_failures : ℕ → Result ℕ Fault → ℕ
writer_failures count (Err (faults.Write written)) = one_more count
writer_failures count answer = count
