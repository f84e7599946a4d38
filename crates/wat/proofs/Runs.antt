-- A fault that the input deserves is none of the run itself.
use Rattle.std.proofs.Common.{◌≡◌, ◌≤◌, ℕ, List, [], refl, length, take, Option, IfSome, Err}
use Rattle.std.specs.Io.KnownBytes.{Consumes}
use Rattle.std.proofs.KnownBytes.{Appends-nil}
use Rattle.wat.specs.Headline.{Deserves}
use Rattle.wat.specs.Run.{Outcome, Runs, reader_failures, writer_failures}
use Rattle.wat.specs.declared.fault.Fault.{Fault}
use Rattle.wat.specs.declared.fault.Fault.TheVariants as faults

-- The two facts on the definition that all else here rests on.
pub deserves_no_read : (input : List ℕ) → Deserves input faults.Read → ⊥
deserves_no_read input deserved = deserved

pub deserves_no_write : (input : List ℕ) (written : ℕ) → Deserves input (faults.Write written) → ⊥
deserves_no_write input written deserved = deserved

pub deserved_outcome : (input : List ℕ) (fault : Fault) → Deserves input fault → Outcome input [] (Err fault)
deserved_outcome input faults.Read deserved = refl
deserved_outcome input faults.Memory deserved = refl
deserved_outcome input (faults.Write written) deserved = absurd (deserves_no_write input written deserved)
deserved_outcome input fault deserved = (deserved, refl)

pub deserved_reader : (input : List ℕ) (count after : ℕ) (fault : Fault)
    → Deserves input fault → after ≡ count → after ≡ reader_failures {A = ℕ} count (Err fault)
deserved_reader input count after faults.Read deserved same = absurd (deserves_no_read input deserved)
deserved_reader input count after fault deserved same = same

pub deserved_writer : (input : List ℕ) (count : ℕ) (fault : Fault)
    → Deserves input fault → count ≡ writer_failures count (Err fault)
deserved_writer input count (faults.Write written) deserved = absurd (deserves_no_write input written deserved)
deserved_writer input count fault deserved = refl

-- a run that ends with the fault that its input deserves, before anything is written
pub deserved_run : (bound : ℕ) (left left_after held : Option (List ℕ)) (input given : List ℕ) (fault : Fault)
    → Consumes left left_after given → length given ≤ bound → input ≡ given → IfSome left (λ bytes. input ≡ take bound bytes) → Deserves input fault
    → Runs bound left left_after held held input (Err fault)
deserved_run bound left left_after held input given fault consumed bounded read whole deserved = record {
  given = given;
  consumed = consumed;
  bounded = bounded;
  read = λ _. read;
  whole = λ _. whole;
  output = [];
  appended = Appends-nil held;
  outcome = deserved_outcome input fault deserved;
}
