-- Which fault an input deserves. What it is worth, and which bytes are its binary, is said by `Verdict` of `wat_verdict`.
use Rattle.std.specs.Prelude.{ℕ, ◌≡◌, false, List}
use Rattle.wast_grammar.specs.Tokens.{Name}
use Rattle.wast_parser.specs.Problem.{is_memory}
use Rattle.wast_names.specs.Demand.{Complaint, told}
use Rattle.wasm_layout.specs.AbstractModule.{AbstractModule}
use Rattle.wast_meant.specs.Means.{Stands}
use Rattle.wat_verdict.specs.Verdict.{TooLong, NotUtf8, Misspelled, NotWellFormed, Unmet, Uncovered, unmet_at, Fails, Accepts, IsTooLarge}
use Rattle.wat.specs.declared.fault.Fault.{Fault}
use Rattle.wat.specs.declared.fault.Fault.TheVariants as faults

-- The fault that is answered is the one that the bytes deserve: the first condition that they fail, or, of bytes that mean a module, that its
-- binary is too large. Want of memory says nothing of them.
abbrev pub Deserves : List ℕ → Fault → Type 0
Deserves bytes faults.TooLong = Fails bytes TooLong
Deserves bytes (faults.NotUtf8 offset) = Fails bytes (NotUtf8 offset)
Deserves bytes (faults.Spelling error) = Fails bytes Misspelled × (is_memory error.cause ≡ false)
Deserves bytes (faults.NotWellFormed span) = Fails bytes (NotWellFormed span)
Deserves bytes (faults.Unmet error) = (place : ℕ) × (complaint : Complaint Name) × Fails bytes (Unmet place complaint) × (error ≡ told (unmet_at place complaint))
Deserves bytes (faults.Uncovered span form) = Fails bytes (Uncovered span form.now)
Deserves bytes faults.TooLarge = (m : AbstractModule (List ℕ)) × Accepts bytes (Stands m) × IsTooLarge m
Deserves bytes faults.Memory = Unit {0}
-- never answered for any bytes
Deserves bytes faults.Read = ⊥
Deserves bytes (faults.Write written) = ⊥
