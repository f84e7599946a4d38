-- What private contracts say of modules that are resolved, and of those that aren't.
use Rattle.std.specs.Prelude.{ℕ, ◌≡◌, true, false, List, None, Some}
use Rattle.std.specs.List.{flat_map}
use Rattle.wast_grammar.specs.Tokens.{Name}
use Rattle.wast_parser.specs.Problem.{Problem, is_memory}
use Rattle.wast_names.specs.Demand.{Tells, Refuses, is_met}
use Rattle.wast_names.specs.Walk.{first_unmet}
use Rattle.wast_module_fields.specs.FieldTree.{Content, Fields, Pieces, Module}
use Rattle.wasm_layout.specs.AbstractModule.{AbstractModule}
use Rattle.wasm_layout.specs.Lays.{Fits, Lays}
use Rattle.wast_resolve.specs.Whole.{module_demands_by, IsRefused}
use Rattle.wast_binary.specs.Can.{CanEncode}
use Rattle.wast_binary.specs.Parts.{module_of}
use Rattle.wast_encode.specs.declared.fault.EncodeFault.{EncodeFault}
use Rattle.wast_encode.specs.declared.fault.EncodeFault.TheVariants as faults

abbrev pub ContentReady : Content Name ℕ → Type 0
ContentReady (Fields fs) = CanEncode fs
ContentReady (Pieces pieces) = Unit {0}

-- the fault of an error
abbrev pub IsToldBy : Problem → EncodeFault → Type 0
IsToldBy why (faults.Unmet error) = (error ≡ why) × (is_memory why.cause ≡ false)
IsToldBy why faults.Memory = is_memory why.cause ≡ true
IsToldBy why fault = ⊥

-- A module that isn't resolved: of one that wasn't refused before a demand isn't met, or there was no memory.
abbrev pub IsUnresolved : ℕ → Module Name ℕ → Module Name ℕ → EncodeFault → Type 0
IsUnresolved counter before after (faults.Unmet error) = (before.refusal ≡ None → Tells (first_unmet is_met (module_demands_by counter before)) error) × IsRefused after error × (is_memory error.cause ≡ false)
IsUnresolved counter before after faults.Memory = (why : Problem) × (after.refusal ≡ Some why) × (before.refusal ≡ None → Refuses (module_demands_by counter before) why)
IsUnresolved counter before after fault = ⊥

-- The binary of a resolved module.
abbrev pub IsUnlaid : AbstractModule (List ℕ) → EncodeFault → Type 0
IsUnlaid m faults.TooLarge = ¬ (Fits m)
IsUnlaid m faults.Memory = Unit {0}
IsUnlaid m fault = ⊥

abbrev pub IsContentEncoded : Module Name ℕ → Content Name ℕ → List ℕ → Type 0
IsContentEncoded t (Fields fs) binary = Lays binary (module_of t.given t.id fs)
IsContentEncoded t (Pieces pieces) binary = binary ≡ flat_map (λ piece. piece) pieces

abbrev pub IsEncoded : Module Name ℕ → List ℕ → Type 0
IsEncoded t binary = IsContentEncoded t t.content binary

abbrev pub IsContentUnencoded : Module Name ℕ → Content Name ℕ → EncodeFault → Type 0
IsContentUnencoded t (Fields fs) fault = IsUnlaid (module_of t.given t.id fs) fault
IsContentUnencoded t (Pieces pieces) fault = fault ≡ faults.Memory

abbrev pub IsUnencoded : Module Name ℕ → EncodeFault → Type 0
IsUnencoded t fault = IsContentUnencoded t t.content fault
