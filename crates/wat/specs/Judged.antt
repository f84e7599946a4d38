-- What steps of `assemble` answer of a text, and of the tree that it spells. No part of a promise.
use Rattle.std.specs.Prelude.{ℕ, ◌≡◌, false, List, Some, None}
use Rattle.wast_grammar.specs.Tokens.{Name}
use Rattle.wast_parser.specs.Problem.{is_memory}
use Rattle.wast_names.specs.Demand.{Tells}
use Rattle.wast_field_syntax.specs.FieldTree.{Module}
use Rattle.wasm_layout.specs.AbstractModule.{AbstractModule}
use Rattle.wasm_layout.specs.Lays.{Fits}
use Rattle.wast_encode.specs.Encoded.{StandsFor, IsBinaryOf}
use Rattle.wast_encode.specs.declared.fault.EncodeFault.{EncodeFault}
use Rattle.wast_encode.specs.declared.fault.EncodeFault.TheVariants as encoding
use Rattle.wat_verdict.specs.Spells.{Spells}
use Rattle.wat_verdict.specs.Naming.{unmet_demand}
use Rattle.wat_verdict.specs.Verdict.{tree_breach, tree_uncovered}
use Rattle.wat.specs.declared.fault.Fault.{Fault}
use Rattle.wat.specs.declared.fault.Fault.TheVariants as faults

-- the bytes are the tree's binary, where a new counter makes its names
abbrev pub IsEncoded : Module Name ℕ → List ℕ → Type 0
IsEncoded tree binary = IsBinaryOf 0 tree tree.content binary

-- a fault of encoding
abbrev pub as_fault : EncodeFault → Fault
as_fault (encoding.Unmet error) = faults.Unmet error
as_fault (encoding.Uncovered span form) = faults.Uncovered span form
as_fault encoding.TooLarge = faults.TooLarge
as_fault encoding.Memory = faults.Memory

-- a fault of a tree
abbrev pub IsJudged : Module Name ℕ → Fault → Type 0
IsJudged tree (faults.NotWellFormed span) = tree_breach tree ≡ Some span
IsJudged tree (faults.Unmet error) = (tree_breach tree ≡ None) × Tells (unmet_demand tree) error
IsJudged tree (faults.Uncovered span form) = (tree_breach tree ≡ None) × (unmet_demand tree ≡ None) × (tree_uncovered tree ≡ Some (span, form.now))
IsJudged tree faults.TooLarge = (m : AbstractModule (List ℕ)) × StandsFor 0 tree m × ¬ (Fits m)
IsJudged tree faults.Memory = Unit {0}
IsJudged tree fault = ⊥

-- The text spells a tree whose binary the bytes are.
abbrev pub IsAnswered : List ℕ → List ℕ → Type 0
IsAnswered text binary = (tree : Module Name ℕ) × Spells text tree × IsEncoded tree binary

-- a fault of a text
abbrev pub IsTold : List ℕ → Fault → Type 0
IsTold text (faults.Spelling error) = (is_memory error.cause ≡ false) × ((tree : Module Name ℕ) → ¬ (Spells text tree))
IsTold text faults.Memory = Unit {0}
IsTold text fault = (tree : Module Name ℕ) × Spells text tree × IsJudged tree fault
