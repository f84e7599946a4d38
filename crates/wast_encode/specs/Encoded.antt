-- What encoding a tree answers, and what it leaves of the tree.
use Rattle.std.specs.Prelude.{ℕ, ◌≡◌, ◌⊎◌, false, List, Option, Some, None}
use Rattle.std.specs.List.{flat_map}
use Rattle.wast_grammar.specs.Tokens.{Name}
use Rattle.wast_grammar.specs.Spelling.{same_name}
use Rattle.wast_parser.specs.Problem.{Problem, is_memory}
use Rattle.wast_names.specs.Demand.{Tells, Refuses, is_met}
use Rattle.wast_names.specs.Walk.{first_unmet}
use Rattle.wast_module_fields.specs.FieldTree.{Content, Fields, Pieces, Module}
use Rattle.wast_meaning.specs.Modules.{content_fields}
use Rattle.wast_meaning.specs.Written.{by_counter}
use Rattle.wast_meaning.specs.Made.{made, is_made}
use Rattle.wasm_layout.specs.AbstractModule.{AbstractModule}
use Rattle.wasm_layout.specs.Lays.{Fits, Lays, Reads}
use Rattle.wast_conversions.specs.Covered.{Form}
use Rattle.wast_meant.specs.NamesMeant.{GivenName}
use Rattle.wast_meant.specs.Covered.{uncovered}
use Rattle.wast_meant.specs.Meaning.{Meaning}
use Rattle.wast_meant.specs.Binary.{in_bytes}
use Rattle.wast_meant.specs.Plain.{IsPlain}
use Rattle.wast_resolve.specs.Whole.{module_demands_by, IsRefused}
pub use Rattle.wast_resolve.specs.Whole.{IsCalledAlike, counter_after, is_pieces, module_by}
use Rattle.wast_encode.specs.declared.fault.EncodeFault.{EncodeFault}
use Rattle.wast_encode.specs.declared.fault.EncodeFault.TheVariants as faults

-- A tree, and the names that a counter makes for it, which has come so far.
module _ (counter : ℕ) (t : Module Name ℕ) where
  abbrev pub naming : ℕ → Name
  naming = by_counter made counter (content_fields t.content)

  -- the first form without bytes, and the place of its field
  abbrev pub form_in : Option (ℕ × Form)
  form_in = uncovered naming (content_fields t.content)

  -- It stands for m, in which identifiers are bytes.
  pub record StandsFor (m : AbstractModule (List ℕ)) : Type 0 where
    pub module_meant : AbstractModule (GivenName Name)
    pub is_meant : Meaning same_name is_made naming t module_meant
    pub named : m ≡ in_bytes module_meant

  -- Its binary: that of the module that it stands for, which of a plain tree is read as this module; or its pieces, joined.
  abbrev pub IsBinaryOf : Content Name ℕ → List ℕ → Type 0
  IsBinaryOf (Fields fs) binary = (m : AbstractModule (List ℕ)) × StandsFor m × Lays binary m × (IsPlain t → Reads binary m)
  IsBinaryOf (Pieces pieces) binary = binary ≡ flat_map (λ piece. piece) pieces

  -- The fault is the one that it deserves: its first demand of names that isn't met, else its first form without bytes, else that a count or a
  -- length of the binary meant is past 4294967295. Want of memory says nothing of it.
  abbrev pub Deserves : EncodeFault → Type 0
  Deserves (faults.Unmet error) = Tells (first_unmet is_met (module_demands_by counter t)) error
  Deserves (faults.Uncovered span form) = (first_unmet is_met (module_demands_by counter t) ≡ None) × (form_in ≡ Some (span, form.now))
  Deserves faults.TooLarge = (m : AbstractModule (List ℕ)) × StandsFor m × ¬ (Fits m)
  Deserves faults.Memory = Unit {0}

  -- What is left of it: what it is resolved to, unless it is refused and keeps why.
  abbrev pub LeavesFor : Module Name ℕ → EncodeFault → Type 0
  LeavesFor after (faults.Unmet error) = IsRefused after error
  LeavesFor after (faults.Uncovered span form) = after ≡ module_by counter t
  LeavesFor after faults.TooLarge = after ≡ module_by counter t
  LeavesFor after faults.Memory = ((after ≡ module_by counter t) × (first_unmet is_met (module_demands_by counter t) ≡ None)) ⊎ ((why : Problem) × (after.refusal ≡ Some why) × Refuses (module_demands_by counter t) why)

  -- How far the counter comes: as far as names are taken. Where memory is wanted it says nothing.
  abbrev pub CountsFor : ℕ → EncodeFault → Type 0
  CountsFor after (faults.Uncovered span form) = after ≡ counter_after counter (content_fields t.content)
  CountsFor after faults.TooLarge = after ≡ counter_after counter (content_fields t.content)
  CountsFor after (faults.Unmet error) = t.refusal ≡ None → after ≡ counter_after counter (content_fields t.content)
  CountsFor after faults.Memory = Unit {0}

-- A tree that was refused before: it is refused for the same reason.
abbrev pub IsRefusedFor : Problem → EncodeFault → Type 0
IsRefusedFor why (faults.Unmet error) = (error ≡ why) × (is_memory error.cause ≡ false)
IsRefusedFor why faults.Memory = Unit {0}
IsRefusedFor why fault = ⊥
