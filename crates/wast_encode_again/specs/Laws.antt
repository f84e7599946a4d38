-- Encoding what encoding leaves of a module.
use Rattle.std.specs.Prelude.{ℕ, ◌≡◌, ◌↔◌, List, [], None}
use Rattle.wast_grammar.specs.Tokens.{Name}
use Rattle.wast_grammar.specs.Spelling.{same_name}
use Rattle.wast_names.specs.Demand.{is_met}
use Rattle.wast_names.specs.Walk.{first_unmet}
use Rattle.wast_field_syntax.specs.FieldTree.{Module}
use Rattle.wast_core.specs.ModuleViews.{module_tree}
use Rattle.wast_core.specs.declared.module.Module as code
use Rattle.wast_meaning.specs.Modules.{module_breaches}
use Rattle.wasm_layout.specs.AbstractModule.{AbstractModule}
use Rattle.wast_meaning.specs.Made.{is_made}
use Rattle.wast_resolve.specs.Whole.{module_by, module_demands_by}
use Rattle.wast_encode.specs.Encoded.{form_in, StandsFor, IsBinaryOf, Deserves}
use Rattle.wast_encode.specs.declared.fault.EncodeFault.{EncodeFault}
use Rattle.wast_encode.specs.declared.fault.EncodeFault.TheVariants as faults

-- A tree, where a counter has come so far, and another tree, where one has come so far. The other
pub record IsAnsweredAs (counter : ℕ) (t : Module Name ℕ) (other : ℕ) (u : Module Name ℕ) : Type 0 where
  -- is well formed, and meets all demands,
  pub formed : module_breaches same_name is_made u ≡ []
  pub met : first_unmet is_met (module_demands_by other u) ≡ None
  -- has the first form without bytes of the tree, at its place,
  pub form : form_in other u ≡ form_in counter t
  -- stands for the same module,
  pub stands : (m : AbstractModule (List ℕ)) → StandsFor counter t m ↔ StandsFor other u m
  -- deserves the same faults,
  pub fault : (fault : EncodeFault) → Deserves counter t fault ↔ Deserves other u fault
  -- and has the same binary, and no other: where the tree has one, want of memory is the only fault.
  pub binary : (bytes : List ℕ) → IsBinaryOf counter t t.content bytes ↔ IsBinaryOf other u u.content bytes
  pub same : (first second : List ℕ) → IsBinaryOf counter t t.content first → IsBinaryOf other u u.content second → first ≡ second
  pub no_fault : (bytes : List ℕ) (fault : EncodeFault) → IsBinaryOf counter t t.content bytes → Deserves other u fault → fault ≡ faults.Memory

-- What encoding leaves of a module that is well formed and meets all demands is answered as the module is, and is left as it is.
abbrev pub EncodedAgain : Type 0
EncodedAgain = (m : code.Module) (counter other : ℕ) → module_breaches same_name is_made (module_tree m) ≡ [] → first_unmet is_met (module_demands_by counter (module_tree m)) ≡ None
    → IsAnsweredAs counter (module_tree m) other (module_by counter (module_tree m)) × (module_by other (module_by counter (module_tree m)) ≡ module_by counter (module_tree m))
