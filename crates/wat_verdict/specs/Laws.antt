-- The statements of the crate's law functions.
use Rattle.std.specs.Prelude.{ℕ, ◌≡◌, ◌↔◌, List}
use Rattle.wasm_layout.specs.AbstractModule.{AbstractModule}
use Rattle.wast_meant.specs.Means.{Means, Worth, Stands}
use Rattle.wat_verdict.specs.Spells.{Spells}
use Rattle.wat_verdict.specs.Verdict.{Condition, Fails, Accepts, Assembles, IsPlainText}

-- Of the conditions at most one is the first that fails; none is where the bytes are accepted; they are worth one thing at most; and
-- it can't be that no condition fails and they are accepted as nothing.
pub record OneVerdict : Type 0 where
  pub one_condition : (bytes : List ℕ) (c d : Condition) → Fails bytes c → Fails bytes d → c ≡ d
  pub none_where_accepted : (bytes : List ℕ) (c : Condition) (w : Worth) → Fails bytes c → ¬ (Accepts bytes w)
  pub one_worth : (bytes : List ℕ) (v w : Worth) → Accepts bytes v → Accepts bytes w → v ≡ w
  pub some_verdict : (bytes : List ℕ) → ¬ (((c : Condition) → ¬ (Fails bytes c)) × ((w : Worth) → ¬ (Accepts bytes w)))

-- No text means two modules.
abbrev pub OneMeaning : Type 0
OneMeaning = (text : List ℕ) (m n : AbstractModule (List ℕ)) → Means Spells text m → Means Spells text n → m ≡ n

-- Two plain texts with binaries have equal ones exactly where they mean the same module.
abbrev pub EqualBinaries : Type 0
EqualBinaries = (text other binary another : List ℕ) → IsPlainText text → IsPlainText other → Assembles text binary → Assembles other another →
    (binary ≡ another) ↔ ((m : AbstractModule (List ℕ)) × Accepts text (Stands m) × Accepts other (Stands m))
