-- Demands of names: conditions at places, of which the first that isn't met is told.
use Rattle.std.specs.Prelude.{◌≡◌, ◌⊎◌, ℕ, Bool, List, ◌++◌, Option, Some, None, Result, Ok, Err, codes}
use Rattle.wast_parser.specs.Tokens.{Name}
use Rattle.wast_parser.specs.Problem.{Problem, Said}
use Rattle.wast_parser.specs.Reading.{out_of_memory}
use Rattle.wast_names.specs.Walk.{first_unmet}

-- What is wrong where a demand isn't met. Kinds of item are words, as `func`.
pub data Complaint (N : Type 0) : Type 0 where
  -- an item of the kind bears the name already
  Duplicate : List ℕ → Complaint N
  -- no item of the kind bears the name
  Unknown : List ℕ → N → Complaint N
  -- an import stands behind a definition of the kind
  ImportAfter : List ℕ → Complaint N
  -- the type at the index of a use isn't the one that stands there
  TypeMismatch : Complaint N
  -- the name behind `else` or `end` isn't the block's
  LabelMismatch : Complaint N

pub record Demand (N P : Type 0) : Type 0 where
  pub place : P
  pub complaint : Complaint N
  pub holds : Bool

-- whether it is met
abbrev pub is_met : {N P : Type 0} → Demand N P → Bool
is_met d = d.holds

-- in words
abbrev pub words : Complaint Name → List ℕ
words (Duplicate kind) = codes "duplicate " ++ (kind ++ codes " identifier")
words (Unknown kind name) = codes "unknown " ++ (kind ++ (codes ": failed to find name `$" ++ (name.0 ++ codes "`")))
words (ImportAfter kind) = codes "import after " ++ kind
words TypeMismatch = codes "inline function type doesn't match type reference"
words LabelMismatch = codes "mismatching labels between end and block"

-- the problem that tells that a demand isn't met
abbrev pub told : Demand Name ℕ → Problem
told d = record { place = d.place; cause = Said (words d.complaint); lines = None }

-- the problem tells this demand
abbrev pub Tells : Option (Demand Name ℕ) → Problem → Type 0
Tells None p = ⊥
Tells (Some d) p = p ≡ told d

-- the first demand that isn't met is told, or there was no memory
abbrev pub Refuses : List (Demand Name ℕ) → Problem → Type 0
Refuses ds p = (p ≡ out_of_memory) ⊎ Tells (first_unmet is_met ds) p

-- all demands are met, or the first that isn't is told, or there was no memory
abbrev pub Answers : {T : Type 0} → Result T Problem → List (Demand Name ℕ) → Type 0
Answers (Ok x) ds = first_unmet is_met ds ≡ None
Answers (Err p) ds = Refuses ds p
