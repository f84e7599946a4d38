-- What the program answers and reports.
use Rattle.std.specs.Prelude.{◌≡◌, ℕ, List, [], ◌∷◌, ◌++◌, ◌⊎◌, take, codes, Option, Result, Ok, Err}
use Rattle.std.specs.Io.KnownBytes.{Appends, Keeps}
use Rattle.wat.specs.Render.{rendering}
use Rattle.wat.specs.declared.fault.Fault.{Fault}

-- the fault's text, or that there is no memory for it, and a line feed
abbrev pub IsReport : Fault → List ℕ → List ℕ → Type 0
IsReport fault input report = (report ≡ rendering fault input ++ 10 ∷ []) ⊎ (report ≡ codes "out of memory" ++ 10 ∷ [])

-- The status after a run with this input and answer, and what the error writer holds, where that is known: 0, and no
-- byte more; or 1, and the report, or a front of it where that writer fails.
abbrev pub Exits : List ℕ → Result ℕ Fault → ℕ → Option (List ℕ) → Option (List ℕ) → Type 0
Exits input (Ok written) status told told_after = (status ≡ 0) × Keeps told told_after
Exits input (Err fault) status told told_after =
    (status ≡ 1) × ((report : List ℕ) × (front : ℕ) × IsReport fault input report × Appends told told_after (take front report))
