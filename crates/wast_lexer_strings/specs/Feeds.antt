-- What a text that is read byte by byte leaves open. It says what private functions do, and is no part of any promise.
use Rattle.std.specs.Prelude.{ℕ, List, ◌++◌, ◌↔◌}
use Rattle.simdutf8.specs.Steps.{IsClosed, StepsThen}
use Rattle.wast_lexer_strings.specs.declared.utf8.Tail.{Tail}

-- the bytes may stand behind these three, and end a text there
abbrev pub Completes : Tail → List ℕ → Type 0
Completes t bytes = StepsThen IsClosed t.x t.y t.z bytes

-- the bytes lead from one place of a text to another
abbrev pub Leads : Tail → List ℕ → Tail → Type 0
Leads t bytes u = (more : List ℕ) → Completes t (bytes ++ more) ↔ Completes u more

-- no text goes on so
abbrev pub Fails : Tail → List ℕ → Type 0
Fails t bytes = (more : List ℕ) → Completes t (bytes ++ more) → ⊥
