-- What a judge answers of mentions.
use Rattle.std.specs.Prelude.{◌≡◌, Bool, List, Option, None, Result, Ok, Err}
use Rattle.std.specs.List.{flat_map}
use Rattle.wast_names.specs.Walk.{first_unmet}

-- Each mention asks demands, of which a test says whether they are met. All that these mentions ask are met, or the fault tells of the
-- first that isn't.
abbrev pub Judged : {M D T E : Type 0} → (M → List D) → (D → Bool) → (Option D → E → Type 0) → Result T E → List M → Type 0
Judged asks holds tells (Ok x) ms = first_unmet holds (flat_map asks ms) ≡ None
Judged asks holds tells (Err e) ms = tells (first_unmet holds (flat_map asks ms)) e
