-- The first of forms, and what is seen of an answer.
use Rattle.std.specs.Prelude.{ℕ, List, Option, option_map, slice_get}
use Rattle.std.specs.Borrow.{Bor}
use Rattle.wast_conversions.specs.Covered.{Form}

-- the first, where there is one
abbrev pub first : List Form → Option Form
first forms = slice_get forms 0

-- a text, where one is answered; and a place with it
abbrev pub said : Option (Bor (List ℕ)) → Option Form
said answer = option_map (λ text. text.now) answer

abbrev pub placed : Option (ℕ × Bor (List ℕ)) → Option (ℕ × Form)
placed answer = option_map (λ found. (found.0, found.1.now)) answer
