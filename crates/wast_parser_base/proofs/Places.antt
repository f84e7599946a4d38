-- The test for a place of a text.
use Rattle.std.proofs.Common.{◌≡◌, ℕ, true, false, List, [], ◌++◌, sym, ap, ◌∙◌, arith, append-nil, if◌then◌else◌}
use Rattle.std.specs.Str.{IsCharBoundary}
use Rattle.std.proofs.lemmas.Bool.Decides.{nat_tests}
use Rattle.std.proofs.lemmas.Bool.{false_from_ne_true}
use Rattle.wast_parser_base.specs.Snippet.{excerpt, is_place, place_lines}

place_of_boundary : (text : List ℕ) (offset : ℕ) → IsCharBoundary text offset → is_place text offset ≡ true
place_of_boundary text offset boundary = grind (arith, nat_tests)

boundary_of_place : (text : List ℕ) (offset : ℕ) → is_place text offset ≡ true → IsCharBoundary text offset
boundary_of_place text offset place = (grind (arith, nat_tests), λ within high. grind (arith, nat_tests))

pub lines_of_place : (text : List ℕ) (offset : ℕ) → IsCharBoundary text offset → excerpt text offset ≡ place_lines text offset
unfolding place_lines
lines_of_place text offset boundary =
    ap (λ b. if b then excerpt text offset else []) (sym (place_of_boundary text offset boundary))

-- no lines where a character doesn't begin
pub lines_of_no_place : (old text : List ℕ) (offset : ℕ) → (IsCharBoundary text offset → false ≡ true) → old ≡ old ++ place_lines text offset
unfolding place_lines
lines_of_no_place old text offset none =
    let hidden : is_place text offset ≡ false =
    false_from_ne_true (is_place text offset) (λ is. let test : false ≡ true = none (boundary_of_place text offset is) in cc) in
    sym (ap (λ b. old ++ (if b then excerpt text offset else [])) hidden ∙ append-nil old)
