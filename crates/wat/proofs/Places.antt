-- What a fault shows of the input.
use Rattle.std.proofs.Common.{◌≡◌, ℕ, false, List, [], ◌++◌, sym, ap, ◌∙◌, append-nil, if◌then◌else◌, None, Some}
use Rattle.std.specs.Str.{IsUtf8, is_utf8}
use Rattle.std.proofs.lemmas.Bool.{false_from_ne_true}
use Rattle.std.proofs.lemmas.Str.{IsUtf8-from_is_utf8, is_utf8-from_IsUtf8}
use Rattle.wast_parser_base.specs.Snippet.{place_lines}
use Rattle.wat.specs.Render.{first_line, lines_in, place_of, rendering}
use Rattle.wat.specs.declared.fault.Fault.{Fault}

-- the source is the input
pub lines_of_text : (source input old new : List ℕ) (offset : ℕ) → source ≡ input → IsUtf8 input
    → new ≡ old ++ place_lines source offset → new ≡ old ++ lines_in input (Some offset)
unfolding lines_in
lines_of_text source input old new offset same text built =
    built ∙ ap (λ l. old ++ place_lines l offset) same
    ∙ ap (λ b. old ++ (if b then place_lines input offset else [])) (sym (is_utf8-from_IsUtf8 input text))

pub lines_of_no_text : (input old : List ℕ) (offset : ℕ) → ¬ IsUtf8 input → old ≡ old ++ lines_in input (Some offset)
unfolding lines_in
lines_of_no_text input old offset none =
    let hidden : is_utf8 input ≡ false = false_from_ne_true (is_utf8 input) (λ is. none (IsUtf8-from_is_utf8 input is)) in
    sym (ap (λ b. old ++ (if b then place_lines input offset else [])) hidden ∙ append-nil old)

pub rendered_with : (fault : Fault) (input first text : List ℕ) (offset : ℕ) → place_of fault ≡ Some offset → first ≡ first_line fault
    → text ≡ first ++ lines_in input (Some offset) → text ≡ rendering fault input
unfolding rendering
rendered_with fault input first text offset place is_first built =
    built ∙ ap (λ l. l ++ lines_in input (Some offset)) is_first ∙ ap (λ p. first_line fault ++ lines_in input p) (sym place)

pub rendered_without : (fault : Fault) (input text : List ℕ) → place_of fault ≡ None → text ≡ first_line fault → text ≡ rendering fault input
unfolding rendering lines_in
rendered_without fault input text none is_first =
    is_first ∙ sym (ap (λ p. first_line fault ++ lines_in input p) none ∙ append-nil (first_line fault))
