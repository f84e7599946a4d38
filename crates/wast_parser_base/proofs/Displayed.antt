-- How an error is displayed.
use Rattle.std.proofs.Common.{◌≡◌, ℕ, List, ◌++◌, codes, None, sym, ap, ◌∙◌}
use Rattle.std.specs.Fmt.{decimal}
use Rattle.wast_parser_base.specs.Problem.{Problem, displayed, message_of, place_shown}

-- where no text was given
pub displayed_offset : (problem : Problem) (text : List ℕ) (offset : ℕ)
    → text ≡ message_of problem.cause → offset ≡ problem.place → problem.lines ≡ None
    → text ++ (codes " at byte offset " ++ decimal offset) ≡ displayed problem
displayed_offset problem text offset is_text is_place no_lines =
    ap (λ l. l ++ (codes " at byte offset " ++ decimal offset)) is_text
    ∙ ap (λ n. message_of problem.cause ++ (codes " at byte offset " ++ decimal n)) is_place
    ∙ ap (λ l. message_of problem.cause ++ place_shown problem.place l) (sym no_lines)
