-- How a parser stands among the tokens of a text.
use Rattle.std.specs.Prelude.{ℕ, zero, suc, Bool, true, false, if◌then◌else◌, List, [], ◌∷◌}
use Rattle.wast_lexer.specs.Lexeme.{Lexeme}
use Rattle.wast_grammar.specs.Significant.{is_trivia, opens_dropped, behind}

-- Directly behind one that is significant, or at the start; behind one that isn't; or within a group that is dropped, of which so many
-- more are open.
pub data Standing : Type 0 where
  Behind : Standing
  Past : Standing
  Within : ℕ → Standing

-- within no group that is dropped
abbrev pub is_outside : Standing → Bool
is_outside Behind = true
is_outside Past = true
is_outside (Within d) = false

-- where so many groups that are dropped are open
abbrev pub open_still : ℕ → Standing
open_still zero = Past
open_still (suc d) = Within d

-- behind a lexeme that stands in no such group, where these follow it
abbrev pub outside : List (List ℕ) → Lexeme → List Lexeme → Standing
outside names l ls = if opens_dropped names l ls then Within 0 else if is_trivia l.kind then Past else Behind

abbrev pub further : List (List ℕ) → Lexeme → List Lexeme → Standing → Standing
further names l ls Behind = outside names l ls
further names l ls Past = outside names l ls
further names l ls (Within d) = open_still (behind l.kind d)

-- behind so many lexemes more; beyond the last there is none
abbrev pub stand : List (List ℕ) → ℕ → Standing → List Lexeme → Standing
stand names zero p ls = p
stand names (suc n) p [] = Past
stand names (suc n) p (l ∷ ls) = stand names n (further names l ls p) ls

-- how far it has gone beyond what it took, where it stands at this place among so many tokens
abbrev pub slack_of : ℕ → ℕ → Standing → ℕ
slack_of at all Behind = 0
slack_of at all Past = at
slack_of at all (Within d) = suc all
