-- Integers of so many bits (WebAssembly 3.0, 6.3.1).
use Rattle.std.specs.Prelude.{ℕ, ◌-◌, ◌*◌, ◌^◌, if◌then◌else◌, nat_lt, Option, None, ℤ, pos, neg_ℤ, ◌-ℤ◌}
use Rattle.wast_grammar.specs.Tokens.{Literal}
use Rattle.wast_grammar.specs.Grammar.{Syntax, seen}
use Rattle.wast_parser_core.specs.Productions.{ranged}

-- an integer of a range, by the number that its literal says, and its place
abbrev pub number_in : {N P A : Type 0} → ℕ → Option ℕ → (Literal → A) → Syntax N P (A × P)
number_in most least says = seen (λ x. (says x.0, x.1)) (ranged most least)

-- what a literal of uN says
abbrev pub unsigned : Literal → ℕ
unsigned l = l.size

-- a u32, without its place
abbrev pub u32 : {N P : Type 0} → Syntax N P ℕ
u32 = seen (λ n. n.0) (number_in (2 ^ 32 - 1) None unsigned)

-- what a literal of iN says, where half of the 2^N numbers are this many: the upper half are those below 0
abbrev pub signed : ℕ → Literal → ℤ
signed half l =
    if l.minus then neg_ℤ (pos l.size)
    else if nat_lt l.size half then pos l.size
    else pos l.size -ℤ pos (2 * half)
