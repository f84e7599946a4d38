-- What the private functions of the float's reader do; it is no part of any promise.
use Rattle.std.specs.Prelude.{Option, Some, None, nat_lt, ◌==◌, ◌≡◌, ◌⊎◌, ℕ, Bool, false, List, [], ◌∷◌, ◌++◌}
use Rattle.wast_lexer_numbers.specs.declared.kind.SignToken.{SignToken}
use Rattle.wast_lexer_numbers.specs.declared.parts.Float.{Float}
use Rattle.wast_lexer_numbers.specs.declared.parts.Float.TheVariants.{Val}
use Rattle.wast_lexer_numbers.specs.Numbers.{Digits, IsExponent, IsMagnitude}
use Rattle.wast_lexer_numbers.specs.NumberParts.{text_now}

-- the text is the float's parts, behind this sign and `0x` where it is hexadecimal
abbrev pub IsValOf : Bool → Option SignToken → List ℕ → Float → Type 0
IsValOf hex sign text (Val s h integral fraction exponent) =
    (s ≡ sign) × (h ≡ hex) × IsMagnitude hex (record { integral = integral.now; fraction = text_now fraction; exponent = text_now exponent }) text
IsValOf hex sign text _ = ⊥

-- digits, or none, and an exponent or none
abbrev pub IsTailOf : Bool → List ℕ → List ℕ → Option (List ℕ) → Type 0
IsTailOf hex text digits exponent = (rest : List ℕ) × ((digits ≡ []) ⊎ Digits hex digits) × IsExponent hex exponent rest × (text ≡ digits ++ rest)

-- what follows the first byte, where there is one
abbrev pub exponent_of : List ℕ → Option (List ℕ)
exponent_of [] = None
exponent_of (c ∷ text) = Some text

-- a point stands in front
abbrev pub is_point_first : List ℕ → Bool
is_point_first [] = false
is_point_first (c ∷ text) = c == 46

abbrev pub is_ascii : ℕ → Bool
is_ascii c = nat_lt c 128
