-- The scan of a number, from left to right. The call `number` answers by it; the law `scans_numbers` ties it to numbers.
use Rattle.std.specs.Prelude.{if◌then◌else◌, Option, Some, None, ℕ, Bool, true, false, ◌&&◌, ◌||◌, ◌==◌, nat_le, List, [], ◌∷◌}
use Rattle.wast_lexer_numbers.specs.declared.kind.SignToken.{SignToken}
use Rattle.wast_lexer_numbers.specs.declared.kind.SignToken.TheVariants.{Plus, Minus}
use Rattle.wast_lexer_numbers.specs.declared.kind.FloatKind.TheVariants.{Inf, Nan, NanVal, Normal}
use Rattle.wast_lexer_numbers.specs.declared.kind.NumberKind.{NumberKind}
use Rattle.wast_lexer_numbers.specs.declared.kind.NumberKind.TheVariants.{Integer, Float}
use Rattle.wast_lexer_numbers.specs.Numbers.{is_base, is_power, inf, nan, nan_prefix, base_text}

-- what follows the longest digits; `gap`: one has to come next
abbrev pub after : Bool → Bool → List ℕ → Option (List ℕ)
after hex gap [] = if gap then None else Some []
after hex gap (c ∷ text) =
    if is_base hex c then after hex false text
    else if gap then None
    else if c == 95 then after hex true text
    else Some (c ∷ text)

-- what follows these bytes
abbrev pub prefixed : List ℕ → List ℕ → Option (List ℕ)
prefixed [] text = Some text
prefixed (b ∷ bytes) [] = None
prefixed (b ∷ bytes) (c ∷ text) = if c == b then prefixed bytes text else None

abbrev pub sign_of : List ℕ → Option SignToken
sign_of [] = None
sign_of (c ∷ text) = if c == 43 then Some Plus else if c == 45 then Some Minus else None

abbrev pub unsigned : List ℕ → List ℕ
unsigned [] = []
unsigned (c ∷ text) = if c == 43 then text else if c == 45 then text else c ∷ text

abbrev pub is_all : Option (List ℕ) → Bool
is_all None = false
is_all (Some []) = true
is_all (Some (c ∷ text)) = false

-- nothing, or a letter and an exponent
abbrev pub ends_power : Bool → List ℕ → Bool
ends_power hex [] = true
ends_power hex (c ∷ text) = is_power hex c && is_all (after false true (unsigned text))

abbrev pub power_after : Bool → Option (List ℕ) → Bool
power_after hex None = false
power_after hex (Some text) = ends_power hex text

-- what may follow the point
abbrev pub ends_fraction : Bool → List ℕ → Bool
ends_fraction hex text = ends_power hex text || power_after hex (after hex true text)

abbrev pub float_if : Bool → Option NumberKind
float_if b = if b then Some (Float Normal) else None

-- what follows the first digits
abbrev pub kind_after : Bool → Option SignToken → Option (List ℕ) → Option NumberKind
kind_after hex sign None = None
kind_after hex sign (Some []) = Some (Integer (record { sign = sign; hex = hex }))
kind_after hex sign (Some (c ∷ text)) = if c == 46 then float_if (ends_fraction hex text) else float_if (ends_power hex (c ∷ text))

abbrev pub magnitude : Bool → Option SignToken → List ℕ → Option NumberKind
magnitude hex sign text = kind_after hex sign (after hex true text)

abbrev pub nan_if : Bool → Option NumberKind
nan_if b = if b then Some (Float NanVal) else None

-- behind `0x`, where it stands there
abbrev pub based : Option SignToken → List ℕ → Option (List ℕ) → Option NumberKind
based sign text None = magnitude false sign text
based sign text (Some rest) = magnitude true sign rest

-- behind `nan:0x`, where it stands there
abbrev pub payload : Option SignToken → List ℕ → Option (List ℕ) → Option NumberKind
payload sign text None = based sign text (prefixed (base_text true) text)
payload sign text (Some rest) = nan_if (is_all (after true true rest))

-- the kind of a number, behind its sign
abbrev pub body : Option SignToken → List ℕ → Option NumberKind
body sign text =
    if is_all (prefixed inf text) then Some (Float Inf)
    else if is_all (prefixed nan text) then Some (Float Nan)
    else payload sign text (prefixed nan_prefix text)

abbrev pub number : List ℕ → Option NumberKind
number word = body (sign_of word) (unsigned word)

-- a digit, a sign, `i` or `n` stands in front
abbrev pub begins_number : List ℕ → Bool
begins_number [] = false
begins_number (c ∷ text) = (nat_le 48 c && nat_le c 57) || c == 43 || c == 45 || c == 105 || c == 110
