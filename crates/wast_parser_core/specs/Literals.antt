-- What the parts of a literal say, and in which range it is (WebAssembly 3.0, 6.3.1 and 6.3.4).
use Rattle.std.specs.Prelude.{◌≡◌, ℕ, Bool, true, false, nat_le, List, Option, Some, None}
use Rattle.std.specs.Str.{is_utf8}
use Rattle.std.specs.Cow.{cow_str_bytes}
use Rattle.std.specs.declared.borrow.CowStr.{CowStr}
use Rattle.wast_lexer.specs.Integer.{Integer}
use Rattle.wast_lexer.specs.NumberParts.{integer_sign, integer_digits, is_hexadecimal}
use Rattle.wast_grammar.specs.Tokens.{Literal, number, base_of}
use Rattle.wast_grammar.specs.Laws.{says_minus}

-- what an integer in its parts says
abbrev pub literal_of : Integer → Literal
literal_of i = record { minus = says_minus (integer_sign i); size = number (base_of (is_hexadecimal i)) (integer_digits i) }

-- a minus sign or not, and a magnitude
abbrev pub said : Literal → Bool × ℕ
said l = (l.minus, l.size)

abbrev pub literal_from : Bool × ℕ → Literal
literal_from x = record { minus = x.0; size = x.1 }

-- An integer of a range: without a minus sign it is at most this; with one, where there may be one, at most that.
abbrev pub at_most : Option ℕ → ℕ → Bool
at_most None n = false
at_most (Some bound) n = nat_le n bound

abbrev pub is_within : ℕ → Option ℕ → Literal → Bool
is_within most least l = elim l.minus [ true ↦ at_most least l.size | false ↦ nat_le l.size most ]

-- the text that bytes are, where they are one
abbrev pub IsTextOf : {Z : Type 0} → List ℕ → Option (CowStr Z) → Type 0
IsTextOf bytes None = is_utf8 bytes ≡ false
IsTextOf bytes (Some t) = (is_utf8 bytes ≡ true) × (cow_str_bytes t ≡ bytes)
