-- What a string is, and what it stands for (WebAssembly 3.0, 6.3.3), on the bytes of a text.
use Rattle.std.specs.Prelude.{if◌then◌else◌, Option, Some, None, nat_lt, nat_le, ◌+◌, ◌*◌, ◌-◌, ◌≡◌, ℕ, Bool, true, not, ◌&&◌, ◌||◌, ◌==◌, List, [], ◌∷◌, ◌++◌, encode_utf8}
use Rattle.wast_lexer_numbers.specs.Numbers.{is_digit, is_hex, Digits}

abbrev pub is_quote : ℕ → Bool
is_quote c = c == 34

abbrev pub is_backslash : ℕ → Bool
is_backslash c = c == 92

-- the number that a digit spells
abbrev pub hex_value : ℕ → ℕ
hex_value c = if is_digit c then c - 48 else if nat_le 97 c then c - 87 else c - 55

-- a byte of a character that stands for itself: U+0020 and above, without U+007F, `"` and `\`
abbrev pub is_string_byte : ℕ → Bool
is_string_byte c = nat_le 32 c && not (c == 127 || is_quote c || is_backslash c)

-- the byte that a letter stands for behind a backslash
abbrev pub escaped : ℕ → Option ℕ
escaped c =
    if c == 116 then Some 9
    else if c == 110 then Some 10
    else if c == 114 then Some 13
    else if c == 34 || c == 39 || c == 92 then Some c
    else None

-- a Unicode scalar value
abbrev pub is_scalar_value : ℕ → Bool
is_scalar_value n = nat_lt n 55296 || (nat_le 57344 n && nat_lt n 1114112)

-- the number that the digits spell behind those of another
abbrev pub number : ℕ → List ℕ → ℕ
number n [] = n
number n (c ∷ text) = if c == 95 then number n text else number (16 * n + hex_value c) text

-- a part of a string: as it is written, and the bytes that it stands for (6.3.3, `stringelem`)
pub data Element : List ℕ → List ℕ → Type 0 where
  Plain : {c : ℕ} → is_string_byte c ≡ true → Element (c ∷ []) (c ∷ [])
  Letter : {c d : ℕ} → escaped c ≡ Some d → Element (92 ∷ c ∷ []) (d ∷ [])
  Hex : {h l : ℕ} → is_hex h ≡ true → is_hex l ≡ true → Element (92 ∷ h ∷ l ∷ []) ((16 * hex_value h + hex_value l) ∷ [])
  Scalar : (digits : List ℕ) → Digits true digits → is_scalar_value (number 0 digits) ≡ true → Element (92 ∷ 117 ∷ 123 ∷ (digits ++ 125 ∷ [])) (encode_utf8 (number 0 digits))

-- what stands between the quotes of a string, and the bytes that it stands for
pub data Elements : List ℕ → List ℕ → Type 0 where
  None' : Elements [] []
  More : {word bytes text rest : List ℕ} → Element word bytes → Elements text rest → Elements (word ++ text) (bytes ++ rest)

-- the text is a string, and stands for these bytes
abbrev pub IsString : List ℕ → List ℕ → Type 0
IsString word bytes = (inner : List ℕ) × Elements inner bytes × (word ≡ 34 ∷ (inner ++ 34 ∷ []))
