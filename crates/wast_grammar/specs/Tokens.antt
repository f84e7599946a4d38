-- Significant tokens as plain data, and what their texts say (WebAssembly 3.0, 6.2.2 and 6.3).
use Rattle.std.specs.Prelude.{ℕ, ◌+◌, ◌*◌, Bool, true, false, not, ◌&&◌, ◌||◌, ◌==◌, if◌then◌else◌, Option, Some, None, List, [], ◌∷◌, drop}
use Rattle.std.specs.Str.{is_utf8}
use Rattle.wast_lexer.specs.Strings.{hex_value, is_quote}
use Rattle.wast_lexer.specs.StringScan.{Read, read, is_empty}
use Rattle.wast_lexer.specs.StringScan.State.{Within}
use Rattle.wast_lexer.specs.Kinds.{starts}

-- What an integer says: a minus sign or not, and the magnitude (6.3.1).
pub record Literal : Type 0 where
  pub minus : Bool
  pub size : ℕ

-- The name of an identifier, and its generation: 0 where it is read, and a number of its own where it is made for what has none.
abbrev pub Name : Type 0
Name = List ℕ × ℕ

abbrev pub as_read : List ℕ → Name
as_read bytes = (bytes, 0)

-- A token, with the place where it stands. Identifiers are of any type N and places of any type P: no definition over
-- tokens tells one name or one place from another, but by a test that it is given.
pub data SignificantToken (N P : Type 0) : Type 0 where
  -- the parentheses
  Open : P → SignificantToken N P
  Close : P → SignificantToken N P
  -- an identifier (6.3.5); without a name where it has none: it is empty, or no text
  Id : Option N → P → SignificantToken N P
  -- a keyword
  Word : List ℕ → P → SignificantToken N P
  -- the name of an annotation (6.2.5)
  Mark : List ℕ → P → SignificantToken N P
  -- an integer, what it says and as it is written
  Integer : Literal → List ℕ → P → SignificantToken N P
  -- a float, as it is written (6.3.2)
  Float : List ℕ → P → SignificantToken N P
  -- a string, as the bytes that it stands for (6.3.3)
  Text : List ℕ → P → SignificantToken N P
  -- a reserved token, as it is written
  Reserved : List ℕ → P → SignificantToken N P
  -- where the text can be read no further
  Broken : SignificantToken N P

-- whether nothing is broken
abbrev pub is_whole : {N P : Type 0} → List (SignificantToken N P) → Bool
is_whole [] = true
is_whole (Broken ∷ ts) = false
is_whole (t ∷ ts) = is_whole ts

-- INTEGERS (6.3.1)
-- the number that one more digit makes of a number; `_` is none
abbrev pub with_digit : ℕ → ℕ → ℕ → ℕ
with_digit base n c = if c == 95 then n else n * base + hex_value c

-- the number that digits of a base say, behind digits that say n
abbrev pub number_after : ℕ → ℕ → List ℕ → ℕ
number_after base n [] = n
number_after base n (c ∷ cs) = number_after base (with_digit base n c) cs

-- the number that digits say
abbrev pub number : ℕ → List ℕ → ℕ
number base cs = number_after base 0 cs

abbrev pub base_of : Bool → ℕ
base_of hex = if hex then 16 else 10

abbrev pub is_minus : ℕ → Bool
is_minus c = c == 45

abbrev pub is_sign : ℕ → Bool
is_sign c = c == 43 || is_minus c

-- what stands behind the sign, where one stands
abbrev pub behind_sign : List ℕ → List ℕ
behind_sign [] = []
behind_sign (c ∷ text) = if is_sign c then text else c ∷ text

-- the number that digits say, hexadecimal ones behind `0x`
abbrev pub size_of : List ℕ → ℕ
size_of (c ∷ d ∷ text) = if c == 48 && d == 120 then number 16 text else number 10 (c ∷ d ∷ text)
size_of text = number 10 text

-- what the text of an integer says
abbrev pub literal : List ℕ → Literal
literal text = record { minus = starts is_minus text; size = size_of (behind_sign text) }

-- STRINGS AND NAMES (6.3.3 to 6.3.5)
abbrev pub read_value : Option Read → List ℕ
read_value None = []
read_value (Some r) = r.bytes

-- the bytes that a string stands for, read behind its first quote
abbrev pub string_value : List ℕ → List ℕ
string_value text = read_value (read Within (drop 1 text))

-- the bytes that a name stands for: a string's, or its own
abbrev pub name_value : List ℕ → List ℕ
name_value name = if starts is_quote name then string_value name else name

-- what stands behind the `$` of an identifier or the `@` of an annotation
abbrev pub marked_value : List ℕ → List ℕ
marked_value text = name_value (drop 1 text)

-- the name that these bytes are: a text that is not empty
abbrev pub name_of : List ℕ → Option (List ℕ)
name_of bytes = if is_empty bytes || not (is_utf8 bytes) then None else Some bytes

-- the bytes of the name that an identifier stands for
abbrev pub id_name : List ℕ → Option (List ℕ)
id_name text = name_of (marked_value text)
