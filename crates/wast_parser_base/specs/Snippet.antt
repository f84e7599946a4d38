-- The lines that show a place of a text.
use Rattle.std.specs.Prelude.{ℕ, ◌+◌, ◌-◌, Bool, false, not, ◌&&◌, ◌||◌, ◌==◌, nat_lt, if◌then◌else◌, List, [], ◌∷◌, ◌++◌, length, take, drop, replicate, codes, slice_index, chars, encode_utf8_all}
use Rattle.std.specs.Fmt.{decimal}
use Rattle.std.specs.Int.{is_in_range}
use Rattle.std.specs.List.{flat_map}
use Rattle.unicode_width.specs.Width.{str_width}
use Rattle.wast_lexer.specs.Span.{line_of, column_of}

-- whether a character of the text begins at the offset, or the text ends there
abbrev pub is_place : List ℕ → ℕ → Bool
is_place text offset =
    (offset == length text) || (nat_lt offset (length text) && not (is_in_range 0x80 0xBF (slice_index text offset)))

-- the bytes before the first line feed
abbrev pub until_line_feed : List ℕ → List ℕ
until_line_feed [] = []
until_line_feed (b ∷ bs) = if b == 10 then [] else b ∷ until_line_feed bs

-- the bytes without a last carriage return
abbrev pub without_return : List ℕ → List ℕ
without_return [] = []
without_return (b ∷ []) = if b == 13 then [] else b ∷ []
without_return (b ∷ c ∷ bs) = b ∷ without_return (c ∷ bs)

-- The line that holds the offset: as many bytes before it as its column says, and those on to the next line feed; a
-- last carriage return isn't of it.
unfoldable pub line_at : List ℕ → ℕ → List ℕ
line_at text offset =
    without_return (drop (offset - column_of text offset) (take offset text) ++ until_line_feed (drop offset text))

-- whether a character is left out, as one that turns the direction or the shapes of those after it
abbrev pub is_left_out : ℕ → Bool
is_left_out c =
    is_in_range 0x202A 0x202B c || is_in_range 0x202D 0x202E c || is_in_range 0x2066 0x2069 c || (c == 0x206C)

-- how a character is shown: a tab as four spaces
abbrev pub shown : ℕ → List ℕ
shown c = if c == 9 then replicate 4 32 else if is_left_out c then [] else c ∷ []

-- how text is shown
unfoldable pub snippet : List ℕ → List ℕ
snippet text = encode_utf8_all (flat_map shown (chars text))

-- a number, right-aligned in four places
unfoldable pub in_four_places : ℕ → List ℕ
in_four_places n = replicate (4 - length (decimal n)) 32 ++ decimal n

-- a place, whose line and column count from 1 here
unfoldable pub location : ℕ → ℕ → List ℕ
location line column = codes "\n     --> <anon>:" ++ decimal line ++ codes ":" ++ decimal column

-- a caret behind this part of a line
unfoldable pub caret : List ℕ → List ℕ
caret before = replicate (str_width false (chars (snippet before))) 32 ++ codes "^"

-- the lines that show a place: where it is, its line, and a caret below the place
unfoldable pub excerpt : List ℕ → ℕ → List ℕ
excerpt text offset =
    let line = line_of text offset in
    let column = column_of text offset in
    location (line + 1) (column + 1)
    ++ codes "\n      |\n " ++ in_four_places (line + 1) ++ codes " | " ++ snippet (line_at text offset)
    ++ codes "\n      | " ++ caret (take column (line_at text offset))

-- what shows a place: nothing where no character begins there and the text does not end there
unfoldable pub place_lines : List ℕ → ℕ → List ℕ
place_lines text offset = if is_place text offset then excerpt text offset else []
