-- What is wrong with a text: a place, a cause, and the lines that show the place.
use Rattle.std.specs.Prelude.{ℕ, ◌++◌, Bool, true, false, List, [], codes, Option, None, Some}
use Rattle.std.specs.Fmt.{decimal}
use Rattle.wast_lexer.specs.LexError.{LexError}
use Rattle.wast_lexer.specs.LexError.TheVariants as lexical
use Rattle.wast_parser_base.specs.Snippet.{place_lines}

pub data Cause : Type 0 where
  -- with a message
  Said : List ℕ → Cause
  -- no token begins at the place, or the identifier there has no name
  Lexical : LexError → Cause
  -- a growth found no memory
  Memory : Cause

-- The byte offset of the place; what is wrong; and what is shown of the place in a text that was given, or that none was.
pub record Problem : Type 0 where
  pub place : ℕ
  pub cause : Cause
  pub lines : Option (List ℕ)

-- why no token begins at a place, or why an identifier has no name, in words
abbrev pub lexical_text : LexError → List ℕ
lexical_text lexical.DanglingBlockComment = codes "unterminated block comment"
lexical_text lexical.Unexpected = codes "unexpected character"
lexical_text lexical.InvalidStringElement = codes "invalid character in string"
lexical_text lexical.InvalidStringEscape = codes "invalid string escape"
lexical_text lexical.InvalidHexDigit = codes "invalid hexadecimal digit"
lexical_text lexical.InvalidDigit = codes "invalid decimal digit"
lexical_text lexical.Expected = codes "another character was expected"
lexical_text lexical.UnexpectedEof = codes "unexpected end of the text"
lexical_text lexical.NumberTooBig = codes "number is too big to parse"
lexical_text lexical.InvalidUnicodeValue = codes "invalid unicode scalar value"
lexical_text lexical.LoneUnderscore = codes "lone underscore in number"
lexical_text lexical.ConfusingUnicode = codes "likely-confusing unicode character"
lexical_text lexical.InvalidUtf8Id = codes "malformed UTF-8 encoding of an identifier"
lexical_text lexical.EmptyId = codes "empty identifier"
lexical_text lexical.EmptyAnnotation = codes "empty annotation id"

-- what is wrong, in words
abbrev pub message_of : Cause → List ℕ
message_of (Said text) = text
message_of (Lexical error) = lexical_text error
message_of Memory = codes "out of memory"

abbrev pub is_memory : Cause → Bool
is_memory Memory = true
is_memory cause = false

-- the lexical fault, where it is one
abbrev pub lexical_of : Cause → Option LexError
lexical_of (Lexical error) = Some error
lexical_of cause = None

-- the lines of a text that show the place of an error: none where it is want of memory
abbrev pub lines_told : List ℕ → ℕ → Cause → List ℕ
lines_told text place Memory = []
lines_told text place cause = place_lines text place

-- the same error, with its lines in this text
abbrev pub told_in : List ℕ → Problem → Problem
told_in text problem = record {
  place = problem.place;
  cause = problem.cause;
  lines = Some (lines_told text problem.place problem.cause);
}

-- what shows a place: its lines, or else its offset
abbrev pub place_shown : ℕ → Option (List ℕ) → List ℕ
place_shown place (Some lines) = lines
place_shown place None = codes " at byte offset " ++ decimal place

-- how an error is displayed
abbrev pub displayed : Problem → List ℕ
displayed problem = message_of problem.cause ++ place_shown problem.place problem.lines
