-- The text that tells a fault.
use Rattle.std.specs.Prelude.{ℕ, if◌then◌else◌, List, [], ◌++◌, codes, Option, None, Some}
use Rattle.std.specs.Fmt.{decimal}
use Rattle.std.specs.Str.{is_utf8}
use Rattle.wast_parser_base.specs.Problem.{message_of}
use Rattle.wast_parser_base.specs.Snippet.{place_lines}
use Rattle.wat.specs.declared.fault.Fault.{Fault}
use Rattle.wat.specs.declared.fault.Fault.TheVariants as faults

-- what is wrong
unfoldable pub first_line : Fault → List ℕ
first_line faults.Read = codes "cannot read the input"
first_line faults.TooLong = codes "input longer than 4294967295 bytes"
first_line (faults.NotUtf8 offset) = codes "input isn't UTF-8 at byte " ++ decimal offset
first_line (faults.Spelling error) = message_of error.cause
first_line (faults.NotWellFormed span) = codes "module isn't well formed"
first_line (faults.Unmet error) = message_of error.cause
first_line (faults.Uncovered span form) = codes "uncovered form: " ++ form.now
first_line faults.TooLarge = codes "a count or length is past 4294967295"
first_line faults.Memory = codes "out of memory"
first_line (faults.Write written) = codes "cannot write the output after " ++ decimal written ++ codes " bytes"

-- the byte of the input that it speaks of
abbrev pub place_of : Fault → Option ℕ
place_of (faults.Spelling error) = Some error.place
place_of (faults.NotWellFormed span) = Some span
place_of (faults.Unmet error) = Some error.place
place_of (faults.Uncovered span form) = Some span
place_of fault = None

-- what shows a place: nothing where the input isn't a text
unfoldable pub lines_in : List ℕ → Option ℕ → List ℕ
lines_in input None = []
lines_in input (Some offset) = if is_utf8 input then place_lines input offset else []

-- the whole text
unfoldable pub rendering : Fault → List ℕ → List ℕ
rendering fault input = first_line fault ++ lines_in input (place_of fault)
