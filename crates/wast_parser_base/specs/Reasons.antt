-- What the parts of an error stand for.
use Rattle.std.specs.Prelude.{ℕ, List, [], Option, None, Some, string_bytes}
use Rattle.wast_parser_base.specs.Problem.{Cause, Said, Lexical, Memory}
use Rattle.wast_parser_base.specs.declared.reason.Reason.{Reason}
use Rattle.wast_parser_base.specs.declared.reason.Reason.TheVariants as reasons
use Rattle.wast_parser_base.specs.declared.reason.Shown.{Shown}
use Rattle.wast_parser_base.specs.declared.reason.Shown.TheVariants as shown

abbrev pub cause_of : Reason → Cause
cause_of (reasons.Said text) = Said (string_bytes text)
cause_of (reasons.Lexical alloc error) = Lexical error
cause_of reasons.Memory = Memory

abbrev pub lines_of : Shown → Option (List ℕ)
lines_of shown.Offset = None
lines_of shown.Nothing = Some []
lines_of (shown.Lines text) = Some (string_bytes text)
