use Rattle.std.proofs.Common.{◌≡◌, ◌++◌, string_bytes}
use Rattle.std.specs.Str.{encode_utf8_all}
use Rattle.std.specs.List.{flat_map}
use Rattle.wast_parser_base.specs.Snippet.{shown}
use Rattle.wast_parser_base.proofs.snippet.push_snippet.Given as goal

abbrev pub invariant-loop-character : goal.invariant-loop-character
invariant-loop-character l =
    string_bytes l.text ≡ string_bytes l.initial.text ++ encode_utf8_all (flat_map shown l.yielded)
