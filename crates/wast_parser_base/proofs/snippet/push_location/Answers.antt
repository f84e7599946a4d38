use Rattle.std.proofs.Common.{◌∙◌, string_bytes}
use Rattle.wast_parser_base.proofs.Shown.{location_pieces, pushed}
use Rattle.wast_parser_base.proofs.snippet.push_location.Goals as goal

pub returns : goal.returns
returns c =
    pushed c.push_str.result (string_bytes c.args.text.now) (string_bytes c.push_str.new.self) c.as_str.result.now _ c.push_str.ensures.bytes
    (c.as_str.ensures.value ∙ c.in_ok-place.ensures.ok ∙ location_pieces c.args.line c.args.column)
