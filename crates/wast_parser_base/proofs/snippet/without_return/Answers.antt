use Rattle.std.proofs.Common.{◌∙◌}
use Rattle.wast_parser_base.proofs.Lines.{empty_of, no_return_of, return_of}
use Rattle.wast_parser_base.proofs.snippet.without_return.Goals as goal
use Rattle.wast_parser_base.proofs.snippet.without_return.Goals.{else-not-is_empty-via-then-not-is_empty+else-bytes-eq13, else-not-is_empty-via-else-not-is_empty}

pub returns-then-bytes-eq13 : goal.returns-then-bytes-eq13
returns-then-bytes-eq13 c =
    c.range.ensures.value
    ∙ return_of c.args.line.now c.as_bytes-bytes.result.now c.as_bytes-bytes.ensures.value c.if-not-is_empty.ensures c.if-bytes-eq13.true

pub returns-else-not-is_empty : goal.returns-else-not-is_empty
returns-else-not-is_empty c =
    elim c.else-not-is_empty.branch [
      | else-not-is_empty-via-then-not-is_empty+else-bytes-eq13 w ↦
          no_return_of c.args.line.now c.as_bytes-bytes.result.now c.as_bytes-bytes.ensures.value w.if-bytes-eq13.false
      | else-not-is_empty-via-else-not-is_empty w ↦
          empty_of c.args.line.now c.as_bytes-bytes.result.now c.as_bytes-bytes.ensures.value w.if-not-is_empty.ensures
    ]
