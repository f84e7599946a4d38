use Rattle.std.proofs.Common.{arith, string_bytes, ◌∙◌, ap}
use Rattle.std.proofs.lemmas.Result.{on_ok_weaker}
use Rattle.wast_lexer.specs.Span.{line_of, column_of}
use Rattle.wast_parser_base.proofs.Lines.{line_of-le, column_of-le}
use Rattle.wast_parser_base.proofs.Shown.{excerpt_pieces}
use Rattle.wast_parser_base.proofs.snippet.push_excerpt.Goals as goal

pub overflow_add-line : goal.overflow_add-line
overflow_add-line c = omega (arith, c.linecol_in-line.ensures.line, line_of-le c.args.source.now c.from_offset.result)

pub overflow_add-column : goal.overflow_add-column
overflow_add-column c = omega (arith, c.linecol_in-line.ensures.column, column_of-le c.args.source.now c.from_offset.result)

pub overflow_add-line-2 : goal.overflow_add-line-2
overflow_add-line-2 c = omega (arith, c.linecol_in-line.ensures.line, line_of-le c.args.source.now c.from_offset.result)

pub returns : goal.returns
returns c =
    on_ok_weaker c.push_caret.result
    (λ last.
    excerpt_pieces (string_bytes c.args.text.now) _ _ _ _ _ _ _ _ c.args.source.now c.line_around.result.0.now c.line_around.result.1.now
    c.args.offset c.linecol_in-line.result.0 c.linecol_in-line.result.1
    (c.linecol_in-line.ensures.line ∙ ap (line_of c.args.source.now) c.from_offset.ensures)
    (c.linecol_in-line.ensures.column ∙ ap (column_of c.args.source.now) c.from_offset.ensures)
    c.line_around.ensures.text c.line_around.ensures.before c.line_around.ensures.after
    c.in_ok-push_location.ensures c.in_ok-push_str.ensures.bytes c.in_ok-push_number.ensures c.in_ok-push_str-2.ensures.bytes
    c.in_ok-push_snippet.ensures c.in_ok-push_snippet-2.ensures c.in_ok-push_str-3.ensures.bytes last)
    c.push_caret.ensures
