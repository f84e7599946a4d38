use Rattle.std.proofs.Common.{[], List, ℕ, refl, ap, ◌∙◌, ◌++◌}
use Rattle.wast_parser_base.specs.Snippet.{excerpt}
use Rattle.wast_parser_base.proofs.Places.{lines_of_no_place, lines_of_place}
use Rattle.wast_parser_base.proofs.snippet.lines_at.Goals as goal

pub returns-in_ok-push_excerpt : goal.returns-in_ok-push_excerpt
returns-in_ok-push_excerpt c =
    c.in_ok-push_excerpt.ensures ∙ ap (λ (b : List ℕ). b ++ excerpt c.args.source.now c.args.offset) c.new-lines.ensures.bytes ∙ lines_of_place c.args.source.now c.args.offset (c.if-is_char_boundary.ensures.test.0 refl)

pub returns-else-is_char_boundary : goal.returns-else-is_char_boundary
returns-else-is_char_boundary c =
    c.new.ensures.bytes ∙ lines_of_no_place [] c.args.source.now c.args.offset c.if-is_char_boundary.ensures.test.1
