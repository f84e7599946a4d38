use Rattle.std.proofs.Common.{◌∙◌}
use Rattle.wast_parser_base.proofs.Lines.{column_within, line_starts, Parts, line_parts, before_at_end, after_at_end, before_within, after_within}
use Rattle.wast_parser_base.proofs.snippet.line_around.Goals as goal

pub overflow_sub-before : goal.overflow_sub-before
overflow_sub-before c = column_within c.args.source.now _ c.args.offset c.args.column c.requires.column c.split_at.ensures.front

pub range_from-front-requires : goal.range_from-front-requires
range_from-front-requires c = λ _.
    line_starts c.args.source.now c.split_at.result.0.now c.args.offset c.args.column c.utf8.source c.requires.boundary c.requires.column
    c.split_at.ensures.front

pub returns-then-is_empty-clause-before : goal.returns-then-is_empty-clause-before
returns-then-is_empty-clause-before c =
    let parts : Parts c.args.source.now c.args.offset c.args.column c.range_from-front.result.now c.until_line_feed-back.result.now =
    line_parts _ _ _ _ _ _ _ c.requires.column c.split_at.ensures.front c.split_at.ensures.back c.split_at.ensures.front_len
    c.range_from-front.ensures.value c.until_line_feed-back.ensures in
    c.without_return.ensures ∙ before_at_end _ _ _ _ _ parts c.if-is_empty.ensures

pub returns-then-is_empty-clause-after : goal.returns-then-is_empty-clause-after
returns-then-is_empty-clause-after c =
    let parts : Parts c.args.source.now c.args.offset c.args.column c.range_from-front.result.now c.until_line_feed-back.result.now =
    line_parts _ _ _ _ _ _ _ c.requires.column c.split_at.ensures.front c.split_at.ensures.back c.split_at.ensures.front_len
    c.range_from-front.ensures.value c.until_line_feed-back.ensures in
    after_at_end _ _ _ _ _ parts c.if-is_empty.ensures

pub returns-else-is_empty-clause-before : goal.returns-else-is_empty-clause-before
returns-else-is_empty-clause-before c =
    let parts : Parts c.args.source.now c.args.offset c.args.column c.range_from-front.result.now c.until_line_feed-back.result.now =
    line_parts _ _ _ _ _ _ _ c.requires.column c.split_at.ensures.front c.split_at.ensures.back c.split_at.ensures.front_len
    c.range_from-front.ensures.value c.until_line_feed-back.ensures in
    before_within _ _ _ _ _ parts c.if-is_empty.ensures

pub returns-else-is_empty-clause-after : goal.returns-else-is_empty-clause-after
returns-else-is_empty-clause-after c =
    let parts : Parts c.args.source.now c.args.offset c.args.column c.range_from-front.result.now c.until_line_feed-back.result.now =
    line_parts _ _ _ _ _ _ _ c.requires.column c.split_at.ensures.front c.split_at.ensures.back c.split_at.ensures.front_len
    c.range_from-front.ensures.value c.until_line_feed-back.ensures in
    c.without_return-else-is_empty.ensures ∙ after_within _ _ _ _ _ parts c.if-is_empty.ensures

pub returns-then-is_empty-clause-text : goal.returns-then-is_empty-clause-text
returns-then-is_empty-clause-text c = c.without_return.utf8

pub returns-else-is_empty-clause-text : goal.returns-else-is_empty-clause-text
returns-else-is_empty-clause-text c = c.range_from-front.utf8
