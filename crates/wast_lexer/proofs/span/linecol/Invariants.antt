use Rattle.std.proofs.Common.{◌≡◌, ◌≤◌, ◌+◌, drop}
use Rattle.wast_lexer.specs.Span.{line_feeds, since_line_feed}
use Rattle.wast_lexer.proofs.span.linecol.Given as goal

abbrev pub invariant-loop-byte : goal.invariant-loop-byte
invariant-loop-byte l = record {
  line : l.line + line_feeds (drop l.byte-index l.before) ≡ line_feeds l.before;
  column : since_line_feed l.column (drop l.byte-index l.before) ≡ since_line_feed 0 l.before;
  lines : l.line ≤ l.byte-index;
  columns : l.column ≤ l.byte-index;
}
