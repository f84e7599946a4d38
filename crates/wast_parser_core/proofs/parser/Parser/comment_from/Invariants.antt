use Rattle.std.proofs.Common.{◌≡◌, ◌≤◌, ◌-◌, length, drop}
use Rattle.wast_parser_core.specs.Comments.{comment_in, blank}
use Rattle.wast_parser_core.proofs.parser.Parser.comment_from.Given as goal

abbrev pub invariant-tokens : goal.invariant-tokens
invariant-tokens l = record {
  same : comment_in (drop l.at l.fn.self.source.tokens) ≡ comment_in (drop l.from l.fn.self.source.tokens);
  blank_same : blank (drop l.at l.fn.self.source.tokens) ≡ blank (drop l.from l.fn.self.source.tokens);
  onward : l.from ≤ l.at;
}

abbrev pub decreases-tokens : goal.decreases-tokens
decreases-tokens l = length l.fn.self.source.tokens - l.at
