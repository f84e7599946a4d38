use Rattle.std.proofs.Common.{◌≡◌, ◌-◌, ◌≤◌, length, drop}
use Rattle.wast_lexer.specs.Entries.{parens_of}
use Rattle.wast_lexer.specs.ParenEnds.{closing, index_of}
use Rattle.wast_lexer.proofs.paren_ends.closing.Given as goal

abbrev pub invariant-tokens : goal.invariant-tokens
invariant-tokens l = record {
  within : l.at ≤ length l.entries;
  shallow : l.depth ≤ l.at;
  found : index_of l.from (closing 0 (drop l.from (parens_of l.entries))) ≡ index_of l.at (closing l.depth (drop l.at (parens_of l.entries)));
}

abbrev pub decreases-tokens : goal.decreases-tokens
decreases-tokens l = length l.entries - l.at
