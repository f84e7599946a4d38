use Rattle.std.proofs.Common.{◌≡◌, ◌≤◌, ◌-◌, true, length}
use Rattle.wast_parser_core.specs.State.{ahead}
use Rattle.wast_parser_core.specs.Standing.{is_outside}
use Rattle.wast_parser_core.proofs.Standing.{at_index}
use Rattle.wast_parser_core.proofs.parser.Parser.front_behind.Given as goal

abbrev pub invariant-tokens : goal.invariant-tokens
invariant-tokens l = record {
  same : ahead (record l.fn.self { at = l.at }) ≡ ahead (record l.fn.self { at = l.from });
  onward : l.from ≤ l.at;
  outside : is_outside (at_index l.fn.self l.from) ≡ true → is_outside (at_index l.fn.self l.at) ≡ true;
}

abbrev pub decreases-tokens : goal.decreases-tokens
decreases-tokens l = length l.fn.self.source.tokens - l.at
