use Rattle.std.proofs.Common.{◌≡◌, ◌<◌, ◌^◌, drop}
use Rattle.wast_grammar.specs.Tokens.{number, number_after}
use Rattle.wast_parser_core.proofs.literal.magnitude.Given as goal

abbrev pub invariant-loop-digit : goal.invariant-loop-digit
invariant-loop-digit l = record {
  same : number_after l.base l.size (drop l.digit-index l.digits) ≡ number l.base l.digits;
  small : l.size < 2 ^ 64;
}
