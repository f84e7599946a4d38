use Rattle.std.proofs.Common.{ℕ, subst}
use Rattle.std.specs.Prelude.{MatchOption}
use Rattle.wast_lexer.specs.Groups.{parens, IsGroupAt}
use Rattle.wast_parser_core.specs.State.{Source}
use Rattle.wast_parser_core.proofs.buffer.ParseBuffer.group_end.Goals as goal

pub returns-clause-group : goal.returns-clause-group
returns-clause-group c =
    subst (λ (s : Source). MatchOption c.group_end.result ((end : ℕ) → ¬ IsGroupAt (parens s.tokens) c.args.index end) (λ end. IsGroupAt (parens s.tokens) c.args.index end)) c.self.view_is c.group_end.ensures
