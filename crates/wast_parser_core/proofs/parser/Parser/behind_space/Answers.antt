use Rattle.std.proofs.Common.{◌∙◌, sym, ap}
use Rattle.wast_grammar.specs.Significant.{is_trivia}
use Rattle.wast_parser_core.specs.State.{State}
use Rattle.wast_parser_core.proofs.Ahead.{ahead_trivia}
use Rattle.wast_parser_core.proofs.Shown.{kind_at, of_kind}
use Rattle.wast_parser_core.proofs.Standing.{past_trivia}
use Rattle.wast_parser_core.proofs.parser.Parser.behind_space.Goals as goal

pub returns-in-Some-Whitespace-clause-same : goal.returns-in-Some-Whitespace-clause-same
returns-in-Some-Whitespace-clause-same c =
    let s = c.args.self.now in
    let i = c.args.from in
    let t = of_kind s.source.tokens i c.in-Some-Whitespace.field-0 (ap (λ (s : State). kind_at s i) (sym c.self.view_is) ∙ sym c.in-Some-Whitespace.ensures.kind) in
    sym (ahead_trivia s i t.0 t.1 (ap is_trivia (t.2 ∙ c.in-Some-Whitespace.field-0-is)))

pub returns-in-Some-Whitespace-clause-outside : goal.returns-in-Some-Whitespace-clause-outside
returns-in-Some-Whitespace-clause-outside c o =
    let s = c.args.self.now in
    let i = c.args.from in
    let t = of_kind s.source.tokens i c.in-Some-Whitespace.field-0 (ap (λ (s : State). kind_at s i) (sym c.self.view_is) ∙ sym c.in-Some-Whitespace.ensures.kind) in
    past_trivia s i t.0 t.1 (ap is_trivia (t.2 ∙ c.in-Some-Whitespace.field-0-is)) o
