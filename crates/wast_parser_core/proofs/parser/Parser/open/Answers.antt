use Rattle.std.proofs.Common.{subst, sym, ◌∙◌, ap, Ok, inr}
use Rattle.wast_grammar.specs.Grammar.{one_of}
use Rattle.wast_grammar.specs.Spelling.{that_open}
use Rattle.wast_parser_core.specs.Reading.{ShowsNext}
use Rattle.wast_parser_core.proofs.Fronts.{not_open}
use Rattle.wast_parser_core.proofs.parser.Parser.open.Goals.{in_default-via-in-Some+else-is_lparen, in_default-via-in_default}
use Rattle.wast_parser_core.proofs.parser.Parser.open.Goals as goal

pub returns-in_default-clause-exact : goal.returns-in_default-clause-exact
returns-in_default-clause-exact c =
    let s = c.args.self.now in
    elim c.in_default.branch [
      | in_default-via-in-Some+else-is_lparen w ↦
          let next = subst (λ o. ShowsNext (Ok o) s) w.in-Some.is c.in_ok-token.ensures in
          not_open s w.in-Some.token w.in-Some.after next (sym w.is_lparen.ensures ∙ w.if-is_lparen.false)
      | in_default-via-in_default w ↦ (let none = subst (λ o. ShowsNext (Ok o) s) w.in_default.is c.in_ok-token.ensures in ap (one_of that_open) none)
    ]

pub returns-in_default-clause-read : goal.returns-in_default-clause-read
returns-in_default-clause-read c = inr (returns-in_default-clause-exact c)
