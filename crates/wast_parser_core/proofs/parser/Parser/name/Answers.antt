use Rattle.std.proofs.Common.{subst, sym, ◌∙◌, ap, Ok, inr}
use Rattle.std.specs.Str.{is_utf8}
use Rattle.wast_grammar.specs.Spelling.{that_text}
use Rattle.wast_grammar.specs.Grammar.{one_of, only_reads}
use Rattle.wast_parser_core.specs.Reading.{ShowsNext}
use Rattle.wast_parser_core.proofs.Texts.{not_string, only_none}
use Rattle.wast_parser_core.proofs.parser.Parser.name.Goals.{in_default-via-in-Some+else-is_string, in_default-via-in_default}
use Rattle.wast_parser_core.proofs.parser.Parser.name.Goals as goal

pub returns-in_default-clause-read : goal.returns-in_default-clause-read
returns-in_default-clause-read c =
    let s = c.args.self.now in
    inr (elim c.in_default.branch [
      | in_default-via-in-Some+else-is_string w ↦
          let next = subst (λ o. ShowsNext (Ok o) s) w.in-Some.is c.in_ok-token.ensures in
          only_none is_utf8 (one_of that_text) _ (not_string s w.in-Some.token w.in-Some.after next (sym w.is_string.ensures.same ∙ w.if-is_string.false))
      | in_default-via-in_default w ↦ (let none = subst (λ o. ShowsNext (Ok o) s) w.in_default.is c.in_ok-token.ensures in ap (only_reads is_utf8 (one_of that_text)) none)
    ])
