use Rattle.std.proofs.Common.{sym, ◌∙◌, ap, drop, arith}
use Rattle.std.specs.Prelude.{option_map}
use Rattle.wast_lexer.specs.Kinds.{is_idchar}
use Rattle.wast_lexer.proofs.NameLaws.{passed_all, name_next}
use Rattle.wast_lexer.proofs.word.scan_name.Goals as goal

pub name_kind-requires-clause-all : goal.name_kind-requires-clause-all
name_kind-requires-clause-all c = passed_all is_idchar c.args.text.now c.args.at c.args.end (omega (arith, c.requires.nonempty)) c.requires.within c.requires.rest

pub returns-in-None : goal.returns-in-None
returns-in-None c = name_next c.args.allow c.args.opened c.args.text.now c.args.at c.args.end c.requires.nonempty c.requires.within c.requires.begins c.requires.rest c.requires.behind ∙ ap (option_map (λ k. (k, drop c.args.end c.args.text.now))) (sym c.in-None.ensures)

pub returns-in-Some : goal.returns-in-Some
returns-in-Some c = ((c.requires.nonempty, c.requires.within), name_next c.args.allow c.args.opened c.args.text.now c.args.at c.args.end c.requires.nonempty c.requires.within c.requires.begins c.requires.rest c.requires.behind ∙ ap (option_map (λ k. (k, drop c.args.end c.args.text.now))) (sym c.in-Some.ensures))
