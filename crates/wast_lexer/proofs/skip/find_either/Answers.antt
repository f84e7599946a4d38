use Rattle.std.proofs.Common.{arith, sym, ◌∙◌}
use Rattle.std.proofs.lemmas.List.{drop-drop, drop_all}
use Rattle.wast_lexer.proofs.Searches.{first_is, none_is, rest_is}
use Rattle.wast_lexer.proofs.skip.find_either.Goals as goal

pub returns-in-Some-clause-rest : goal.returns-in-Some-clause-rest
returns-in-Some-clause-rest c = rw (← drop-drop c.in-Some.count c.args.from c.args.text.now) (sym (first_is c.args.a c.args.b _ c.in-Some.count (rw (rest_is c.args.text.now c.args.from) at (c.in-Some.ensures))))

pub returns-in-None-clause-rest : goal.returns-in-None-clause-rest
returns-in-None-clause-rest c = drop_all _ c.args.text.now (omega arith) ∙ sym (none_is c.args.a c.args.b _ (rw (rest_is c.args.text.now c.args.from) at (c.in-None.ensures)))
