use Rattle.std.proofs.Common.{Option, Some, cond, ap, sym, ◌∙◌}
use Rattle.std.specs.Prelude.{if◌then◌else◌, option_map}
use Rattle.wast_grammar.specs.Spelling.{same_name}
use Rattle.wast_parser.specs.Identifier.{Identifier}
use Rattle.wast_parser.specs.Identifiers.{identifier_tree}
use Rattle.wast_names.specs.Position.{bears}
use Rattle.wast_names.specs.Views.{borne}
use Rattle.wast_names.specs.Space.{name_in}
use Rattle.wast_scopes.specs.Open.{level_in}
use Rattle.wast_names.proofs.Order.{same_in_order}
use Rattle.wast_scopes.proofs.labels.enter.Goals as goal

pub returns-in_ok-insert-clause-entered : goal.returns-in_ok-insert-clause-entered
returns-in_ok-insert-clause-entered c = λ n.
    c.in_ok-insert.ensures.updates.0 (borne n)
    ∙ ap (λ t. cond t (Some c.args.level) (level_in c.args.levels.now n)) (same_in_order (c.in-Some.id.name, c.in-Some.id.generation) n)
    ∙ ap (λ (o : Option Identifier). if bears same_name n (name_in (option_map identifier_tree o)) then Some c.args.level else level_in c.args.levels.now n) (sym c.in-Some.is)
