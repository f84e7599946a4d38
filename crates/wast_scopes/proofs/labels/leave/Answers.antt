use Rattle.std.proofs.Common.{Option, Some, None, cond, ap, sym, ◌∙◌}
use Rattle.std.specs.Prelude.{if◌then◌else◌, option_map}
use Rattle.wast_grammar.specs.Tokens.{Name}
use Rattle.wast_grammar.specs.Spelling.{same_name}
use Rattle.wast_parser.specs.Identifier.{Identifier}
use Rattle.wast_parser.specs.Identifiers.{identifier_tree}
use Rattle.wast_names.specs.Position.{bears}
use Rattle.wast_names.specs.Views.{borne}
use Rattle.wast_names.specs.Space.{name_in}
use Rattle.wast_scopes.specs.Open.{level_in}
use Rattle.wast_names.proofs.Order.{same_in_order}
use Rattle.wast_scopes.proofs.Blocks.{there_ok}
use Rattle.wast_scopes.proofs.labels.leave.Goals as goal

pub returns-in-Some-None : goal.returns-in-Some-None
returns-in-Some-None c = λ n.
    c.remove.ensures.updates.0 (borne n)
    ∙ ap (λ t. cond t None (level_in c.args.levels.now n)) (same_in_order (c.in-Some-None.id.name, c.in-Some-None.id.generation) n)
    ∙ ap (λ (o : Option Identifier). if bears same_name n (name_in (option_map identifier_tree o)) then None else level_in c.args.levels.now n) (sym c.in-Some-None.is-0)
    ∙ ap (λ (o : Option _). if bears same_name n (name_in (option_map identifier_tree c.args.block.label)) then o else level_in c.args.levels.now n) (sym c.in-Some-None.is-1)

pub returns-in-Some-Some : goal.returns-in-Some-Some
returns-in-Some-Some c = λ n.
    let n_of : Name = (c.in-Some-Some.id.name, c.in-Some-Some.id.generation) in
    (there_ok c.insert.result (level_in c.args.levels.now n_of) c.insert.ensures.absent (c.requires c.in-Some-Some.id c.in-Some-Some.is-0) c.insert.ensures.updates).0 (borne n)
    ∙ ap (λ t. cond t (Some c.in-Some-Some.level) (level_in c.args.levels.now n)) (same_in_order n_of n)
    ∙ ap (λ (o : Option Identifier). if bears same_name n (name_in (option_map identifier_tree o)) then Some c.in-Some-Some.level else level_in c.args.levels.now n) (sym c.in-Some-Some.is-0)
    ∙ ap (λ (o : Option _). if bears same_name n (name_in (option_map identifier_tree c.args.block.label)) then o else level_in c.args.levels.now n) (sym c.in-Some-Some.is-1)
