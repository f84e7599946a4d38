use Rattle.std.proofs.Common.{sym, ap, ◌∙◌}
use Rattle.wast_grammar.specs.Tokens.{Name}
use Rattle.wast_parser.specs.Identifiers.{index_tree}
use Rattle.wast_names.specs.Space as names
use Rattle.wast_numbered.proofs.Unnamed.{counted_at}
use Rattle.wast_numbered.proofs.place.Numbering.param_count.Goals as goal

pub returns-in-Some : goal.returns-in-Some
returns-in-Some c =
    counted_at c.args.self.now.params.now _ c.in-Some.number c.count_at.result
    (sym (ap (λ (s : names.Space Name). names.number_of s (index_tree c.args.index.now)) c.space.ensures) ∙ sym c.number_of.ensures ∙ c.in-Some.is) c.count_at.ensures
