use Rattle.std.proofs.Common.{ap, ◌∙◌}
use Rattle.wast_grammar.specs.Tokens.{Name}
use Rattle.wast_parser.specs.Identifiers.{identifier_tree}
use Rattle.wast_names.specs.Space as names
use Rattle.wast_scopes.proofs.scope.Scope.type_number.Goals as goal

pub returns-in-Id : goal.returns-in-Id
returns-in-Id c = rw (c.in-Id.is) (c.get.ensures ∙ ap (λ (s : names.Space Name). s.look (identifier_tree c.in-Id.id).0) c.space.ensures)
