use Rattle.std.proofs.Common.{ap, ◌∙◌}
use Rattle.wast_grammar.specs.Tokens.{Name}
use Rattle.wast_parser.specs.Identifiers.{identifier_tree}
use Rattle.wast_names.specs.Space as names
use Rattle.wast_names.specs.Views.{space}
use Rattle.wast_scopes.proofs.Either.{module_space}
use Rattle.wast_scopes.proofs.scope.Scope.look.Goals as goal

pub returns-in-Functions : goal.returns-in-Functions
returns-in-Functions c =
    let n : Name = (identifier_tree c.args.id.now).0 in
    c.get-in-Functions.ensures ∙ ap (λ (s : names.Space Name). s.look n) c.space.ensures
    ∙ module_space c.args.self.now.spaces.now (space c.args.self.now.locals).look n c.args.kind c.in-Functions.is
