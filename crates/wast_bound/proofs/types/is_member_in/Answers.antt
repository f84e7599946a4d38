use Rattle.std.proofs.Common.{◌≡◌, false, sym, subst}
use Rattle.std.specs.Prelude.{is_some}
use Rattle.wast_grammar.specs.Spelling.{same_name}
use Rattle.wast_parser.specs.Identifiers.{identifier_tree, index_tree}
use Rattle.wast_core.specs.ModuleViews.{content_tree}
use Rattle.wast_meaning.specs.Modules.{content_fields}
use Rattle.wast_meaning.specs.Scope.{members, scope_of}
use Rattle.wast_bound.proofs.TypesMeant.{no_member}
use Rattle.wast_bound.proofs.types.is_member_in.Goals as goal

pub returns-in-Binary : goal.returns-in-Binary
returns-in-Binary c =
    subst (λ k. false ≡ is_some ((members (scope_of same_name (content_fields (content_tree k))) (index_tree c.args.owner.now)).look (identifier_tree c.args.id.now).0)) (sym c.in-Binary.is)
    (no_member (index_tree c.args.owner.now) (identifier_tree c.args.id.now).0)
