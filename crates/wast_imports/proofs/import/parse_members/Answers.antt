use Rattle.std.proofs.Common.{◌∷◌, map, ap}
use Rattle.std.specs.Cow.{cow_str_bytes}
use Rattle.wast_signatures.specs.State.{ahead}
use Rattle.wast_signatures.specs.Grammar.{many}
use Rattle.wast_imports.specs.ImportTree.{Group1}
use Rattle.wast_imports.specs.ImportSyntax.{member_starts, member}
use Rattle.wast_imports.specs.ImportViews.{item_tree, member_tree}
use Rattle.wast_imports.proofs.Members.{all_trees, read_as}
use Rattle.wast_imports.proofs.import.parse_members.Goals as goal

pub returns-clause-read : goal.returns-clause-read
returns-clause-read c =
    read_as (λ more. Group1 ((cow_str_bytes c.args.first.name, item_tree c.args.first.sig) ∷ more)) (many member_starts member).reads (ahead c.args.parser.now) (ahead c.list_of.new.parser) (map (λ m. member_tree m.item) c.in_ok-more.more.items) (Group1 (map member_tree c.in_ok-items.items.items)) c.in_ok-more.ensures.read
    (ap Group1 (all_trees member_tree (λ m. m.item) c.args.first c.in_ok-more.more.items c.in_ok-items.items.items c.in_ok-items.ensures))
