use Rattle.std.proofs.Common.{◌∷◌, map, ap}
use Rattle.std.specs.Cow.{cow_str_bytes}
use Rattle.wast_signatures.specs.State.{ahead}
use Rattle.wast_signatures.specs.Grammar.{many}
use Rattle.wast_imports.specs.ImportTree.{Group2}
use Rattle.wast_imports.specs.ImportSyntax.{member_starts, member_name, bare_item}
use Rattle.wast_imports.specs.ImportViews.{item_tree, member_name_tree}
use Rattle.wast_imports.proofs.Members.{all_trees, both_as}
use Rattle.wast_imports.proofs.import.parse_names.Goals as goal

pub returns-clause-read : goal.returns-clause-read
returns-clause-read c =
    both_as (λ more. Group2 (cow_str_bytes c.args.first.name ∷ more.0) more.1) (many member_starts member_name).reads bare_item.reads (ahead c.args.parser.now) (ahead c.list_of.new.parser) (ahead c.parse_bare.new.parser) (map (λ m. member_name_tree m.item) c.in_ok-more.more.items) (item_tree c.in_ok-sig.sig) (Group2 (map member_name_tree c.in_ok-items.items.items) (item_tree c.in_ok-sig.sig)) c.in_ok-more.ensures.read c.in_ok-sig.ensures.read
    (ap (λ names. Group2 names (item_tree c.in_ok-sig.sig)) (all_trees member_name_tree (λ m. m.item) c.args.first c.in_ok-more.more.items c.in_ok-items.items.items c.in_ok-items.ensures))
