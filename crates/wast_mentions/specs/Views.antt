-- What contracts see of mentions.
use Rattle.std.specs.Prelude.{ℕ}
use Rattle.wast_grammar.specs.Tokens.{Name}
use Rattle.wast_parser.specs.Identifiers.{identifier_tree, index_tree}
use Rattle.wast_signatures.specs.SignatureViews.{use_tree}
use Rattle.wast_meaning.specs.Mentions as spec
use Rattle.wast_meaning.specs.Views.{space_view}
use Rattle.wast_mentions.specs.declared.mention.Mention.{Mention}
use Rattle.wast_mentions.specs.declared.mention.Mention.TheVariants as mentions

abbrev pub mention_tree : Mention → spec.Mention Name ℕ
mention_tree (mentions.Refers space index) = spec.Refers (space_view space) (index_tree index.now)
mention_tree (mentions.Member owner field) = spec.Member (index_tree owner.now) (index_tree field.now)
mention_tree (mentions.Uses type_use) = spec.Uses (use_tree type_use.now)
mention_tree (mentions.UsesInBlock type_use) = spec.UsesInBlock (use_tree type_use.now)
mention_tree (mentions.Repeats label) = spec.Repeats (identifier_tree label.now)
