use Rattle.std.proofs.Common.{map, sym, ap, ◌∙◌}
use Rattle.wast_grammar.specs.Spelling.{same_name}
use Rattle.wast_core.specs.ModuleFieldViews.{field_tree}
use Rattle.wast_meaning.specs.Implied.{implied}
use Rattle.wast_resolve.proofs.whole.number_expanded.Goals as goal

pub number_known-requires : goal.number_known-requires
number_known-requires c = c.in-Ok.ensures.types ∙ ap (λ l. implied same_name (map field_tree l)) c.none_of.ensures ∙ sym c.requires
