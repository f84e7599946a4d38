use Rattle.std.proofs.Common.{◌∙◌}
use Rattle.wast_grammar.specs.Spelling.{same_name}
use Rattle.wast_core.specs.ModuleFieldViews.{field_tree}
use Rattle.wast_meaning.specs.Demands.{part_demands}
use Rattle.wast_meaning.specs.Mentions.{parts}
use Rattle.wast_bound.proofs.Kept.{judged_all}
use Rattle.wast_bound.proofs.parts.is_field_bound.Goals as goal

pub returns : goal.returns
returns g c = c.is_ok.ensures.value ∙ judged_all (part_demands same_name (g.K.Known.scope c.args.known)) c.tell_parts.result (parts (field_tree c.args.field.now)) c.tell_parts.ensures
