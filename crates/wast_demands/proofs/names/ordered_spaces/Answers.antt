use Rattle.std.proofs.Common.{map}
use Rattle.std.specs.List.{flat_map}
use Rattle.wast_grammar.specs.Spelling.{same_name}
use Rattle.wast_module_fields.specs.ModuleFieldViews.{field_tree}
use Rattle.wast_names.proofs.Demands.{refuses_first}
use Rattle.wast_meaning.specs.Demands.{order_demands, item_demands}
use Rattle.wast_meaning.specs.Spaces.{items}
use Rattle.wast_demands.proofs.Joined.{answers_then}
use Rattle.wast_demands.proofs.names.ordered_spaces.Goals as goal

pub returns-in-Ok-clause-answers : goal.returns-in-Ok-clause-answers
returns-in-Ok-clause-answers c =
    let fs = map field_tree c.args.fields.now in
    answers_then c.of.result (order_demands fs) (item_demands same_name (flat_map items fs)) c.in-Ok.ensures.answers c.of.ensures.answers

pub returns-in-Err-clause-answers : goal.returns-in-Err-clause-answers
returns-in-Err-clause-answers c =
    let fs = map field_tree c.args.fields.now in
    refuses_first (order_demands fs) (item_demands same_name (flat_map items fs)) c.in-Err.e c.in-Err.ensures.answers
