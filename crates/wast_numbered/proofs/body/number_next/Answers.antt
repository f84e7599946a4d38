use Rattle.std.proofs.Common.{◌≡◌, subst}
use Rattle.std.specs.Prelude.{OnOk}
use Rattle.wast_grammar.specs.Spelling.{same_name}
use Rattle.wast_core_instr.specs.InstructionViews.{instruction_tree}
use Rattle.wast_names.specs.Views.{space}
use Rattle.wast_meaning.specs.Changed.{instr_changed}
use Rattle.wast_meaning.specs.Numbered.{numbering}
use Rattle.wast_meaning.specs.Scope.{labels_found}
use Rattle.wast_meaning.specs.Spaces.{listed}
use Rattle.wast_numbered.specs.Place.{here}
use Rattle.wast_numbered.specs.Steps.{behind}
use Rattle.wast_numbered.proofs.Labelled.{Does}
use Rattle.wast_numbered.proofs.body.number_next.Goals as goal

pub returns-in-Ok-clause-tree : goal.returns-in-Ok-clause-tree
returns-in-Ok-clause-tree c =
    let s = c.args.spaces.now in
    let locals = space c.args.locals.now in
    subst (λ (does : Does). OnOk c.number_by.result (instruction_tree c.number_by.new.instr ≡ instr_changed (numbering (here s locals (listed same_name (labels_found does.0 c.args.labels.now)))) (instruction_tree c.args.instr.now)))
    c.in-Ok.ensures c.number_by.ensures.tree

pub returns-in-Ok-clause-labels : goal.returns-in-Ok-clause-labels
returns-in-Ok-clause-labels c =
    subst (λ (does : Does). OnOk c.number_by.result (c.number_by.new.labels ≡ behind does.0 does.1 (labels_found does.0 c.args.labels.now))) c.in-Ok.ensures c.number_by.ensures.labels
