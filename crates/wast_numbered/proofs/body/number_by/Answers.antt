use Rattle.std.proofs.Common.{ap, ◌∙◌}
use Rattle.wast_grammar.specs.Spelling.{same_name}
use Rattle.wast_core_instr.specs.InstructionViews.{instruction_tree}
use Rattle.wast_names.specs.Views.{space}
use Rattle.wast_meaning.specs.Changed.{instr_changed}
use Rattle.wast_meaning.specs.Numbered.{numbering}
use Rattle.wast_meaning.specs.Spaces.{listed}
use Rattle.wast_numbered.specs.Place.{here}
use Rattle.wast_scopes.proofs.Outcomes.{on_always}
use Rattle.wast_numbered.proofs.body.number_by.Goals as goal

pub returns-clause-tree : goal.returns-clause-tree
returns-clause-tree c =
    let s = c.args.spaces.now in
    let locals = space c.args.locals.now in
    on_always c.pass.result
    (c.in_ok-number_one.ensures
    ∙ ap (λ l. instr_changed (numbering (here s locals (listed same_name l))) (instruction_tree c.args.instr.now)) c.see.ensures)
