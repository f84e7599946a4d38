use Rattle.std.proofs.Common.{◌≡◌, ◌<◌, ◌+◌, ◌∙◌, [], ◌∷◌, ◌++◌, map, length, take, get_or, refl, ap, sym}
use Rattle.wast_core_instr.specs.InstructionViews.{instruction_tree}
use Rattle.wast_names.specs.Views.{space}
use Rattle.wast_names.specs.Walk.{reached}
use Rattle.wast_meaning.specs.Changed.{instrs_changed}
use Rattle.wast_meaning.specs.Scope.{open_labels}
use Rattle.wast_numbered.specs.Place.{by_place}
use Rattle.wast_numbered.specs.Steps.{step_of}
use Rattle.wast_changed.proofs.InPlace.{rest_more, front_more, before_more}
use Rattle.wast_numbered.proofs.Labelled.{labels_more, made_more}
use Rattle.wast_numbered.proofs.body.number_instructions.Goals as goal

pub loop-instr-preserved : goal.loop-instr-preserved
loop-instr-preserved c =
    let s = c.args.spaces.now in
    let locals = space c.args.locals.now in
    let instrs = c.args.instrs.now in
    let items = c.loop-instr.instrs in
    let labels = c.loop-instr.labels in
    let i = c.loop-instr.instr-index in
    let x = get_or items i c.instr-item.result in
    let y = c.number_next.new.instr in
    let step = step_of (instruction_tree x) in
    let within : i < length instrs = c.loop-instr-test.true in
    let rest = c.loop-instr.invariant.rest in
    let before = take i instrs in
    let more : take (i + 1) instrs ≡ before ++ x ∷ [] = before_more items instrs i c.instr-item.result within rest in
    record {
      made =
          made_more s locals before x y (take i items) _ step labels refl
          c.loop-instr.invariant.labels c.loop-instr.invariant.made c.in_ok-number_next.ensures.tree (front_more items instrs i c.instr-item.result within rest y)
          ∙ ap (λ xs. instrs_changed (by_place s locals) [] (map instruction_tree xs)) (sym more);
      rest = rest_more items instrs i c.instr-item.result within rest y;
      labels =
          labels_more before x step labels c.number_next.new.labels refl c.loop-instr.invariant.labels
          c.in_ok-number_next.ensures.labels
          ∙ ap (λ xs. open_labels (reached (λ before i. i ∷ before) [] (map instruction_tree xs))) (sym more);
    }
