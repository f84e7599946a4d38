use Rattle.std.proofs.Common.{[], map, sym, ◌∙◌}
use Rattle.wast_grammar.specs.Spelling.{same_name}
use Rattle.wast_core_instr.specs.InstructionViews.{instruction_tree}
use Rattle.wast_meaning.specs.Demands.{instr_demands, instrs_demands}
use Rattle.wast_bound.specs.Bound.{are_kept}
use Rattle.wast_bound.proofs.Walked.{walk_goes, walk_stops, walk_ends}
use Rattle.wast_bound.proofs.body.are_instructions_bound.Goals as goal

pub loop-index-preserved : goal.loop-index-preserved
loop-index-preserved g c =
    let s = g.K.Known.scope c.args.known in
    let xs = c.args.instructions.now in
    walk_goes instruction_tree (instr_demands same_name s) xs c.loop-index.index c.index-instructions-index.result (are_kept (instrs_demands same_name s [] (map instruction_tree xs))) c.loop-index-test.true c.index-instructions-index.is
    (sym c.if-not-is_next_bound.false ∙ c.is_next_bound.ensures c.index-instructions-index.result c.index-instructions-index.is) c.loop-index.invariant

pub returns-then-not-is_next_bound : goal.returns-then-not-is_next_bound
returns-then-not-is_next_bound g c =
    let s = g.K.Known.scope c.args.known in
    let xs = c.args.instructions.now in
    walk_stops instruction_tree (instr_demands same_name s) xs c.loop-index.index c.index-instructions-index.result (are_kept (instrs_demands same_name s [] (map instruction_tree xs))) c.loop-index-test.true c.index-instructions-index.is
    (sym c.if-not-is_next_bound.true ∙ c.is_next_bound.ensures c.index-instructions-index.result c.index-instructions-index.is) c.loop-index.invariant

pub returns : goal.returns
returns g c =
    let s = g.K.Known.scope c.args.known in
    let xs = c.args.instructions.now in
    walk_ends instruction_tree (instr_demands same_name s) xs c.loop-index.index (are_kept (instrs_demands same_name s [] (map instruction_tree xs))) c.loop-index-test.false c.loop-index.invariant
