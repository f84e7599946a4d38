use Rattle.std.proofs.Common.{arith}
use Rattle.wast_lexer.proofs.CommentSteps.{turn_here, turn_open, turn_deep, turn_last, turn_other, close_past}
use Rattle.wast_lexer.proofs.comment.block_end.Goals as goal

pub levels-preserved-then-is_pair : goal.levels-preserved-then-is_pair
levels-preserved-then-is_pair c =
    let t = turn_open c.args.text.now _ c.levels.depth c.levels.at c.find_either-at.result c.levels.invariant.rest c.find_either-at.ensures.rest c.find_either-at.ensures.within c.if-is_pair.ensures in
    record { forward = omega arith; within = omega arith; deep = omega arith; rest = t.1 }

pub levels-preserved-then-is_pair-2 : goal.levels-preserved-then-is_pair-2
levels-preserved-then-is_pair-2 c =
    let t = turn_deep c.args.text.now _ c.levels.depth c.levels.at c.find_either-at.result c.levels.invariant.rest c.find_either-at.ensures.rest c.find_either-at.ensures.within c.if-is_pair-2.ensures c.if-depth-eq0.false in
    record { forward = omega arith; within = omega arith; deep = omega arith; rest = t.1 }

pub returns-then-depth-eq0 : goal.returns-then-depth-eq0
returns-then-depth-eq0 c =
    let t = turn_last c.args.text.now _ c.levels.depth c.levels.at c.find_either-at.result c.levels.invariant.rest c.find_either-at.ensures.rest c.find_either-at.ensures.within c.if-is_pair-2.ensures c.if-depth-eq0.true in
    ((omega arith, omega arith), t.1)

pub levels-preserved : goal.levels-preserved
levels-preserved c = record { forward = omega arith; within = omega arith; deep = omega arith; rest = turn_here c.args.text.now _ c.levels.depth c.levels.at c.find_either-at.result c.levels.invariant.rest c.find_either-at.ensures.rest c.find_either-at.ensures.within }

pub levels-preserved-then-at-text : goal.levels-preserved-then-at-text
levels-preserved-then-at-text c = record { forward = omega arith; within = omega arith; deep = omega arith; rest = turn_other c.args.text.now _ c.levels.depth c.levels.at c.find_either-at.result c.levels.invariant.rest c.find_either-at.ensures.rest c.find_either-at.ensures.within c.if-at-text.true c.if-is_pair.ensures c.if-is_pair-2.ensures }

pub returns : goal.returns
returns c = close_past _ c.levels.depth c.levels.at c.args.text.now c.levels.invariant.rest (omega arith)
