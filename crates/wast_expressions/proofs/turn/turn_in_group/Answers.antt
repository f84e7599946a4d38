use Rattle.std.proofs.Common.{◌∙◌, sym}
use Rattle.wast_parser_core.specs.State.{ahead}
use Rattle.wast_expressions.specs.declared.stack.Level.TheVariants as levels
use Rattle.wast_expressions.specs.Views.{levels_tree, out_tree}
use Rattle.wast_expressions.proofs.Turned.{turns_so, item_row, turn_items, turn_top, turn_none}
use Rattle.wast_expressions.proofs.turn.turn_in_group.Goals as goal

pub returns-then-not-closes-clause-gives : goal.returns-then-not-closes-clause-gives
returns-then-not-closes-clause-gives g c =
    let T = g.I.Operation in
    let u = c.args.work.now in
    let out = out_tree T.tree u.out in
    let ts = ahead c.args.parser.now in
    turns_so c.item.result _ _ _
    (item_row T.tree T.syntax T.heads T.made c.lawful.ensures (levels_tree T.tree u.stack) out ts (sym c.closes.ensures ∙ c.if-not-closes.true)
    ∙ turn_items T.tree T.syntax T.heads T.made u.stack out ts (sym c.takes_items.ensures ∙ c.if-takes_items.true))
    c.item.ensures.gives

pub returns-in-None-clause-gives : goal.returns-in-None-clause-gives
returns-in-None-clause-gives g c =
    let T = g.I.Operation in
    turns_so c.items.result _ _ _ (turn_none T.tree T.syntax T.heads T.made c.args.work.now c.leave.new.self (ahead c.args.parser.now) c.in-None.ensures.0 c.in-None.ensures.1) c.items.ensures.gives

pub returns-in-Some-EndWith-clause-gives : goal.returns-in-Some-EndWith-clause-gives
returns-in-Some-EndWith-clause-gives g c =
    let T = g.I.Operation in
    turns_so c.items_within.result _ _ _ (turn_top T.tree T.syntax T.heads T.made c.args.work.now c.leave.new.self c.in-Some-EndWith.field-0 (levels.EndWith c.in-Some-EndWith.hint c.in-Some-EndWith.instr) (ahead c.args.parser.now) c.in-Some-EndWith.ensures c.in-Some-EndWith.field-0-is) c.items_within.ensures.gives

pub returns-in-Some-BlockEnd-clause-gives : goal.returns-in-Some-BlockEnd-clause-gives
returns-in-Some-BlockEnd-clause-gives g c =
    let T = g.I.Operation in
    turns_so c.items_within-in-Some-BlockEnd.result _ _ _ (turn_top T.tree T.syntax T.heads T.made c.args.work.now c.leave.new.self c.in-Some-BlockEnd.field-0 (levels.BlockEnd) (ahead c.args.parser.now) c.in-Some-BlockEnd.ensures c.in-Some-BlockEnd.field-0-is) c.items_within-in-Some-BlockEnd.ensures.gives

pub returns-in-Some-Arm-clause-gives : goal.returns-in-Some-Arm-clause-gives
returns-in-Some-Arm-clause-gives g c =
    let T = g.I.Operation in
    turns_so c.items_within-in-Some-Arm.result _ _ _ (turn_top T.tree T.syntax T.heads T.made c.args.work.now c.leave.new.self c.in-Some-Arm.field-0 (levels.Arm) (ahead c.args.parser.now) c.in-Some-Arm.ensures c.in-Some-Arm.field-0-is) c.items_within-in-Some-Arm.ensures.gives

pub returns-in-Some-Conditions-clause-gives : goal.returns-in-Some-Conditions-clause-gives
returns-in-Some-Conditions-clause-gives g c =
    let T = g.I.Operation in
    turns_so c.conditions.result _ _ _ (turn_top T.tree T.syntax T.heads T.made c.args.work.now c.leave.new.self c.in-Some-Conditions.field-0 (levels.Conditions c.in-Some-Conditions.hint c.in-Some-Conditions.instr) (ahead c.args.parser.now) c.in-Some-Conditions.ensures c.in-Some-Conditions.field-0-is) c.conditions.ensures.gives

pub returns-in-Some-AfterThen-clause-gives : goal.returns-in-Some-AfterThen-clause-gives
returns-in-Some-AfterThen-clause-gives g c =
    let T = g.I.Operation in
    turns_so c.after_then.result _ _ _ (turn_top T.tree T.syntax T.heads T.made c.args.work.now c.leave.new.self c.in-Some-AfterThen.field-0 (levels.AfterThen) (ahead c.args.parser.now) c.in-Some-AfterThen.ensures c.in-Some-AfterThen.field-0-is) c.after_then.ensures.gives

pub returns-in-Some-AfterElse-clause-gives : goal.returns-in-Some-AfterElse-clause-gives
returns-in-Some-AfterElse-clause-gives g c =
    let T = g.I.Operation in
    turns_so c.end.result _ _ _ (turn_top T.tree T.syntax T.heads T.made c.args.work.now c.leave.new.self c.in-Some-AfterElse.field-0 (levels.AfterElse) (ahead c.args.parser.now) c.in-Some-AfterElse.ensures c.in-Some-AfterElse.field-0-is) c.end.ensures.gives
