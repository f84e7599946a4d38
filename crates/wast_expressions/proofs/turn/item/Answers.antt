use Rattle.std.proofs.Common.{None, Some, ap, sym, ◌∙◌, inr}
use Rattle.wast_parser_core.specs.State.{ahead}
use Rattle.wast_expressions.specs.Views.{levels_tree, out_tree}
use Rattle.wast_expressions.proofs.Peeks.{group_opens, group_unhinted}
use Rattle.wast_expressions.proofs.Turned.{turns_so, group_led, plain_led, hinted_led, led_fault}
use Rattle.wast_expressions.proofs.turn.item.Goals as goal

pub returns-then-opens_group-clause-gives : goal.returns-then-opens_group-clause-gives
returns-then-opens_group-clause-gives g c =
    let T = g.I.Operation in
    let st = levels_tree T.tree c.args.work.now.stack in
    let out = out_tree T.tree c.args.work.now.out in
    let ts = ahead c.args.parser.now in
    let here = sym c.opens_group.ensures ∙ c.if-opens_group.true in
    turns_so c.group.result _ _ _
    (group_led T.tree T.syntax T.heads T.made c.lawful.ensures st out None ts (group_opens ts here)
    ∙ hinted_led T.tree T.syntax T.heads T.made c.lawful.ensures st out None ts ts (group_unhinted ts here))
    c.group.ensures.gives

pub returns-in-Ok-true-clause-gives : goal.returns-in-Ok-true-clause-gives
returns-in-Ok-true-clause-gives g c =
    let T = g.I.Operation in
    let st = levels_tree T.tree c.args.work.now.stack in
    let out = out_tree T.tree c.args.work.now.out in
    let us = ahead c.hint.new.parser in
    turns_so c.group-in-Ok-true.result _ _ _
    (group_led T.tree T.syntax T.heads T.made c.lawful.ensures st out c.in-Ok.hint us (c.in-Ok-true.ensures ∙ ap (λ v. Some v) c.in-Ok-true.field-0-test)
    ∙ hinted_led T.tree T.syntax T.heads T.made c.lawful.ensures st out c.in-Ok.hint (ahead c.args.parser.now) us c.in-Ok.ensures.read)
    c.group-in-Ok-true.ensures.gives

pub returns-in-Ok-false-clause-gives : goal.returns-in-Ok-false-clause-gives
returns-in-Ok-false-clause-gives g c =
    let T = g.I.Operation in
    let st = levels_tree T.tree c.args.work.now.stack in
    let out = out_tree T.tree c.args.work.now.out in
    let us = ahead c.hint.new.parser in
    turns_so c.plain.result _ _ _
    (plain_led T.tree T.syntax T.heads T.made c.lawful.ensures st out c.in-Ok.hint us (c.in-Ok-false.ensures ∙ ap (λ v. Some v) c.in-Ok-false.field-0-test)
    ∙ hinted_led T.tree T.syntax T.heads T.made c.lawful.ensures st out c.in-Ok.hint (ahead c.args.parser.now) us c.in-Ok.ensures.read)
    c.plain.ensures.gives

pub returns-in-Err-peek-clause-gives : goal.returns-in-Err-peek-clause-gives
returns-in-Err-peek-clause-gives g c =
    let T = g.I.Operation in
    let st = levels_tree T.tree c.args.work.now.stack in
    let out = out_tree T.tree c.args.work.now.out in
    let us = ahead c.hint.new.parser in
    inr (sym (hinted_led T.tree T.syntax T.heads T.made c.lawful.ensures st out c.in-Ok.hint (ahead c.args.parser.now) us c.in-Ok.ensures.read)
    ∙ led_fault T.tree T.syntax T.heads T.made c.lawful.ensures st out c.in-Ok.hint us c.in-Err-peek.ensures.0)
