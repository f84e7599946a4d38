use Rattle.std.proofs.Common.{◌≡◌, ◌<◌, length, slice_index_or, arith}
use Rattle.wasm_encoder_code.specs.Laws.{IsExpression}
use Rattle.wast_core_instr.specs.ExpressionViews.{expression_tree}
use Rattle.wast_conversions.proofs.Each.{of_item, none_of_item, one_more, each_meant}
use Rattle.wast_meant.specs.Covered.{expr_forms}
use Rattle.wast_meant.specs.FieldsMeant.{expr_meant}
use Rattle.wast_section_items.specs.Fits.{ExprFits}
use Rattle.wast_section_items.specs.Ready.{ConstantReady}
use Rattle.wast_section_items.proofs.Segments.{more_made}
use Rattle.wast_section_items.proofs.elem.const_exprs.Goals as goal

pub constant-requires-clause-ready : goal.constant-requires-clause-ready
constant-requires-clause-ready c =
    let l : c.loop-expr.expr-index < length c.args.exprs.now = omega arith in
    let e : c.expr-item.result ≡ slice_index_or c.args.exprs.now c.loop-expr.expr-index c.expr-item.result = cc in
    of_item ConstantReady expression_tree c.args.exprs.now c.loop-expr.expr-index c.expr-item.result l e c.requires.ready

pub constant-requires-clause-covered : goal.constant-requires-clause-covered
constant-requires-clause-covered c =
    let l : c.loop-expr.expr-index < length c.args.exprs.now = omega arith in
    let e : c.expr-item.result ≡ slice_index_or c.args.exprs.now c.loop-expr.expr-index c.expr-item.result = cc in
    none_of_item expr_forms expression_tree c.args.exprs.now c.loop-expr.expr-index c.expr-item.result l e c.requires.covered

pub loop-expr-preserved : goal.loop-expr-preserved
loop-expr-preserved c =
    let es = c.args.exprs.now in
    let k = c.loop-expr.expr-index in
    let x = c.expr-item.result in
    let l = c.loop-expr-test.true in
    let made = c.in_ok-constant.ensures in
    record {
      made = more_made es k x _ _ _ l c.expr-item.is c.loop-expr.invariant.made made.same.ok c.in_ok-push.ensures.items;
      fits = one_more (λ e. ExprFits (expr_meant (expression_tree e))) es k x l c.expr-item.is c.loop-expr.invariant.fits made.same.fit;
      sound = one_more (λ e. IsExpression (expr_meant (expression_tree e))) es k x l c.expr-item.is c.loop-expr.invariant.sound made.sound;
    }

pub returns-clause-sound : goal.returns-clause-sound
returns-clause-sound c = each_meant IsExpression expr_meant expression_tree c.args.exprs.now c.loop-expr.expr-index c.loop-expr-test.false c.loop-expr.invariant.sound
