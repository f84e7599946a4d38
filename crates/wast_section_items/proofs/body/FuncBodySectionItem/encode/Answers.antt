use Rattle.wast_core_instr.specs.ExpressionViews.{expression_tree}
use Rattle.wast_signatures.specs.SignatureViews.{use_tree}
use Rattle.wast_conversions.specs.Types.{use_meant}
use Rattle.wast_meant.specs.FieldsMeant.{expr_meant}
use Rattle.wast_section_items.proofs.Bodies.{adds_locals_of}
use Rattle.wast_section_items.proofs.body.FuncBodySectionItem.encode.Goals as goal

pub returns : goal.returns
returns c =
    let n = use_meant (use_tree c.args.self.now.0.now.ty) in
    rw (c.in-Inline.is) (adds_locals_of n (expr_meant (expression_tree c.in-Inline.expression)) _ _ _ _ c.add_inline.result c.deref.ensures.value (c.add_inline.ensures n))
