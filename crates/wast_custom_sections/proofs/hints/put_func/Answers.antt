use Rattle.std.proofs.Common.{List, map, subst, sym, ap, ◌∙◌, append-nil}
use Rattle.wasm_layout.specs.Layout.{if_there}
use Rattle.wasm_layout.specs.Present.{has_any}
use Rattle.wast_core_instr.specs.ExpressionViews.{expression_tree}
use Rattle.wast_module_fields.specs.FuncViews.{local_tree, defined_func}
use Rattle.wast_module_fields.specs.Local.{Local}
use Rattle.wast_custom_sections.specs.Hints.{BodyReady, DefinedHintReady}
use Rattle.wast_custom_sections.specs.Hinted.{AddsHinted, Hinted, with_hints}
use Rattle.wast_custom_sections.proofs.Numbered.{adds_none}
use Rattle.wast_custom_sections.proofs.hints.put_func.Goals as goal

pub put_body-requires : goal.put_body-requires
put_body-requires c =
    let ready = subst (λ k. DefinedHintReady (defined_func k c.args.func.now.ty)) c.in-Inline.is c.requires in
    subst (λ ls. BodyReady (map local_tree ls) (expression_tree c.in-Inline.expression)) (sym c.deref.ensures.value) ready

pub returns-in-Import : goal.returns-in-Import
returns-in-Import c = rw (c.in-Import.is) (adds_none c.args.section.now)

pub returns-in-Inline : goal.returns-in-Inline
returns-in-Inline c =
    let e = expression_tree c.in-Inline.expression in
    let these : List Local → List Hinted = λ ls. if_there (has_any e.hints) (with_hints c.args.number (map local_tree ls) e) in
    rw (c.in-Inline.is) (subst (λ hs. AddsHinted hs c.args.section.now c.put_body.new.section c.put_body.result) (ap these c.deref.ensures.value ∙ sym (append-nil (these c.in-Inline.locals.items))) c.put_body.ensures)
