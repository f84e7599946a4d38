use Rattle.std.proofs.Common.{inr, [], ◌∷◌, map, length, ap, sym, ◌∙◌, append-nil, Some}
use Rattle.std.proofs.lemmas.List.{map-append}
use Rattle.wast_field_syntax.specs.Grammar.{many_reads}
use Rattle.wast_field_syntax.proofs.Repeats.{with_front, many_next, many_done, many_refused, many_faulty}
use Rattle.wast_field_syntax.specs.State.{ahead}
use Rattle.wast_field_syntax.specs.ExpressionViews.{expression_tree}
use Rattle.wast_field_syntax.specs.DefinitionSyntax.{element}
use Rattle.wast_field_syntax.specs.ElemSyntax.{element_starts}
use Rattle.wast_field_syntax.proofs.States.{keeps_trans, refuses_all}
use Rattle.wast_field_syntax.proofs.Elements.{element_shrinks}
use Rattle.wast_table_fields.proofs.element.parse_elements.Goals as goal

pub elements-smaller : goal.elements-smaller
elements-smaller c = element_shrinks (ahead c.elements.parser) (expression_tree c.in-Ok.element, ahead c.parse_led_or_plain.new.parser) c.in-Ok.ensures.read

pub elements-preserved : goal.elements-preserved
elements-preserved c =
    let rest = ahead c.parse_led_or_plain.new.parser in
    record {
      keeps = keeps_trans _ _ _ c.elements.invariant.keeps c.in-Ok.ensures.keeps;
      same =
          ap (λ zs. with_front (map expression_tree zs) (many_reads element_starts element.reads (length rest) rest)) c.in_ok-push-in-Ok.ensures.items
          ∙ ap (λ zs. with_front zs (many_reads element_starts element.reads (length rest) rest)) (map-append expression_tree c.elements.elements.items (c.in-Ok.element ∷ []))
          ∙ many_next element_starts element.reads element_shrinks (map expression_tree c.elements.elements.items) (ahead c.elements.parser) (expression_tree c.in-Ok.element, rest) (c.in-Ok-true.ensures ∙ ap (λ v. Some v) c.in-Ok-true.field-0-test) c.in-Ok.ensures.read
          ∙ c.elements.invariant.same;
    }

pub returns-in-Ok-false-clause-read : goal.returns-in-Ok-false-clause-read
returns-in-Ok-false-clause-read c =
    sym c.elements.invariant.same
    ∙ many_done element_starts element.reads element_shrinks (map expression_tree c.elements.elements.items) (ahead c.elements.parser) (c.in-Ok-false.ensures ∙ ap (λ v. Some v) c.in-Ok-false.field-0-test)
    ∙ ap (λ z. Some (z, ahead c.elements.parser)) (append-nil (map expression_tree c.elements.elements.items))

pub returns-in-Err-clause-read : goal.returns-in-Err-clause-read
returns-in-Err-clause-read c = inr (sym c.elements.invariant.same ∙ many_faulty element_starts element.reads element_shrinks (map expression_tree c.elements.elements.items) (ahead c.elements.parser) c.in-Err.ensures.0)

pub returns-in-Err-parse_led_or_plain-clause-read : goal.returns-in-Err-parse_led_or_plain-clause-read
returns-in-Err-parse_led_or_plain-clause-read c =
    refuses_all _ (element.reads (ahead c.elements.parser)) _ (λ n. sym c.elements.invariant.same ∙ many_refused element_starts element.reads element_shrinks (map expression_tree c.elements.elements.items) (ahead c.elements.parser) (c.in-Ok-true.ensures ∙ ap (λ v. Some v) c.in-Ok-true.field-0-test) n) c.in-Err-parse_led_or_plain.ensures.read
