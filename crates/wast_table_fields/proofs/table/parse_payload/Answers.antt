use Rattle.std.proofs.Common.{rules, ap, ◌∙◌, Some}
use Rattle.wast_field_syntax.specs.Spelling.{◌>>=◌}
use Rattle.wast_field_syntax.specs.Grammar.{seen}
use Rattle.wast_field_syntax.specs.State.{ahead}
use Rattle.wast_value_types.specs.ValueViews.{ref_tree}
use Rattle.wast_field_syntax.specs.FieldTree.{Indices, Expressions}
use Rattle.wast_field_syntax.specs.DefinitionSyntax.{element}
use Rattle.wast_field_syntax.specs.ElemSyntax.{element_starts, indices}
use Rattle.wast_field_syntax.proofs.Elements.{element_shrinks, first_listed}
use Rattle.wast_table_fields.proofs.table.parse_payload.Goals as goal

pub returns-in_err-exprs-clause-read : goal.returns-in_err-exprs-clause-read
returns-in_err-exprs-clause-read c =
    let e = first_listed element_starts element.reads element_shrinks (Expressions (ref_tree c.args.ty)) (ahead c.args.parser.now) (c.in_ok-peek_element.ensures ∙ ap Some c.if-branch.true) in
    rw (e (seen Indices indices).reads) (search rules)

pub returns-then-branch-clause-read : goal.returns-then-branch-clause-read
returns-then-branch-clause-read c =
    let e = first_listed element_starts element.reads element_shrinks (Expressions (ref_tree c.args.ty)) (ahead c.args.parser.now) (c.in_ok-peek_element.ensures ∙ ap Some c.if-branch.true) in
    e (seen Indices indices).reads ∙ ap (λ o. o >>= λ a. Some (Expressions (ref_tree c.args.ty) a.0, a.1)) c.in_ok-exprs.ensures.read
