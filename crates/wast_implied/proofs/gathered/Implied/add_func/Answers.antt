use Rattle.std.proofs.Common.{ℕ, [], ◌∷◌, map, sym}
use Rattle.std.specs.List.{flat_map}
use Rattle.wast_grammar.specs.Tokens.{Name}
use Rattle.wast_signatures.specs.SignatureViews.{use_tree}
use Rattle.wast_core_instr.specs.ExpressionViews.{expression_tree}
use Rattle.wast_module_fields.specs.FieldTree.{Function}
use Rattle.wast_module_fields.specs.FuncViews.{local_tree}
use Rattle.wast_meaning.specs.Mentions.{Uses, Body, expr_mentions, part_mentions}
use Rattle.wast_implied.specs.Views.{known}
use Rattle.wast_implied.proofs.Quiet.{used_body}
use Rattle.wast_implied.proofs.Retold.{told_next}
use Rattle.wast_implied.proofs.gathered.Implied.add_func.Goals as goal

pub returns-in-Inline : goal.returns-in-Inline
returns-in-Inline c =
    let f : Function Name ℕ = record { type_use = use_tree c.args.func.now.ty; locals = map local_tree c.in-Inline.locals.items; body = expression_tree c.in-Inline.expression } in
    rw (c.in-Inline.is) (told_next c.add_expression.result c.args.func.now.span (known c.args.self.now) (known c.add_use.new.self) (known c.add_expression.new.self)
    (Uses f.type_use ∷ []) (expr_mentions f.body) (flat_map part_mentions (Body f ∷ [])) c.in_ok-add_use.ensures (sym (used_body f)) c.add_expression.ensures)
