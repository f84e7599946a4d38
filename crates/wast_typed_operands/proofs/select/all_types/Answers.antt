use Rattle.std.proofs.Common.{sym, ◌∙◌, ap, Some, map}
use Rattle.std.specs.Prelude.{◌==◌}
use Rattle.wast_signatures.specs.ValueViews.{val_tree}
use Rattle.wast_typed_operands.proofs.Selects.{types_joined}
use Rattle.wast_typed_operands.proofs.select.all_types.Goals as goal

pub returns : goal.returns
returns c =
    let some = sym (ap (λ n. n == 0) c.args.groups.ok.0) ∙ sym c.is_empty.ensures ∙ c.if-is_empty.false in
    ap (λ ts. Some (map val_tree ts)) c.in_ok-tys.ensures ∙ sym (types_joined (λ g. g.value.items.items) c.args.groups.items some)
