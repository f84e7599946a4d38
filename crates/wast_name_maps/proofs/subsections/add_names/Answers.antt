use Rattle.std.proofs.Common.{◌≡◌, ◌++◌, OnOk, sym, subst, ◌∙◌, ◌<◌, ◌^◌, length}
use Rattle.wasm_encoder_base.specs.Lists.{list_bytes}
use Rattle.wasm_encoder_custom.specs.Names.{number_of}
use Rattle.wast_name_maps.specs.Kinds.{items_view}
use Rattle.wast_name_maps.proofs.Ordered.{nothing_if, something_if}
use Rattle.wast_name_maps.proofs.subsections.add_names.Goals as goal

pub returns-then-is_empty-clause-added : goal.returns-then-is_empty-clause-added
returns-then-is_empty-clause-added c = nothing_if (number_of (items_view c.args.kind)) c.args.names.now.list c.args.section.now (sym c.is_empty.ensures ∙ c.if-is_empty.true)

pub returns-clause-added : goal.returns-clause-added
returns-clause-added c =
    subst (λ b. OnOk c.append_names.result (c.append_names.new.section ≡ c.args.section.now ++ b))
    (something_if (number_of (items_view c.args.kind)) c.args.names.now.list c.as_map.result.now (sym c.is_empty.ensures ∙ c.if-is_empty.false) c.as_map.ensures)
    c.append_names.ensures.added

pub returns-clause-too_large : goal.returns-clause-too_large
returns-clause-too_large c = λ e fits. c.append_names.ensures.too_large e (subst (λ l. length (list_bytes l) < 2 ^ 32) (sym c.as_map.ensures) fits)
