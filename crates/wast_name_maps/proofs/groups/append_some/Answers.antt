use Rattle.std.proofs.Common.{sym, subst, ◌∙◌, ◌++◌, OnOk, ◌≡◌}
use Rattle.wasm_encoder_base.specs.Leb.{uleb}
use Rattle.wasm_encoder_base.specs.Lists.{list_bytes, with_item}
use Rattle.wast_name_maps.proofs.Entries.{group_joins}
use Rattle.wast_name_maps.proofs.groups.append_some.Goals as goal

pub returns-else-is_empty : goal.returns-else-is_empty
returns-else-is_empty c = λ inside h.
    group_joins c.append.result c.args.names.now inside c.args.written.now c.append.new.written c.args.number h (sym c.is_empty.ensures ∙ c.if-is_empty.false)
    (subst (λ m. OnOk c.append.result (c.append.new.written ≡ with_item c.args.written.now (uleb c.args.number ++ list_bytes m))) c.as_map.ensures c.append.ensures.appended)
    c.append.ensures.index c.append.ensures.room c.append.ensures.too_large
