use Rattle.std.proofs.Common.{[], ◌∷◌, codes, map, sym, ap, ◌∙◌}
use Rattle.wasm_layout.specs.Present.{is_called}
use Rattle.wast_meant.specs.CustomsMeant.{custom_of}
use Rattle.wast_name_maps.specs.Kinds.{maps_of}
use Rattle.wast_binary.proofs.NamesPut.{taken_put, free_put}
use Rattle.wast_binary.proofs.names_section.put_names.Goals as goal

pub returns-then-is_name_taken : goal.returns-then-is_name_taken
returns-then-is_name_taken c =
    let same = ap (λ cs. is_called (codes "name") (map custom_of cs ∷ [])) c.requires.customs in
    taken_put (maps_of c.args.name.now c.args.id.now c.args.fields.now) _ _ (sym same ∙ sym c.is_name_taken.ensures ∙ c.if-is_name_taken.true)

pub returns-else-is_name_taken : goal.returns-else-is_name_taken
returns-else-is_name_taken c =
    let same = ap (λ cs. is_called (codes "name") (map custom_of cs ∷ [])) c.requires.customs in
    free_put (maps_of c.args.name.now c.args.id.now c.args.fields.now) _ _ _ c.put_names_of.result (sym same ∙ sym c.is_name_taken.ensures ∙ c.if-is_name_taken.false) c.put_names_of.ensures
