use Rattle.std.proofs.Common.{Err, sym, ap, ◌∙◌}
use Rattle.wast_name_maps.specs.Kinds.{maps_of}
use Rattle.wast_binary.proofs.NamesPut.{some_put, none_put, err_put}
use Rattle.wast_binary.proofs.names_section.put_names_of.Goals as goal

pub returns-in-Ok-Some : goal.returns-in-Ok-Some
returns-in-Ok-Some c = some_put (maps_of c.args.name.now c.args.id.now c.args.fields.now) _ _ _ c.add_section.result (sym c.in-Ok-Some.field-0-is ∙ c.in-Ok-Some.ensures.named) c.add_section.ensures

pub returns-in-Ok-None : goal.returns-in-Ok-None
returns-in-Ok-None c = none_put (maps_of c.args.name.now c.args.id.now c.args.fields.now) _ (sym c.in-Ok-None.field-0-is ∙ c.in-Ok-None.ensures.named)

pub returns-in-Err : goal.returns-in-Err
returns-in-Err c = err_put (maps_of c.args.name.now c.args.id.now c.args.fields.now) _ c.in-Err.e (λ t. c.in-Err.ensures.too_large (ap Err t))
