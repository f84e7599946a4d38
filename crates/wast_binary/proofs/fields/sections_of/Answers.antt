use Rattle.std.proofs.Common.{◌≡◌, ◌++◌, Err, ap, ◌∙◌}
use Rattle.std.proofs.lemmas.Result.{err_from_is_err_and}
use Rattle.wasm_encoder_base.specs.EncodeError.TheVariants.{TooLarge}
use Rattle.std.specs.List.{flat_map}
use Rattle.wasm_layout.specs.Layout.{piece_bytes, pieces}
use Rattle.wast_binary.specs.Sources.{module_in}
use Rattle.wast_binary.proofs.fields.sections_of.Goals as goal

pub returns-in-Ok-clause-put : goal.returns-in-Ok-clause-put
returns-in-Ok-clause-put c = c.in-Ok.ensures.put ∙ ap (λ b. b ++ flat_map piece_bytes (pieces (module_in c.args.id.now c.args.name.now c.args.fields.now))) c.in_ok-sections.ensures

pub returns-in_err-sections-clause-sizes : goal.returns-in_err-sections-clause-sizes
returns-in_err-sections-clause-sizes c = let r = err_from_is_err_and c.from_residual.result c.from_residual.ensures.1 in rw (r.1) tt

pub returns-in-Err-clause-too_large : goal.returns-in-Err-clause-too_large
returns-in-Err-clause-too_large c = λ t whole. (let large : c.in-Err.e ≡ TooLarge = cc in c.in-Err.ensures.too_large (ap Err large) whole whole.sizes)
