use Rattle.std.proofs.Common.{◌≡◌, ◌++◌, Err, ap, ◌∙◌}
use Rattle.wasm_encoder_base.specs.EncodeError.TheVariants.{TooLarge}
use Rattle.std.specs.Prelude.{option_map}
use Rattle.wasm_encoder.specs.Module.{header}
use Rattle.wast_parser.specs.Identifiers.{identifier_tree}
use Rattle.wast_signatures.specs.SignatureViews.{name_tree}
use Rattle.wast_binary.specs.Sources.{fields_in}
use Rattle.wast_binary.proofs.Laid.{lays}
use Rattle.wast_binary.proofs.fields.encode_sections.Goals as goal

pub returns-in-Ok-clause-lays : goal.returns-in-Ok-clause-lays
returns-in-Ok-clause-lays c =
    lays (option_map name_tree c.args.name.now) (option_map identifier_tree c.args.id.now) (fields_in c.args.fields.now) c.requires.can c.requires.few c.in-Ok.ensures.sound _ c.in-Ok.ensures.sizes
    (c.finish.ensures ∙ ap (λ b. header ++ b) c.in-Ok.ensures.put)

pub returns-in-Err-clause-too_large : goal.returns-in-Err-clause-too_large
returns-in-Err-clause-too_large c = λ t whole. (let large : c.in-Err.e ≡ TooLarge = cc in c.in-Err.ensures.too_large (ap Err large) whole)
