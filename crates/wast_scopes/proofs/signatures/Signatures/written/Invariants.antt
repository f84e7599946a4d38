use Rattle.std.proofs.Common.{◌≡◌, map, take}
use Rattle.std.specs.Prelude.{option_map}
use Rattle.std.specs.List.{flat_map}
use Rattle.wast_module_fields.specs.ModuleFieldViews.{field_tree}
use Rattle.wast_meaning.specs.Implied.{written_types}
use Rattle.wast_names.specs.Views.{space}
use Rattle.wast_scopes.specs.Numbered.{numbered_sig}
use Rattle.wast_scopes.specs.Signatures.{func_type, signatures}
use Rattle.wast_scopes.proofs.signatures.Signatures.written.Given as goal

abbrev pub invariant-loop-field : goal.invariant-loop-field
invariant-loop-field l = signatures l.all ≡ map (option_map (numbered_sig (space l.types).look)) (flat_map (λ x. map func_type (written_types (field_tree x))) (take l.field-index l.fields))
