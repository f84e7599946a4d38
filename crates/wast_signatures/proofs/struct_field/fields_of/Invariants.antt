use Rattle.std.proofs.Common.{◌≡◌, map}
use Rattle.wast_value_types.specs.ValueViews.{field_tree}
use Rattle.wast_signatures.specs.TypeSyntax.{unnamed_field}
use Rattle.wast_signatures.specs.SignatureViews.{struct_field_tree}
use Rattle.wast_signatures.proofs.struct_field.fields_of.Given as goal

abbrev pub invariant-loop-ty : goal.invariant-loop-ty
invariant-loop-ty l = map struct_field_tree l.fields.items ≡ map unnamed_field (map field_tree l.yielded)
