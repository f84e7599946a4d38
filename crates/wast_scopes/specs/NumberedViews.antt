-- What contracts see of numbered signatures.
use Rattle.std.specs.Prelude.{map}
use Rattle.wast_scopes.specs.Numbered.{NumberedValue, OfNumber, OfWord, OfIndex, NumberedSig}
use Rattle.wast_scopes.specs.declared.numbered.NumberedType.{NumberedType}
use Rattle.wast_scopes.specs.declared.numbered.NumberedType.TheVariants as numbered
use Rattle.wast_scopes.specs.declared.numbered.NumberedSignature.{NumberedSignature}

abbrev pub value_of_numbered : NumberedType → NumberedValue
value_of_numbered numbered.I32 = OfNumber 0
value_of_numbered numbered.I64 = OfNumber 1
value_of_numbered numbered.F32 = OfNumber 2
value_of_numbered numbered.F64 = OfNumber 3
value_of_numbered numbered.V128 = OfNumber 4
value_of_numbered (numbered.Abstract nullable shared word) = OfWord nullable shared word
value_of_numbered (numbered.Defined nullable exact number) = OfIndex nullable exact number

abbrev pub sig_of_numbered : NumberedSignature → NumberedSig
sig_of_numbered s = record { params = map value_of_numbered s.params.items; results = map value_of_numbered s.results.items }
