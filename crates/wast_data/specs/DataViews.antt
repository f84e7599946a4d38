-- What the grammar sees of the code's values of data segments.
use Rattle.wast_data.specs.DataTree as spec
use Rattle.wast_data.specs.DataSyntax as words
use Rattle.wast_data.specs.declared.value.DataVal.{DataVal}
use Rattle.wast_data.specs.declared.value.DataVal.TheVariants as values
use Rattle.wast_data.specs.declared.syntax.NumberType.{NumberType}
use Rattle.wast_data.specs.declared.syntax.NumberType.TheVariants as types

abbrev pub number_view : NumberType → words.NumberType
number_view types.I8 = words.I8
number_view types.I16 = words.I16
number_view types.I32 = words.I32
number_view types.I64 = words.I64
number_view types.F32 = words.F32
number_view types.F64 = words.F64
number_view types.V128 = words.V128

abbrev pub value_tree : DataVal → spec.DataVal
value_tree (values.String bytes) = spec.Text bytes
value_tree (values.Integral bytes) = spec.Integral bytes.items
value_tree (values.Float len) = spec.Float len
