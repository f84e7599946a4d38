-- What private contracts say of fields: the items of what they define.
use Rattle.std.specs.Prelude.{List, []}
use Rattle.wast_module_fields.specs.FieldTree.{Defined, Field, Define}

abbrev pub items_defined : {N P A : Type 0} → (Defined N P → List A) → Field N P → List A
items_defined items (Define d) = items d.defined
items_defined items f = []
