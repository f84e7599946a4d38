-- How much there is in fields that has a number of its own in name maps and hints: items, and inside of them parameters, locals, fields of
-- structures and instructions.
use Rattle.std.specs.Prelude.{ℕ, ◌+◌, ◌<◌, ◌^◌, List, [], ◌∷◌, length, Option, Some, None}
use Rattle.wast_signatures.specs.TypeTree.{Sig, InnerType, FuncType, StructType, TypeItem, TypeUse}
use Rattle.wast_imports.specs.ImportTree.{ExternType, OfTag, ImportItems, Single, Group1, Group2}
use Rattle.wast_module_fields.specs.FieldTree.{Defined, Func, TableOf, MemoryOf, Tag, Field, TypeField, RecField, ImportField, Define, ElemField, DataField}

abbrev pub total : {X : Type 0} → (X → ℕ) → List X → ℕ
total weight [] = 0
total weight (x ∷ xs) = weight x + total weight xs

module _ {N P : Type 0} where
  abbrev pub inner_weight : InnerType N P → ℕ
  inner_weight (FuncType s) = length s.params
  inner_weight (StructType fs) = length fs
  inner_weight _ = 0

  abbrev pub type_weight : TypeItem N P → ℕ
  type_weight t = inner_weight t.definition.comp.inner + 1

  abbrev pub sig_weight : Option (Sig N P) → ℕ
  sig_weight None = 0
  sig_weight (Some s) = length s.params

  abbrev pub use_weight : TypeUse N P → ℕ
  use_weight u = sig_weight u.inline

  abbrev pub extern_weight : ExternType N P → ℕ
  extern_weight (OfTag u) = use_weight u
  extern_weight _ = 0

  abbrev pub import_weight : ImportItems N P → ℕ
  import_weight (Single name i) = extern_weight i.extern_type + 1
  import_weight (Group1 is) = total (λ i. extern_weight i.1.extern_type + 1) is
  import_weight (Group2 names i) = extern_weight i.extern_type + length names

  -- with a segment that stands inline
  abbrev pub defined_weight : Defined N P → ℕ
  defined_weight (Func f) = use_weight f.type_use + length f.locals + length f.body.instrs + 1
  defined_weight (TableOf wide t es) = 2
  defined_weight (MemoryOf wide page vs) = 2
  defined_weight (Tag u) = use_weight u + 1
  defined_weight _ = 1

  abbrev pub weight : Field N P → ℕ
  weight (TypeField t) = type_weight t
  weight (RecField r) = total type_weight r.types
  weight (ImportField i) = import_weight i.items
  weight (Define d) = defined_weight d.defined
  weight (ElemField e) = 1
  weight (DataField d) = 1
  weight _ = 0

  -- so few that the number of any of it, behind parameters of a type, is one of 32 bits
  abbrev pub AreFew : List (Field N P) → Type 0
  AreFew fs = total weight fs < 2 ^ 31
