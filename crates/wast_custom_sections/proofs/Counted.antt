-- How many functions of their index space fields have.
use Rattle.std.proofs.Common.{ℕ, zero, suc, ◌≡◌, true, false, List, [], ◌∷◌, length, map, replicate, refl, ap, flat_map}
use Rattle.wasm_layout.specs.Present.{has_any}
use Rattle.wast_value_types.specs.declared.global_type.GlobalType.{GlobalType}
use Rattle.wast_imports.specs.ImportTree.{ExternType, OfFunc, OfExactFunc, OfTable, OfMemory, OfGlobal, OfTag}
use Rattle.wast_imports.specs.ImportViews.{items_tree}
use Rattle.wast_imports.specs.declared.item.TagType.{TagType}
use Rattle.wast_module_fields.specs.FuncViews.{defined_tag, defined_global}
use Rattle.wast_module_fields.specs.MemoryViews.{defined_memory}
use Rattle.wast_module_fields.specs.ElemViews.{defined_table}
use Rattle.wast_module_fields.specs.GlobalKind.{GlobalKind}
use Rattle.wast_module_fields.specs.GlobalKind.TheVariants as globals
use Rattle.wast_module_fields.specs.MemoryKind.{MemoryKind}
use Rattle.wast_module_fields.specs.MemoryKind.TheVariants as memories
use Rattle.wast_module_fields.specs.TableKind.{TableKind}
use Rattle.wast_module_fields.specs.TableKind.TheVariants as tables
use Rattle.wast_module_fields.specs.TagKind.{TagKind}
use Rattle.wast_module_fields.specs.TagKind.TheVariants as tags
use Rattle.wast_module_fields.specs.ModuleFieldViews.{field_tree}
use Rattle.wast_module_fields.specs.declared.field.ModuleField.{ModuleField}
use Rattle.wast_module_fields.specs.declared.field.ModuleField.TheVariants as fields
use Rattle.wast_meant.specs.NamesMeant.{imported, imported_function, defined_function, bodies_in}
use Rattle.wast_custom_sections.specs.Hinted.{hinted_from}

-- what is defined and no function
no_table : (t : TableKind) → defined_function (defined_table t) ≡ []
no_table (tables.Import i ty) = refl
no_table (tables.Normal ty init) = refl
no_table (tables.Inline wide elem payload) = refl

no_memory : (m : MemoryKind) → defined_function (defined_memory m) ≡ []
no_memory (memories.Import i ty) = refl
no_memory (memories.Normal ty) = refl
no_memory (memories.Inline wide values page) = refl

no_global : (ty : GlobalType) (g : GlobalKind) → defined_function (defined_global ty g) ≡ []
no_global ty (globals.Import i) = refl
no_global ty (globals.Inline init) = refl

no_tag : (t : TagKind) (ty : TagType) → defined_function (defined_tag t ty) ≡ []
no_tag (tags.Import i) ty = refl
no_tag tags.Inline ty = refl

pub no_functions : (f : ModuleField) → ((x : _) → f ≡ fields.Func x → ⊥) → ((x : _) → f ≡ fields.Import x → ⊥) → bodies_in (field_tree f) ≡ []
no_functions (fields.TypeItem x) h g = refl
no_functions (fields.Rec x) h g = refl
no_functions (fields.Import x) h g = absurd (g x refl)
no_functions (fields.Func x) h g = absurd (h x refl)
no_functions (fields.Table x) h g = no_table x.kind
no_functions (fields.Memory x) h g = no_memory x.kind
no_functions (fields.Global x) h g = no_global x.ty x.kind
no_functions (fields.Export x) h g = refl
no_functions (fields.Start x) h g = refl
no_functions (fields.Elem x) h g = refl
no_functions (fields.Data x) h g = refl
no_functions (fields.Tag x) h g = no_tag x.kind x.ty
no_functions (fields.Custom x) h g = refl

module _ {N P : Type 0} where
  -- what is imported has no hints
  none_imported : (n : ℕ) (ts : List (ExternType N P)) → hinted_from n (flat_map imported_function ts) ≡ []
  none_imported n [] = refl
  none_imported n (OfFunc u ∷ ts) = none_imported (suc n) ts
  none_imported n (OfExactFunc u ∷ ts) = none_imported (suc n) ts
  none_imported n (OfTable t ∷ ts) = none_imported n ts
  none_imported n (OfMemory t ∷ ts) = none_imported n ts
  none_imported n (OfGlobal t ∷ ts) = none_imported n ts
  none_imported n (OfTag u ∷ ts) = none_imported n ts

  -- as many of one kind
  pub as_many : (t : ExternType N P) (n : ℕ) → has_any (imported_function t) ≡ true → n ≡ length (flat_map imported_function (replicate n t))
  as_many (OfFunc u) zero h = refl
  as_many (OfFunc u) (suc n) h = ap suc (as_many (OfFunc u) n h)
  as_many (OfExactFunc u) zero h = refl
  as_many (OfExactFunc u) (suc n) h = ap suc (as_many (OfExactFunc u) n h)
  as_many (OfTable t) n h = cc
  as_many (OfMemory t) n h = cc
  as_many (OfGlobal t) n h = cc
  as_many (OfTag u) n h = cc

  pub as_none : (t : ExternType N P) (n : ℕ) → has_any (imported_function t) ≡ false → 0 ≡ length (flat_map imported_function (replicate n t))
  as_none (OfFunc u) n h = cc
  as_none (OfExactFunc u) n h = cc
  as_none (OfTable t) zero h = refl
  as_none (OfTable t) (suc n) h = as_none (OfTable t) n h
  as_none (OfMemory t) zero h = refl
  as_none (OfMemory t) (suc n) h = as_none (OfMemory t) n h
  as_none (OfGlobal t) zero h = refl
  as_none (OfGlobal t) (suc n) h = as_none (OfGlobal t) n h
  as_none (OfTag u) zero h = refl
  as_none (OfTag u) (suc n) h = as_none (OfTag u) n h

  pub alike : {A : Type 0} (t : ExternType N P) (xs : List A) → map (λ x. t) xs ≡ replicate (length xs) t
  alike t [] = refl
  alike t (x ∷ xs) = ap (λ ys. t ∷ ys) (alike t xs)

pub no_hinted : (f : ModuleField) → ((x : _) → f ≡ fields.Func x → ⊥) → (n : ℕ) → hinted_from n (bodies_in (field_tree f)) ≡ []
no_hinted (fields.TypeItem x) h n = refl
no_hinted (fields.Rec x) h n = refl
no_hinted (fields.Import x) h n = none_imported n (imported (items_tree x.items))
no_hinted (fields.Func x) h n = absurd (h x refl)
no_hinted (fields.Table x) h n = ap (hinted_from n) (no_table x.kind)
no_hinted (fields.Memory x) h n = ap (hinted_from n) (no_memory x.kind)
no_hinted (fields.Global x) h n = ap (hinted_from n) (no_global x.ty x.kind)
no_hinted (fields.Export x) h n = refl
no_hinted (fields.Start x) h n = refl
no_hinted (fields.Elem x) h n = refl
no_hinted (fields.Data x) h n = refl
no_hinted (fields.Tag x) h n = ap (hinted_from n) (no_tag x.kind x.ty)
no_hinted (fields.Custom x) h n = refl
