-- Which kinds of section are noted with fields.
use Rattle.std.proofs.Common.{◌≡◌, ℕ, ◌+◌, ◌<◌, ◌≤◌, Bool, true, false, List, [], ◌∷◌, length, get_or, refl, sym, ap, ◌∙◌}
use Rattle.wast_grammar.specs.Tokens.{Name}
use Rattle.wast_signatures.specs.declared.signature.FunctionType.{FunctionType}
use Rattle.wast_signatures.specs.declared.type_use.TypeUse.{TypeUse}
use Rattle.wast_imports.specs.ImportTree.{ExternType}
use Rattle.wast_imports.specs.declared.item.TagType.{TagType}
use Rattle.wast_module_fields.specs.FieldTree.{Defined, Imported, Definition, Define}
use Rattle.wast_module_fields.specs.FuncViews.{defined_func, defined_global, defined_tag}
use Rattle.wast_module_fields.specs.FuncKind.{FuncKind}
use Rattle.wast_module_fields.specs.FuncKind.TheVariants as funcs
use Rattle.wast_module_fields.specs.GlobalKind.{GlobalKind}
use Rattle.wast_module_fields.specs.GlobalKind.TheVariants as globals
use Rattle.wast_module_fields.specs.TagKind.{TagKind}
use Rattle.wast_module_fields.specs.TagKind.TheVariants as tags
use Rattle.wast_module_fields.specs.MemoryViews.{defined_memory}
use Rattle.wast_module_fields.specs.MemoryKind.{MemoryKind}
use Rattle.wast_module_fields.specs.MemoryKind.TheVariants as memories
use Rattle.wast_module_fields.specs.ElemViews.{defined_table}
use Rattle.wast_module_fields.specs.TableKind.{TableKind}
use Rattle.wast_module_fields.specs.TableKind.TheVariants as tables
use Rattle.wast_module_fields.specs.ModuleFieldViews.{field_tree}
use Rattle.wast_module_fields.specs.declared.field.ModuleField.{ModuleField}
use Rattle.wast_module_fields.specs.declared.field.ModuleField.TheVariants as fields
use Rattle.wast_binary.specs.Noted.{Notes, has, Covers}
use Rattle.wast_binary.specs.Sources.{fields_in}
use Rattle.wast_binary.specs.Views.{kind_view}
use Rattle.wast_binary.specs.declared.present.Present.{Present}
use Rattle.wast_binary.specs.declared.stop.Kind.{Kind}
use Rattle.wast_binary.specs.declared.stop.Kind.TheVariants as kinds
use Rattle.wast_binary.specs.Gives.{defined_gives, gives}
use Rattle.wast_binary.proofs.Gives.{not_so, absent}
use Rattle.wast_binary.proofs.Left.{Left, goes, ends, any_seen}

-- what is noted with a field
abbrev noted : Present → ModuleField → Present
noted p (fields.TypeItem x) = record p { types = true }
noted p (fields.Rec x) = record p { types = true }
noted p (fields.Import x) = record p { imports = true }
noted p (fields.Func x) = record p { functions = true }
noted p (fields.Table x) = record p { tables = true }
noted p (fields.Memory x) = record p { memories = true }
noted p (fields.Tag x) = record p { tags = true }
noted p (fields.Global x) = record p { globals = true }
noted p (fields.Export x) = record p { exports = true }
noted p (fields.Start x) = record p { starts = true }
noted p (fields.Elem x) = record p { elements = true }
noted p (fields.Data x) = record p { datas = true }
noted p (fields.Custom x) = p

-- WHAT IS DEFINED, whatever its kind, is in no other section
imported_gives : (from name : List ℕ) (t : ExternType Name ℕ) (k : Kind) → defined_gives (kind_view k) (Imported from name t ∷ []) ≡ false
imported_gives from name t kinds.Types = refl
imported_gives from name t _ = refl

abbrev Alone : (k : Kind) → Bool → Defined Name ℕ → Type 0
Alone k noted d = noted ≡ false → defined_gives (kind_view k) (d ∷ []) ≡ false

as_defined : (d : Definition Name ℕ) (k : Kind) → gives (kind_view k) (Define d) ≡ defined_gives (kind_view k) (d.defined ∷ [])
as_defined d kinds.Types = refl
as_defined d _ = refl

module _ (p : Present) where
  func_gives : (f : FuncKind) (ty : TypeUse FunctionType) (k : Kind) → Alone k (has (record p { functions = true }) k) (defined_func f ty)
  func_gives (funcs.Import i exact) ty k h = imported_gives _ _ _ k
  func_gives (funcs.Inline locals body) ty kinds.Functions h = not_so h
  func_gives (funcs.Inline locals body) ty kinds.DataCount h = not_so h
  func_gives (funcs.Inline locals body) ty kinds.Hints h = not_so h
  func_gives (funcs.Inline locals body) ty kinds.Codes h = not_so h
  func_gives (funcs.Inline locals body) ty _ h = refl

  table_gives : (t : TableKind) (k : Kind) → Alone k (has (record p { tables = true }) k) (defined_table t)
  table_gives (tables.Import i ty) k h = imported_gives _ _ _ k
  table_gives (tables.Normal ty init) kinds.Tables h = not_so h
  table_gives (tables.Normal ty init) _ h = refl
  table_gives (tables.Inline wide elem payload) kinds.Tables h = not_so h
  table_gives (tables.Inline wide elem payload) _ h = refl

  memory_gives : (m : MemoryKind) (k : Kind) → Alone k (has (record p { memories = true }) k) (defined_memory m)
  memory_gives (memories.Import i ty) k h = imported_gives _ _ _ k
  memory_gives (memories.Normal ty) kinds.Memories h = not_so h
  memory_gives (memories.Normal ty) _ h = refl
  memory_gives (memories.Inline wide values page) kinds.Memories h = not_so h
  memory_gives (memories.Inline wide values page) _ h = refl

  global_gives : (ty : _) (g : GlobalKind) (k : Kind) → Alone k (has (record p { globals = true }) k) (defined_global ty g)
  global_gives ty (globals.Import i) k h = imported_gives _ _ _ k
  global_gives ty (globals.Inline init) kinds.Globals h = not_so h
  global_gives ty (globals.Inline init) _ h = refl

  tag_gives : (t : TagKind) (ty : TagType) (k : Kind) → Alone k (has (record p { tags = true }) k) (defined_tag t ty)
  tag_gives (tags.Import i) ty k h = imported_gives _ _ _ k
  tag_gives tags.Inline ty kinds.Tags h = not_so h
  tag_gives tags.Inline ty _ h = refl

  -- A FIELD has nothing in a section that isn't noted with it
  field_gives : (f : ModuleField) (k : Kind) → has (noted p f) k ≡ false → gives (kind_view k) (field_tree f) ≡ false
  field_gives (fields.TypeItem x) kinds.Types h = not_so h
  field_gives (fields.Rec x) kinds.Types h = not_so h
  field_gives (fields.Import x) kinds.Imports h = not_so h
  field_gives (fields.Export x) kinds.Exports h = not_so h
  field_gives (fields.Start x) kinds.Starts h = not_so h
  field_gives (fields.Elem x) kinds.Elements h = not_so h
  field_gives (fields.Data x) kinds.Datas h = not_so h
  field_gives (fields.Func x) k h = as_defined _ k ∙ func_gives x.kind x.ty k h
  field_gives (fields.Table x) k h = as_defined _ k ∙ table_gives x.kind k h
  field_gives (fields.Memory x) k h = as_defined _ k ∙ memory_gives x.kind k h
  field_gives (fields.Global x) k h = as_defined _ k ∙ global_gives x.ty x.kind k h
  field_gives (fields.Tag x) k h = as_defined _ k ∙ tag_gives x.kind x.ty k h
  field_gives (fields.Custom x) kinds.Types h = refl
  field_gives f _ h = refl

  -- what was noted stays so
  stays : (f : ModuleField) (k : Kind) → has (noted p f) k ≡ false → has p k ≡ false
  stays (fields.TypeItem x) kinds.Types h = not_so h
  stays (fields.Rec x) kinds.Types h = not_so h
  stays (fields.Import x) kinds.Imports h = not_so h
  stays (fields.Func x) kinds.Functions h = not_so h
  stays (fields.Func x) kinds.DataCount h = not_so h
  stays (fields.Func x) kinds.Hints h = not_so h
  stays (fields.Func x) kinds.Codes h = not_so h
  stays (fields.Table x) kinds.Tables h = not_so h
  stays (fields.Memory x) kinds.Memories h = not_so h
  stays (fields.Tag x) kinds.Tags h = not_so h
  stays (fields.Global x) kinds.Globals h = not_so h
  stays (fields.Export x) kinds.Exports h = not_so h
  stays (fields.Start x) kinds.Starts h = not_so h
  stays (fields.Elem x) kinds.Elements h = not_so h
  stays (fields.Data x) kinds.Datas h = not_so h
  stays f k h = h

  pub notes : (q : Present) (f g : ModuleField) → f ≡ g → noted p g ≡ q → Notes f p q
  notes q f g same is k h =
      let has_none : has (noted p g) k ≡ false = ap (λ r. has r k) is ∙ h in
      (stays g k has_none, ap (λ e. gives (kind_view k) (field_tree e)) same ∙ field_gives g k has_none)

-- ALL FIELDS
abbrev test : Kind → ModuleField → Bool
test k f = gives (kind_view k) (field_tree f)

-- so many are noted
abbrev pub NotedSoFar : Present → List ModuleField → ℕ → Type 0
NotedSoFar p fs i = (k : Kind) → has p k ≡ false → Left (test k) fs i

pub one_noted : (p q : Present) (fs : List ModuleField) (i : ℕ) (f : ModuleField) → i < length fs → f ≡ get_or fs i f → Notes f p q → NotedSoFar p fs i → NotedSoFar q fs (i + 1)
one_noted p q fs i f l e notes so k h = let n = notes k h in goes (test k) fs i f l e n.1 (so k n.0)

pub all_noted : (p : Present) (fs : List ModuleField) (i : ℕ) → length fs ≤ i → NotedSoFar p fs i → Covers p fs
all_noted p fs i l so given id kinds.Names h = not_so h
all_noted p fs i l so given id k h = absent given id (fields_in fs) (kind_view k) (sym (any_seen (gives (kind_view k)) field_tree fs) ∙ sym (ends (test k) fs i l (so k h)))
