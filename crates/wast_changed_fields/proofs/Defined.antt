-- What is rewritten of definitions whose kinds are told apart elsewhere.
use Rattle.std.proofs.Common.{◌≡◌, ℕ, Bool, true, false, refl, ap}
use Rattle.wast_grammar.specs.Tokens.{Name}
use Rattle.wast_signatures.specs.SignatureViews.{use_tree}
use Rattle.wast_signatures.specs.declared.signature.FunctionType.{FunctionType}
use Rattle.wast_signatures.specs.declared.type_use.TypeUse.{TypeUse}
use Rattle.wast_exports.specs.declared.inline.InlineImport.{InlineImport}
use Rattle.wast_imports.specs.ImportTree.{OfFunc, OfExactFunc, OfTag}
use Rattle.wast_imports.specs.declared.item.TagType.TheVariants as types
use Rattle.wast_module_fields.specs.FieldTree as spec
use Rattle.wast_field_syntax.specs.InlineViews.{imported}
use Rattle.wast_module_fields.specs.FuncViews.{defined_func, defined_tag}
use Rattle.wast_module_fields.specs.MemoryViews.{defined_memory, memory_definition}
use Rattle.wast_module_fields.specs.FuncKind.TheVariants as funcs
use Rattle.wast_module_fields.specs.Memory.{Memory}
use Rattle.wast_module_fields.specs.MemoryKind.{MemoryKind}
use Rattle.wast_module_fields.specs.MemoryKind.TheVariants as memories
use Rattle.wast_module_fields.specs.TagKind.{TagKind}
use Rattle.wast_module_fields.specs.TagKind.TheVariants as tags
use Rattle.wast_meaning.specs.Changed.{Changes, use_changed, defined_changed, field_changed}

pub imported_func_changed : (cs : Changes Name ℕ) (i : InlineImport) (is_exact : Bool) (old new : TypeUse FunctionType) → use_tree new ≡ use_changed cs.outside (use_tree old)
    → defined_func (funcs.Import i is_exact) new ≡ defined_changed cs (defined_func (funcs.Import i is_exact) old)
imported_func_changed cs i true old new e = ap (λ u. imported i (OfExactFunc u)) e
imported_func_changed cs i false old new e = ap (λ u. imported i (OfFunc u)) e

pub tag_changed : (cs : Changes Name ℕ) (kind : TagKind) (old new : TypeUse FunctionType) → use_tree new ≡ use_changed cs.outside (use_tree old)
    → defined_tag kind (types.Exception new) ≡ defined_changed cs (defined_tag kind (types.Exception old))
tag_changed cs (tags.Import i) old new e = ap (λ u. imported i (OfTag u)) e
tag_changed cs tags.Inline old new e = ap spec.Tag e

-- no index stands in a memory
memory_kept : (cs : Changes Name ℕ) (kind : MemoryKind) → defined_memory kind ≡ defined_changed cs (defined_memory kind)
memory_kept cs (memories.Import i ty) = refl
memory_kept cs (memories.Normal ty) = refl
memory_kept cs (memories.Inline is_wide values page) = refl

pub memory_field_kept : (cs : Changes Name ℕ) (m : Memory) → spec.Define (memory_definition m) ≡ field_changed cs (spec.Define (memory_definition m))
memory_field_kept cs m = ap (λ d. spec.Define (record (memory_definition m) { defined = d })) (memory_kept cs m.kind)
