-- What definitions say whatever their kind.
use Rattle.std.proofs.Common.{◌≡◌, Bool, true, false, [], ◌∷◌, refl}
use Rattle.wast_signatures.specs.SignatureViews.{use_tree}
use Rattle.wast_signatures.specs.declared.signature.FunctionType.{FunctionType}
use Rattle.wast_signatures.specs.declared.type_use.TypeUse.{TypeUse}
use Rattle.wast_imports.specs.ImportViews.{tag_tree}
use Rattle.wast_imports.specs.declared.item.TagType.{TagType}
use Rattle.wast_module_fields.specs.FuncViews.{func_type_tree, defined_tag}
use Rattle.wast_module_fields.specs.MemoryViews.{defined_memory}
use Rattle.wast_module_fields.specs.MemoryKind.{MemoryKind}
use Rattle.wast_module_fields.specs.MemoryKind.TheVariants as memories
use Rattle.wast_module_fields.specs.TagKind.{TagKind}
use Rattle.wast_module_fields.specs.TagKind.TheVariants as tags
use Rattle.wast_meaning.specs.Mentions.{Uses, Says, says, extern_mentions, defined_parts}

pub func_says : (is_exact : Bool) (ty : TypeUse FunctionType) → Says (Uses (use_tree ty)) ∷ [] ≡ says (extern_mentions (func_type_tree is_exact ty))
func_says true ty = refl
func_says false ty = refl

pub tag_says : (kind : TagKind) (ty : TagType) → Says (Uses (tag_tree ty)) ∷ [] ≡ defined_parts (defined_tag kind ty)
tag_says (tags.Import i) ty = refl
tag_says tags.Inline ty = refl

pub memory_says : (kind : MemoryKind) → [] ≡ defined_parts (defined_memory kind)
memory_says (memories.Import i ty) = refl
memory_says (memories.Normal ty) = refl
memory_says (memories.Inline is_wide values page) = refl
