-- What the grammar sees of the code's imports and items, and the items that an import has.
use Rattle.std.specs.Prelude.{ℕ, List, [], ◌∷◌, map, Option, Some, None, option_map}
use Rattle.std.specs.List.{slice_get}
use Rattle.std.specs.Global.{Vec}
use Rattle.std.specs.Vec.{with_item}
use Rattle.std.specs.Cow.{cow_str_bytes}
use Rattle.wast_signatures.specs.Tokens.{Name}
use Rattle.wast_signatures.specs.Identifiers.{identifier_tree}
use Rattle.wast_value_types.specs.ValueViews.{table_tree, memory_tree, global_tree}
use Rattle.wast_signatures.specs.TypeTree as types
use Rattle.wast_signatures.specs.SignatureViews.{name_tree, use_tree}
use Rattle.wast_imports.specs.ImportTree as spec
use Rattle.wast_imports.specs.ImportSyntax as syntax
use Rattle.wast_imports.specs.declared.head.Head.{Head}
use Rattle.wast_imports.specs.declared.item.TagType.{TagType}
use Rattle.wast_imports.specs.declared.item.TagType.TheVariants as tags
use Rattle.wast_imports.specs.declared.item.ItemKind.{ItemKind}
use Rattle.wast_imports.specs.declared.item.ItemKind.TheVariants as kinds
use Rattle.wast_imports.specs.declared.item.ItemSig.{ItemSig}
use Rattle.wast_imports.specs.declared.import.ImportGroup1Item.{ImportGroup1Item}
use Rattle.wast_imports.specs.declared.import.ImportGroup2Item.{ImportGroup2Item}
use Rattle.wast_imports.specs.declared.import.ImportItems.{ImportItems}
use Rattle.wast_imports.specs.declared.import.ImportItems.TheVariants as items
use Rattle.wast_imports.specs.declared.import.Imports.{Imports}
use Rattle.wast_imports.specs.declared.export_type.ExportType.{ExportType}

abbrev pub head_tree : Head → syntax.Head Name ℕ
head_tree h = (option_map identifier_tree h.id, option_map name_tree h.name)

abbrev pub tag_tree : TagType → types.TypeUse Name ℕ
tag_tree (tags.Exception ty) = use_tree ty

abbrev pub extern_tree : ItemKind → spec.ExternType Name ℕ
extern_tree (kinds.Func ty) = spec.OfFunc (use_tree ty)
extern_tree (kinds.FuncExact ty) = spec.OfExactFunc (use_tree ty)
extern_tree (kinds.Table ty) = spec.OfTable (table_tree ty)
extern_tree (kinds.Memory ty) = spec.OfMemory (memory_tree ty)
extern_tree (kinds.Global ty) = spec.OfGlobal (global_tree ty)
extern_tree (kinds.Tag ty) = spec.OfTag (tag_tree ty)

abbrev pub item_tree : ItemSig → spec.Item Name ℕ
item_tree s = record { place = s.span; id = option_map identifier_tree s.id; given = option_map name_tree s.name; extern_type = extern_tree s.kind }

-- IMPORTS
abbrev pub member_tree : ImportGroup1Item → List ℕ × spec.Item Name ℕ
member_tree i = (cow_str_bytes i.name, item_tree i.sig)

abbrev pub member_name_tree : ImportGroup2Item → List ℕ
member_name_tree i = cow_str_bytes i.name

abbrev pub from_of : ImportItems → List ℕ
from_of (items.Single from name sig) = cow_str_bytes from
from_of (items.Group1 from members) = cow_str_bytes from
from_of (items.Group2 from sig members) = cow_str_bytes from

abbrev pub items_tree : ImportItems → spec.ImportItems Name ℕ
items_tree (items.Single from name sig) = spec.Single (cow_str_bytes name) (item_tree sig)
items_tree (items.Group1 from members) = spec.Group1 (map member_tree members.items)
items_tree (items.Group2 from sig members) = spec.Group2 (map member_name_tree members.items) (item_tree sig)

abbrev pub imports_tree : Imports → spec.Imports Name ℕ
imports_tree i = record { place = i.span; from = from_of i.items; items = items_tree i.items }

abbrev pub export_type_tree : ExportType → spec.ExportType Name ℕ
export_type_tree e = record { place = e.span; name = cow_str_bytes e.name; item = item_tree e.item }

-- what each import of them is of, in order
abbrev pub sigs_of : ImportItems → List ItemSig
sigs_of (items.Single from name sig) = sig ∷ []
sigs_of (items.Group1 from members) = map (λ i. i.sig) members.items
sigs_of (items.Group2 from sig members) = map (λ _. sig) members.items

-- the same, that of a group that is alike once
abbrev pub unique_sigs_of : ImportItems → List ItemSig
unique_sigs_of (items.Single from name sig) = sig ∷ []
unique_sigs_of (items.Group1 from members) = map (λ i. i.sig) members.items
unique_sigs_of (items.Group2 from sig members) = sig ∷ []

-- all as it was, but for the one of these at this place
abbrev pub with_member_sig : Vec ImportGroup1Item → ℕ → ItemSig → Option ImportGroup1Item → Vec ImportGroup1Item
with_member_sig members at sig None = members
with_member_sig members at sig (Some i) = with_item members at (record i { sig = sig })

abbrev pub with_unique_sig : ImportItems → ℕ → ItemSig → ImportItems
with_unique_sig (items.Single from name old) at sig = items.Single from name sig
with_unique_sig (items.Group1 from members) at sig = items.Group1 from (with_member_sig members at sig (slice_get members.items at))
with_unique_sig (items.Group2 from old members) at sig = items.Group2 from sig members
