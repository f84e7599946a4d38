-- What the grammar sees of the code's custom fields.
use Rattle.std.specs.Prelude.{ℕ, map}
use Rattle.std.specs.Cow.{cow_str_bytes}
use Rattle.wast_customs.specs.CustomTree as spec
use Rattle.wast_customs.specs.DylinkSyntax as words
use Rattle.wast_customs.specs.CustomSyntax as sides
use Rattle.wast_customs.specs.declared.place.CustomPlaceAnchor.{CustomPlaceAnchor}
use Rattle.wast_customs.specs.declared.place.CustomPlaceAnchor.TheVariants as anchors
use Rattle.wast_customs.specs.declared.place.CustomPlace.{CustomPlace}
use Rattle.wast_customs.specs.declared.place.CustomPlace.TheVariants as places
use Rattle.wast_customs.specs.declared.place.Side.{Side}
use Rattle.wast_customs.specs.declared.place.Side.TheVariants as the_sides
use Rattle.wast_customs.specs.declared.custom.RawCustomSection.{RawCustomSection}
use Rattle.wast_customs.specs.declared.custom.Custom.{Custom}
use Rattle.wast_customs.specs.declared.custom.Custom.TheVariants as customs
use Rattle.wast_customs.specs.declared.producers.ProducerKind.{ProducerKind}
use Rattle.wast_customs.specs.declared.producers.ProducerKind.TheVariants as kinds
use Rattle.wast_customs.specs.declared.producers.Producer.{Producer}
use Rattle.wast_customs.specs.declared.producers.Producers.{Producers}
use Rattle.wast_customs.specs.declared.flag.SymbolFlag.{SymbolFlag}
use Rattle.wast_customs.specs.declared.flag.SymbolFlag.TheVariants as flags
use Rattle.wast_customs.specs.declared.subsection.GroupKind.{GroupKind}
use Rattle.wast_customs.specs.declared.subsection.GroupKind.TheVariants as groups
use Rattle.wast_customs.specs.declared.dylink.Dylink0Subsection.{Dylink0Subsection}
use Rattle.wast_customs.specs.declared.dylink.Dylink0Subsection.TheVariants as subsections
use Rattle.wast_customs.specs.declared.dylink.Dylink0.{Dylink0}

-- words
abbrev pub anchor_view : CustomPlaceAnchor → spec.Anchor
anchor_view anchors.TypeItem = spec.TypeItem
anchor_view anchors.Import = spec.Import
anchor_view anchors.Func = spec.Func
anchor_view anchors.Table = spec.Table
anchor_view anchors.Memory = spec.Memory
anchor_view anchors.Global = spec.Global
anchor_view anchors.Export = spec.Export
anchor_view anchors.Start = spec.Start
anchor_view anchors.Elem = spec.Elem
anchor_view anchors.Code = spec.Code
anchor_view anchors.Data = spec.Data
anchor_view anchors.Tag = spec.Tag

abbrev pub side_view : Side → sides.Side
side_view the_sides.Before = sides.Ahead
side_view the_sides.After = sides.Behind

abbrev pub kind_view : ProducerKind → spec.ProducerKind
kind_view kinds.Language = spec.Language
kind_view kinds.Sdk = spec.Sdk
kind_view kinds.ProcessedBy = spec.ProcessedBy

abbrev pub flag_view : SymbolFlag → words.SymbolFlag
flag_view flags.BindingWeak = words.BindingWeak
flag_view flags.BindingLocal = words.BindingLocal
flag_view flags.VisibilityHidden = words.VisibilityHidden
flag_view flags.Undefined = words.Undefined
flag_view flags.Exported = words.Exported
flag_view flags.ExplicitName = words.ExplicitName
flag_view flags.NoStrip = words.NoStrip

abbrev pub group_view : GroupKind → words.GroupKind
group_view groups.MemInfo = words.MemInfoGroup
group_view groups.Needed = words.NeededGroup
group_view groups.ExportInfo = words.ExportInfoGroup
group_view groups.ImportInfo = words.ImportInfoGroup
group_view groups.RuntimePath = words.RuntimePathGroup

-- the trees
abbrev pub place_tree : CustomPlace → spec.CustomPlace
place_tree places.BeforeFirst = spec.BeforeFirst
place_tree (places.Before a) = spec.Before (anchor_view a)
place_tree (places.After a) = spec.After (anchor_view a)
place_tree places.AfterLast = spec.AfterLast

abbrev pub raw_tree : RawCustomSection → spec.RawSection ℕ
raw_tree s = record { place = s.span; name = cow_str_bytes s.name; section = place_tree s.place; strings = s.bytes.items }

abbrev pub producer_tree : Producer → spec.Producer
producer_tree p = record { kind = kind_view p.kind; name = cow_str_bytes p.name; version = cow_str_bytes p.version }

abbrev pub producers_tree : Producers → spec.Producers ℕ
producers_tree p = record { place = p.span; fields = map producer_tree p.fields.items }

abbrev pub subsection_tree : Dylink0Subsection → spec.Subsection
subsection_tree (subsections.MemInfo memory_size memory_align table_size table_align) = spec.MemInfo memory_size memory_align table_size table_align
subsection_tree (subsections.Needed names) = spec.Needed (map cow_str_bytes names.items)
subsection_tree (subsections.ExportInfo exports) = spec.ExportInfo (map (λ e. (cow_str_bytes e.0, e.1)) exports.items)
subsection_tree (subsections.ImportInfo imports) = spec.ImportInfo (map (λ i. (cow_str_bytes i.0, (cow_str_bytes i.1, i.2))) imports.items)
subsection_tree (subsections.RuntimePath names) = spec.RuntimePath (map cow_str_bytes names.items)

abbrev pub dylink_tree : Dylink0 → spec.Dylink ℕ
dylink_tree d = record { place = d.span; subsections = map subsection_tree d.subsections.items }

abbrev pub custom_tree : Custom → spec.Custom ℕ
custom_tree (customs.Raw s) = spec.Raw (raw_tree s)
custom_tree (customs.Producers p) = spec.ProducersField (producers_tree p)
custom_tree (customs.Dylink0 d) = spec.DylinkField (dylink_tree d)
