-- What the grammar sees of the code's operands.
use Rattle.std.specs.Prelude.{ℕ, List, map, Option, Some, None, option_map}
use Rattle.wast_vector_operands.specs.Tokens.{Name}
use Rattle.wast_parser_base.specs.declared.index.Index.{Index}
use Rattle.wast_vector_operands.specs.Identifiers.{Reference, index_tree}
use Rattle.wast_operands.specs.OperandTree as spec
use Rattle.wast_operands.specs.declared.index.BrTableIndices.{BrTableIndices}
use Rattle.wast_operands.specs.declared.index.TableArg.{TableArg}
use Rattle.wast_operands.specs.declared.index.MemoryArg.{MemoryArg}
use Rattle.wast_operands.specs.declared.index.TableCopy.{TableCopy}
use Rattle.wast_operands.specs.declared.index.MemoryCopy.{MemoryCopy}
use Rattle.wast_operands.specs.declared.index.TableInit.{TableInit}
use Rattle.wast_operands.specs.declared.index.MemoryInit.{MemoryInit}
use Rattle.wast_operands.specs.declared.index.StructAccess.{StructAccess}
use Rattle.wast_operands.specs.declared.index.ArrayCopy.{ArrayCopy}
use Rattle.wast_operands.specs.declared.index.ArrayInit.{ArrayInit}
use Rattle.wast_operands.specs.declared.index.ArrayNewData.{ArrayNewData}
use Rattle.wast_operands.specs.declared.index.ArrayNewElem.{ArrayNewElem}
use Rattle.wast_operands.specs.declared.index.ArrayNewFixed.{ArrayNewFixed}
use Rattle.wast_operands.specs.declared.ordering.Ordering.{Ordering}
use Rattle.wast_operands.specs.declared.ordering.Ordering.TheVariants as orderings
use Rattle.wast_operands.specs.declared.mem_arg.MemArgTarget.{MemArgTarget}
use Rattle.wast_operands.specs.declared.mem_arg.MemArgTarget.TheVariants as targets
use Rattle.wast_operands.specs.declared.mem_arg.MemArgOrdering.{MemArgOrdering}
use Rattle.wast_operands.specs.declared.mem_arg.MemArgOrdering.TheVariants as accesses
use Rattle.wast_operands.specs.declared.mem_arg.Modifiers.{Modifiers}
use Rattle.wast_operands.specs.declared.mem_arg.MemArg.{MemArg}
use Rattle.wast_operands.specs.declared.mem_arg.LoadOrStoreLane.{LoadOrStoreLane}
use Rattle.wast_operands.specs.declared.resume.Handle.{Handle}
use Rattle.wast_operands.specs.declared.resume.Handle.TheVariants as handles
use Rattle.wast_operands.specs.declared.resume.ResumeTable.{ResumeTable}
use Rattle.wast_operands.specs.declared.resume.Resume.{Resume}
use Rattle.wast_operands.specs.declared.resume.ResumeThrow.{ResumeThrow}
use Rattle.wast_operands.specs.declared.resume.ResumeThrowRef.{ResumeThrowRef}
use Rattle.wast_operands.specs.declared.resume.Switch.{Switch}
use Rattle.wast_operands.specs.declared.resume.ContBind.{ContBind}

-- INDICES
abbrev pub TextReference : Type 0
TextReference = Reference Name ℕ

abbrev pub pair_tree : Index × Index → TextReference × TextReference
pair_tree p = (index_tree p.0, index_tree p.1)

abbrev pub label_table_tree : BrTableIndices → List TextReference × TextReference
label_table_tree t = (map index_tree t.labels.items, index_tree t.default)

abbrev pub table_arg_tree : TableArg → Option TextReference
table_arg_tree a = option_map index_tree a.dst

abbrev pub memory_arg_tree : MemoryArg → Option TextReference
memory_arg_tree a = option_map index_tree a.mem

abbrev pub table_copy_tree : TableCopy → Option (TextReference × TextReference)
table_copy_tree c = option_map (λ p. pair_tree p.value) c.tables

abbrev pub memory_copy_tree : MemoryCopy → Option (TextReference × TextReference)
memory_copy_tree c = option_map (λ p. pair_tree p.value) c.memories

abbrev pub table_init_tree : TableInit → Option TextReference × TextReference
table_init_tree i = (option_map index_tree i.table, index_tree i.elem)

abbrev pub memory_init_tree : MemoryInit → Option TextReference × TextReference
memory_init_tree i = (option_map index_tree i.mem, index_tree i.«data»)

abbrev pub struct_access_tree : StructAccess → TextReference × TextReference
struct_access_tree a = (index_tree a.struct_type, index_tree a.field)

abbrev pub array_copy_tree : ArrayCopy → TextReference × TextReference
array_copy_tree c = (index_tree c.dest_array, index_tree c.src_array)

abbrev pub array_init_tree : ArrayInit → TextReference × TextReference
array_init_tree i = (index_tree i.array, index_tree i.segment)

abbrev pub array_new_data_tree : ArrayNewData → TextReference × TextReference
array_new_data_tree n = (index_tree n.array, index_tree n.data_idx)

abbrev pub array_new_elem_tree : ArrayNewElem → TextReference × TextReference
array_new_elem_tree n = (index_tree n.array, index_tree n.elem_idx)

abbrev pub array_new_fixed_tree : ArrayNewFixed → TextReference × ℕ
array_new_fixed_tree n = (index_tree n.array, n.length)

-- ORDERINGS
abbrev pub ordering_tree : Ordering → spec.Ordering
ordering_tree orderings.AcqRel = spec.AcqRel
ordering_tree orderings.SeqCst = spec.SeqCst

-- MEMORY ARGUMENTS
abbrev pub target_tree : MemArgTarget → spec.MemArgTarget Name ℕ
target_tree (targets.Memory i) = spec.Memory (index_tree i)
target_tree (targets.Array i) = spec.Array (index_tree i)

abbrev pub mem_arg_ordering_tree : MemArgOrdering → spec.Ordering × Option spec.Ordering
mem_arg_ordering_tree (accesses.Op o) = (ordering_tree o, None)
mem_arg_ordering_tree (accesses.Rmw o p) = (ordering_tree o, Some (ordering_tree p))

abbrev pub modifiers_tree : Modifiers → spec.Modifiers
modifiers_tree m = record { ordering = option_map mem_arg_ordering_tree m.ordering; offset = m.offset; align = m.align }

abbrev pub mem_arg_tree : MemArg → spec.MemArg Name ℕ
mem_arg_tree m = record { target = option_map (λ t. target_tree t.value) m.target; ordering = option_map mem_arg_ordering_tree m.ordering; offset = m.offset; align = m.align }

abbrev pub lane_access_tree : LoadOrStoreLane → spec.MemArg Name ℕ × ℕ
lane_access_tree l = (mem_arg_tree l.memarg, l.lane.lane)

-- CONTINUATIONS
abbrev pub handle_tree : Handle → spec.Handle Name ℕ
handle_tree (handles.OnLabel tag label) = spec.OnLabel (index_tree tag) (index_tree label)
handle_tree (handles.OnSwitch tag) = spec.OnSwitch (index_tree tag)

abbrev pub handlers_tree : ResumeTable → List (spec.Handle Name ℕ)
handlers_tree t = map handle_tree t.handlers.items

abbrev pub resume_tree : Resume → TextReference × List (spec.Handle Name ℕ)
resume_tree r = (index_tree r.type_index, handlers_tree r.table)

abbrev pub resume_throw_tree : ResumeThrow → TextReference × (TextReference × List (spec.Handle Name ℕ))
resume_throw_tree r = (index_tree r.type_index, (index_tree r.tag_index, handlers_tree r.table))

abbrev pub resume_throw_ref_tree : ResumeThrowRef → TextReference × List (spec.Handle Name ℕ)
resume_throw_ref_tree r = (index_tree r.type_index, handlers_tree r.table)

abbrev pub switch_tree : Switch → TextReference × TextReference
switch_tree s = (index_tree s.type_index, index_tree s.tag_index)

abbrev pub cont_bind_tree : ContBind → TextReference × TextReference
cont_bind_tree b = (index_tree b.argument_index, index_tree b.result_index)
