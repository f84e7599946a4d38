-- What the grammar sees of the code's operands.
use Rattle.std.specs.Prelude.{ℕ, List, Option, Some, None, map, option_map}
use Rattle.wast_signatures.specs.Tokens.{Name}
use Rattle.wast_signatures.specs.declared.Index.{Index}
use Rattle.wast_signatures.specs.Identifiers.{Reference, identifier_tree, index_tree}
use Rattle.wast_signatures.specs.ValueTree as values
use Rattle.wast_signatures.specs.ValueViews.{ref_tree, val_tree}
use Rattle.wast_signatures.specs.SignatureViews.{use_tree}
use Rattle.wast_signatures.specs.declared.RefType.{RefType}
use Rattle.wast_typed_operands.specs.TypedTree as spec
use Rattle.wast_typed_operands.specs.declared.block.BlockType.{BlockType}
use Rattle.wast_typed_operands.specs.declared.block.TryTable.{TryTable}
use Rattle.wast_typed_operands.specs.declared.call.CallIndirect.{CallIndirect}
use Rattle.wast_typed_operands.specs.declared.select.SelectTypes.{SelectTypes}
use Rattle.wast_typed_operands.specs.declared.catch.TryTableCatchKind.{TryTableCatchKind}
use Rattle.wast_typed_operands.specs.declared.catch.TryTableCatchKind.TheVariants as kinds
use Rattle.wast_typed_operands.specs.declared.catch.TryTableCatch.{TryTableCatch}

abbrev pub block_tree : BlockType → spec.Block Name ℕ
block_tree b = record { label = option_map identifier_tree b.label; type_use = use_tree b.ty }

-- CLAUSES
abbrev pub catch_of : TryTableCatchKind → Index → spec.Catch Name ℕ
catch_of (kinds.Catch tag) label = spec.CatchTag (index_tree tag) (index_tree label)
catch_of (kinds.CatchRef tag) label = spec.CatchTagRef (index_tree tag) (index_tree label)
catch_of kinds.CatchAll label = spec.CatchAll (index_tree label)
catch_of kinds.CatchAllRef label = spec.CatchAllRef (index_tree label)

-- the tag of what is caught, where it is of one, and the clause with another tag in its place
abbrev pub tag_of : TryTableCatchKind → Option (Reference Name ℕ)
tag_of (kinds.Catch tag) = Some (index_tree tag)
tag_of (kinds.CatchRef tag) = Some (index_tree tag)
tag_of _ = None

abbrev pub with_tag : Reference Name ℕ → spec.Catch Name ℕ → spec.Catch Name ℕ
with_tag tag (spec.CatchTag old label) = spec.CatchTag tag label
with_tag tag (spec.CatchTagRef old label) = spec.CatchTagRef tag label
with_tag tag clause = clause

abbrev pub catch_tree : TryTableCatch → spec.Catch Name ℕ
catch_tree c = catch_of c.kind c.label

abbrev pub try_table_tree : TryTable → spec.TryTable Name ℕ
try_table_tree t = record { block = block_tree t.block.value; catches = map catch_tree t.catches.items }

-- INDIRECT CALLS
abbrev pub indirect_tree : CallIndirect → spec.Indirect Name ℕ
indirect_tree c = record { table = option_map index_tree c.table; type_use = use_tree c.ty }

-- SELECT
abbrev pub select_types_tree : SelectTypes → Option (List (values.ValType Name ℕ))
select_types_tree s = option_map (λ ts. map val_tree ts.items) s.tys

-- CASTS
abbrev pub cast_tree : Index → RefType → RefType → spec.Cast Name ℕ
cast_tree label source target = record { label = index_tree label; source = ref_tree source; target = ref_tree target }
