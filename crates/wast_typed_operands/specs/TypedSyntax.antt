-- The syntax of operands in which types stand (WebAssembly 3.0, 6.5).
use Rattle.std.specs.Prelude.{◌||◌, Bool, false, List, [], ◌∷◌, Option, Some, None, is_some, codes}
use Rattle.wast_signatures.specs.Look.{Test, this_group, join, id_starts, index_starts, type_starts}
use Rattle.wast_signatures.specs.Grammar.{Syntax, nothing, seq, wide, seen, only, maybe, many, either, group}
use Rattle.wast_signatures.specs.Identifiers.{Reference, Named, identifier, index}
use Rattle.wast_signatures.specs.ValueTree.{RefType, ValType}
use Rattle.wast_signatures.specs.ValueSyntax.{ref_type}
use Rattle.wast_signatures.specs.TypeTree.{TypeUse}
use Rattle.wast_signatures.specs.TypeSyntax.{sig_starts, joined, result, bare_use}
use Rattle.wast_typed_operands.specs.TypedTree.{Block, Catch, CatchTag, CatchTagRef, CatchAll, CatchAllRef, TryTable, Indirect, Cast}

-- WHAT THEY BEGIN WITH
abbrev pub catch_starts : List Test
catch_starts = this_group (codes "catch") ∷ this_group (codes "catch_ref") ∷ this_group (codes "catch_all") ∷ this_group (codes "catch_all_ref") ∷ []

abbrev pub use_starts : List Test
use_starts = join type_starts sig_starts

abbrev pub result_starts : List Test
result_starts = this_group (codes "result") ∷ []

-- whether a type use has any token
abbrev pub is_written : {N P : Type 0} → TypeUse N P → Bool
is_written u = is_some u.index || is_some u.inline

module _ {N P : Type 0} where
  -- BLOCKS (6.5, control instructions): an identifier where given, and a type use
  abbrev pub as_block : Option (Named N P) × TypeUse N P → Block N P
  as_block b = record { label = b.0; type_use = b.1 }

  abbrev pub block : Syntax N P (Block N P)
  block = seen as_block (seq (maybe id_starts identifier) bare_use)

  -- CLAUSES: (catch tag label), (catch_ref tag label), (catch_all label), (catch_all_ref label)
  abbrev pub tag_label : Syntax N P (Reference N P × Reference N P)
  tag_label = seq index index

  abbrev pub clause : Syntax N P (Catch N P)
  clause =
      either (this_group (codes "catch") ∷ []) (seen (λ x. CatchTag x.0 x.1) (group (codes "catch") tag_label))
      (either (this_group (codes "catch_ref") ∷ []) (seen (λ x. CatchTagRef x.0 x.1) (group (codes "catch_ref") tag_label))
      (either (this_group (codes "catch_all") ∷ []) (seen CatchAll (group (codes "catch_all") index)) (seen CatchAllRef (group (codes "catch_all_ref") index))))

  abbrev pub as_try_table : Block N P × List (Catch N P) → TryTable N P
  as_try_table t = record { block = t.0; catches = t.1 }

  abbrev pub try_table : Syntax N P (TryTable N P)
  try_table = seen as_try_table (seq block (many catch_starts clause))

  -- INDIRECT CALLS (6.5, control instructions): an index where given and a type use, or a type use and an index where given. A use of no
  -- tokens stands behind an index alone: so an index by itself is read once.
  abbrev pub written_use : Syntax N P (TypeUse N P)
  written_use = wide use_starts false (bare_use {N = N} {P = P}).stops (only is_written bare_use)

  abbrev pub table_first : Reference N P × TypeUse N P → Indirect N P
  table_first x = record { table = Some x.0; type_use = x.1 }

  abbrev pub table_last : TypeUse N P × Option (Reference N P) → Indirect N P
  table_last x = record { table = x.1; type_use = x.0 }

  abbrev pub no_use : TypeUse N P
  no_use = record { index = None; inline = None }

  abbrev pub use_first : Syntax N P (Indirect N P)
  use_first = either use_starts (seen table_last (seq written_use (maybe index_starts index))) (seen (λ _. table_last (no_use, None)) nothing)

  abbrev pub indirect : Syntax N P (Indirect N P)
  indirect = either index_starts (seen table_first (seq index bare_use)) use_first

  -- SELECT (6.5, parametric instructions): (result t*)*; the types are there where a group is
  abbrev pub types_of : List (List (ValType N P)) → Option (List (ValType N P))
  types_of [] = None
  types_of groups = Some (joined groups)

  abbrev pub select_types : Syntax N P (Option (List (ValType N P)))
  select_types = seen types_of (many result_starts result)

  -- CASTS (6.5, control instructions): a label and two reference types
  abbrev pub as_cast : Reference N P × (RefType N P × RefType N P) → Cast N P
  as_cast x = record { label = x.0; source = x.1.0; target = x.1.1 }

  abbrev pub cast : Syntax N P (Cast N P)
  cast = seen as_cast (seq index (seq ref_type ref_type))
