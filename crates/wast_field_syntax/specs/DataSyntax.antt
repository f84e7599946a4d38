-- The syntax of data segments (WebAssembly 3.0, 6.6, data segments).
use Rattle.std.specs.Prelude.{List, [], ◌∷◌, Option, codes}
use Rattle.wast_parser.specs.Look.{Test, this_group, join}
use Rattle.wast_parser.specs.Grammar.{Syntax, word, seen, seq, maybe, many, either, paren}
use Rattle.wast_parser.specs.Identifiers.{Reference}
use Rattle.wast_imports.specs.ImportSyntax.{Head, head}
use Rattle.wast_data.specs.DataTree.{DataVal}
use Rattle.wast_data.specs.DataSyntax.{value_starts, value}
use Rattle.wast_field_syntax.specs.FieldTree.{Expr, DataMode, PassiveData, ActiveData, Data}
use Rattle.wast_field_syntax.specs.DefinitionSyntax.{plain_starts, segment_offset}
use Rattle.wast_field_syntax.specs.ElemSyntax.{use_starts_of, use_of}

abbrev pub active_starts : List Test
active_starts = join (use_starts_of (codes "memory")) (join (this_group (codes "offset") ∷ []) plain_starts)

module _ {N P : Type 0} where
  abbrev pub values : Syntax N P (List DataVal)
  values = many value_starts value

  -- SEGMENTS: value* is passive; memory? offset value* is active, its offset being (offset item*) or (instruction item*)
  abbrev pub as_active : Option (Reference N P) × (Expr N P × List DataVal) → DataMode N P × List DataVal
  as_active d = (ActiveData d.0 d.1.0, d.1.1)

  abbrev pub active : Syntax N P (DataMode N P × List DataVal)
  active = seen as_active (seq (maybe (use_starts_of (codes "memory")) (use_of (codes "memory"))) (seq segment_offset values))

  abbrev pub segment : Syntax N P (DataMode N P × List DataVal)
  segment = either active_starts active (seen (λ vs. (PassiveData, vs)) values)

  -- (data id? (@name ..)? segment)
  abbrev pub as_data : P × (Head N P × (DataMode N P × List DataVal)) → Data N P
  as_data d = record { place = d.0; id = d.1.0.0; given = d.1.0.1; mode = d.1.1.0; values = d.1.1.1 }

  abbrev pub data_body : Syntax N P (Data N P)
  data_body = seen as_data (seq (word (codes "data")) (seq head segment))

  abbrev pub data_segment : Syntax N P (Data N P)
  data_segment = paren data_body
