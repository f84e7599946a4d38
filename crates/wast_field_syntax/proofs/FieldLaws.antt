-- The laws of fields that define something, and of segments: each mirrors its production.
use Rattle.std.proofs.Common.{◌≡◌, Bool, true, false, List, [], ◌∷◌, None, refl}
use Rattle.std.specs.Prelude.{ℕ, ◌-◌, ◌^◌, codes}
use Rattle.wasm_encoder_base.specs.Table.{table as entries}
use Rattle.wasm_encoder_base.specs.Uncovered.{uncovered}
use Rattle.wast_parser.specs.Look.{this_word, this_group, apart, join, faults, index_starts, integer_starts}
use Rattle.wast_parser.specs.Lawful.{Lawful}
use Rattle.wast_parser.specs.Grammar.{Syntax, word, seen, seq, many, either, group}
use Rattle.wast_parser.specs.Integers.{unsigned}
use Rattle.wast_parser.proofs.GrammarLaws.{word_laws, seen_laws, seq_laws, next_laws, maybe_laws, many_laws, either_laws, led_laws, group_laws, paren_laws}
use Rattle.wast_grammar.proofs.Twins.{part_laws}
use Rattle.wast_parser.proofs.IntegerLaws.{number_laws}
use Rattle.wast_parser.proofs.IdentifierLaws.{index_laws}
use Rattle.wast_value_types.specs.ValueTree.{RefType}
use Rattle.wast_value_types.specs.ValueSyntax.{ref_type, address_type}
use Rattle.wast_value_types.proofs.WordLaws.{optional_laws}
use Rattle.wast_value_types.proofs.ValueLaws.{u64_laws, ref_type_laws, global_type_laws, address_type_laws, limits_laws, table_type_laws, page_size_laws, memory_type_laws}
use Rattle.wast_signatures.proofs.SignatureLaws.{locals_laws, type_use_laws}
use Rattle.wast_exports.specs.Exports.{import_starts, inline_export, inline_import}
use Rattle.wast_exports.proofs.ExportLaws.{inline_export_laws, inline_import_laws}
use Rattle.wast_imports.specs.ImportTree.{ExternType}
use Rattle.wast_imports.specs.ImportSyntax.{head, func_type}
use Rattle.wast_imports.proofs.ImportLaws.{head_laws, func_type_laws}
use Rattle.wast_mnemonics.specs.TextTable.{text_table}
use Rattle.wast_data.specs.DataSyntax.{value_starts}
use Rattle.wast_data.proofs.DataLaws.{value_laws}
use Rattle.wast_field_syntax.specs.FieldTree.{Defined, Indices}
use Rattle.wast_field_syntax.specs.DefinitionSyntax.{expr, element, as_definition, definition_body, as_imported, imported_or}
use Rattle.wast_field_syntax.specs.FuncSyntax.{local_starts, all_locals, tag_defined, tag, global_defined, global, function, func_defined, func}
use Rattle.wast_field_syntax.specs.ElemSyntax as elem_segments
use Rattle.wast_field_syntax.specs.ElemSyntax.{list_starts, element_starts, use_starts_of, numbered, use_of, indices, elem_list, elem_body, elem}
use Rattle.wast_field_syntax.specs.DataSyntax as data_segments
use Rattle.wast_field_syntax.specs.DataSyntax.{active_starts, values, data_body, data_segment}
use Rattle.wast_field_syntax.specs.TableSyntax.{sizes, memory_starts, memory_with, memory_defined, memory, typed, elements, filled_table, table_starts, table_with, table_defined, table}
use Rattle.wast_field_syntax.proofs.ExpressionLaws.{expr_laws, element_laws, elem_offset_laws, segment_offset_laws}

module _ {N P : Type 0} where
  -- DEFINITIONS
  pub definition_body_laws : (w : List ℕ) (g : Syntax N P (Defined N P)) → Lawful g → apart (inline_export {N = N} {P = P}).stops g.starts ≡ true → apart (head {N = N} {P = P}).stops (seq inline_export g).starts ≡ true → Lawful (definition_body w g)
  definition_body_laws w g lg p q = seen_laws as_definition _ (seq_laws (word w) _ (word_laws w) (seq_laws head _ head_laws (seq_laws inline_export g inline_export_laws lg p) q) refl)

  imported_laws : (type : Syntax N P (ExternType N P)) (other : Syntax N P (Defined N P)) → Lawful type → Lawful other → apart (join (faults import_starts) import_starts) other.starts ≡ true → Lawful (imported_or type other)
  imported_laws type other lt lo p = either_laws import_starts _ other (seen_laws as_imported _ (seq_laws inline_import type inline_import_laws lt refl)) lo refl refl refl p

  -- TAGS
  tag_defined_laws : Lawful (tag_defined {N = N} {P = P})
  tag_defined_laws = imported_laws _ _ (seen_laws _ _ type_use_laws) (seen_laws _ _ type_use_laws) refl

  pub tag_body_laws : Lawful (definition_body {N = N} {P = P} (codes "tag") tag_defined)
  tag_body_laws = definition_body_laws (codes "tag") tag_defined tag_defined_laws refl refl

  pub tag_laws : Lawful (tag {N = N} {P = P})
  tag_laws = paren_laws (definition_body (codes "tag") tag_defined) tag_body_laws refl refl

  -- GLOBALS
  global_defined_laws : Lawful (global_defined {N = N} {P = P})
  unfolding text_table entries uncovered
  global_defined_laws = imported_laws _ _ (seen_laws _ _ global_type_laws) (seen_laws _ _ (seq_laws _ _ global_type_laws expr_laws refl)) refl

  pub global_body_laws : Lawful (definition_body {N = N} {P = P} (codes "global") global_defined)
  global_body_laws = definition_body_laws (codes "global") global_defined global_defined_laws refl refl

  pub global_laws : Lawful (global {N = N} {P = P})
  global_laws = paren_laws (definition_body (codes "global") global_defined) global_body_laws refl refl

  -- FUNCTIONS
  pub all_locals_laws : Lawful (all_locals {N = N} {P = P})
  all_locals_laws = seen_laws _ _ (many_laws local_starts _ (locals_laws (codes "local")) refl refl refl refl refl)

  pub function_laws : Lawful (function {N = N} {P = P})
  unfolding text_table entries uncovered
  function_laws = seen_laws _ _ (seq_laws _ _ type_use_laws (seq_laws _ _ all_locals_laws (part_laws expr expr_laws) refl) refl)

  func_defined_laws : Lawful (func_defined {N = N} {P = P})
  unfolding text_table entries uncovered
  func_defined_laws = imported_laws func_type _ func_type_laws (seen_laws _ _ function_laws) refl

  pub func_body_laws : Lawful (definition_body {N = N} {P = P} (codes "func") func_defined)
  unfolding text_table entries uncovered
  func_body_laws = definition_body_laws (codes "func") func_defined func_defined_laws refl refl

  pub func_laws : Lawful (func {N = N} {P = P})
  func_laws = paren_laws (definition_body (codes "func") func_defined) func_body_laws refl refl

  -- ELEMENT SEGMENTS
  numbered_laws : Lawful (numbered {N = N} {P = P})
  numbered_laws = seen_laws _ _ (number_laws (2 ^ 32 - 1) None unsigned)

  -- of a table, or of a memory
  pub use_of_laws : (w : List ℕ) → Lawful (use_of {N = N} {P = P} w)
  use_of_laws w = either_laws (this_group w ∷ []) _ _ (group_laws w _ index_laws refl) numbered_laws refl refl refl refl

  pub indices_laws : Lawful (indices {N = N} {P = P})
  indices_laws = many_laws index_starts _ index_laws refl refl refl refl refl

  elements_laws : Lawful (many {N = N} {P = P} element_starts element)
  unfolding text_table entries uncovered
  elements_laws = many_laws element_starts _ element_laws refl refl refl refl refl

  pub elem_list_laws : Lawful (elem_list {N = N} {P = P})
  unfolding text_table entries uncovered
  elem_list_laws = either_laws (this_word (codes "func") ∷ []) _ _ (seen_laws _ _ (led_laws (codes "func") _ indices_laws)) (seen_laws _ _ (seq_laws _ _ ref_type_laws elements_laws refl)) refl refl refl refl

  active_list_laws : Lawful (either {N = N} {P = P} list_starts elem_list (seen Indices indices))
  active_list_laws = either_laws list_starts _ _ elem_list_laws (seen_laws _ _ indices_laws) refl refl refl refl

  active_elem_laws : Lawful (elem_segments.active {N = N} {P = P})
  unfolding text_table entries uncovered
  active_elem_laws = seen_laws _ _ (seq_laws _ _ (maybe_laws (use_starts_of (codes "table")) _ (use_of_laws (codes "table")) refl refl refl) (seq_laws _ _ elem_offset_laws active_list_laws refl) refl)

  pub elem_segment_laws : Lawful (elem_segments.segment {N = N} {P = P})
  unfolding text_table entries uncovered
  elem_segment_laws =
      either_laws (this_word (codes "declare") ∷ []) _ _ (seen_laws _ _ (led_laws (codes "declare") _ elem_list_laws))
      (either_laws list_starts _ _ (seen_laws _ _ elem_list_laws) active_elem_laws refl refl refl refl) refl refl refl refl

  pub elem_body_laws : Lawful (elem_body {N = N} {P = P})
  unfolding text_table entries uncovered
  elem_body_laws = seen_laws _ _ (seq_laws _ _ (word_laws (codes "elem")) (seq_laws _ _ head_laws elem_segment_laws refl) refl)

  pub elem_laws : Lawful (elem {N = N} {P = P})
  elem_laws = paren_laws elem_body elem_body_laws refl refl

  -- DATA SEGMENTS
  pub values_laws : Lawful (values {N = N} {P = P})
  values_laws = many_laws value_starts _ value_laws refl refl refl refl refl

  active_data_laws : Lawful (data_segments.active {N = N} {P = P})
  unfolding text_table entries uncovered
  active_data_laws = seen_laws _ _ (seq_laws _ _ (maybe_laws (use_starts_of (codes "memory")) _ (use_of_laws (codes "memory")) refl refl refl) (seq_laws _ _ segment_offset_laws values_laws refl) refl)

  pub data_segment_laws : Lawful (data_segments.segment {N = N} {P = P})
  unfolding text_table entries uncovered
  data_segment_laws = either_laws active_starts _ _ active_data_laws (seen_laws _ _ values_laws) refl refl refl refl

  pub data_body_laws : Lawful (data_body {N = N} {P = P})
  unfolding text_table entries uncovered
  data_body_laws = seen_laws _ _ (seq_laws _ _ (word_laws (codes "data")) (seq_laws _ _ head_laws data_segment_laws refl) refl)

  pub data_laws : Lawful (data_segment {N = N} {P = P})
  data_laws = paren_laws data_body data_body_laws refl refl

  -- MEMORIES
  sizes_laws : Lawful (sizes {N = N} {P = P})
  sizes_laws = seq_laws _ _ u64_laws (maybe_laws integer_starts _ u64_laws refl refl refl) refl

  pub memory_with_laws : (wide : Bool) → Lawful (memory_with {N = N} {P = P} wide)
  memory_with_laws is_wide =
      either_laws integer_starts _ _ (seen_laws _ _ (seq_laws _ _ sizes_laws (seq_laws _ _ (optional_laws (codes "shared")) page_size_laws refl) refl))
      (seen_laws _ _ (seq_laws _ _ page_size_laws (group_laws (codes "data") _ values_laws refl) refl)) refl refl refl refl

  memory_defined_laws : Lawful (memory_defined {N = N} {P = P})
  memory_defined_laws = imported_laws _ _ (seen_laws _ _ memory_type_laws) (seen_laws _ _ (next_laws address_type memory_with memory_starts false (memory_with {N = N} {P = P} false).stops address_type_laws (λ w. memory_with_laws w) refl)) refl

  pub memory_body_laws : Lawful (definition_body {N = N} {P = P} (codes "memory") memory_defined)
  memory_body_laws = definition_body_laws (codes "memory") memory_defined memory_defined_laws refl refl

  pub memory_laws : Lawful (memory {N = N} {P = P})
  memory_laws = paren_laws (definition_body (codes "memory") memory_defined) memory_body_laws refl refl

  -- TABLES
  typed_laws : Lawful (typed {N = N} {P = P})
  unfolding text_table entries uncovered
  typed_laws = seq_laws _ _ ref_type_laws expr_laws refl

  inline_elements_laws : (t : RefType N P) → Lawful (elements t)
  unfolding text_table entries uncovered
  inline_elements_laws t = either_laws element_starts _ _ (seen_laws _ _ (seq_laws _ _ element_laws elements_laws refl)) (seen_laws _ _ indices_laws) refl refl refl refl

  pub filled_table_laws : Lawful (filled_table {N = N} {P = P})
  unfolding text_table entries uncovered
  filled_table_laws = next_laws ref_type (λ t. group (codes "elem") (elements t)) (this_group (codes "elem") ∷ []) false [] ref_type_laws (λ t. group_laws (codes "elem") (elements t) (inline_elements_laws t) refl) refl

  pub table_with_laws : (wide : Bool) → Lawful (table_with {N = N} {P = P} wide)
  unfolding text_table entries uncovered
  table_with_laws is_wide = either_laws integer_starts _ _ (seen_laws _ _ (seq_laws _ _ sizes_laws typed_laws refl)) (seen_laws _ _ filled_table_laws) refl refl refl refl

  table_defined_laws : Lawful (table_defined {N = N} {P = P})
  unfolding text_table entries uncovered
  table_defined_laws =
      imported_laws _ _ (seen_laws _ _ table_type_laws)
      (either_laws (this_word (codes "shared") ∷ []) _ _ (seen_laws _ _ (led_laws (codes "shared") _ (seq_laws _ _ limits_laws typed_laws refl)))
      (seen_laws _ _ (next_laws address_type table_with table_starts false (table_with {N = N} {P = P} false).stops address_type_laws (λ w. table_with_laws w) refl)) refl refl refl refl) refl

  pub table_body_laws : Lawful (definition_body {N = N} {P = P} (codes "table") table_defined)
  unfolding text_table entries uncovered
  table_body_laws = definition_body_laws (codes "table") table_defined table_defined_laws refl refl

  pub table_laws : Lawful (table {N = N} {P = P})
  table_laws = paren_laws (definition_body (codes "table") table_defined) table_body_laws refl refl
