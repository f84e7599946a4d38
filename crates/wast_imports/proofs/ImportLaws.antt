-- The laws of imports, and of what they and exports are of: each mirrors its production.
use Rattle.std.proofs.Common.{ℕ, true, List, [], Option, Some, None, refl, codes}
use Rattle.wast_signatures.specs.Look.{join, id_starts, string_starts}
use Rattle.wast_signatures.specs.Spelling as spelling
use Rattle.wast_signatures.specs.Lawful.{Lawful}
use Rattle.wast_signatures.specs.Grammar.{Syntax, among, maybe, next, seq, wide}
use Rattle.wast_signatures.specs.Productions.{name}
use Rattle.wast_signatures.proofs.GrammarLaws.{among_laws, word_laws, nothing_laws, next_laws, seq_laws, seen_laws, respelled_laws, maybe_laws, many_laws, either_laws, group_laws, paren_laws, bound_laws}
use Rattle.wast_signatures.proofs.IntegerLaws.{name_laws}
use Rattle.wast_signatures.proofs.IdentifierLaws.{identifier_laws, maybe_name_laws}
use Rattle.wast_value_types.proofs.ValueLaws.{table_type_laws, memory_type_laws, global_type_laws}
use Rattle.wast_signatures.proofs.SignatureLaws.{type_use_laws}
use Rattle.wast_exports.specs.Exports.{ExportKind, Func, Table, Memory, Global, Tag, export_word, export_kinds}
use Rattle.wast_imports.proofs.Groups.{group_decided, decided_group}
use Rattle.wast_imports.specs.ImportTree.{ExternType, Item}
use Rattle.wast_imports.specs.ImportSyntax.{exact_starts, item_starts, member_starts, rest_starts, rest_stops, Head, head, no_head, exact_use, func_type, extern_type, extern_starts, extern_stops, item_body, item, bare_item, member, member_name, first_member, with_rest, each_with_item, all_of_one_item, by_first_member, import_group, import_items, imports_body, imports, export_type}

module _ {N P : Type 0} where
  pub head_laws : Lawful (head {N = N} {P = P})
  head_laws = seq_laws _ _ (maybe_laws id_starts _ identifier_laws refl refl refl) maybe_name_laws refl

  no_head_laws : Lawful (no_head {N = N} {P = P})
  no_head_laws = seen_laws _ _ nothing_laws

  pub exact_use_laws : Lawful (exact_use {N = N} {P = P})
  exact_use_laws = group_laws (codes "exact") _ type_use_laws refl

  pub func_type_laws : Lawful (func_type {N = N} {P = P})
  func_type_laws = either_laws exact_starts _ _ (seen_laws _ _ exact_use_laws) (seen_laws _ _ type_use_laws) refl refl refl refl

  -- in the bounds of all, behind what an item is called, and behind nothing
  abbrev bounded : Syntax N P (Head N P) → ExportKind → Syntax N P (Head N P × ExternType N P)
  bounded called k = wide (join called.starts (extern_starts N P)) true (join (extern_stops N P) called.stops) (seq called (extern_type k))

  headed_laws : (k : ExportKind) → Lawful (bounded head k)
  headed_laws Func = bound_laws _ _ _ (seq_laws _ _ head_laws func_type_laws refl) refl refl
  headed_laws Table = bound_laws _ _ _ (seq_laws _ _ head_laws (seen_laws _ _ table_type_laws) refl) refl refl
  headed_laws Memory = bound_laws _ _ _ (seq_laws _ _ head_laws (seen_laws _ _ memory_type_laws) refl) refl refl
  headed_laws Global = bound_laws _ _ _ (seq_laws _ _ head_laws (seen_laws _ _ global_type_laws) refl) refl refl
  headed_laws Tag = bound_laws _ _ _ (seq_laws _ _ head_laws (seen_laws _ _ type_use_laws) refl) refl refl

  bare_laws : (k : ExportKind) → Lawful (bounded no_head k)
  bare_laws Func = bound_laws _ _ _ (seq_laws _ _ no_head_laws func_type_laws refl) refl refl
  bare_laws Table = bound_laws _ _ _ (seq_laws _ _ no_head_laws (seen_laws _ _ table_type_laws) refl) refl refl
  bare_laws Memory = bound_laws _ _ _ (seq_laws _ _ no_head_laws (seen_laws _ _ memory_type_laws) refl) refl refl
  bare_laws Global = bound_laws _ _ _ (seq_laws _ _ no_head_laws (seen_laws _ _ global_type_laws) refl) refl refl
  bare_laws Tag = bound_laws _ _ _ (seq_laws _ _ no_head_laws (seen_laws _ _ type_use_laws) refl) refl refl

  abbrev parts : Syntax N P (Head N P) → Syntax N P ((ExportKind × P) × (Head N P × ExternType N P))
  parts called = next (among export_word export_kinds []) (λ k. seq called (extern_type k.0)) (join called.starts (extern_starts N P)) true (join (extern_stops N P) called.stops)

  parts_laws : (called : Syntax N P (Head N P)) → ((k : ExportKind) → Lawful (bounded called k)) → Lawful (parts called)
  parts_laws called laws =
      next_laws (among export_word export_kinds []) (λ k. seq called (extern_type k.0)) (join called.starts (extern_starts N P)) true (join (extern_stops N P) called.stops) (among_laws export_word export_kinds []) (λ k. laws k.0) refl

  pub item_parts_laws : Lawful (parts head)
  item_parts_laws = parts_laws head headed_laws

  pub item_body_laws : Lawful (item_body {N = N} {P = P} head)
  item_body_laws = seen_laws _ _ item_parts_laws

  pub item_laws : Lawful (item {N = N} {P = P})
  item_laws = paren_laws (item_body head) item_body_laws refl refl

  pub bare_item_laws : Lawful (bare_item {N = N} {P = P})
  bare_item_laws = paren_laws (item_body no_head) (seen_laws _ _ (parts_laws no_head bare_laws)) refl refl

  -- GROUPS
  pub named_laws : Lawful (seq {N = N} {P = P} name item)
  named_laws = seq_laws _ _ name_laws item_laws refl

  pub member_laws : Lawful (member {N = N} {P = P})
  member_laws = group_laws (codes "item") _ named_laws refl

  pub member_name_laws : Lawful (member_name {N = N} {P = P})
  member_name_laws = group_laws (codes "item") _ name_laws refl

  pub first_parts_laws : Lawful (seq {N = N} {P = P} name (maybe item_starts item))
  first_parts_laws = seq_laws _ _ name_laws (maybe_laws item_starts _ item_laws refl refl refl) refl

  pub first_member_laws : Lawful (first_member {N = N} {P = P})
  first_member_laws = group_laws (codes "item") _ first_parts_laws refl

  rest_laws : (first : List ℕ × Option (Item N P)) → Lawful (wide rest_starts true rest_stops (with_rest first))
  rest_laws (n, Some i) = bound_laws _ _ _ (seen_laws _ _ (many_laws member_starts _ member_laws refl refl refl refl refl)) refl refl
  rest_laws (n, None) = bound_laws _ _ _ (seen_laws _ _ (seq_laws _ _ (many_laws member_starts _ member_name_laws refl refl refl refl refl) bare_item_laws refl)) refl refl

  by_first_member_laws : Lawful (by_first_member {N = N} {P = P})
  by_first_member_laws = seen_laws _ _ (next_laws first_member with_rest rest_starts true rest_stops first_member_laws rest_laws refl)

  pub import_group_laws : Lawful (import_group {N = N} {P = P})
  import_group_laws = respelled_laws (spelling.either each_with_item.spells all_of_one_item.spells) by_first_member group_decided decided_group by_first_member_laws

  -- IMPORTS
  pub import_items_laws : Lawful (import_items {N = N} {P = P})
  import_items_laws = either_laws string_starts _ _ (seen_laws _ _ named_laws) import_group_laws refl refl refl refl

  pub behind_import_laws : Lawful (seq {N = N} {P = P} name import_items)
  behind_import_laws = seq_laws _ _ name_laws import_items_laws refl

  pub imports_body_laws : Lawful (imports_body {N = N} {P = P})
  imports_body_laws = seen_laws _ _ (seq_laws _ _ (word_laws (codes "import")) behind_import_laws refl)

  pub imports_laws : Lawful (imports {N = N} {P = P})
  imports_laws = paren_laws imports_body imports_body_laws refl refl

  pub export_type_laws : Lawful (export_type {N = N} {P = P})
  export_type_laws = paren_laws _ (seen_laws _ _ (seq_laws _ _ (word_laws (codes "export")) named_laws refl)) refl refl
