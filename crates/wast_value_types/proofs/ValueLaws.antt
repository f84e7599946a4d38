-- The laws of the syntax of types: each mirrors its production.
use Rattle.std.proofs.Common.{◌≡◌, true, false, List, [], ◌∷◌, Some, None, refl, inl, inr}
use Rattle.std.specs.Prelude.{◌-◌, ◌^◌, codes}
use Rattle.wasm_encoder_base.specs.Types.{FuncHeap}
use Rattle.wast_words.specs.Tokens.{SignificantToken, Id, Word}
use Rattle.wast_words.specs.Look.{this_group, join, ask, index_starts}
use Rattle.wast_words.specs.Grammar.{group}
use Rattle.wast_words.specs.Integers.{unsigned}
use Rattle.wast_words.specs.Identifiers.{Reference, ByName, index}
use Rattle.wast_words.proofs.GrammarLaws.{Lawful, Leads, seen_laws, only_laws, seq_laws, maybe_laws, either_laws, group_laws}
use Rattle.wast_words.proofs.Unread.{unread}
use Rattle.wast_words.proofs.LeadLaws.{seen_leads, either_leads, group_leads}
use Rattle.wast_words.proofs.IdentifierLaws.{index_laws, index_leads}
use Rattle.wast_words.proofs.IntegerLaws.{number_laws, u32_laws}
use Rattle.wast_words.specs.WordSyntax.{keywords, keyword}
use Rattle.wast_words.proofs.WordLaws.{keyword_laws, optional_laws, keyword_leads}
use Rattle.wast_value_types.specs.ValueTree.{Abstract, Known, Packed, I8}
use Rattle.wast_value_types.specs.ValueSyntax.{number_words, heap_words, short_words, packed_words, address_words, heap_starts, ref_starts, val_starts, mut_starts, field_starts, page_starts, u64, heap_type, as_ref, ref_body, ref_type, val_type, storage_type, field_type, shared_global, global_type, address_type, limits, table_type, power_of_two, page_size, memory_type}

module _ {N P : Type 0} where
  pub u64_laws : Lawful (u64 {N = N} {P = P})
  u64_laws = seen_laws _ _ (number_laws (2 ^ 64 - 1) None unsigned)

  pub heap_type_laws : Lawful (heap_type {N = N} {P = P})
  heap_type_laws =
      either_laws index_starts _ _ (seen_laws _ _ index_laws)
      (either_laws (keywords heap_words) _ _ (seen_laws _ _ (keyword_laws heap_words))
      (either_laws (this_group (codes "exact") ∷ []) _ _ (seen_laws _ _ (group_laws (codes "exact") _ index_laws refl)) (seen_laws _ _ (group_laws (codes "shared") _ (keyword_laws heap_words) refl)) refl refl refl refl) refl refl refl refl) refl refl refl refl

  pub not_shared : (ts : List (SignificantToken N P)) → (ask (this_group (codes "shared") ∷ []) ts ≡ Some true → ⊥) → (group (codes "shared") (keyword heap_words)).reads ts ≡ None
  not_shared = unread (group (codes "shared") (keyword heap_words)) (group_laws (codes "shared") _ (keyword_laws heap_words) refl) refl refl

  pub ref_body_laws : Lawful (ref_body {N = N} {P = P})
  ref_body_laws = seen_laws _ _ (seq_laws _ _ (optional_laws (codes "null")) heap_type_laws refl)

  pub ref_type_laws : Lawful (ref_type {N = N} {P = P})
  ref_type_laws = either_laws (this_group (codes "ref") ∷ []) _ _ (group_laws (codes "ref") _ ref_body_laws refl) (seen_laws _ _ (keyword_laws short_words)) refl refl refl refl

  pub val_type_laws : Lawful (val_type {N = N} {P = P})
  val_type_laws = either_laws (keywords number_words) _ _ (seen_laws _ _ (keyword_laws number_words)) (seen_laws _ _ ref_type_laws) refl refl refl refl

  pub storage_type_laws : Lawful (storage_type {N = N} {P = P})
  storage_type_laws = either_laws (keywords packed_words) _ _ (seen_laws _ _ (keyword_laws packed_words)) (seen_laws _ _ val_type_laws) refl refl refl refl

  pub field_type_laws : Lawful (field_type {N = N} {P = P})
  field_type_laws = either_laws mut_starts _ _ (seen_laws _ _ (group_laws (codes "mut") _ storage_type_laws refl)) (seen_laws _ _ storage_type_laws) refl refl refl refl

  pub shared_global_laws : Lawful (shared_global {N = N} {P = P})
  shared_global_laws = seen_laws _ _ (seq_laws _ _ (optional_laws (codes "mut")) val_type_laws refl)

  pub global_type_laws : Lawful (global_type {N = N} {P = P})
  global_type_laws =
      either_laws mut_starts _ _ (seen_laws _ _ (group_laws (codes "mut") _ val_type_laws refl))
      (either_laws (this_group (codes "shared") ∷ []) _ _ (group_laws (codes "shared") _ shared_global_laws refl) (seen_laws _ _ val_type_laws) refl refl refl refl) refl refl refl refl

  pub address_type_laws : Lawful (address_type {N = N} {P = P})
  address_type_laws = seen_laws _ _ (maybe_laws (keywords address_words) _ (keyword_laws address_words) refl refl refl)

  pub limits_laws : Lawful (limits {N = N} {P = P})
  limits_laws = seen_laws _ _ (seq_laws _ _ address_type_laws (seq_laws _ _ u64_laws (maybe_laws _ _ u64_laws refl refl refl) refl) refl)

  pub table_type_laws : Lawful (table_type {N = N} {P = P})
  table_type_laws = seen_laws _ _ (seq_laws _ _ (optional_laws (codes "shared")) (seq_laws _ _ limits_laws ref_type_laws refl) refl)

  pub power_of_two_laws : Lawful (power_of_two {N = N} {P = P})
  power_of_two_laws = seen_laws _ _ (only_laws _ _ u32_laws)

  pub page_size_laws : Lawful (page_size {N = N} {P = P})
  page_size_laws = maybe_laws page_starts _ (group_laws (codes "pagesize") _ power_of_two_laws refl) refl refl refl

  pub memory_type_laws : Lawful (memory_type {N = N} {P = P})
  memory_type_laws = seen_laws _ _ (seq_laws _ _ limits_laws (seq_laws _ _ (optional_laws (codes "shared")) page_size_laws refl) refl)

  -- WHERE THEY BEGIN
  -- an index, of a type that has names
  abbrev an_index : N → P → Reference N P
  an_index n p = ByName (n, p)

  abbrev named : N → P → List (SignificantToken N P)
  named n p = Id (Some n) p ∷ []

  index_spelled : (n : N) (p : P) → index.spells (an_index n p) (named n p)
  index_spelled n p = inr ((n, p), refl, (Id (Some n) p, refl, refl))

  func_spelled : (p : P) → (keyword {N = N} {P = P} heap_words).spells (Known FuncHeap) (Word (codes "func") p ∷ [])
  func_spelled p = (((codes "func", Known FuncHeap), p), refl, (Word (codes "func") p, refl, refl))

  pub heap_type_leads : N → P → Leads (heap_type {N = N} {P = P}).spells heap_starts
  heap_type_leads n p =
      either_leads _ _ index_starts _ (seen_leads _ _ index_starts (index_leads n))
      (either_leads _ _ (keywords heap_words) _ (seen_leads _ _ (keywords heap_words) (keyword_leads heap_words))
      (either_leads _ _ (this_group (codes "exact") ∷ []) (this_group (codes "shared") ∷ [])
      (seen_leads _ _ (this_group (codes "exact") ∷ []) (group_leads (codes "exact") index index_laws (an_index n p) (named n p) (index_spelled n p)))
      (seen_leads _ _ (this_group (codes "shared") ∷ []) (group_leads (codes "shared") (keyword heap_words) (keyword_laws heap_words) (Known FuncHeap) (Word (codes "func") p ∷ []) (func_spelled p)))
      refl refl refl) refl refl refl) refl refl refl

  -- func, not nullable
  ref_body_spelled : (p : P) → (ref_body {N = N} {P = P}).spells (as_ref (false, Abstract false (Known FuncHeap))) (Word (codes "func") p ∷ [])
  ref_body_spelled p =
      ((false, Abstract false (Known FuncHeap)), refl, ([], Word (codes "func") p ∷ [], refl, (None, refl, refl), inr (inl (Known FuncHeap, refl, func_spelled p))))

  pub ref_type_leads : P → Leads (ref_type {N = N} {P = P}).spells ref_starts
  ref_type_leads p =
      either_leads _ _ (this_group (codes "ref") ∷ []) (keywords short_words)
      (group_leads (codes "ref") ref_body ref_body_laws (as_ref (false, Abstract false (Known FuncHeap))) (Word (codes "func") p ∷ []) (ref_body_spelled p))
      (seen_leads _ _ (keywords short_words) (keyword_leads short_words)) refl refl refl

  pub val_type_leads : P → Leads (val_type {N = N} {P = P}).spells val_starts
  val_type_leads p = either_leads _ _ (keywords number_words) ref_starts (seen_leads _ _ (keywords number_words) (keyword_leads number_words)) (seen_leads _ _ ref_starts (ref_type_leads p)) refl refl refl

  storage_type_leads : P → Leads (storage_type {N = N} {P = P}).spells (join (keywords packed_words) val_starts)
  storage_type_leads p = either_leads _ _ (keywords packed_words) val_starts (seen_leads _ _ (keywords packed_words) (keyword_leads packed_words)) (seen_leads _ _ val_starts (val_type_leads p)) refl refl refl

  pub i8_spelled : (p : P) → (storage_type {N = N} {P = P}).spells (Packed I8) (Word (codes "i8") p ∷ [])
  i8_spelled p = inl (I8, refl, (((codes "i8", I8), p), refl, (Word (codes "i8") p, refl, refl)))

  pub field_type_leads : P → Leads (field_type {N = N} {P = P}).spells field_starts
  field_type_leads p =
      either_leads _ _ mut_starts (join (keywords packed_words) val_starts)
      (seen_leads _ _ mut_starts (group_leads (codes "mut") storage_type storage_type_laws (Packed I8) (Word (codes "i8") p ∷ []) (i8_spelled p)))
      (seen_leads _ _ (join (keywords packed_words) val_starts) (storage_type_leads p)) refl refl refl
