-- The laws of what stands in `(@dylink.0 ..)`: each mirrors its production.
use Rattle.std.proofs.Common.{map, true, false, List, [], ◌∷◌, None, refl, ℕ}
use Rattle.std.proofs.lemmas.Str.{is_utf8-from_IsUtf8, IsUtf8-nil}
use Rattle.std.specs.Prelude.{◌-◌, ◌^◌, codes}
use Rattle.wast_parser.specs.Tokens.{SignificantToken, Integer, Text}
use Rattle.wast_parser.specs.Lawful.{Lawful, Leads}
use Rattle.wast_parser.specs.Look.{On, OneOf, Any, AWord, AnInteger, this_group, string_starts}
use Rattle.wast_parser.specs.Grammar.{among, seq, next, seen, many, wide}
use Rattle.wast_parser.specs.Integers.{unsigned, u32}
use Rattle.wast_parser.specs.Productions.{name}
use Rattle.wast_parser.proofs.GrammarLaws.{among_laws, seen_laws, seq_laws, next_laws, maybe_laws, many_laws, either_laws, led_laws, paren_laws, bound_laws}
use Rattle.wast_parser.proofs.LeadLaws.{among_leads, seen_leads, either_leads, next_leads, group_leads, paren_leads}
use Rattle.wast_parser.proofs.IntegerLaws.{u32_laws, name_laws, integer_value_leads}
use Rattle.wast_customs.specs.CustomTree.{Subsection, Needed, ExportInfo, ImportInfo, RuntimePath, MemInfo}
use Rattle.wast_customs.specs.DylinkSyntax.{flag_word, symbol_flags, flag_bit, GroupKind, MemInfoGroup, NeededGroup, ExportInfoGroup, ImportInfoGroup, RuntimePathGroup, group_word, group_kinds, group_starts, flag_starts, within_starts, within_stops, flag, flags, extent_body, extent, within, group_body, dylink_group}

module _ {N P : Type 0} where
  word_flag_laws : Lawful (seen (λ f. flag_bit f.0) (among {N = N} {P = P} flag_word symbol_flags []))
  word_flag_laws = seen_laws _ _ (among_laws flag_word symbol_flags [])

  pub flag_laws : Lawful (flag {N = N} {P = P})
  flag_laws = either_laws _ _ _ u32_laws word_flag_laws refl refl refl refl

  pub flags_laws : Lawful (flags {N = N} {P = P})
  flags_laws = seen_laws _ _ (many_laws _ _ flag_laws refl refl refl refl refl)

  numbers_laws : Lawful (seq {N = N} {P = P} u32 u32)
  numbers_laws = seq_laws _ _ u32_laws u32_laws refl

  pub extent_body_laws : (w : List ℕ) → Lawful (extent_body {N = N} {P = P} w)
  extent_body_laws w = led_laws w (seq u32 u32) numbers_laws

  pub extent_laws : (w : List ℕ) → Lawful (extent {N = N} {P = P} w)
  extent_laws w = paren_laws (extent_body w) (extent_body_laws w) refl refl

  names_laws : Lawful (many {N = N} {P = P} string_starts name)
  names_laws = many_laws _ _ name_laws refl refl refl refl refl

  pub within_laws : (k : GroupKind) → Lawful (within {N = N} {P = P} k)
  within_laws MemInfoGroup = seen_laws _ _ (seq_laws _ _ (maybe_laws _ _ (extent_laws (codes "memory")) refl refl refl) (maybe_laws _ _ (extent_laws (codes "table")) refl refl refl) refl)
  within_laws NeededGroup = seen_laws _ _ names_laws
  within_laws ExportInfoGroup = seen_laws _ _ (seq_laws _ _ name_laws flags_laws refl)
  within_laws ImportInfoGroup = seen_laws _ _ (seq_laws _ _ name_laws (seq_laws _ _ name_laws flags_laws refl) refl)
  within_laws RuntimePathGroup = seen_laws _ _ names_laws

  bounded_laws : (k : GroupKind) → Lawful (wide within_starts true within_stops (within {N = N} {P = P} k))
  bounded_laws MemInfoGroup = bound_laws _ _ _ (within_laws MemInfoGroup) refl refl
  bounded_laws NeededGroup = bound_laws _ _ _ (within_laws NeededGroup) refl refl
  bounded_laws ExportInfoGroup = bound_laws _ _ _ (within_laws ExportInfoGroup) refl refl
  bounded_laws ImportInfoGroup = bound_laws _ _ _ (within_laws ImportInfoGroup) refl refl
  bounded_laws RuntimePathGroup = bound_laws _ _ _ (within_laws RuntimePathGroup) refl refl

  headed_laws : Lawful (next {N = N} {P = P} (among group_word group_kinds []) (λ k. within k.0) within_starts true within_stops)
  headed_laws = next_laws (among group_word group_kinds []) (λ k. within k.0) within_starts true within_stops (among_laws group_word group_kinds []) (λ k. bounded_laws k.0) refl

  pub group_body_laws : Lawful (group_body {N = N} {P = P})
  group_body_laws = seen_laws _ _ headed_laws

  pub dylink_group_laws : Lawful (dylink_group {N = N} {P = P})
  dylink_group_laws = paren_laws group_body group_body_laws refl refl

  -- WHERE THEY BEGIN
  pub flag_leads : Leads (flag {N = N} {P = P}).spells flag_starts
  flag_leads = either_leads u32.spells (seen (λ f. flag_bit f.0) (among flag_word symbol_flags [])).spells (On false AnInteger Any ∷ []) (On false AWord (OneOf (map flag_word symbol_flags) []) ∷ [])
      (integer_value_leads (2 ^ 32 - 1) None unsigned) (seen_leads (λ f. flag_bit f.0) (among flag_word symbol_flags []).spells (On false AWord (OneOf (map flag_word symbol_flags) []) ∷ []) (among_leads flag_word symbol_flags [])) refl refl refl

  zero : (p : P) → (u32 {N = N}).spells 0 (Integer (record { minus = false; size = 0 }) [] p ∷ [])
  zero p = ((0, p), refl, ((record { minus = false; size = 0 }, p), refl, (refl, (Integer (record { minus = false; size = 0 }) [] p, refl, refl))))

  pub extent_leads : (w : List ℕ) → P → Leads (extent {N = N} {P = P} w).spells (this_group w ∷ [])
  extent_leads w p = group_leads w (seq u32 u32) numbers_laws (0, 0) (Integer (record { minus = false; size = 0 }) [] p ∷ Integer (record { minus = false; size = 0 }) [] p ∷ []) (_, _, refl, zero p, zero p)

  -- a name without bytes
  pub empty_name : (p : P) → (name {N = N}).spells [] (Text [] p ∷ [])
  empty_name p = (is_utf8-from_IsUtf8 [] IsUtf8-nil, (Text [] p, refl, refl))

  no_flags : (flags {N = N} {P = P}).spells 0 []
  no_flags = ([], refl, refl)

  -- something that each word may head
  within_spelled : P → (k : GroupKind) → (s : Subsection) × (us : List (SignificantToken N P)) × (within k).spells s us
  within_spelled p MemInfoGroup = (MemInfo 0 0 0 0, [], ((None, None), refl, ([], [], refl, refl, refl)))
  within_spelled p NeededGroup = (Needed [], [], ([], refl, refl))
  within_spelled p ExportInfoGroup = (ExportInfo (([], 0) ∷ []), Text [] p ∷ [], (([], 0), refl, (Text [] p ∷ [], [], refl, empty_name p, no_flags)))
  within_spelled p ImportInfoGroup =
      (ImportInfo (([], ([], 0)) ∷ []), Text [] p ∷ Text [] p ∷ [], (([], ([], 0)), refl, (Text [] p ∷ [], Text [] p ∷ [], refl, empty_name p, (Text [] p ∷ [], [], refl, empty_name p, no_flags))))
  within_spelled p RuntimePathGroup = (RuntimePath [], [], ([], refl, refl))

  pub dylink_group_leads : P → Leads (dylink_group {N = N} {P = P}).spells group_starts
  dylink_group_leads p = paren_leads group_body group_body_laws (On false AWord (OneOf (map group_word group_kinds) []) ∷ [])
      (seen_leads (λ g. g.1) (next (among group_word group_kinds []) (λ k. within k.0) within_starts true within_stops).spells (On false AWord (OneOf (map group_word group_kinds) []) ∷ [])
      (next_leads (among group_word group_kinds []) (λ k. within k.0) within_starts true within_stops (On false AWord (OneOf (map group_word group_kinds) []) ∷ []) headed_laws refl (among_leads group_word group_kinds []) refl refl (λ k. within_spelled p k.0)))
      refl refl refl refl refl
