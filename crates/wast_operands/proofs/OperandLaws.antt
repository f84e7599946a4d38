-- The laws of the syntax of operands: each mirrors its production.
use Rattle.std.proofs.Common.{◌≡◌, ℕ, Bool, true, false, [], ◌∷◌, Some, None, inr, refl}
use Rattle.std.specs.Prelude.{◌-◌, ◌^◌, codes}
use Rattle.wast_vector_operands.specs.Tokens.{Id, Word}
use Rattle.wast_vector_operands.specs.Look.{apart, join, faults, id_starts, index_starts, integer_starts, type_starts}
use Rattle.wast_vector_operands.specs.Grammar.{Syntax, led, wide, seq}
use Rattle.wast_vector_operands.specs.Identifiers.{ByName}
use Rattle.wast_vector_operands.specs.Integers.{unsigned}
use Rattle.wast_vector_operands.proofs.Looks.{sub_law}
use Rattle.wast_vector_operands.proofs.GrammarLaws.{Lawful, Leads, led_laws, word_laws, among_laws, begun_laws, nothing_laws, seen_laws, respelled_laws, only_laws, seq_laws, next_laws, maybe_laws, many_laws, either_laws, group_laws, bound_laws, wide_laws}
use Rattle.wast_vector_operands.proofs.LeadLaws.{seen_leads, among_leads, group_leads}
use Rattle.wast_vector_operands.proofs.IdentifierLaws.{identifier_laws, index_laws, item_ref_laws}
use Rattle.wast_vector_operands.proofs.IntegerLaws.{number_laws, u32_laws}
use Rattle.wast_operands.specs.OperandTree.{Modifiers, OnSwitch}
use Rattle.wast_vector_operands.specs.VectorSyntax.{lane}
use Rattle.wast_vector_operands.proofs.VectorLaws.{lane_laws}
use Rattle.wast_operands.proofs.Lanes.{lane_in_turn, turn_decided}
use Rattle.wast_operands.specs.OperandSyntax.{u64_number, alignment, ordering_word, orderings, ordering_starts, offset_starts, align_starts, handle_starts, lane_starts, is_bare, two_indices, index_count, label_table, optional_index, optional_indices, one_or_two, ordering, optional_ordering, ordered, array_target, target, one_or_two_orderings, offset, align, modifiers, mem_arg, behind_integer, integer_first, behind_modifiers, untargeted_lane, by_target, mem_arg_lane, handled, handle_body, handle, handlers, resume, resume_throw}

module _ {N P : Type 0} where
  pub two_indices_laws : Lawful (two_indices {N = N} {P = P})
  two_indices_laws = seq_laws _ _ index_laws index_laws refl

  pub index_count_laws : Lawful (index_count {N = N} {P = P})
  index_count_laws = seq_laws _ _ index_laws u32_laws refl

  pub label_table_laws : Lawful (label_table {N = N} {P = P})
  label_table_laws = seen_laws _ _ (seq_laws _ _ index_laws (many_laws _ _ index_laws refl refl refl refl refl) refl)

  pub optional_index_laws : Lawful (optional_index {N = N} {P = P})
  optional_index_laws = maybe_laws index_starts _ index_laws refl refl refl

  pub optional_indices_laws : Lawful (optional_indices {N = N} {P = P})
  optional_indices_laws = maybe_laws index_starts _ two_indices_laws refl refl refl

  pub one_or_two_laws : Lawful (one_or_two {N = N} {P = P})
  one_or_two_laws = seen_laws _ _ (seq_laws _ _ index_laws optional_index_laws refl)

  -- ORDERINGS
  pub ordering_laws : Lawful (ordering {N = N} {P = P})
  ordering_laws = seen_laws _ _ (among_laws ordering_word orderings [])

  pub optional_ordering_laws : Lawful (optional_ordering {N = N} {P = P})
  optional_ordering_laws = maybe_laws ordering_starts _ ordering_laws refl refl refl

  pub ordered_laws : {A : Type 0} (g : Syntax N P A) → Lawful g → apart (optional_ordering {N = N} {P = P}).stops g.starts ≡ true → Lawful (ordered g)
  ordered_laws g lg d = seen_laws _ _ (seq_laws optional_ordering g optional_ordering_laws lg d)

  -- MEMORY ARGUMENTS
  pub array_target_laws : Lawful (array_target {N = N} {P = P})
  array_target_laws = seen_laws _ _ (item_ref_laws (codes "type"))

  pub target_laws : Lawful (target {N = N} {P = P})
  target_laws = either_laws index_starts _ _ (seen_laws _ _ index_laws) (maybe_laws type_starts _ array_target_laws refl refl refl) refl refl refl refl

  pub one_or_two_orderings_laws : Lawful (one_or_two_orderings {N = N} {P = P})
  one_or_two_orderings_laws = maybe_laws ordering_starts _ (seq_laws _ _ ordering_laws optional_ordering_laws refl) refl refl refl

  pub offset_laws : Lawful (offset {N = N} {P = P})
  offset_laws = maybe_laws offset_starts _ (seen_laws _ _ (begun_laws (codes "offset=") u64_number)) refl refl refl

  pub align_laws : Lawful (align {N = N} {P = P})
  align_laws = maybe_laws align_starts _ (seen_laws _ _ (begun_laws (codes "align=") alignment)) refl refl refl

  pub modifiers_laws : Lawful (modifiers {N = N} {P = P})
  modifiers_laws = seen_laws _ _ (seq_laws _ _ one_or_two_orderings_laws (seq_laws _ _ offset_laws align_laws refl) refl)

  pub mem_arg_laws : (natural : ℕ) → Lawful (mem_arg {N = N} {P = P} natural)
  mem_arg_laws natural = seen_laws _ _ (seq_laws _ _ target_laws modifiers_laws refl)

  -- A MEMORY ARGUMENT AND A LANE
  modified_laws : Lawful (seq {N = N} {P = P} modifiers lane)
  modified_laws = seq_laws _ _ modifiers_laws lane_laws refl

  behind_integer_laws : (natural : ℕ) (n : ℕ × P) → Lawful (wide lane_starts true (join (faults lane_starts) lane_starts) (behind_integer {N = N} natural n))
  behind_integer_laws natural n = bound_laws _ _ _ (either_laws lane_starts _ _ (seen_laws _ _ modified_laws) (only_laws _ _ (seen_laws _ _ nothing_laws)) refl refl refl refl) refl refl

  integer_first_laws : (natural : ℕ) → Lawful (integer_first {N = N} {P = P} natural)
  integer_first_laws natural = seen_laws _ _ (next_laws _ (behind_integer natural) lane_starts true (join (faults lane_starts) lane_starts) (number_laws (2 ^ 32 - 1) None unsigned) (behind_integer_laws natural) refl)

  behind_modifiers_laws : (natural : ℕ) (m : Modifiers) (b : Bool) → Lawful (wide integer_starts false (join (faults lane_starts) lane_starts) (behind_modifiers {N = N} {P = P} natural m b))
  behind_modifiers_laws natural m true = integer_first_laws natural
  behind_modifiers_laws natural m false = wide_laws _ integer_starts false _ (seen_laws _ _ lane_laws) (sub_law integer_starts integer_starts refl) (λ e. e) (sub_law [] (join (faults lane_starts) lane_starts) refl)

  untargeted_laws : (natural : ℕ) → Lawful (untargeted_lane {N = N} {P = P} natural)
  untargeted_laws natural = seen_laws _ _ (next_laws modifiers (λ m. behind_modifiers natural m (is_bare m)) integer_starts false (join (faults lane_starts) lane_starts) modifiers_laws (λ m. behind_modifiers_laws natural m (is_bare m)) refl)

  by_target_laws : (natural : ℕ) → Lawful (by_target {N = N} {P = P} natural)
  by_target_laws natural =
      either_laws id_starts _ _ (seen_laws _ _ (seq_laws _ _ (seen_laws _ _ identifier_laws) modified_laws refl))
      (either_laws type_starts _ _ (seen_laws _ _ (seq_laws _ _ array_target_laws modified_laws refl)) (untargeted_laws natural) refl refl refl refl) refl refl refl refl

  pub mem_arg_lane_laws : (natural : ℕ) → Lawful (mem_arg_lane {N = N} {P = P} natural)
  mem_arg_lane_laws natural = respelled_laws (seq (mem_arg natural) lane).spells (by_target natural) (turn_decided natural) (lane_in_turn natural) (by_target_laws natural)

  -- CONTINUATIONS
  pub handled_laws : Lawful (handled {N = N} {P = P})
  handled_laws = either_laws index_starts _ _ (seen_laws _ _ index_laws) (seen_laws _ _ (word_laws (codes "switch"))) refl refl refl refl

  pub handle_body_laws : Lawful (handle_body {N = N} {P = P})
  handle_body_laws = seen_laws _ _ (seq_laws _ _ index_laws handled_laws refl)

  pub handle_led_laws : Lawful (led {N = N} {P = P} (codes "on") handle_body)
  handle_led_laws = led_laws (codes "on") handle_body handle_body_laws

  pub handle_laws : Lawful (handle {N = N} {P = P})
  handle_laws = group_laws (codes "on") _ handle_body_laws refl

  pub handlers_laws : Lawful (handlers {N = N} {P = P})
  handlers_laws = many_laws handle_starts _ handle_laws refl refl refl refl refl

  pub resume_laws : Lawful (resume {N = N} {P = P})
  resume_laws = seq_laws _ _ index_laws handlers_laws refl

  pub resume_throw_laws : Lawful (resume_throw {N = N} {P = P})
  resume_throw_laws = seq_laws _ _ index_laws resume_laws refl

  -- WHERE THEY BEGIN
  pub ordering_leads : Leads (ordering {N = N} {P = P}).spells ordering_starts
  ordering_leads = seen_leads _ _ ordering_starts (among_leads ordering_word orderings [])

  -- `(on $n switch)`
  pub handle_leads : N → P → Leads (handle {N = N} {P = P}).spells handle_starts
  handle_leads n p =
      let tag = ByName (n, p) in
      group_leads (codes "on") handle_body handle_body_laws (OnSwitch tag) (Id (Some n) p ∷ Word (codes "switch") p ∷ [])
      ((tag, None), refl, (Id (Some n) p ∷ [], Word (codes "switch") p ∷ [], refl, inr ((n, p), refl, (Id (Some n) p, refl, refl)), inr (p, refl, (Word (codes "switch") p, refl, refl))))
