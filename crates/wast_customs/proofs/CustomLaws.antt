-- The laws of custom fields: each mirrors its production.
use Rattle.std.proofs.Common.{true, false, List, [], ◌∷◌, map, None, refl, inl}
use Rattle.std.specs.Prelude.{codes}
use Rattle.wast_parser.specs.Tokens.{SignificantToken, Text, Word}
use Rattle.wast_parser.specs.Lawful.{Lawful, Leads}
use Rattle.wast_parser.specs.Look.{On, OneOf, Any, AWord, AString, this_annotation}
use Rattle.wast_parser.specs.Grammar.{among, string, seq, next, seen, maybe, many, either, wide}
use Rattle.wast_parser.specs.Productions.{name}
use Rattle.wast_parser.proofs.GrammarLaws.{among_laws, word_laws, mark_laws, string_laws, seen_laws, seq_laws, next_laws, maybe_laws, many_laws, either_laws, paren_laws, bound_laws}
use Rattle.wast_parser.proofs.LeadLaws.{among_leads, seen_leads, either_leads, next_leads, paren_leads}
use Rattle.wast_parser.proofs.IntegerLaws.{name_laws}
use Rattle.wast_customs.specs.CustomTree.{CustomPlace, BeforeFirst, AfterLast, Raw, ProducersField, DylinkField}
use Rattle.wast_customs.specs.CustomSyntax.{anchor_word, anchors, Side, Ahead, Behind, side_word, sides, place_starts, end_starts, anchor, place_on, place_body, custom_place, as_raw, raw_body, raw_section, producer_word, producer_kinds, producer_starts, as_producer, producer_body, producer, as_producers, producers_body, producers, as_dylink, dylink_groups, dylink_body, dylink, custom, custom_starts}
use Rattle.wast_customs.proofs.Begins.{annotation_leads}
use Rattle.wast_customs.proofs.DylinkLaws.{dylink_group_laws, empty_name}

module _ {N P : Type 0} where
  pub anchor_laws : Lawful (anchor {N = N} {P = P})
  anchor_laws = seen_laws _ _ (among_laws anchor_word anchors [])

  pub place_on_laws : (s : Side) → Lawful (place_on {N = N} {P = P} s)
  place_on_laws Ahead = either_laws _ _ _ (seen_laws _ _ (word_laws (codes "first"))) (seen_laws _ _ anchor_laws) refl refl refl refl
  place_on_laws Behind = either_laws _ _ _ (seen_laws _ _ (word_laws (codes "last"))) (seen_laws _ _ anchor_laws) refl refl refl refl

  bounded_laws : (s : Side) → Lawful (wide end_starts true [] (place_on {N = N} {P = P} s))
  bounded_laws Ahead = bound_laws _ _ _ (place_on_laws Ahead) refl refl
  bounded_laws Behind = bound_laws _ _ _ (place_on_laws Behind) refl refl

  sided_laws : Lawful (next {N = N} {P = P} (among side_word sides []) (λ s. place_on s.0) end_starts true [])
  sided_laws = next_laws (among side_word sides []) (λ s. place_on s.0) end_starts true [] (among_laws side_word sides []) (λ s. bounded_laws s.0) refl

  pub place_body_laws : Lawful (place_body {N = N} {P = P})
  place_body_laws = seen_laws _ _ sided_laws

  pub custom_place_laws : Lawful (custom_place {N = N} {P = P})
  custom_place_laws = paren_laws place_body place_body_laws refl refl

  strings_laws : Lawful (many {N = N} {P = P} (On false AString Any ∷ []) string)
  strings_laws = many_laws _ _ string_laws refl refl refl refl refl

  raw_parts_laws : Lawful (seq {N = N} {P = P} name (seq (maybe place_starts custom_place) (many (On false AString Any ∷ []) string)))
  raw_parts_laws = seq_laws _ _ name_laws (seq_laws _ _ (maybe_laws _ _ custom_place_laws refl refl refl) strings_laws refl) refl

  pub raw_body_laws : Lawful (raw_body {N = N} {P = P})
  raw_body_laws = seen_laws _ _ (seq_laws _ _ (mark_laws (codes "custom")) raw_parts_laws refl)

  pub raw_section_laws : Lawful (raw_section {N = N} {P = P})
  raw_section_laws = paren_laws raw_body raw_body_laws refl refl

  -- PRODUCERS
  producer_parts_laws : Lawful (seq {N = N} {P = P} (among producer_word producer_kinds []) (seq name name))
  producer_parts_laws = seq_laws _ _ (among_laws producer_word producer_kinds []) (seq_laws _ _ name_laws name_laws refl) refl

  pub producer_body_laws : Lawful (producer_body {N = N} {P = P})
  producer_body_laws = seen_laws _ _ producer_parts_laws

  pub producer_laws : Lawful (producer {N = N} {P = P})
  producer_laws = paren_laws producer_body producer_body_laws refl refl

  producer_list_laws : Lawful (many {N = N} {P = P} producer_starts producer)
  producer_list_laws = many_laws _ _ producer_laws refl refl refl refl refl

  pub producers_body_laws : Lawful (producers_body {N = N} {P = P})
  producers_body_laws = seen_laws _ _ (seq_laws _ _ (mark_laws (codes "producers")) producer_list_laws refl)

  pub producers_laws : Lawful (producers {N = N} {P = P})
  producers_laws = paren_laws producers_body producers_body_laws refl refl

  -- DYLINK.0
  group_list_laws : Lawful (dylink_groups {N = N} {P = P})
  group_list_laws = seen_laws _ _ (many_laws _ _ dylink_group_laws refl refl refl refl refl)

  pub dylink_body_laws : Lawful (dylink_body {N = N} {P = P})
  dylink_body_laws = seen_laws _ _ (seq_laws _ _ (mark_laws (codes "dylink.0")) group_list_laws refl)

  pub dylink_laws : Lawful (dylink {N = N} {P = P})
  dylink_laws = paren_laws dylink_body dylink_body_laws refl refl

  -- CUSTOM FIELDS
  pub custom_laws : Lawful (custom {N = N} {P = P})
  custom_laws = either_laws _ _ _ (seen_laws _ _ raw_section_laws) (either_laws _ _ _ (seen_laws _ _ producers_laws) (seen_laws _ _ dylink_laws) refl refl refl refl) refl refl refl refl

  -- WHERE THEY BEGIN
  place_spelled : P → (s : Side) → (c : CustomPlace) × (us : List (SignificantToken N P)) × (place_on s).spells c us
  place_spelled p Ahead = (BeforeFirst, Word (codes "first") p ∷ [], inl (p, refl, (Word (codes "first") p, refl, refl)))
  place_spelled p Behind = (AfterLast, Word (codes "last") p ∷ [], inl (p, refl, (Word (codes "last") p, refl, refl)))

  pub custom_place_leads : P → Leads (custom_place {N = N} {P = P}).spells place_starts
  custom_place_leads p = paren_leads place_body place_body_laws (On false AWord (OneOf (map side_word sides) []) ∷ [])
      (seen_leads (λ x. x.1) (next (among side_word sides []) (λ s. place_on s.0) end_starts true []).spells (On false AWord (OneOf (map side_word sides) []) ∷ [])
      (next_leads (among side_word sides []) (λ s. place_on s.0) end_starts true [] (On false AWord (OneOf (map side_word sides) []) ∷ []) sided_laws refl (among_leads side_word sides []) refl refl (λ s. place_spelled p s.0)))
      refl refl refl refl refl

  pub raw_section_leads : P → Leads (raw_section {N = N} {P = P}).spells (this_annotation (codes "custom") ∷ [])
  raw_section_leads p = annotation_leads (codes "custom") as_raw (seq name (seq (maybe place_starts custom_place) (many (On false AString Any ∷ []) string))) raw_parts_laws refl
      ([], (None, [])) (Text [] p ∷ []) (Text [] p ∷ [], [], refl, empty_name p, ([], [], refl, refl, refl))

  pub producer_leads : P → Leads (producer {N = N} {P = P}).spells producer_starts
  producer_leads p = paren_leads producer_body producer_body_laws (On false AWord (OneOf (map producer_word producer_kinds) []) ∷ [])
      (seen_leads as_producer (seq (among producer_word producer_kinds []) (seq name name)).spells (On false AWord (OneOf (map producer_word producer_kinds) []) ∷ [])
      (next_leads (among producer_word producer_kinds []) (λ _. seq name name) (seq {N = N} {P = P} name name).starts (seq {N = N} {P = P} name name).empty (seq {N = N} {P = P} name name).stops (On false AWord (OneOf (map producer_word producer_kinds) []) ∷ []) producer_parts_laws refl (among_leads producer_word producer_kinds []) refl refl
      (λ _. (([], []), Text [] p ∷ Text [] p ∷ [], (Text [] p ∷ [], Text [] p ∷ [], refl, empty_name p, empty_name p)))))
      refl refl refl refl refl

  pub producers_leads : Leads (producers {N = N} {P = P}).spells (this_annotation (codes "producers") ∷ [])
  producers_leads = annotation_leads (codes "producers") as_producers (many producer_starts producer) producer_list_laws refl [] [] refl

  pub dylink_leads : Leads (dylink {N = N} {P = P}).spells (this_annotation (codes "dylink.0") ∷ [])
  dylink_leads = annotation_leads (codes "dylink.0") as_dylink dylink_groups group_list_laws refl [] [] ([], refl, refl)

  pub custom_leads : P → Leads (custom {N = N} {P = P}).spells custom_starts
  custom_leads p = either_leads (seen Raw raw_section).spells (either (this_annotation (codes "producers") ∷ []) (seen ProducersField producers) (seen DylinkField dylink)).spells (this_annotation (codes "custom") ∷ []) (this_annotation (codes "producers") ∷ this_annotation (codes "dylink.0") ∷ [])
      (seen_leads Raw raw_section.spells (this_annotation (codes "custom") ∷ []) (raw_section_leads p))
      (either_leads (seen ProducersField producers).spells (seen DylinkField dylink).spells (this_annotation (codes "producers") ∷ []) (this_annotation (codes "dylink.0") ∷ [])
      (seen_leads ProducersField producers.spells (this_annotation (codes "producers") ∷ []) producers_leads) (seen_leads DylinkField dylink.spells (this_annotation (codes "dylink.0") ∷ []) dylink_leads) refl refl refl)
      refl refl refl
