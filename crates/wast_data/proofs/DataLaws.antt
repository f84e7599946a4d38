-- The laws of the syntax of values of data segments: each mirrors its production.
use Rattle.std.proofs.Common.{true, List, [], refl}
use Rattle.std.specs.Prelude.{◌*◌}
use Rattle.std.specs.Int.{Width, w8, w16, w32, w64, byte_len}
use Rattle.wast_parser.specs.Look.{integer_starts, string_starts}
use Rattle.wast_parser.specs.Tokens.{SignificantToken}
use Rattle.wast_parser.specs.Lawful.{Lawful, Leads}
use Rattle.wast_parser.specs.Grammar.{among, string, next, seen, wide}
use Rattle.wast_parser.proofs.GrammarLaws.{string_laws, among_laws, seen_laws, next_laws, many_laws, either_laws, paren_laws, bound_laws}
use Rattle.wast_parser.proofs.LeadLaws.{among_leads, seen_leads, either_leads, next_leads, paren_leads}
use Rattle.wast_parser.proofs.IntegerLaws.{bytes_leads}
use Rattle.wast_vector_operands.specs.VectorSyntax.{float_starts, shape_starts}
use Rattle.wast_vector_operands.proofs.VectorLaws.{signed_literal_laws, float_literal_laws, vector_laws}
use Rattle.wast_data.specs.DataTree.{DataVal, Text, Integral, Float}
use Rattle.wast_data.specs.DataSyntax.{NumberType, I8, I16, I32, I64, F32, F64, V128, number_word, number_types, word_starts, group_starts, value_starts, number_starts, number_stops, integers, floats, vectors, numbers_of, numbers_body, numbers, value}

module _ {N P : Type 0} where
  integers_laws : (w : Width) → Lawful (integers {N = N} {P = P} w)
  integers_laws w = seen_laws _ _ (many_laws integer_starts _ (signed_literal_laws (8 * byte_len w)) refl refl refl refl refl)

  floats_laws : (w : Width) → Lawful (floats {N = N} {P = P} w)
  floats_laws w = seen_laws _ _ (many_laws float_starts _ float_literal_laws refl refl refl refl refl)

  vectors_laws : Lawful (vectors {N = N} {P = P})
  vectors_laws = seen_laws _ _ (many_laws shape_starts _ vector_laws refl refl refl refl refl)

  bounded_laws : (t : NumberType) → Lawful (wide number_starts true number_stops (numbers_of {N = N} {P = P} t))
  bounded_laws I8 = bound_laws _ _ _ (integers_laws w8) refl refl
  bounded_laws I16 = bound_laws _ _ _ (integers_laws w16) refl refl
  bounded_laws I32 = bound_laws _ _ _ (integers_laws w32) refl refl
  bounded_laws I64 = bound_laws _ _ _ (integers_laws w64) refl refl
  bounded_laws F32 = bound_laws _ _ _ (floats_laws w32) refl refl
  bounded_laws F64 = bound_laws _ _ _ (floats_laws w64) refl refl
  bounded_laws V128 = bound_laws _ _ _ vectors_laws refl refl

  headed_laws : Lawful (next {N = N} {P = P} (among number_word number_types []) (λ t. numbers_of t.0) number_starts true number_stops)
  headed_laws = next_laws (among number_word number_types []) (λ t. numbers_of t.0) number_starts true number_stops (among_laws number_word number_types []) (λ t. bounded_laws t.0) refl

  numbers_body_laws : Lawful (numbers_body {N = N} {P = P})
  numbers_body_laws = seen_laws _ _ headed_laws

  numbers_laws : Lawful (numbers {N = N} {P = P})
  numbers_laws = paren_laws numbers_body numbers_body_laws refl refl

  pub value_laws : Lawful (value {N = N} {P = P})
  value_laws = either_laws string_starts _ _ (seen_laws _ _ string_laws) numbers_laws refl refl refl refl

  -- WHERE THEY BEGIN
  -- behind each type no number
  no_numbers : (t : NumberType) → (v : DataVal) × (us : List (SignificantToken N P)) × (numbers_of t).spells v us
  no_numbers I8 = (Integral [], [], ([], refl, refl))
  no_numbers I16 = (Integral [], [], ([], refl, refl))
  no_numbers I32 = (Integral [], [], ([], refl, refl))
  no_numbers I64 = (Integral [], [], ([], refl, refl))
  no_numbers F32 = (Float 0, [], ([], refl, refl))
  no_numbers F64 = (Float 0, [], ([], refl, refl))
  no_numbers V128 = (Integral [], [], ([], refl, refl))

  numbers_leads : Leads (numbers {N = N} {P = P}).spells group_starts
  numbers_leads = paren_leads numbers_body numbers_body_laws word_starts
      (seen_leads (λ x. x.1) (next (among number_word number_types []) (λ t. numbers_of t.0) number_starts true number_stops).spells word_starts
      (next_leads (among number_word number_types []) (λ t. numbers_of t.0) number_starts true number_stops word_starts headed_laws refl (among_leads number_word number_types []) refl refl (λ t. no_numbers t.0)))
      refl refl refl refl refl

  pub value_leads : Leads (value {N = N} {P = P}).spells value_starts
  value_leads = either_leads (seen Text string).spells numbers.spells string_starts group_starts (seen_leads Text string.spells string_starts bytes_leads) numbers_leads refl refl refl
