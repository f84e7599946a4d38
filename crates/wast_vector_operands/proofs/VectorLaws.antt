-- The laws of the syntax of literals, lanes and vectors: each mirrors its production.
use Rattle.std.proofs.Common.{◌≡◌, ℕ, zero, suc, true, false, List, [], ◌∷◌, ◌++◌, Some, None, refl, sym, ◌∙◌, ap}
use Rattle.std.specs.Prelude.{◌*◌, ◌-◌, ◌^◌}
use Rattle.std.specs.Int.{Width, w8, w16, w32, w64, byte_len}
use Rattle.wast_parser.specs.Tokens.{SignificantToken, Open, Integer, Float}
use Rattle.wast_parser.specs.Look.{look, at, integer_starts}
use Rattle.wast_parser.specs.Grammar.{Syntax, wide, next, times, float}
use Rattle.wast_parser.specs.Integers.{unsigned, signed}
use Rattle.wast_parser.proofs.Looks.{absurd_of, first_deep, flat_plain, answered, sub_law}
use Rattle.wast_parser.proofs.GrammarLaws.{Lawful, Leads, among_laws, float_laws, seen_laws, next_laws, times_laws, wide_laws}
use Rattle.wast_parser.proofs.LeadLaws.{LooksSpelled, spelled_seen, seen_leads, among_leads, next_leads}
use Rattle.wast_parser.proofs.IntegerLaws.{number_laws, integer_value_leads}
use Rattle.wast_vector_operands.specs.VectorTree.{Vector, Integers, Floats, Shape, I8x16, I16x8, I32x4, I64x2, F32x4, F64x2}
use Rattle.wast_vector_operands.specs.VectorSyntax.{shape_word, shapes, float_starts, shape_starts, signed_literal, float_literal, lane, shuffle, integers, floats, lanes_of, shape, vector}

module _ {N P : Type 0} where
  -- LITERALS
  pub signed_literal_laws : (bits : ℕ) → Lawful (signed_literal {N = N} {P = P} bits)
  signed_literal_laws bits = seen_laws _ _ (number_laws (2 ^ bits - 1) (Some (2 ^ (bits - 1))) (signed (2 ^ (bits - 1))))

  pub float_literal_laws : Lawful (float_literal {N = N} {P = P})
  float_literal_laws = seen_laws _ _ float_laws

  pub lane_laws : Lawful (lane {N = N} {P = P})
  lane_laws = seen_laws _ _ (number_laws (2 ^ 8 - 1) None unsigned)

  pub shuffle_laws : Lawful (shuffle {N = N} {P = P})
  shuffle_laws = times_laws lane lane_laws refl refl 16

  -- VECTORS
  pub integers_laws : (w : Width) (n : ℕ) → Lawful (integers {N = N} {P = P} w n)
  integers_laws w n = seen_laws _ _ (times_laws (signed_literal (8 * byte_len w)) (signed_literal_laws (8 * byte_len w)) refl refl n)

  pub floats_laws : (w : Width) (n : ℕ) → Lawful (floats {N = N} {P = P} w n)
  floats_laws w n = seen_laws _ _ (times_laws float_literal float_literal_laws refl refl n)

  bounded_integers : (w : Width) (n : ℕ) → (integers {N = N} {P = P} w n).empty ≡ false → Lawful (wide float_starts false [] (integers {N = N} {P = P} w n))
  bounded_integers w n full = wide_laws (integers w n) float_starts false [] (integers_laws w n) (sub_law integer_starts float_starts refl) (λ e. cc) (sub_law [] [] refl)

  lanes_laws : (s : Shape) → Lawful (wide float_starts false [] (lanes_of {N = N} {P = P} s))
  lanes_laws I8x16 = bounded_integers _ 16 refl
  lanes_laws I16x8 = bounded_integers _ 8 refl
  lanes_laws I32x4 = bounded_integers _ 4 refl
  lanes_laws I64x2 = bounded_integers _ 2 refl
  lanes_laws F32x4 = floats_laws _ 4
  lanes_laws F64x2 = floats_laws _ 2

  pub shape_laws : Lawful (shape {N = N} {P = P})
  shape_laws = among_laws shape_word shapes []

  shaped_laws : Lawful (next {N = N} {P = P} shape (λ s. lanes_of s.0) float_starts false [])
  shaped_laws = next_laws shape (λ s. lanes_of s.0) float_starts false [] shape_laws (λ s. lanes_laws s.0) refl

  pub vector_laws : Lawful (vector {N = N} {P = P})
  vector_laws = seen_laws _ _ shaped_laws

  -- WHERE THEY BEGIN
  float_only : (ts : List (SignificantToken N P)) → at float_starts ts ≡ true → LooksSpelled (float {N = N} {P = P}).spells ts
  float_only [] h = absurd cc
  float_only (Open p ∷ ts) h = absurd_of true refl (sym (first_deep true ts) ∙ (flat_plain float_starts (look (Open p ∷ ts)) refl h).0)
  float_only (Integer n w p ∷ ts) h = ((w, p), Integer n w p, [], [], (Integer n w p, refl, refl), refl)
  float_only (Float w p ∷ ts) h = ((w, p), Float w p, [], [], (Float w p, refl, refl), refl)
  float_only (_ ∷ ts) h = absurd cc

  pub float_leads : Leads (float_literal {N = N} {P = P}).spells float_starts
  float_leads = seen_leads (λ x. x.0) float.spells float_starts (record {
    seen = spelled_seen float float_laws refl;
    only = λ ts h. float_only ts (answered float_starts ts true h).1;
  })

  -- one literal, so often
  repeated : {A : Type 0} (g : Syntax N P A) (a : A) (us : List (SignificantToken N P)) → g.spells a us → (n : ℕ) → (xs : List A) × (ts : List (SignificantToken N P)) × (times n g).spells xs ts
  repeated g a us s zero = ([], [], (refl, refl))
  repeated g a us s (suc n) = let r = repeated g a us s n in (a ∷ r.0, us ++ r.1, (ap suc r.2.0, (us, r.1, refl, s, r.2.1)))

  some_integers : P → (w : Width) (n : ℕ) → (v : Vector) × (us : List (SignificantToken N P)) × (integers w n).spells v us
  some_integers p w n =
      let bits = 8 * byte_len w in
      let one = (integer_value_leads {N = N} (2 ^ bits - 1) (Some (2 ^ (bits - 1))) (signed (2 ^ (bits - 1)))).only (Integer (record { minus = false; size = 0 }) [] p ∷ []) refl in
      let all = repeated (signed_literal bits) one.0 (one.1 ∷ one.2) one.4 n in
      (Integers w all.0, all.1, (all.0, refl, all.2))

  some_floats : P → (w : Width) (n : ℕ) → (v : Vector) × (us : List (SignificantToken N P)) × (floats w n).spells v us
  some_floats p w n =
      let all = repeated float_literal [] (Float [] p ∷ []) (([], p), refl, (Float [] p, refl, refl)) n in
      (Floats w all.0, all.1, (all.0, refl, all.2))

  some_lanes : P → (s : Shape) → (v : Vector) × (us : List (SignificantToken N P)) × (lanes_of s).spells v us
  some_lanes p I8x16 = some_integers p w8 16
  some_lanes p I16x8 = some_integers p w16 8
  some_lanes p I32x4 = some_integers p w32 4
  some_lanes p I64x2 = some_integers p w64 2
  some_lanes p F32x4 = some_floats p w32 4
  some_lanes p F64x2 = some_floats p w64 2

  pub vector_leads : P → Leads (vector {N = N} {P = P}).spells shape_starts
  vector_leads p = seen_leads (λ x. x.1) (next shape (λ s. lanes_of s.0) float_starts false []).spells shape_starts
      (next_leads shape (λ s. lanes_of s.0) float_starts false [] shape_starts shaped_laws refl (among_leads shape_word shapes []) refl refl (λ s. some_lanes p s.0))
