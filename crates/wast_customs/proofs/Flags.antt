-- Flags one behind another, as a loop joins them.
use Rattle.std.proofs.Common.{◌≡◌, ◌≤◌, ◌<◌, ◌+◌, ℕ, List, map, length, get_or, drop, bit_or, sym, ◌∙◌, ap, arith}
use Rattle.std.specs.Prelude.{max}
use Rattle.std.specs.Int.{bit_at}
use Rattle.std.specs.Int.Bits.{or_zero_r}
use Rattle.std.proofs.lemmas.Nat.Bits.{bit_at_or, same_from_bits}
use Rattle.std.proofs.lemmas.List.{drop_all, drop_more}
use Rattle.wast_customs.specs.DylinkSyntax.{all_flags}

max_regrouped : (a b c : ℕ) → max (max a b) c ≡ max a (max b c)
max_regrouped a b c = omega arith

or_regrouped : (a b c : ℕ) → bit_or (bit_or a b) c ≡ bit_or a (bit_or b c)
or_regrouped a b c =
    same_from_bits (bit_or (bit_or a b) c) (bit_or a (bit_or b c)) (λ i.
    bit_at_or (bit_or a b) c i
    ∙ ap (λ m. max m (bit_at c i)) (bit_at_or a b i)
    ∙ max_regrouped (bit_at a i) (bit_at b i) (bit_at c i)
    ∙ sym (ap (max (bit_at a i)) (bit_at_or b c i))
    ∙ sym (bit_at_or a (bit_or b c) i))

module _ {A : Type 0} (bits_of : A → ℕ) where
  -- what is joined already, with one more flag
  pub one_more : (bits i : ℕ) (d : A) (fs : List A) → i < length fs →
      bit_or (bit_or bits (bits_of (get_or fs i d))) (all_flags (map bits_of (drop (i + 1) fs))) ≡ bit_or bits (all_flags (map bits_of (drop i fs)))
  one_more bits i d fs h =
      or_regrouped bits (bits_of (get_or fs i d)) (all_flags (map bits_of (drop (i + 1) fs))) ∙ sym (ap (λ gs. bit_or bits (all_flags (map bits_of gs))) (drop_more fs i d h))

  -- and behind the last one
  pub all_joined : (bits i : ℕ) (fs : List A) → length fs ≤ i → bit_or bits (all_flags (map bits_of (drop i fs))) ≡ bits
  all_joined bits i fs h = ap (λ gs. bit_or bits (all_flags (map bits_of gs))) (drop_all i fs h) ∙ or_zero_r bits
