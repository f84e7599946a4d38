-- The section of the count of data segments, where it is needed.
use Rattle.std.proofs.Common.{◌≡◌, ℕ, Bool, true, false, List, Result, Ok, Err, sym, subst, append-nil}
use Rattle.wasm_encoder_base.specs.EncodeError.{EncodeError}
use Rattle.wasm_encoder_base.specs.Encodes.{Encodes}
use Rattle.wasm_encoder_sections.specs.Sections.{data_count_section}
use Rattle.wasm_encoder.specs.Module.{numbered}
use Rattle.wasm_layout.specs.IsModule.{IsU32}
use Rattle.wast_binary.specs.Puts.{PutsCount}

module _ (needed : Bool) (count : ℕ) (before : List ℕ) where
  pub needed_put : (counted : ℕ) (after : List ℕ) (r : Result (Unit {0}) EncodeError) → needed ≡ true → counted ≡ count → Encodes (numbered 12 (data_count_section counted)) (IsU32 counted) before after r
      → PutsCount needed count before after r
  needed_put counted after r e is h = by_answer r e (subst (λ n. Encodes (numbered 12 (data_count_section n)) (IsU32 n) before after r) is h)
    where
      by_answer : (r : Result (Unit {0}) EncodeError) → needed ≡ true → Encodes (numbered 12 (data_count_section count)) (IsU32 count) before after r → PutsCount needed count before after r
      by_answer (Ok v) e h = subst (λ b. PutsCount b count before after (Ok v)) (sym e) (record { put = h.spelled; size = h.fit; too_large = λ t. h.too_large t })
      by_answer (Err error) e h = subst (λ b. PutsCount b count before after (Err error)) (sym e) (record { put = tt; size = tt; too_large = λ t. h.too_large t })

  pub unneeded_put : needed ≡ false → PutsCount needed count before before (Ok tt)
  unneeded_put e = subst (λ b. PutsCount b count before before (Ok tt)) (sym e) (record { put = sym (append-nil before); size = tt; too_large = λ t fits. cc })
