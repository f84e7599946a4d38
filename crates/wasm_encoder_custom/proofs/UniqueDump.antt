-- What core dumps hold is told apart by its bytes.
use Rattle.std.proofs.Common.{ℕ, ◌≡◌, ◌<◌, ◌^◌, List, ◌∷◌, ◌++◌, refl, sym, ap, ◌∙◌, arith}
use Rattle.std.specs.Int.{w32, w64, to_le_bytes, from_le_bytes}
use Rattle.std.proofs.lemmas.Nat.{from_le_bytes-to_le_bytes_4, from_le_bytes-to_le_bytes_8}
use Rattle.wasm_encoder_base.specs.Bytes.{counted}
use Rattle.wasm_encoder_base.specs.Leb.{uleb}
use Rattle.wasm_encoder_base.specs.Unique.{Unique, Any}
use Rattle.wasm_encoder_base.proofs.UniqueBytes.{unique_counted, unique_list, unique_name}
use Rattle.wasm_encoder_base.proofs.UniqueLeb.{unique_uleb, unique_sleb}
use Rattle.wasm_encoder_base.proofs.UniqueParts.{unique_pair, unique_via, unique_where, cons_head, cons_tail, front_parts}
use Rattle.wasm_encoder_custom.specs.CoreDump.{IsValue, value_bytes, named_bytes, Instance, instance_bytes, Frame, frame_bytes}
use Rattle.wasm_encoder_custom.specs.Laws.{IsFrame}
use Rattle.wasm_encoder_custom.specs.declared.dump.CoreDumpValue.{CoreDumpValue}
use Rattle.wasm_encoder_custom.specs.declared.dump.CoreDumpValue.TheVariants.{Missing, I32, I64, F32, F64}
use Rattle.wasm_encoder_base.proofs.UniqueTypes.{unique_after}

-- numbers of 32 and of 64 bits, the low byte first
unique_four : Unique (λ n. n < 2 ^ 32) (to_le_bytes w32)
unique_four = record {
  reads = λ m n r s p q e. (
      let h = front_parts (to_le_bytes w32 m) (to_le_bytes w32 n) r s refl e in
      (sym (from_le_bytes-to_le_bytes_4 m p) ∙ ap (from_le_bytes w32) h.0 ∙ from_le_bytes-to_le_bytes_4 n q, h.1));
}

unique_eight : Unique (λ n. n < 2 ^ 64) (to_le_bytes w64)
unique_eight = record {
  reads = λ m n r s p q e. (
      let h = front_parts (to_le_bytes w64 m) (to_le_bytes w64 n) r s refl e in
      (sym (from_le_bytes-to_le_bytes_8 m p) ∙ ap (from_le_bytes w64) h.0 ∙ from_le_bytes-to_le_bytes_8 n q, h.1));
}

one : (x y : CoreDumpValue) (r s : List ℕ) → IsValue x → IsValue y → value_bytes x ++ r ≡ value_bytes y ++ s → (x ≡ y) × (r ≡ s)
one Missing Missing r s p q e = (refl, cons_tail e)
one (I32 m) (I32 n) r s p q e = let h = unique_sleb.reads m n r s tt tt (cons_tail e) in (ap I32 h.0, h.1)
one (I64 m) (I64 n) r s p q e = let h = unique_sleb.reads m n r s tt tt (cons_tail e) in (ap I64 h.0, h.1)
one (F32 a) (F32 b) r s p q e = let h = unique_four.reads a.bits b.bits r s p q (cons_tail e) in (ap (λ n. F32 (record { bits = n })) h.0, h.1)
one (F64 a) (F64 b) r s p q e = let h = unique_eight.reads a.bits b.bits r s p q (cons_tail e) in (ap (λ n. F64 (record { bits = n })) h.0, h.1)
one _ _ r s p q e = absurd (omega (arith, cons_head e))

pub unique_value : Unique IsValue value_bytes
unique_value = record { reads = one }

pub unique_named : Unique Any named_bytes
unique_named = unique_after 0x00 unique_name

unique_indices : Unique Any (counted uleb)
unique_indices = unique_list unique_uleb

pub unique_instance : Unique Any instance_bytes
unique_instance =
    unique_where (λ i _. ((tt, tt), tt))
    (unique_via {A = Instance} (λ i. ((i.module_index, i.memories), i.globals)) (λ p. record { module_index = p.0.0; memories = p.0.1; globals = p.1 }) (λ i. refl)
    (unique_pair (unique_pair (unique_after 0x00 unique_uleb) unique_indices) unique_indices))

-- the fields of a frame, pairs nested to the left as the bytes are
pub unique_frame : Unique IsFrame frame_bytes
unique_frame =
    unique_where (λ f h. ((((tt, tt), tt), h.locals), h.stack))
    (unique_via {A = Frame} (λ f. ((((f.instance_index, f.function_index), f.code_offset), f.locals), f.stack)) (λ p. record { instance_index = p.0.0.0.0; function_index = p.0.0.0.1; code_offset = p.0.0.1; locals = p.0.1; stack = p.1 }) (λ f. refl)
    (unique_pair (unique_pair (unique_pair (unique_pair (unique_after 0x00 unique_uleb) unique_uleb) unique_uleb) (unique_counted unique_value)) (unique_counted unique_value)))
