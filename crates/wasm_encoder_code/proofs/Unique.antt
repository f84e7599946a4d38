-- Bodies and expressions are told apart by their bytes.
use Rattle.std.proofs.Common.{ℕ, List, refl, sym, ◌∙◌}
use Rattle.wasm_encoder_base.specs.Instr.{expr_bytes}
use Rattle.wasm_encoder_base.specs.Types.{ValType}
use Rattle.wasm_encoder_base.specs.Unique.{Unique, Injective, Any}
use Rattle.wasm_encoder_base.proofs.UniqueBytes.{unique_list}
use Rattle.wasm_encoder_base.proofs.UniqueInstr.{injective_expr, unique_expr}
use Rattle.wasm_encoder_base.proofs.UniqueLeb.{unique_uleb}
use Rattle.wasm_encoder_base.proofs.UniqueParts.{unique_pair, unique_via, unique_where, injective_pair, injective_via, injective_where, injective_of}
use Rattle.wasm_encoder_base.proofs.UniqueTypes.{unique_val}
use Rattle.wasm_encoder_code.specs.Body.{Run, Body, IsBody, joined, apart, run_bytes, locals_bytes, body_bytes}
use Rattle.wasm_encoder_code.specs.Laws.{IsOneToOne, IsExpression, OneBody, OneExpression}
use Rattle.wasm_encoder_code.proofs.JoinedRuns.{joined-apart}

unique_run : Unique Any run_bytes
unique_run =
    unique_where (λ r _. (tt, tt))
    (unique_via {A = Run} (λ r. (r.count, r.val_type)) (λ p. record { count = p.0; val_type = p.1 }) (λ r. refl) (unique_pair unique_uleb unique_val))

pub unique_locals : Unique Any locals_bytes
unique_locals = unique_where (λ _ _. tt) (unique_via {A = List ValType} joined apart joined-apart (unique_list unique_run))

pub injective_body : Injective IsBody body_bytes
injective_body =
    injective_where (λ b h. (tt, h.instructions))
    (injective_via {A = Body} (λ b. (b.locals, b.instructions)) (λ p. record { locals = p.0; instructions = p.1 }) (λ b. refl) (injective_pair unique_locals injective_expr))

pub injective_expression : Injective IsExpression expr_bytes
injective_expression = injective_where (λ is h. (h.instructions, h.balanced)) (injective_of unique_expr)

one_to_one : {A : Type 0} {P : A → Type 0} {spell : A → List ℕ} → Injective P spell → IsOneToOne P spell
one_to_one u = record {
  one_string = λ x b c p q. p.bytes ∙ sym q.bytes;
  one_value = λ b x y p q. u.reads x y p.meets q.meets (sym p.bytes ∙ q.bytes);
}

pub one_body : OneBody
one_body = one_to_one injective_body

pub one_expression : OneExpression
one_expression = one_to_one injective_expression
