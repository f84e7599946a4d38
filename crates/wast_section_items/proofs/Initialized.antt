-- Tables and globals whose expressions are the bytes of the instructions that are meant.
use Rattle.std.proofs.Common.{◌≡◌, ℕ, List, [], ◌∷◌, ap}
use Rattle.std.specs.Prelude.{Result}
use Rattle.wasm_encoder_base.specs.EncodeError.{EncodeError}
use Rattle.wasm_encoder_base.specs.Instr.{Instr, expr_bytes}
use Rattle.wasm_encoder_base.specs.Lists.{Listed}
use Rattle.wasm_encoder_base.specs.Types.{IsValType}
use Rattle.wasm_encoder_code.specs.Laws.{IsExpression}
use Rattle.wasm_encoder_items.specs.EntityTypes.{TableType, GlobalType}
use Rattle.wasm_encoder_items.specs.Segments.{ended, WithoutInit, WithInit, table_item, global_item}
use Rattle.wasm_encoder_sections.specs.Writes.{Writes}
use Rattle.wasm_layout.specs.IsModule.{IsTableType, IsTable, IsGlobal}
use Rattle.wasm_layout.proofs.Spelled.{in_bytes}
use Rattle.wast_section_items.specs.Appends.{Appends}
use Rattle.wast_section_items.specs.Fits.{ExprFits, TableFits, GlobalFits}
use Rattle.wast_section_items.proofs.Appending.{appends_one}

-- a table without an expression
pub adds_table : (t u : TableType) (before after : Listed) (r : Result (Unit {0}) EncodeError) → t ≡ u → IsTableType u
    → Writes (table_item ended (WithoutInit t)) (Unit {0}) before after r → Appends (table_item expr_bytes) TableFits IsTable (WithoutInit u ∷ []) before after r
adds_table t u before after r e type w =
    appends_one (table_item expr_bytes) TableFits IsTable (WithoutInit u) _ _ before after r (ap (λ v. table_item ended (WithoutInit v)) e) (λ h. tt) (λ h. tt) type w

module _ (is : List Instr) (fit : ExprFits is) (expression : IsExpression is) (bytes : List ℕ) (made : bytes ≡ in_bytes is) (before after : Listed) (r : Result (Unit {0}) EncodeError) where
  pub adds_table_with_init : (t u : TableType) → t ≡ u → IsTableType u → Writes (table_item ended (WithInit t bytes)) (Unit {0}) before after r
      → Appends (table_item expr_bytes) TableFits IsTable (WithInit u is ∷ []) before after r
  adds_table_with_init t u e type w =
      let spelled : table_item ended (WithInit t bytes) ≡ table_item expr_bytes (WithInit u is) = λ i. table_item ended (WithInit (e i) (made i)) in
      appends_one (table_item expr_bytes) TableFits IsTable (WithInit u is) _ _ before after r spelled (λ h. fit) (λ h. tt) (type, expression) w

  pub adds_global : (t u : GlobalType) → t ≡ u → IsValType u.val_type → Writes (global_item ended (record { type = t; init = bytes })) (Unit {0}) before after r
      → Appends (global_item expr_bytes) GlobalFits IsGlobal (record { type = u; init = is } ∷ []) before after r
  adds_global t u e type w =
      let spelled : global_item ended (record { type = t; init = bytes }) ≡ global_item expr_bytes (record { type = u; init = is }) = λ i. global_item ended (record { type = e i; init = made i }) in
      appends_one (global_item expr_bytes) GlobalFits IsGlobal (record { type = u; init = is }) _ _ before after r spelled (λ h. fit) (λ h. tt) (record { type = type; init = expression }) w
