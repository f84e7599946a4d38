-- Equal binaries mean equal modules, and conversely.
use Rattle.std.proofs.Common.{ℕ, ◌≡◌, List, sym, subst, ◌∙◌}
use Rattle.wasm_layout.specs.AbstractModule.{AbstractModule}
use Rattle.wasm_layout.specs.Lays.{Lays, Reads}
use Rattle.wasm_layout.proofs.Readings.{one_reading}
use Rattle.wast_meant.specs.Means.{Worth, Stands, Pieces, SpellsPieces}
use Rattle.wast_meant.specs.Plain.{IsPlainContent}
use Rattle.wat_verdict.specs.Spells.{Spells}
use Rattle.wat_verdict.specs.Verdict.{Accepts, IsBinary, IsPlainText}
use Rattle.wat_verdict.specs.Laws.{EqualBinaries}
use Rattle.wat_verdict.proofs.Verdict.{one_meaning}

-- a plain text spells no pieces
no_pieces : {Z : Type 0} (text bytes : List ℕ) → IsPlainText text → SpellsPieces Spells text bytes → Z
no_pieces text bytes plain s = absurd (subst IsPlainContent s.are_content (plain s.tree s.spelled))

-- so its binary is that of a module, which is read from it
record IsRead (text binary : List ℕ) : Type 0 where
  meant : AbstractModule (List ℕ)
  accepts : Accepts text (Stands meant)
  lays : Lays binary meant
  reads : Reads binary meant

is_read : (text binary : List ℕ) → IsPlainText text → (w : Worth) → Accepts text w → IsBinary text w binary → IsRead text binary
is_read text binary plain (Stands m) a b = record { meant = m; accepts = a; lays = b.0; reads = b.1 plain }
is_read text binary plain (Pieces bytes) a b = no_pieces text bytes plain a.worth

module _ (text other binary another : List ℕ) (x : IsRead text binary) (y : IsRead other another) where
  same_module : binary ≡ another → (m : AbstractModule (List ℕ)) × Accepts text (Stands m) × Accepts other (Stands m)
  same_module e =
      let same = one_reading binary x.meant y.meant x.reads (subst (λ b. Reads b y.meant) (sym e) y.reads) in
      (x.meant, x.accepts, subst (λ m. Accepts other (Stands m)) (sym same) y.accepts)

  same_binary : (m : AbstractModule (List ℕ)) × Accepts text (Stands m) × Accepts other (Stands m) → binary ≡ another
  same_binary s =
      let first = one_meaning text x.meant s.0 x.accepts.worth s.1.worth in
      let second = one_meaning other y.meant s.0 y.accepts.worth s.2.worth in
      let here = subst (λ m. Lays binary m) first x.lays in
      let there = subst (λ m. Lays another m) second y.lays in
      here.bytes ∙ sym there.bytes

pub equal_binaries : EqualBinaries
equal_binaries text other binary another p q x y =
    let a = is_read text binary p x.0 x.1 x.2 in
    let b = is_read other another q y.0 y.1 y.2 in
    (same_module text other binary another a b, same_binary text other binary another a b)
