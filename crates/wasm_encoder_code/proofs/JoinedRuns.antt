-- Joining locals, and having them back from their runs.
use Rattle.std.proofs.Common.{ℕ, zero, suc, ◌≡◌, ◌+◌, ◌<◌, Bool, true, false, List, [], ◌∷◌, ◌++◌, refl, sym, ap, ◌∙◌, subst, add-one, ⊎_elim, arith}
use Rattle.std.proofs.lemmas.Bool.{cases_Bool}
use Rattle.wasm_encoder_base.specs.Types.{ValType}
use Rattle.wasm_encoder_code.specs.Body.{Run, AreRuns, BeginsOther, repeated, apart, joins, joined, same_type}
use Rattle.wasm_encoder_code.specs.Laws.{LocalsJoined, RunsJoined}
use Rattle.wasm_encoder_code.proofs.Runs.{type_one, type_self, joins_same, joins_other}

joins-by : (b : Bool) (t : ValType) (r : Run) (rs : List Run) → same_type t r.val_type ≡ b → apart (elim b as (λ _. List Run) [ true ↦ record { count = r.count + 1; val_type = r.val_type } ∷ rs | false ↦ record { count = 1; val_type = t } ∷ r ∷ rs ]) ≡ t ∷ apart (r ∷ rs)
joins-by true t r rs e = ap (λ n. repeated n r.val_type ++ apart rs) (add-one r.count) ∙ ap (λ v. v ∷ (repeated r.count r.val_type ++ apart rs)) (sym (type_one t r.val_type e))
joins-by false t r rs e = refl

joins-apart : (t : ValType) (rs : List Run) → apart (joins t rs) ≡ t ∷ apart rs
joins-apart t [] = refl
joins-apart t (r ∷ rs) = joins-by (same_type t r.val_type) t r rs refl

pub joined-apart : (ts : List ValType) → apart (joined ts) ≡ ts
joined-apart [] = refl
joined-apart (t ∷ ts) = joins-apart t (joined ts) ∙ ap (λ v. t ∷ v) (joined-apart ts)

no_type : (t u : ValType) → same_type t u ≡ false → t ≡ u → ⊥
no_type t u e p = let s : same_type t u ≡ true = ap (λ v. same_type t v) (sym p) ∙ type_self t in cc

other_type : (t u : ValType) → (t ≡ u → ⊥) → same_type t u ≡ false
other_type t u n = ⊎_elim (λ e. absurd (n (type_one t u e))) (λ e. e) (cases_Bool (same_type t u))

-- a local before runs leaves them runs
joins-runs : (t : ValType) (rs : List Run) → AreRuns rs → AreRuns (joins t rs)
joins-runs t [] h = ((let n : 0 < 1 = omega arith in n), tt, tt)
joins-runs t (r ∷ rs) h =
    ⊎_elim
    (λ e. subst AreRuns (sym (joins_same t r.val_type r.count rs e)) ((let n : 0 < r.count + 1 = omega arith in n), h.1, h.2))
    (λ e. subst AreRuns (sym (joins_other t r.val_type r.count rs e)) ((let n : 0 < 1 = omega arith in n), no_type t r.val_type e, h))
    (cases_Bool (same_type t r.val_type))

joined-runs : (ts : List ValType) → AreRuns (joined ts)
joined-runs [] = tt
joined-runs (t ∷ ts) = joins-runs t (joined ts) (joined-runs ts)

pub locals_joined : LocalsJoined
locals_joined ts = record { runs = joined-runs ts; locals = joined-apart ts }

abbrev run : ℕ → ValType → Run
run n t = record { count = n; val_type = t }

-- one local, and then more of its type, before runs that begin with another
joins-first : (t : ValType) (rs : List Run) → BeginsOther t rs → joins t rs ≡ run 1 t ∷ rs
joins-first t [] h = refl
joins-first t (r ∷ rs) h = joins_other t r.val_type r.count rs (other_type t r.val_type h)

joined-repeated : (n : ℕ) (t : ValType) (ts : List ValType) (rs : List Run) → joined ts ≡ rs → BeginsOther t rs → joined (repeated (suc n) t ++ ts) ≡ run (suc n) t ∷ rs
joined-repeated zero t ts rs e h = ap (joins t) e ∙ joins-first t rs h
joined-repeated (suc n) t ts rs e h =
    ap (joins t) (joined-repeated n t ts rs e h)
    ∙ joins_same t t (suc n) rs (type_self t)
    ∙ ap (λ k. run k t ∷ rs) (let k : suc n + 1 ≡ suc (suc n) = omega arith in k)

joined-run : (n : ℕ) (t : ValType) (ts : List ValType) (rs : List Run) → 0 < n → joined ts ≡ rs → BeginsOther t rs → joined (repeated n t ++ ts) ≡ run n t ∷ rs
joined-run zero t ts rs p e h = absurd (omega arith)
joined-run (suc n) t ts rs p e h = joined-repeated n t ts rs e h

pub runs_joined : RunsJoined
runs_joined [] h = refl
runs_joined (r ∷ rs) h = joined-run r.count r.val_type (apart rs) rs h.0 (runs_joined rs h.2) h.1
