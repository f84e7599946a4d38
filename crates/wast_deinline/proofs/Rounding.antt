-- Divisions that are rounded up.
use Rattle.std.proofs.Common.{◌≡◌, ℕ, zero, suc, ◌+◌, ◌-◌, ◌*◌, ◌/◌, ◌%◌, ◌^◌, ◌<◌, ◌≤◌, sym, ◌∙◌, ap, arith}
use Rattle.std.specs.Prelude.{min}
use Rattle.std.specs.Int.{div_ceil}
use Rattle.std.proofs.lemmas.Nat.{div-mul-add, div-add-mod', mod_below, one_shl, pow_pos}
use Rattle.std.proofs.Math.Nat.{pow-le-pow_right}

rounded : (q y r : ℕ) → r < y → (q * y + r + y - 1) / y ≡ q + min 1 r
rounded q y zero h =
    let e : q * y + zero + y - 1 ≡ q * y + (y - 1) = omega arith in
    let small : y - 1 < y = omega arith in
    let none : q ≡ q + min 1 0 = omega arith in
    ap (λ n. n / y) e ∙ div-mul-add q y (y - 1) small ∙ none
rounded q y (suc r) h =
    let e : q * y + suc r + y - 1 ≡ (q + 1) * y + r = omega arith in
    let small : r < y = omega arith in
    let one : q + 1 ≡ q + min 1 (suc r) = omega arith in
    ap (λ n. n / y) e ∙ div-mul-add (q + 1) y r small ∙ one

pub rounded_up : (len size : ℕ) → 0 < size → div_ceil len size ≡ (len + size - 1) / size
rounded_up len size h =
    sym (rounded (len / size) size (len % size) (mod_below len size h))
    ∙ ap (λ n. (n + size - 1) / size) (div-add-mod' len size)

-- where a page has 2 to this power of bytes, and where that is past all numbers of bytes
pub some_page : (len log2 k size result : ℕ) → log2 ≡ k → log2 < 64 → size ≡ (1 * 2 ^ log2) % 2 ^ 64 → result ≡ div_ceil len size → result ≡ (len + 2 ^ k - 1) / 2 ^ k
some_page len log2 k size result same small is found =
    found ∙ ap (div_ceil len) (is ∙ one_shl log2 64 small) ∙ rounded_up len (2 ^ log2) (pow_pos log2)
    ∙ ap (λ n. (len + 2 ^ n - 1) / 2 ^ n) same

one_holds : (len size : ℕ) → len < size → min len 1 ≡ (len + size - 1) / size
one_holds len size h =
    let e : 0 * size + len + size - 1 ≡ len + size - 1 = omega arith in
    let n : min len 1 ≡ 0 + min 1 len = omega arith in
    n ∙ sym (rounded 0 size len h) ∙ ap (λ n. n / size) e

pub large_page : (len log2 k result : ℕ) → log2 ≡ k → (log2 < 64 → ⊥) → len < 2 ^ 64 → result ≡ min len 1 → result ≡ (len + 2 ^ k - 1) / 2 ^ k
large_page len log2 k result same large fits found =
    let l : 64 ≤ log2 = omega (arith, large) in
    let p : 2 ^ 64 ≤ 2 ^ log2 = pow-le-pow_right {n = 2} (omega arith) l in
    found ∙ one_holds len (2 ^ log2) (omega arith) ∙ ap (λ n. (len + 2 ^ n - 1) / 2 ^ n) same
