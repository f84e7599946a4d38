-- The spelling is the one shortest code that decodes to the number.
-- Both signs at once: `flip` and `limit` are those of `leb`.
use Rattle.std.proofs.Common.{ℕ, zero, suc, ◌≡◌, ◌+◌, ◌-◌, ◌*◌, ◌/◌, ◌%◌, ◌<◌, ◌≤◌, ◌⊎◌, Bool, true, false, List, [], ◌∷◌, length, refl, sym, ap, ◌∙◌, subst, inl, inr, ⊎_elim, arith, ℤ, pos, negsuc}
use Rattle.std.specs.Prelude.{◌+ℤ◌, ◌-ℤ◌, ◌*ℤ◌}
use Rattle.std.proofs.lemmas.Bool.{cases_lt, lt-ltb, le-ltb}
use Rattle.std.proofs.lemmas.Int.{ints}
use Rattle.wasm_encoder_bytes.specs.Leb.{seven, leb, uleb, sleb}
use Rattle.wasm_encoder_bytes.specs.Decodes.{IsCode, unsigned_of, signed_of, IsShortest}
use Rattle.wasm_encoder_bytes.specs.SpellingLaws.{ShortestUnsigned, ShortestSigned}
use Rattle.wasm_encoder_bytes.proofs.LebSteps.{seven-below, seven-twice, leb-last, leb-more}

-- a code whose last byte stands for less than the limit
EndsBelow : Bool → ℕ → List ℕ → Type 0
EndsBelow flip limit [] = ⊥
EndsBelow flip limit (b ∷ []) = (b < 128) × (seven flip b < limit)
EndsBelow flip limit (b ∷ c ∷ bytes) = (128 ≤ b) × (b < 256) × EndsBelow flip limit (c ∷ bytes)

-- the number below the sign that a code stands for
size_of : Bool → List ℕ → ℕ
size_of flip [] = 0
size_of flip (b ∷ []) = seven flip b
size_of flip (b ∷ c ∷ bytes) = seven flip (b - 128) + 128 * size_of flip (c ∷ bytes)

ends-cons : (flip : Bool) (limit b : ℕ) (bytes : List ℕ) → 128 ≤ b → b < 256 → EndsBelow flip limit bytes → EndsBelow flip limit (b ∷ bytes)
unfolding EndsBelow
ends-cons flip limit b [] p q e = absurd e
ends-cons flip limit b (c ∷ bytes) p q e = (p, q, e)

size-cons : (flip : Bool) (limit b : ℕ) (bytes : List ℕ) → EndsBelow flip limit bytes → size_of flip (b ∷ bytes) ≡ seven flip (b - 128) + 128 * size_of flip bytes
unfolding EndsBelow size_of
size-cons flip limit b [] e = absurd e
size-cons flip limit b (c ∷ bytes) e = refl

-- the spelling is such a code, and stands for the number
spelled : (k : ℕ) (flip : Bool) (limit n : ℕ) → 0 < limit → limit ≤ 128 → n < k → EndsBelow flip limit (leb flip limit n) × (size_of flip (leb flip limit n) ≡ n)
unfolding EndsBelow size_of
spelled zero flip limit n p q h = absurd (omega arith)
spelled (suc k) flip limit n p q h =
    ⊎_elim
    (λ x. (let t = seven-twice flip n (omega arith) in subst (λ v. EndsBelow flip limit v × (size_of flip v ≡ n)) (sym (leb-last flip limit n x)) ((seven-below flip n (omega arith), omega (arith, t)), t)))
    (λ x. (let r = spelled k flip limit (n / 128) p q (omega arith) in
    let b : ℕ = 128 + seven flip (n % 128) in
    let low = seven-below flip (n % 128) (omega arith) in
    let t = seven-twice flip (n % 128) (omega arith) in
    let s : b - 128 ≡ seven flip (n % 128) = omega arith in
    subst (λ v. EndsBelow flip limit v × (size_of flip v ≡ n)) (sym (leb-more flip limit n p x)) (
      ends-cons flip limit b (leb flip limit (n / 128)) (omega arith) (omega arith) r.0,
      size-cons flip limit b (leb flip limit (n / 128)) r.0 ∙ (let u : seven flip (b - 128) ≡ n % 128 = ap (seven flip) s ∙ t in omega (arith, u, r.1)),
    )))
    (cases_lt n limit)

last-length : (flip : Bool) (limit n : ℕ) → n < limit → length (leb flip limit n) ≡ 1
last-length flip limit n h = ap length (leb-last flip limit n h)

-- what the number of a code with a byte before it is made of
taken_apart : (flip : Bool) (b m : ℕ) → 128 ≤ b → b < 256 → ((seven flip (b - 128) + 128 * m) / 128 ≡ m) × (128 + seven flip ((seven flip (b - 128) + 128 * m) % 128) ≡ b)
taken_apart false b m p q = (omega arith, omega arith)
taken_apart true b m p q = (omega arith, omega arith)

-- no such code is shorter than the spelling of its number
shorter : (flip : Bool) (limit : ℕ) (bytes : List ℕ) → 0 < limit → limit ≤ 128 → EndsBelow flip limit bytes → length (leb flip limit (size_of flip bytes)) ≤ length bytes
unfolding EndsBelow size_of
shorter flip limit [] p q e = absurd e
shorter flip limit (b ∷ []) p q e = let l = last-length flip limit (seven flip b) e.1 in omega (arith, l)
shorter flip limit (b ∷ c ∷ bytes) p q e =
    let m : ℕ = size_of flip (c ∷ bytes) in
    let n : ℕ = seven flip (b - 128) + 128 * m in
    let r : length (leb flip limit m) ≤ length (c ∷ bytes) = shorter flip limit (c ∷ bytes) p q e.2 in
    let t = taken_apart flip b m e.0 e.1 in
    ⊎_elim
    (λ x. omega (arith, last-length flip limit n x))
    (λ x. omega (arith, ap length (leb-more flip limit n p x ∙ ap (λ v. (128 + seven flip (n % 128)) ∷ leb flip limit v) t.0), r))
    (cases_lt n limit)

-- and one that is no longer is the spelling
as_short : (flip : Bool) (limit : ℕ) (bytes : List ℕ) → 0 < limit → limit ≤ 128 → EndsBelow flip limit bytes → length bytes ≤ length (leb flip limit (size_of flip bytes)) → bytes ≡ leb flip limit (size_of flip bytes)
unfolding EndsBelow size_of
as_short flip limit [] p q e l = absurd e
as_short flip limit (b ∷ []) p q e l = sym (leb-last flip limit (seven flip b) e.1 ∙ ap (λ v. v ∷ []) (seven-twice flip b e.0))
as_short flip limit (b ∷ c ∷ bytes) p q e l =
    let m : ℕ = size_of flip (c ∷ bytes) in
    let n : ℕ = seven flip (b - 128) + 128 * m in
    let t = taken_apart flip b m e.0 e.1 in
    ⊎_elim
    (λ x. absurd (omega (arith, last-length flip limit n x, l)))
    (λ x. (
    let u : leb flip limit n ≡ b ∷ leb flip limit m = leb-more flip limit n p x ∙ ap (λ v. v ∷ leb flip limit (n / 128)) t.1 ∙ ap (λ v. b ∷ leb flip limit v) t.0 in
    let r : c ∷ bytes ≡ leb flip limit m = as_short flip limit (c ∷ bytes) p q e.2 (omega (arith, ap length u, l)) in
    ap (λ v. b ∷ v) r ∙ sym u))
    (cases_lt n limit)

-- unsigned
code-ends : (bytes : List ℕ) → IsCode bytes → EndsBelow false 128 bytes
unfolding EndsBelow
code-ends [] c = absurd c
code-ends (b ∷ []) c = (c, c)
code-ends (b ∷ d ∷ bytes) c = (c.0, c.1, code-ends (d ∷ bytes) c.2)

ends-code : (flip : Bool) (limit : ℕ) (bytes : List ℕ) → EndsBelow flip limit bytes → IsCode bytes
unfolding EndsBelow
ends-code flip limit [] e = absurd e
ends-code flip limit (b ∷ []) e = e.0
ends-code flip limit (b ∷ c ∷ bytes) e = (e.0, e.1, ends-code flip limit (c ∷ bytes) e.2)

unsigned-size : (bytes : List ℕ) → unsigned_of bytes ≡ size_of false bytes
unfolding size_of
unsigned-size [] = refl
unsigned-size (b ∷ []) = refl
unsigned-size (b ∷ c ∷ bytes) = ap (λ m. (b - 128) + 128 * m) (unsigned-size (c ∷ bytes))

uleb-is : (n : ℕ) → IsShortest unsigned_of n (uleb n)
unfolding uleb
uleb-is n = let s = spelled (suc n) false 128 n (omega arith) (omega arith) (omega arith) in record {
  code = ends-code false 128 (leb false 128 n) s.0;
  decodes = unsigned-size (leb false 128 n) ∙ s.1;
  shortest = λ others c e. subst (λ m. length (leb false 128 m) ≤ length others) (sym (unsigned-size others) ∙ e) (shorter false 128 others (omega arith) (omega arith) (code-ends others c));
}

uleb-only : (n : ℕ) (bytes : List ℕ) → IsShortest unsigned_of n bytes → bytes ≡ uleb n
unfolding uleb
uleb-only n bytes s =
    let l : length bytes ≤ length (leb false 128 n) = s.shortest (leb false 128 n) (uleb-is n).code (uleb-is n).decodes in
    let e : size_of false bytes ≡ n = sym (unsigned-size bytes) ∙ s.decodes in
    as_short false 128 bytes (omega arith) (omega arith) (code-ends bytes s.code) (subst (λ m. length bytes ≤ length (leb false 128 m)) (sym e) l) ∙ ap (leb false 128) e

pub shortest-unsigned : ShortestUnsigned
shortest-unsigned = record { shortest = uleb-is; only = uleb-only }

-- signed
with_sign : Bool → ℕ → ℤ
with_sign false n = pos n
with_sign true n = negsuc n

signed-pos : (b n : ℕ) → pos (b - 128) +ℤ (pos 128 *ℤ pos n) ≡ pos ((b - 128) + 128 * n)
signed-pos b n = omega (arith, ints)

signed-neg : (b n : ℕ) → 128 ≤ b → b < 256 → pos (b - 128) +ℤ (pos 128 *ℤ negsuc n) ≡ negsuc ((127 - (b - 128)) + 128 * n)
signed-neg b n p q = omega (arith, ints)

signed-last : (b : ℕ) → 64 ≤ b → b < 128 → pos b -ℤ pos 128 ≡ negsuc (127 - b)
signed-last b p q = omega (arith, ints)

signed-size : (flip : Bool) (bytes : List ℕ) → EndsBelow flip 64 bytes → signed_of bytes ≡ with_sign flip (size_of flip bytes)
unfolding EndsBelow size_of with_sign
signed-size flip [] e = absurd e
signed-size false (b ∷ []) e = let t = lt-ltb b 64 e.1 in rw t refl
signed-size true (b ∷ []) e = let t = le-ltb b 64 (omega (arith, e.0, e.1)) in rw t (signed-last b (omega (arith, e.0, e.1)) e.0)
signed-size false (b ∷ c ∷ bytes) e = ap (λ z. pos (b - 128) +ℤ (pos 128 *ℤ z)) (signed-size false (c ∷ bytes) e.2) ∙ signed-pos b (size_of false (c ∷ bytes))
signed-size true (b ∷ c ∷ bytes) e = ap (λ z. pos (b - 128) +ℤ (pos 128 *ℤ z)) (signed-size true (c ∷ bytes) e.2) ∙ signed-neg b (size_of true (c ∷ bytes)) e.0 e.1

sign_of : (bytes : List ℕ) → IsCode bytes → EndsBelow false 64 bytes ⊎ EndsBelow true 64 bytes
unfolding EndsBelow
sign_of [] c = absurd c
sign_of (b ∷ []) c = ⊎_elim (λ x. inl (c, x)) (λ x. inr (c, omega arith)) (cases_lt b 64)
sign_of (b ∷ d ∷ bytes) c = ⊎_elim (λ r. inl (c.0, c.1, r)) (λ r. inr (c.0, c.1, r)) (sign_of (d ∷ bytes) c.2)

-- a code of a number with this sign
record Reads (flip : Bool) (n : ℕ) (bytes : List ℕ) : Type 0 where
  ends : EndsBelow flip 64 bytes
  size : size_of flip bytes ≡ n

signs_differ : {Z : Type 0} (m n : ℕ) → pos m ≡ negsuc n → Z
signs_differ m n e = absurd cc

pos_of : (m n : ℕ) → pos m ≡ pos n → m ≡ n
pos_of m n e = cc

negsuc_of : (m n : ℕ) → negsuc m ≡ negsuc n → m ≡ n
negsuc_of m n e = cc

reads_of : (flip : Bool) (n : ℕ) (bytes : List ℕ) → IsCode bytes → signed_of bytes ≡ with_sign flip n → Reads flip n bytes
unfolding with_sign
reads_of false n bytes c e = ⊎_elim
    (λ x. record { ends = x; size = pos_of _ _ (sym (signed-size false bytes x) ∙ e) })
    (λ x. signs_differ _ _ (sym e ∙ signed-size true bytes x))
    (sign_of bytes c)
reads_of true n bytes c e = ⊎_elim
    (λ x. signs_differ _ _ (sym (signed-size false bytes x) ∙ e))
    (λ x. record { ends = x; size = negsuc_of _ _ (sym (signed-size true bytes x) ∙ e) })
    (sign_of bytes c)

leb-is : (flip : Bool) (n : ℕ) → IsShortest signed_of (with_sign flip n) (leb flip 64 n)
leb-is flip n = let s = spelled (suc n) flip 64 n (omega arith) (omega arith) (omega arith) in record {
  code = ends-code flip 64 (leb flip 64 n) s.0;
  decodes = signed-size flip (leb flip 64 n) s.0 ∙ ap (with_sign flip) s.1;
  shortest = λ others c e. (let r = reads_of flip n others c e in subst (λ m. length (leb flip 64 m) ≤ length others) r.size (shorter flip 64 others (omega arith) (omega arith) r.ends));
}

leb-only : (flip : Bool) (n : ℕ) (bytes : List ℕ) → IsShortest signed_of (with_sign flip n) bytes → bytes ≡ leb flip 64 n
leb-only flip n bytes s =
    let i = leb-is flip n in
    let l : length bytes ≤ length (leb flip 64 n) = s.shortest (leb flip 64 n) i.code i.decodes in
    let r = reads_of flip n bytes s.code s.decodes in
    as_short flip 64 bytes (omega arith) (omega arith) r.ends (subst (λ m. length bytes ≤ length (leb flip 64 m)) (sym r.size) l) ∙ ap (leb flip 64) r.size

sleb-is : (z : ℤ) → IsShortest signed_of z (sleb z)
unfolding sleb with_sign
sleb-is (pos n) = leb-is false n
sleb-is (negsuc n) = leb-is true n

sleb-only : (z : ℤ) (bytes : List ℕ) → IsShortest signed_of z bytes → bytes ≡ sleb z
unfolding sleb with_sign
sleb-only (pos n) bytes s = leb-only false n bytes s
sleb-only (negsuc n) bytes s = leb-only true n bytes s

pub shortest-signed : ShortestSigned
shortest-signed = record { shortest = sleb-is; only = sleb-only }
