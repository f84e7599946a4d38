-- How many bytes lists take at the least: where the whole has less than 2^32, each count and length in it is less.
use Rattle.std.proofs.Common.{ℕ, ◌≡◌, ◌+◌, ◌<◌, ◌≤◌, List, [], ◌∷◌, ◌++◌, length, ap, ◌∙◌, arith, ⊎_elim, flat_map, length-append}
use Rattle.std.specs.Prelude.{All}
use Rattle.std.proofs.lemmas.Bool.{cases_lt}
use Rattle.std.proofs.lemmas.List.Concat.{flat_map-append}
use Rattle.std.proofs.lemmas.List.Elements.{All-nil, All-cons}
use Rattle.wasm_encoder_base.specs.Bytes.{counted, sized}
use Rattle.wasm_encoder_base.specs.Leb.{uleb}
use Rattle.wasm_encoder_bytes.proofs.LebSteps.{length-uleb-last, length-uleb-more}
use Rattle.wasm_encoder_custom.specs.Producers.{Producer, producer_bytes}

pub uleb_some : (n : ℕ) → 1 ≤ length (uleb n)
uleb_some n = ⊎_elim (λ h. omega (arith, length-uleb-last n h)) (λ h. omega (arith, length-uleb-more n h)) (cases_lt n 128)

pub sized_size : (bytes : List ℕ) → length bytes + 1 ≤ length (sized bytes)
sized_size bytes = omega (arith, uleb_some (length bytes), length-append (uleb (length bytes)) bytes)

pub producer_size : (p : Producer) → length p.name + length p.version + 1 ≤ length (producer_bytes p)
producer_size p = omega (arith, sized_size p.name, sized_size p.version, length-append (sized p.name) (sized p.version))

module _ {A : Type 0} (f : A → List ℕ) where
  pub cons_size : (x : A) (xs : List A) → length (flat_map f (x ∷ xs)) ≡ length (f x) + length (flat_map f xs)
  cons_size x xs = length-append (f x) (flat_map f xs)

  pub append_size : (xs ys : List A) → length (flat_map f (xs ++ ys)) ≡ length (flat_map f xs) + length (flat_map f ys)
  append_size xs ys = ap length (flat_map-append f xs ys) ∙ length-append (flat_map f xs) (flat_map f ys)

  -- as many bytes as items at the least, where each has one
  pub count_size : ((x : A) → 1 ≤ length (f x)) → (xs : List A) → length xs ≤ length (flat_map f xs)
  count_size one [] = omega arith
  count_size one (x ∷ xs) = omega (arith, one x, count_size one xs, cons_size x xs)

  -- each item has fewer bytes than all
  pub each_size : (n : ℕ) (xs : List A) → length (flat_map f xs) < n → All (λ x. length (f x) < n) xs
  each_size n [] h = All-nil (λ x. length (f x) < n)
  each_size n (x ∷ xs) h =
      let e = cons_size x xs in
      let front : length (f x) < n = omega arith in
      let rest : length (flat_map f xs) < n = omega arith in
      All-cons (λ x. length (f x) < n) x xs front (each_size n xs rest)

  pub counted_size : (xs : List A) → length (flat_map f xs) < length (counted f xs)
  counted_size xs = omega (arith, uleb_some (length xs), length-append (uleb (length xs)) (flat_map f xs))
