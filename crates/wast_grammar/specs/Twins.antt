-- Which two token lists spell the same value and differ in marked parts alone (`part`): a relation for each way to make a
-- production, as `Spelling` has it. The folded and the flat form of a body are such parts (WebAssembly 3.0, 6.5).
use Rattle.std.specs.Prelude.{◌≡◌, ◌⊎◌, ℕ, Bool, true, List, [], ◌∷◌, ◌++◌, length, Option, Some, None}
use Rattle.wast_grammar.specs.Tokens.{SignificantToken, Open, Close}
use Rattle.wast_grammar.specs.Spelling.{Spells}

-- the first tokens spell the value, and so do the second
abbrev pub Pairs : Type 0 → Type 0 → Type 0 → Type 1
Pairs N P A = A → List (SignificantToken N P) → List (SignificantToken N P) → Type 0

module _ {N P : Type 0} where
  -- a marked part: both spell the value
  abbrev pub part : {A : Type 0} → Spells N P A → Pairs N P A
  part s a ts us = s a ts × s a us

  abbrev pub token : {A : Type 0} → (SignificantToken N P → Option A) → Pairs N P A
  token f a ts us = (t : SignificantToken N P) × (ts ≡ t ∷ []) × (f t ≡ Some a) × (us ≡ t ∷ [])

  abbrev pub nothing : Pairs N P (Unit {0})
  nothing a ts us = (ts ≡ []) × (us ≡ [])

  abbrev pub next : {A B : Type 0} → Pairs N P A → (A → Pairs N P B) → Pairs N P (A × B)
  next s r p ts us = (a b c d : List (SignificantToken N P)) × (ts ≡ a ++ b) × (us ≡ c ++ d) × s p.0 a c × r p.0 p.1 b d

  abbrev pub seen : {A B : Type 0} → (A → B) → Pairs N P A → Pairs N P B
  seen {A} f s b ts us = (a : A) × (f a ≡ b) × s a ts us

  abbrev pub only : {A : Type 0} → (A → Bool) → Pairs N P A → Pairs N P A
  only p s a ts us = (p a ≡ true) × s a ts us

  abbrev pub maybe : {A : Type 0} → Pairs N P A → Pairs N P (Option A)
  maybe s None ts us = (ts ≡ []) × (us ≡ [])
  maybe s (Some a) ts us = s a ts us

  abbrev pub many : {A : Type 0} → Pairs N P A → Pairs N P (List A)
  many s [] ts us = (ts ≡ []) × (us ≡ [])
  many s (x ∷ more) ts us = (a b c d : List (SignificantToken N P)) × (ts ≡ a ++ b) × (us ≡ c ++ d) × s x a c × many s more b d

  abbrev pub times : {A : Type 0} → ℕ → Pairs N P A → Pairs N P (List A)
  times n s xs ts us = (length xs ≡ n) × many s xs ts us

  abbrev pub either : {A : Type 0} → Pairs N P A → Pairs N P A → Pairs N P A
  either s r a ts us = s a ts us ⊎ r a ts us

  abbrev pub paren : {A : Type 0} → Pairs N P A → Pairs N P A
  paren s a ts us =
      (vs ws : List (SignificantToken N P)) × (p q : P) × (ts ≡ Open p ∷ vs ++ Close q ∷ []) × (us ≡ Open p ∷ ws ++ Close q ∷ []) × s a vs ws

  abbrev pub fenced : {A : Type 0} → Pairs N P A → Pairs N P (A × P)
  fenced s a ts us =
      (vs ws : List (SignificantToken N P)) × (p : P) × (ts ≡ Open p ∷ vs ++ Close a.1 ∷ []) × (us ≡ Open p ∷ ws ++ Close a.1 ∷ []) × s a.0 vs ws

  abbrev pub some_deep : {A : Type 0} → (ℕ → Pairs N P A) → Pairs N P A
  some_deep s a ts us = (n : ℕ) × s n a ts us
