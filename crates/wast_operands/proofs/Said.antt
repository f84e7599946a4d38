-- What words that begin so say.
use Rattle.std.proofs.Common.{◌≡◌, ℕ, List, [], ◌∷◌, Option, Some, None, refl, sym, ◌∙◌, ap}
use Rattle.wast_vector_operands.specs.Tokens.{SignificantToken, Word}
use Rattle.wast_vector_operands.specs.Spelling.{◌>>=◌, after}
use Rattle.wast_vector_operands.specs.Grammar.{begun, seen, Reader}

chain : {A B : Type 0} (f : List ℕ → Option A) (g : A → Option B) (o : Option (List ℕ)) → (o >>= λ w. f w >>= g) ≡ ((o >>= f) >>= g)
chain f g None = refl
chain f g (Some w) = refl

abbrev before : {T X : Type 0} → List T → Option X → Option (X × List T)
before ts o = o >>= λ x. Some (x, ts)

-- what a word says, without its place
abbrev pub says : {N P A : Type 0} → List ℕ → (List ℕ → Option A) → Reader N P A
says {N} {P} q f = (seen (λ x. x.0) (begun {N = N} {P = P} q f)).reads

abbrev with_place : {P A : Type 0} → P → Option A → Option (A × P)
with_place p o = o >>= λ a. Some (a, p)

abbrev pub without_place : {P T A : Type 0} → Option ((A × P) × List T) → Option (A × List T)
without_place o = o >>= λ z. Some (z.0.0, z.1)

abbrev said : {P T A : Type 0} → P → List T → Option A → Option (A × List T)
said p ts o = without_place (before ts (with_place p o))

alone : {P T A : Type 0} (p : P) (ts : List T) (o : Option A) → said p ts o ≡ before ts o
alone p ts None = refl
alone p ts (Some a) = refl

module _ {N P A B : Type 0} (q : List ℕ) (f : List ℕ → Option A) (g : A → Option B) where
  then_so : (ts : List (SignificantToken N P)) (o : Option A) → before ts (o >>= g) ≡ (before ts o >>= λ x. before x.1 (g x.0))
  then_so ts None = refl
  then_so ts (Some a) = refl

  -- what is said further of what a word says
  further : (ts : List (SignificantToken N P)) → says {N = N} {P = P} q (λ w. f w >>= g) ts ≡ (says q f ts >>= λ x. before x.1 (g x.0))
  further [] = refl
  further (Word w p ∷ ts) =
      alone p ts (after q w >>= λ v. f v >>= g)
      ∙ ap (before ts) (chain f g (after q w))
      ∙ then_so ts (after q w >>= f)
      ∙ ap (λ o. o >>= λ x. before x.1 (g x.0)) (sym (alone p ts (after q w >>= f)))
  further (_ ∷ ts) = refl

  pub told : (ts rest : List (SignificantToken N P)) (a : A) (b : B) → says q f ts ≡ Some (a, rest) → g a ≡ Some b → says q (λ w. f w >>= g) ts ≡ Some (b, rest)
  told ts rest a b h k = further ts ∙ ap (λ o. o >>= λ x. before x.1 (g x.0)) h ∙ ap (before rest) k

  pub untold : (ts rest : List (SignificantToken N P)) (a : A) → says q f ts ≡ Some (a, rest) → g a ≡ None → says q (λ w. f w >>= g) ts ≡ None
  untold ts rest a h k = further ts ∙ ap (λ o. o >>= λ x. before x.1 (g x.0)) h ∙ ap (before rest) k

  pub unread : (ts : List (SignificantToken N P)) → says q f ts ≡ None → says q (λ w. f w >>= g) ts ≡ None
  unread ts h = further ts ∙ ap (λ o. o >>= λ x. before x.1 (g x.0)) h
