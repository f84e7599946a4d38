-- Tokens that are alike but for names and places. What is said of tokens over any type of names and any type of places can
-- tell them apart by the test of names alone that it is given: so tokens that are alike, with names and places that match,
-- have one answer (`proofs/Decide`).
use Rattle.std.specs.Prelude.{◌≡◌, ◌↔◌, ℕ, ◌<◌, Bool, List, [], ◌∷◌, Option, Some, None, option_map}
use Rattle.wast_grammar.specs.Tokens.{SignificantToken, Open, Close, Id, Word, Mark, Integer, Float, Text, Reserved, Broken}

-- with other names and places
abbrev pub move : {N M P Q : Type 0} → (N → M) → (P → Q) → SignificantToken N P → SignificantToken M Q
move f g (Open p) = Open (g p)
move f g (Close p) = Close (g p)
move f g (Id n p) = Id (option_map f n) (g p)
move f g (Word w p) = Word w (g p)
move f g (Mark w p) = Mark w (g p)
move f g (Integer n w p) = Integer n w (g p)
move f g (Float w p) = Float w (g p)
move f g (Text s p) = Text s (g p)
move f g (Reserved w p) = Reserved w (g p)
move f g Broken = Broken

-- a renaming keeps the test of names
abbrev pub Keeps : {N M : Type 0} → (N → N → Bool) → (M → M → Bool) → (N → M) → Type 0
Keeps {N} eq new f = (a b : N) → new (f a) (f b) ≡ eq a b

-- PAIRS
-- the first is equal to the first of others exactly where the second is to their second
abbrev pub Fits : {A B : Type 0} → A × B → List (A × B) → Type 0
Fits p [] = Unit {0}
Fits p (q ∷ qs) = ((p.0 ≡ q.0) ↔ (p.1 ≡ q.1)) × Fits p qs

-- two of the first are equal exactly where their second are
abbrev pub Matched : {A B : Type 0} → List (A × B) → Type 0
Matched [] = Unit {0}
Matched (p ∷ ps) = Fits p ps × Matched ps

-- the function gives the second of the first
abbrev pub Carries : {A B : Type 0} → (A → B) → List (A × B) → Type 0
Carries f [] = Unit {0}
Carries f (p ∷ ps) = (f p.0 ≡ p.1) × Carries f ps

-- the first are the second
abbrev pub Same : {A : Type 0} → List (A × A) → Type 0
Same [] = Unit {0}
Same (p ∷ ps) = (p.0 ≡ p.1) × Same ps

-- both rise
abbrev pub Later : ℕ × ℕ → List (ℕ × ℕ) → Type 0
Later p [] = Unit {0}
Later p (q ∷ qs) = (p.0 < q.0) × (p.1 < q.1) × Later p qs

abbrev pub Rising : List (ℕ × ℕ) → Type 0
Rising [] = Unit {0}
Rising (p ∷ ps) = Later p ps × Rising ps

-- TOKENS
module _ {N M P Q : Type 0} where
  -- of one kind, with one text where it is no name
  abbrev pub AlikeToken : SignificantToken N P → SignificantToken M Q → Type 0
  AlikeToken (Open p) (Open q) = Unit {0}
  AlikeToken (Close p) (Close q) = Unit {0}
  AlikeToken (Id (Some n) p) (Id (Some m) q) = Unit {0}
  AlikeToken (Id None p) (Id None q) = Unit {0}
  AlikeToken (Word v p) (Word w q) = v ≡ w
  AlikeToken (Mark v p) (Mark w q) = v ≡ w
  AlikeToken (Integer l v p) (Integer k w q) = (l ≡ k) × (v ≡ w)
  AlikeToken (Float v p) (Float w q) = v ≡ w
  AlikeToken (Text v p) (Text w q) = v ≡ w
  AlikeToken (Reserved v p) (Reserved w q) = v ≡ w
  AlikeToken Broken Broken = Unit {0}
  AlikeToken _ _ = ⊥

  abbrev pub Alike : List (SignificantToken N P) → List (SignificantToken M Q) → Type 0
  Alike [] [] = Unit {0}
  Alike (t ∷ ts) (u ∷ us) = AlikeToken t u × Alike ts us
  Alike _ _ = ⊥

  -- the names of both, side by side
  abbrev pub name_pair : SignificantToken N P → SignificantToken M Q → List (N × M) → List (N × M)
  name_pair (Id (Some n) p) (Id (Some m) q) rest = (n, m) ∷ rest
  name_pair t u rest = rest

  abbrev pub names : List (SignificantToken N P) → List (SignificantToken M Q) → List (N × M)
  names [] us = []
  names (t ∷ ts) [] = []
  names (t ∷ ts) (u ∷ us) = name_pair t u (names ts us)

-- where a token stands
abbrev pub place_of : {N P : Type 0} → SignificantToken N P → Option P
place_of (Open p) = Some p
place_of (Close p) = Some p
place_of (Id n p) = Some p
place_of (Word w p) = Some p
place_of (Mark w p) = Some p
place_of (Integer n w p) = Some p
place_of (Float w p) = Some p
place_of (Text s p) = Some p
place_of (Reserved w p) = Some p
place_of Broken = None

-- the places of both, side by side
abbrev pub both_places : {P Q : Type 0} → Option P → Option Q → List (P × Q) → List (P × Q)
both_places (Some p) (Some q) rest = (p, q) ∷ rest
both_places p q rest = rest

abbrev pub places : {N M P Q : Type 0} → List (SignificantToken N P) → List (SignificantToken M Q) → List (P × Q)
places [] us = []
places (t ∷ ts) [] = []
places (t ∷ ts) (u ∷ us) = both_places (place_of t) (place_of u) (places ts us)
