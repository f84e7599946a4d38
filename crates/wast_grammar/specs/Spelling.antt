-- Which tokens spell a value: a relation for each way to make a production (WebAssembly 3.0, 6.1.1). No relation looks
-- ahead, and none says in which order things are tried. `Grammar` makes each production by a combinator of the same
-- name, of which this is the part that a reader has to believe; how a reader decides is said there and in `Look`.
use Rattle.std.specs.Prelude.{◌≡◌, ◌⊎◌, ℕ, Bool, true, false, if◌then◌else◌, List, [], ◌∷◌, ◌++◌, length, Option, Some, None, ◌&&◌, nat_eq}
use Rattle.std.specs.Cmp.Lexicographic.{pointwise}
use Rattle.wast_grammar.specs.Tokens.{Name, SignificantToken, Open, Close, Id, Word, Mark, Integer, Float, Text, Literal}

-- which tokens spell a value
abbrev pub Spells : Type 0 → Type 0 → Type 0 → Type 1
Spells N P A = A → List (SignificantToken N P) → Type 0

-- WORDS
-- the first, and then the second by its value
infixl 10 ◌>>=◌
abbrev pub ◌>>=◌ : {A B : Type 0} → Option A → (A → Option B) → Option B
(Some x) >>= f = f x
None >>= f = None

abbrev pub same_text : List ℕ → List ℕ → Bool
same_text v w = pointwise nat_eq v w

abbrev pub same_name : Name → Name → Bool
same_name n m = same_text n.0 m.0 && nat_eq n.1 m.1

-- whether one of these texts is that one
abbrev pub any_is : List ℕ → List (List ℕ) → Bool
any_is w [] = false
any_is w (v ∷ vs) = if same_text w v then true else any_is w vs

-- the first of these entries whose word it is
abbrev pub find_by : {E : Type 0} → (E → List ℕ) → List ℕ → List E → Option E
find_by word w [] = None
find_by word w (e ∷ es) = if same_text w (word e) then Some e else find_by word w es

-- the same, some words left out
abbrev pub find_but : {E : Type 0} → (E → List ℕ) → List E → List (List ℕ) → List ℕ → Option E
find_but word entries but w = if any_is w but then None else find_by word w entries

-- what follows these bytes in a text that begins with them
abbrev pub after : List ℕ → List ℕ → Option (List ℕ)
after [] w = Some w
after (c ∷ p) [] = None
after (c ∷ p) (d ∷ w) = if nat_eq c d then after p w else None

module _ {N P : Type 0} where
  -- ONE TOKEN, and what it says
  -- a word that means something, and its place
  abbrev pub that_word : {A : Type 0} → (List ℕ → Option A) → SignificantToken N P → Option (A × P)
  that_word f (Word w p) = f w >>= λ a. Some (a, p)
  that_word f _ = None

  -- this word; its place is left
  abbrev pub that_one : List ℕ → SignificantToken N P → Option P
  that_one v (Word w p) = if same_text v w then Some p else None
  that_one v _ = None

  -- this name of an annotation
  abbrev pub that_mark : List ℕ → SignificantToken N P → Option P
  that_mark v (Mark w p) = if same_text v w then Some p else None
  that_mark v _ = None

  abbrev pub that_id : SignificantToken N P → Option (N × P)
  that_id (Id (Some n) p) = Some (n, p)
  that_id _ = None

  abbrev pub that_integer : SignificantToken N P → Option (Literal × P)
  that_integer (Integer n w p) = Some (n, p)
  that_integer _ = None

  -- a float or an integer, as it is written: either may stand for a float (6.3.2)
  abbrev pub that_float : SignificantToken N P → Option (List ℕ × P)
  that_float (Float w p) = Some (w, p)
  that_float (Integer n w p) = Some (w, p)
  that_float _ = None

  abbrev pub that_text : SignificantToken N P → Option (List ℕ)
  that_text (Text s p) = Some s
  that_text _ = None

  abbrev pub that_open : SignificantToken N P → Option P
  that_open (Open p) = Some p
  that_open _ = None

  abbrev pub that_close : SignificantToken N P → Option P
  that_close (Close p) = Some p
  that_close _ = None

  -- PRODUCTIONS
  -- one token that says it
  abbrev pub token : {A : Type 0} → (SignificantToken N P → Option A) → Spells N P A
  token f a ts = (t : SignificantToken N P) × (ts ≡ t ∷ []) × (f t ≡ Some a)

  -- no token
  abbrev pub nothing : Spells N P (Unit {0})
  nothing a ts = ts ≡ []

  -- one after the other; the second by what the first says
  abbrev pub next : {A B : Type 0} → Spells N P A → (A → Spells N P B) → Spells N P (A × B)
  next s r p ts = (us vs : List (SignificantToken N P)) × (ts ≡ us ++ vs) × s p.0 us × r p.0 p.1 vs

  abbrev pub seq : {A B : Type 0} → Spells N P A → Spells N P B → Spells N P (A × B)
  seq s r = next s (λ _. r)

  -- one, seen as another value
  abbrev pub seen : {A B : Type 0} → (A → B) → Spells N P A → Spells N P B
  seen {A} f s b ts = (a : A) × (f a ≡ b) × s a ts

  -- such values alone
  abbrev pub only : {A : Type 0} → (A → Bool) → Spells N P A → Spells N P A
  only p s a ts = (p a ≡ true) × s a ts

  -- one or none
  abbrev pub maybe : {A : Type 0} → Spells N P A → Spells N P (Option A)
  maybe s None ts = ts ≡ []
  maybe s (Some a) ts = s a ts

  -- any number of them
  abbrev pub many : {A : Type 0} → Spells N P A → Spells N P (List A)
  many s [] ts = ts ≡ []
  many s (a ∷ more) ts = (us vs : List (SignificantToken N P)) × (ts ≡ us ++ vs) × s a us × many s more vs

  -- so many of them
  abbrev pub times : {A : Type 0} → ℕ → Spells N P A → Spells N P (List A)
  times n s xs ts = (length xs ≡ n) × many s xs ts

  -- one or the other
  abbrev pub either : {A : Type 0} → Spells N P A → Spells N P A → Spells N P A
  either s r a ts = s a ts ⊎ r a ts

  -- ( .. )
  abbrev pub paren : {A : Type 0} → Spells N P A → Spells N P A
  paren s a ts = (us : List (SignificantToken N P)) × (p q : P) × (ts ≡ Open p ∷ us ++ Close q ∷ []) × s a us

  -- ( .. ), with the place of the parenthesis that closes
  abbrev pub fenced : {A : Type 0} → Spells N P A → Spells N P (A × P)
  fenced s a ts = (us : List (SignificantToken N P)) × (p : P) × (ts ≡ Open p ∷ us ++ Close a.1 ∷ []) × s a.0 us

  -- one of these, as that of some depth
  abbrev pub some_deep : {A : Type 0} → (ℕ → Spells N P A) → Spells N P A
  some_deep s a ts = (n : ℕ) × s n a ts
