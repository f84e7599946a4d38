-- PRODUCTIONS: the combinators in which the syntax is written. What is promised of a text cites `spells` alone, which is the
-- relation of the same name in `Spelling`; the rest says how a reader decides, and the laws of the crate join the two.
use Rattle.std.specs.Prelude.{ℕ, zero, suc, Bool, true, false, if◌then◌else◌, List, [], ◌∷◌, map, length, Option, Some, None, ◌&&◌, nat_eq}
use Rattle.wast_grammar.specs.Tokens.{SignificantToken, Literal}
use Rattle.wast_grammar.specs.Spelling as spelling
use Rattle.wast_grammar.specs.Spelling.{Spells, ◌>>=◌, find_but, after, that_word, that_one, that_mark, that_id, that_integer, that_float, that_text, that_open, that_close}
use Rattle.wast_grammar.specs.Twins as twins
use Rattle.wast_grammar.specs.Twins.{Pairs}
use Rattle.wast_grammar.specs.Look.{Test, On, AWord, AMark, AnInteger, AFloat, Texts, This, OneOf, Begun, Any, this_word, join, faults, ask, unders, id_starts, integer_starts, string_starts}

-- a value and the tokens after it, or nothing
abbrev pub Reader : Type 0 → Type 0 → Type 0 → Type 0
Reader N P A = List (SignificantToken N P) → Option (A × List (SignificantToken N P))

-- A production: which tokens spell a value, and all that reading and its laws need.
pub record Syntax (N P A : Type 0) : Type 1 where
  -- which tokens spell a value
  pub spells : Spells N P A
  -- which two token lists spell it and differ in marked parts alone
  pub twins : Pairs N P A
  -- how it is read
  pub reads : Reader N P A
  -- what it begins with, and whether it may be nothing
  pub starts : List Test
  pub empty : Bool
  -- what may not stand after it
  pub stops : List Test

-- ONE TOKEN
abbrev pub one_of : {N P A : Type 0} → (SignificantToken N P → Option A) → Reader N P A
one_of f [] = None
one_of f (t ∷ ts) = f t >>= λ a. Some (a, ts)

abbrev pub token : {N P A : Type 0} → (SignificantToken N P → Option A) → List Test → Syntax N P A
token f starts = record {
  spells = spelling.token f;
  twins = twins.token f;
  reads = one_of f;
  starts = starts;
  empty = false;
  stops = [];
}

module _ {N P : Type 0} where
  -- a word that means something, and its place
  abbrev pub words : {A : Type 0} → (List ℕ → Option A) → Texts → Syntax N P (A × P)
  words f t = token (that_word f) (On false AWord t ∷ [])

  -- a word of a set but some, with what the set has for it
  abbrev pub among : {E : Type 0} → (E → List ℕ) → List E → List (List ℕ) → Syntax N P (E × P)
  among word entries but = words (find_but word entries but) (OneOf (map word entries) but)

  -- a word that begins so, by what follows in it
  abbrev pub begun : {A : Type 0} → List ℕ → (List ℕ → Option A) → Syntax N P (A × P)
  begun p f = words (λ w. after p w >>= f) (Begun p)

  -- one word, of which the place is left
  abbrev pub word : List ℕ → Syntax N P P
  word v = token (that_one v) (this_word v ∷ [])

  -- the name of an annotation, of which the place is left (6.2.5)
  abbrev pub mark : List ℕ → Syntax N P P
  mark v = token (that_mark v) (On false AMark (This v) ∷ [])

  -- an identifier (6.3.5)
  abbrev pub id : Syntax N P (N × P)
  id = token that_id id_starts

  -- an integer (6.3.1)
  abbrev pub integer : Syntax N P (Literal × P)
  integer = token that_integer integer_starts

  -- what may stand for a float, as it is written (6.3.2)
  abbrev pub float : Syntax N P (List ℕ × P)
  float = token that_float (On false AFloat Any ∷ On false AnInteger Any ∷ [])

  -- a string (6.3.3)
  abbrev pub string : Syntax N P (List ℕ)
  string = token that_text string_starts

  -- no token
  abbrev pub nothing : Syntax N P (Unit {0})
  nothing = record {
    spells = spelling.nothing;
    twins = twins.nothing;
    reads = λ ts. Some (tt, ts);
    starts = [];
    empty = true;
    stops = [];
  }

-- ONE AFTER THE OTHER
abbrev pub seq_reads : {N P A B : Type 0} → Reader N P A → (A → Reader N P B) → Reader N P (A × B)
seq_reads ra rb ts = ra ts >>= λ a. rb a.0 a.1 >>= λ b. Some ((a.0, b.0), b.1)

-- what comes second depends on the first; its bounds (starts, empty, stops) do not
abbrev pub next : {N P A B : Type 0} → Syntax N P A → (A → Syntax N P B) → List Test → Bool → List Test → Syntax N P (A × B)
next g h starts empty stops = record {
  spells = spelling.next g.spells (λ a. (h a).spells);
  twins = twins.next g.twins (λ a. (h a).twins);
  reads = seq_reads g.reads (λ a. (h a).reads);
  starts = join g.starts (if g.empty then starts else []);
  empty = g.empty && empty;
  stops = join stops (if empty then g.stops else []);
}

abbrev pub seq : {N P A B : Type 0} → Syntax N P A → Syntax N P B → Syntax N P (A × B)
seq g h = next g (λ _. h) h.starts h.empty h.stops

-- the same, with wider bounds
abbrev pub wide : {N P A : Type 0} → List Test → Bool → List Test → Syntax N P A → Syntax N P A
wide starts empty stops g = record g { starts = starts; empty = empty; stops = stops }

-- the same, said in another way, by which the same is spelled: a reader that decides by what it sees, of a production that says what stands there
abbrev pub respelled : {N P A : Type 0} → Spells N P A → Syntax N P A → Syntax N P A
respelled s g = record g { spells = s }

-- VALUES
-- seen as another value
abbrev pub map_reads : {N P A B : Type 0} → (A → B) → Reader N P A → Reader N P B
map_reads f r ts = r ts >>= λ a. Some (f a.0, a.1)

abbrev pub seen : {N P A B : Type 0} → (A → B) → Syntax N P A → Syntax N P B
seen f g = record {
  spells = spelling.seen f g.spells;
  twins = twins.seen f g.twins;
  reads = map_reads f g.reads;
  starts = g.starts;
  empty = g.empty;
  stops = g.stops;
}

-- such values alone
abbrev pub only_reads : {N P A : Type 0} → (A → Bool) → Reader N P A → Reader N P A
only_reads p r ts = r ts >>= λ a. if p a.0 then Some a else None

abbrev pub only : {N P A : Type 0} → (A → Bool) → Syntax N P A → Syntax N P A
only p g = record {
  spells = spelling.only p g.spells;
  twins = twins.only p g.twins;
  reads = only_reads p g.reads;
  starts = g.starts;
  empty = g.empty;
  stops = g.stops;
}

-- CHOICES AND REPEATS
-- one where it begins, else nothing
abbrev pub maybe_reads : {N P A : Type 0} → List Test → Reader N P A → Reader N P (Option A)
maybe_reads starts r ts = ask starts ts >>= λ b. if b then (r ts >>= λ a. Some (Some a.0, a.1)) else Some (None, ts)

abbrev pub maybe : {N P A : Type 0} → List Test → Syntax N P A → Syntax N P (Option A)
maybe starts g = record {
  spells = spelling.maybe g.spells;
  twins = twins.maybe g.twins;
  reads = maybe_reads starts g.reads;
  starts = starts;
  empty = true;
  stops = join (faults starts) (join starts g.stops);
}

-- as often as it begins; the number bounds how often
abbrev pub many_reads : {N P A : Type 0} → List Test → Reader N P A → ℕ → Reader N P (List A)
many_reads starts r zero ts = ask starts ts >>= λ b. if b then None else Some ([], ts)
many_reads starts r (suc n) ts = ask starts ts >>= λ b. if b then (r ts >>= λ a. many_reads starts r n a.1 >>= λ rest. Some (a.0 ∷ rest.0, rest.1)) else Some ([], ts)

abbrev pub many : {N P A : Type 0} → List Test → Syntax N P A → Syntax N P (List A)
many starts g = record {
  spells = spelling.many g.spells;
  twins = twins.many g.twins;
  -- each item takes a token, so the length of the tokens is bound enough
  reads = λ ts. many_reads starts g.reads (length ts) ts;
  starts = starts;
  empty = true;
  stops = join (faults starts) (join starts g.stops);
}

-- so often
abbrev pub times_reads : {N P A : Type 0} → ℕ → Reader N P A → Reader N P (List A)
times_reads zero r ts = Some ([], ts)
times_reads (suc n) r ts = r ts >>= λ a. times_reads n r a.1 >>= λ rest. Some (a.0 ∷ rest.0, rest.1)

abbrev pub times : {N P A : Type 0} → ℕ → Syntax N P A → Syntax N P (List A)
times n g = record {
  spells = spelling.times n g.spells;
  twins = twins.times n g.twins;
  reads = times_reads n g.reads;
  starts = g.starts;
  empty = nat_eq n 0;
  stops = g.stops;
}

-- the first where it begins, else the second
abbrev pub either_reads : {N P A : Type 0} → List Test → Reader N P A → Reader N P A → Reader N P A
either_reads starts r q ts = ask starts ts >>= λ b. if b then r ts else q ts

abbrev pub either : {N P A : Type 0} → List Test → Syntax N P A → Syntax N P A → Syntax N P A
either starts g h = record {
  spells = spelling.either g.spells h.spells;
  twins = twins.either g.twins h.twins;
  reads = either_reads starts g.reads h.reads;
  starts = join g.starts h.starts;
  empty = h.empty;
  stops = join (join g.stops h.stops) (if h.empty then join (faults starts) starts else []);
}

-- GROUPS
-- ( .. )
abbrev pub paren_reads : {N P A : Type 0} → Reader N P A → Reader N P A
paren_reads r ts = one_of that_open ts >>= λ o. r o.1 >>= λ a. one_of that_close a.1 >>= λ c. Some (a.0, c.1)

abbrev pub paren : {N P A : Type 0} → Syntax N P A → Syntax N P A
paren g = record {
  spells = spelling.paren g.spells;
  twins = twins.paren g.twins;
  reads = paren_reads g.reads;
  starts = unders g.starts;
  empty = false;
  stops = [];
}

-- ( .. ), with the place of the parenthesis that closes
abbrev pub fenced_reads : {N P A : Type 0} → Reader N P A → Reader N P (A × P)
fenced_reads r ts = one_of that_open ts >>= λ o. r o.1 >>= λ a. one_of that_close a.1 >>= λ c. Some ((a.0, c.0), c.1)

abbrev pub fenced : {N P A : Type 0} → Syntax N P A → Syntax N P (A × P)
fenced g = record {
  spells = spelling.fenced g.spells;
  twins = twins.fenced g.twins;
  reads = fenced_reads g.reads;
  starts = unders g.starts;
  empty = false;
  stops = [];
}

-- word .., and (word ..)
abbrev pub led : {N P A : Type 0} → List ℕ → Syntax N P A → Syntax N P A
led w g = seen (λ p. p.1) (seq (word w) g)

abbrev pub group : {N P A : Type 0} → List ℕ → Syntax N P A → Syntax N P A
group w g = paren (led w g)

-- (@name ..)
abbrev pub annotation : {N P A : Type 0} → List ℕ → Syntax N P A → Syntax N P A
annotation w g = paren (seen (λ p. p.1) (seq (mark w) g))

-- a marked part: its twins are all that spell the same
abbrev pub part : {N P A : Type 0} → Syntax N P A → Syntax N P A
part g = record g { twins = twins.part g.spells }
