-- A production that stands in itself keeps the laws.
use Rattle.std.proofs.Common.{◌≡◌, ℕ, zero, suc, ◌<◌, ◌+◌, Bool, List, [], ◌∷◌, ◌++◌, length, Option, Some, None, inl, inr, ◌∙◌, ap, arith, length-append}
use Rattle.wast_grammar.specs.Tokens.{SignificantToken, Open, Close}
use Rattle.wast_grammar.specs.Spelling as spelling
use Rattle.wast_grammar.specs.Look.{Test}
use Rattle.wast_grammar.specs.Grammar.{Syntax, wide, next, seq, word, led, seen, only, maybe, many, times, either, paren, fenced, group}
use Rattle.wast_grammar.specs.Recursion.{deep, fix}
use Rattle.wast_grammar.specs.Behind.{next_but, row, row_spells}
use Rattle.wast_grammar.proofs.GrammarLaws.{Lawful}
use Rattle.wast_grammar.proofs.Twins.{Paired}

-- of fewer tokens than n, what the first spells the second spells
pub record Under {N P A : Type 0} (n : ℕ) (g h : Syntax N P A) : Type 0 where
  pub same : (a : A) (us : List (SignificantToken N P)) → length us < n → g.spells a us → h.spells a us

pub under_self : {N P A : Type 0} (n : ℕ) (g : Syntax N P A) → Under n g g
under_self n g = record { same = λ a us l s. s }

pub under_wide : {N P A : Type 0} (n : ℕ) (starts : List Test) (empty : Bool) (stops : List Test) (g h : Syntax N P A) → Under n g h → Under n (wide starts empty stops g) (wide starts empty stops h)
under_wide n starts empty stops g h u = record { same = λ a us l s. u.same a us l s }

pub under_seen : {N P A B : Type 0} (n : ℕ) (f : A → B) (g h : Syntax N P A) → Under n g h → Under n (seen f g) (seen f h)
under_seen n f g h u = record { same = λ b us l s. (s.0, s.1, u.same s.0 us l s.2) }

pub under_only : {N P A : Type 0} (n : ℕ) (p : A → Bool) (g h : Syntax N P A) → Under n g h → Under n (only p g) (only p h)
under_only n p g h u = record { same = λ a us l s. (s.0, u.same a us l s.1) }

left_short : {X : Type 0} (n : ℕ) (ts us vs : List X) → ts ≡ us ++ vs → length ts < n → length us < n
left_short n ts us vs e l = let k : length ts ≡ length us + length vs = ap length e ∙ length-append us vs in omega arith

right_short : {X : Type 0} (n : ℕ) (ts us vs : List X) → ts ≡ us ++ vs → length ts < n → length vs < n
right_short n ts us vs e l = let k : length ts ≡ length us + length vs = ap length e ∙ length-append us vs in omega arith

pub under_next : {N P A B : Type 0} (n : ℕ) (g k : Syntax N P A) (h m : A → Syntax N P B) (starts : List Test) (empty : Bool) (stops : List Test) → Under n g k → ((a : A) → Under n (h a) (m a)) → Under n (next g h starts empty stops) (next k m starts empty stops)
under_next n g k h m starts empty stops u v = record {
  same = λ p ts l s. (s.0, s.1, s.2, u.same p.0 s.0 (left_short n ts s.0 s.1 s.2 l) s.3, (v p.0).same p.1 s.1 (right_short n ts s.0 s.1 s.2 l) s.4);
}

pub under_seq : {N P A B : Type 0} (n : ℕ) (g k : Syntax N P A) (h m : Syntax N P B) → Under n g k → Under n h m → Under n (seq g h) (seq k m)
under_seq n g k h m u v = record {
  same = λ p ts l s. (s.0, s.1, s.2, u.same p.0 s.0 (left_short n ts s.0 s.1 s.2 l) s.3, v.same p.1 s.1 (right_short n ts s.0 s.1 s.2 l) s.4);
}

pub under_led : {N P A : Type 0} (n : ℕ) (w : List ℕ) (g h : Syntax N P A) → Under n g h → Under n (led w g) (led w h)
under_led n w g h u = under_seen n (λ p. p.1) (seq (word w) g) (seq (word w) h) (under_seq n (word w) (word w) g h (under_self n (word w)) u)

pub under_next_but : {N P A B : Type 0} (n : ℕ) (g k : Syntax N P A) (own : A → List Test) (h m : A → Syntax N P B) (starts : List Test) → Under n g k → ((a : A) → Under n (h a) (m a)) → Under n (next_but g own h starts) (next_but k own m starts)
under_next_but n g k own h m starts u v = record {
  same = λ p ts l s. (s.0, s.1, s.2, u.same p.0 s.0 (left_short n ts s.0 s.1 s.2 l) s.3, (v p.0).same p.1 s.1 (right_short n ts s.0 s.1 s.2 l) s.4, s.5);
}

module _ {N P A : Type 0} (n : ℕ) (g h : Syntax N P A) (u : Under n g h) where
  maybe_same : (starts : List Test) (o : Option A) (us : List (SignificantToken N P)) → length us < n → (maybe starts g).spells o us → (maybe starts h).spells o us
  maybe_same starts None us l s = s
  maybe_same starts (Some a) us l s = u.same a us l s

  pub under_maybe : (starts : List Test) → Under n (maybe starts g) (maybe starts h)
  under_maybe starts = record { same = maybe_same starts }

  many_same : (xs : List A) (us : List (SignificantToken N P)) → length us < n → spelling.many g.spells xs us → spelling.many h.spells xs us
  many_same [] us l s = s
  many_same (x ∷ xs) us l s = (s.0, s.1, s.2, u.same x s.0 (left_short n us s.0 s.1 s.2 l) s.3, many_same xs s.1 (right_short n us s.0 s.1 s.2 l) s.4)

  pub under_many : (starts : List Test) → Under n (many starts g) (many starts h)
  under_many starts = record { same = many_same }

  pub under_times : (k : ℕ) → Under n (times k g) (times k h)
  under_times k = record { same = λ xs us l s. (s.0, many_same xs us l s.1) }

  row_same : (own : A → List Test) (xs : List A) (us : List (SignificantToken N P)) → length us < n → row_spells g.spells own xs us → row_spells h.spells own xs us
  row_same own [] us l s = s
  row_same own (x ∷ xs) us l s = (s.0, s.1, s.2, u.same x s.0 (left_short n us s.0 s.1 s.2 l) s.3, row_same own xs s.1 (right_short n us s.0 s.1 s.2 l) s.4, s.5)

  pub under_row : (starts : List Test) (own : A → List Test) → Under n (row starts g own) (row starts h own)
  under_row starts own = record { same = row_same own }

pub under_either : {N P A : Type 0} (n : ℕ) (starts : List Test) (g k h m : Syntax N P A) → Under n g k → Under n h m → Under n (either starts g h) (either starts k m)
under_either n starts g k h m u v = record { same = λ a us l s. elim s [ inl x ↦ inl (u.same a us l x) | inr y ↦ inr (v.same a us l y) ] }

within_short : {N P : Type 0} (n : ℕ) (p q : P) (ts us : List (SignificantToken N P)) → ts ≡ Open p ∷ us ++ Close q ∷ [] → length ts < suc n → length us < n
within_short n p q ts us e l = let k : length ts ≡ suc (length us + 1) = ap length e ∙ ap suc (length-append us (Close q ∷ [])) in omega arith

-- Parentheses make room for one more token.
pub under_paren : {N P A : Type 0} (n : ℕ) (g h : Syntax N P A) → Under n g h → Under (suc n) (paren g) (paren h)
under_paren n g h u = record { same = λ a ts l s. (s.0, s.1, s.2, s.3, u.same a s.0 (within_short n s.1 s.2 ts s.0 s.3 l) s.4) }

pub under_fenced : {N P A : Type 0} (n : ℕ) (g h : Syntax N P A) → Under n g h → Under (suc n) (fenced g) (fenced h)
under_fenced n g h u = record { same = λ a ts l s. (s.0, s.1, s.2, u.same a.0 s.0 (within_short n s.1 a.1 ts s.0 s.2 l) s.3) }

pub under_group : {N P A : Type 0} (n : ℕ) (w : List ℕ) (g h : Syntax N P A) → Under n g h → Under (suc n) (group w g) (group w h)
under_group n w g h u = under_paren n (led w g) (led w h) (under_led n w g h u)

pub under_less : {N P A : Type 0} (n : ℕ) (g h : Syntax N P A) → Under (suc n) g h → Under n g h
under_less n g h u = record { same = λ a us l s. u.same a us (omega arith) s }

-- A step that keeps the laws, and that spells by what fewer tokens spell.
pub record Steps {N P A : Type 0} (starts : List Test) (empty : Bool) (stops : List Test) (step : Syntax N P A → Syntax N P A) : Type 1 where
  pub keeps : (g : Syntax N P A) → Lawful (wide starts empty stops g) → Lawful (wide starts empty stops (step (wide starts empty stops g)))
  pub guards : (n : ℕ) (g h : Syntax N P A) → Under n (wide starts empty stops g) (wide starts empty stops h) → Under (suc n) (step (wide starts empty stops g)) (step (wide starts empty stops h))

module _ {N P A : Type 0} (starts : List Test) (empty : Bool) (stops : List Test) (step : Syntax N P A → Syntax N P A) (law : Steps starts empty stops step) where
  pub deep_laws : (n : ℕ) → Lawful (wide starts empty stops (deep starts empty stops step n))
  deep_laws zero = record { sound = λ ts x e. cc; complete = λ a us rest s n. absurd s; leads = λ a us rest s. absurd s; whole = λ a us s. absurd s }
  deep_laws (suc n) = law.keeps (deep starts empty stops step n) (deep_laws n)

  -- Depth counts no further than length.
  pub deeper : (m n : ℕ) → Under m (wide starts empty stops (deep starts empty stops step n)) (wide starts empty stops (deep starts empty stops step m))
  deeper zero n = record { same = λ a us l s. (let no : ⊥ = omega arith in absurd no) }
  deeper (suc m) zero = record { same = λ a us l s. absurd s }
  deeper (suc m) (suc n) = record { same = λ a us l s. (law.guards m (deep starts empty stops step n) (deep starts empty stops step m) (deeper m n)).same a us l s }

  fits_in : (us rest : List (SignificantToken N P)) → length us < suc (length (us ++ rest))
  fits_in us rest = let k = length-append us rest in omega arith

  pub fix_laws : Lawful (fix starts empty stops step)
  fix_laws = record {
    sound = λ ts x e. (let s = (deep_laws (suc (length ts))).sound ts x e in record { taken = s.taken; parts = s.parts; spelled = (suc (length ts), s.spelled) });
    complete = λ a us rest s n. (deep_laws (suc (length (us ++ rest)))).complete a us rest ((deeper (suc (length (us ++ rest))) s.0).same a us (fits_in us rest) s.1) n;
    leads = λ a us rest s. (deep_laws s.0).leads a us rest s.1;
    whole = λ a us s. (deep_laws s.0).whole a us s.1;
  }

  module _ (pairs : (g : Syntax N P A) → Paired g → Paired (step (wide starts empty stops g))) where
    deep_twins : (n : ℕ) → Paired (deep starts empty stops step n)
    deep_twins zero = record { first = λ a ts us t. absurd t; second = λ a ts us t. absurd t; alone = λ a ts s. absurd s }
    deep_twins (suc n) = pairs (deep starts empty stops step n) (deep_twins n)

    pub fix_twins : Paired (fix starts empty stops step)
    fix_twins = record {
      first = λ a ts us t. (t.0, (deep_twins t.0).first a ts us t.1);
      second = λ a ts us t. (t.0, (deep_twins t.0).second a ts us t.1);
      alone = λ a ts s. (s.0, (deep_twins s.0).alone a ts s.1);
    }
