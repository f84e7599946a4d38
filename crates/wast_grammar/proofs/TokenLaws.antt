-- The laws of productions of one token and of none.
use Rattle.std.proofs.Common.{◌≡◌, ℕ, Bool, true, false, List, [], ◌∷◌, ◌++◌, map, Option, Some, None, inl, inr, refl, sym, ◌∙◌, ap, subst, cond, not, ◌&&◌, nat_eq}
use Rattle.std.specs.Prelude.{is_some}
use Rattle.std.proofs.lemmas.Bool.{cases_Bool, and_from}
use Rattle.std.proofs.lemmas.Option.{same_Some, cond_some}
use Rattle.wast_grammar.specs.Tokens.{SignificantToken, Open, Close, Id, Word, Mark, Integer, Float, Text, Broken, Literal, is_whole}
use Rattle.wast_grammar.specs.Spelling.{◌>>=◌, same_text, any_is, find_by, find_but, after, that_word, that_one, that_mark, that_id, that_integer, that_float, that_text}
use Rattle.wast_grammar.specs.Look.{AWord, AMark, AnId, AnInteger, AFloat, AString, Texts, This, OneOf, Begun, Any, holds, starts_with, Test, On, this_word, at, ask}
use Rattle.wast_grammar.specs.Grammar.{Syntax, one_of, token, words, among, begun, word, mark, id, integer, float, string, nothing}
pub use Rattle.wast_grammar.specs.Lawful.{Takes, Lawful, Leads}
use Rattle.wast_grammar.proofs.Looks.{bind_ok}

-- WHAT IS TAKEN, of an answer that is told otherwise
pub takes_so : {N P A : Type 0} {g : Syntax N P A} {ts : List (SignificantToken N P)} (x y : A × List (SignificantToken N P)) → x ≡ y → Takes g x.0 ts x.1 → Takes g y.0 ts y.1
takes_so {g = g} {ts = ts} x y e t = subst (λ z. Takes g z.0 ts z.1) e t

pub takes_as : {N P A : Type 0} {g : Syntax N P A} {ts : List (SignificantToken N P)} (x y : A × List (SignificantToken N P)) → Some x ≡ Some y → Takes g x.0 ts x.1 → Takes g y.0 ts y.1
takes_as x y e t = takes_so x y (same_Some x y e) t

-- WHAT IS WHOLE
pub whole_join : {N P : Type 0} (a b : List (SignificantToken N P)) → is_whole a ≡ true → is_whole b ≡ true → is_whole (a ++ b) ≡ true
whole_join [] b h k = k
whole_join (Broken ∷ a) b h k = absurd (cc)
whole_join (t ∷ a) b h k = whole_join a b h k

pub whole_parts : {N P : Type 0} (us a b : List (SignificantToken N P)) → us ≡ a ++ b → is_whole a ≡ true → is_whole b ≡ true → is_whole us ≡ true
whole_parts us a b e h k = ap is_whole e ∙ whole_join a b h k

pub whole_group : {N P : Type 0} (p q : P) (us : List (SignificantToken N P)) → is_whole us ≡ true → is_whole (Open p ∷ us ++ Close q ∷ []) ≡ true
whole_group p q us h = whole_join us (Close q ∷ []) h refl

-- ONE TOKEN
module _ {N P A : Type 0} (f : SignificantToken N P → Option A) (starts : List Test) where
  token_sound : (ts : List (SignificantToken N P)) (x : A × List (SignificantToken N P)) → one_of f ts ≡ Some x → Takes (token f starts) x.0 ts x.1
  token_sound [] x e = cc
  token_sound (t ∷ ts) x e =
      let b = bind_ok (f t) _ _ e in
      takes_as (b.0, ts) x b.2 (record { taken = t ∷ []; parts = refl; spelled = (t, refl, b.1) })

  token_whole : f Broken ≡ None → (t : SignificantToken N P) (a : A) → f t ≡ Some a → is_whole (t ∷ []) ≡ true
  token_whole b Broken a e = let q : None ≡ Some a = sym b ∙ e in absurd (cc)
  token_whole b t a e = refl

  -- what is read begins so, and a broken token is not read
  pub token_laws : ((t : SignificantToken N P) (a : A) (rest : List (SignificantToken N P)) → f t ≡ Some a → at starts (t ∷ rest) ≡ true) → f Broken ≡ None → Lawful (token f starts)
  token_laws h b = record {
    sound = token_sound;
    complete = λ a us rest s n. rw (s.1, s.2) refl;
    leads = λ a us rest s. inl (rw s.1 (h s.0 a rest s.2));
    whole = λ a us s. ap is_whole s.1 ∙ token_whole b s.0 a s.2;
  }

-- no token
pub nothing_laws : {N P : Type 0} → Lawful (nothing {N = N} {P = P})
nothing_laws {N} {P} = record {
  sound = λ ts x e. takes_as (tt, ts) x e (record { taken = []; parts = refl; spelled = refl });
  complete = λ a us rest s n. rw s refl;
  leads = λ a us rest s. inr (refl, s);
  whole = λ a us s. ap is_whole s;
}

-- WORDS
-- a word is one of a set exactly where the set has something for it
pub any_found : {E : Type 0} (word : E → List ℕ) (w : List ℕ) (entries : List E) → any_is w (map word entries) ≡ is_some (find_by word w entries)
any_found word w [] = refl
any_found word w (x ∷ entries) = elim (same_text w (word x)) as (λ b. cond b true (any_is w (map word entries)) ≡ is_some (cond b (Some x) (find_by word w entries))) [ true ↦ refl | false ↦ any_found word w entries ]

found_is : {E : Type 0} (word : E → List ℕ) (w : List ℕ) (entries : List E) (e : E) → find_by word w entries ≡ Some e → any_is w (map word entries) ≡ true
found_is word w entries e h = any_found word w entries ∙ ap is_some h

among_is : {E : Type 0} (word : E → List ℕ) (entries : List E) (but : List (List ℕ)) (w : List ℕ) (e : E) → find_but word entries but w ≡ Some e → holds (OneOf (map word entries) but) w ≡ true
among_is word entries but w e h = elim (cases_Bool (any_is w but)) [
  | inl y ↦ (let q : None ≡ Some e = sym (ap (λ b. cond b None (find_by word w entries)) y) ∙ h in cc)
  | inr n ↦ and_from (any_is w (map word entries)) (not (any_is w but)) (found_is word w entries e (sym (ap (λ b. cond b None (find_by word w entries)) n) ∙ h)) (ap not n)
]

-- a look at a word tells whether the set has something for it
pub among_asked : {N P E : Type 0} (word : E → List ℕ) (entries : List E) (but : List (List ℕ)) (w : List ℕ) (p : P) (ts : List (SignificantToken N P)) → ask (On false AWord (OneOf (map word entries) but) ∷ []) (Word w p ∷ ts) ≡ Some (is_some (find_but word entries but w))
among_asked word entries but w p ts = ap Some (ap (λ b. cond (b && not (any_is w but)) true false) (any_found word w entries) ∙ left (any_is w but) (find_by word w entries))
  where
    left : {E : Type 0} (b : Bool) (o : Option E) → cond (is_some o && not b) true false ≡ is_some (cond b None o)
    left true None = refl
    left true (Some e) = refl
    left false None = refl
    left false (Some e) = refl

after_is : (p w v : List ℕ) → after p w ≡ Some v → starts_with p w ≡ true
after_is [] w v e = refl
after_is (c ∷ p) [] v e = cc
after_is (c ∷ p) (d ∷ w) v e = elim (cases_Bool (nat_eq c d)) [
  | inl y ↦ and_from (nat_eq c d) (starts_with p w) y (after_is p w v (sym (ap (λ b. cond b (after p w) None) y) ∙ e))
  | inr n ↦ (let q : None ≡ Some v = sym (ap (λ b. cond b (after p w) None) n) ∙ e in cc)
]

module _ {N P : Type 0} where
  -- a word: what the reading takes, the test holds of
  word_starts : {A : Type 0} (f : List ℕ → Option A) (t : Texts) → ((w : List ℕ) (a : A) → f w ≡ Some a → holds t w ≡ true) → (k : SignificantToken N P) (a : A × P) (rest : List (SignificantToken N P)) → that_word f k ≡ Some a → at (On false AWord t ∷ []) (k ∷ rest) ≡ true
  word_starts f t h (Word w p) a rest e = let b = bind_ok (f w) _ _ e in ap (λ v. cond v true false) (h w b.0 b.1)
  word_starts f t h _ a rest e = absurd cc

  pub words_laws : {A : Type 0} (f : List ℕ → Option A) (t : Texts) → ((w : List ℕ) (a : A) → f w ≡ Some a → holds t w ≡ true) → Lawful (words {N = N} {P = P} f t)
  words_laws f t h = token_laws (that_word f) (On false AWord t ∷ []) (word_starts f t h) refl

  pub among_laws : {E : Type 0} (word : E → List ℕ) (entries : List E) (but : List (List ℕ)) → Lawful (among {N = N} {P = P} word entries but)
  among_laws word entries but = words_laws (find_but word entries but) (OneOf (map word entries) but) (among_is word entries but)

  pub begun_laws : {A : Type 0} (p : List ℕ) (f : List ℕ → Option A) → Lawful (begun {N = N} {P = P} p f)
  begun_laws p f = words_laws (λ w. after p w >>= f) (Begun p) (λ w a e. let b = bind_ok (after p w) f a e in after_is p w b.0 b.1)

  one_starts : (v : List ℕ) (t : SignificantToken N P) (a : P) (rest : List (SignificantToken N P)) → that_one v t ≡ Some a → at (this_word v ∷ []) (t ∷ rest) ≡ true
  one_starts v (Word w p) a rest e = ap (λ b. cond b true false) (cond_some (same_text v w) p a e).0
  one_starts v _ a rest e = absurd cc

  pub word_laws : (v : List ℕ) → Lawful (word {N = N} {P = P} v)
  word_laws v = token_laws (that_one v) (this_word v ∷ []) (one_starts v) refl

  mark_starts : (v : List ℕ) (t : SignificantToken N P) (a : P) (rest : List (SignificantToken N P)) → that_mark v t ≡ Some a → at (On false AMark (This v) ∷ []) (t ∷ rest) ≡ true
  mark_starts v (Mark w p) a rest e = ap (λ b. cond b true false) (cond_some (same_text v w) p a e).0
  mark_starts v _ a rest e = absurd cc

  pub mark_laws : (v : List ℕ) → Lawful (mark {N = N} {P = P} v)
  mark_laws v = token_laws (that_mark v) (On false AMark (This v) ∷ []) (mark_starts v) refl

  -- LITERALS AND IDENTIFIERS
  id_starts : (t : SignificantToken N P) (a : N × P) (rest : List (SignificantToken N P)) → that_id t ≡ Some a → at (On false AnId Any ∷ []) (t ∷ rest) ≡ true
  id_starts (Id n p) a rest e = refl
  id_starts _ a rest e = absurd cc

  pub id_laws : Lawful (id {N = N} {P = P})
  id_laws = token_laws that_id (On false AnId Any ∷ []) id_starts refl

  integer_starts : (t : SignificantToken N P) (a : Literal × P) (rest : List (SignificantToken N P)) → that_integer t ≡ Some a → at (On false AnInteger Any ∷ []) (t ∷ rest) ≡ true
  integer_starts (Integer n w p) a rest e = refl
  integer_starts _ a rest e = absurd cc

  pub integer_laws : Lawful (integer {N = N} {P = P})
  integer_laws = token_laws that_integer (On false AnInteger Any ∷ []) integer_starts refl

  float_starts : (t : SignificantToken N P) (a : List ℕ × P) (rest : List (SignificantToken N P)) → that_float t ≡ Some a → at (On false AFloat Any ∷ On false AnInteger Any ∷ []) (t ∷ rest) ≡ true
  float_starts (Float w p) a rest e = refl
  float_starts (Integer n w p) a rest e = refl
  float_starts _ a rest e = absurd cc

  pub float_laws : Lawful (float {N = N} {P = P})
  float_laws = token_laws that_float (On false AFloat Any ∷ On false AnInteger Any ∷ []) float_starts refl

  string_starts : (t : SignificantToken N P) (a : List ℕ) (rest : List (SignificantToken N P)) → that_text t ≡ Some a → at (On false AString Any ∷ []) (t ∷ rest) ≡ true
  string_starts (Text s p) a rest e = refl
  string_starts _ a rest e = absurd cc

  pub string_laws : Lawful (string {N = N} {P = P})
  string_laws = token_laws that_text (On false AString Any ∷ []) string_starts refl
