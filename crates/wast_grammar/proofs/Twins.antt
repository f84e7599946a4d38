-- Replacing a marked part by another that spells the same keeps the value.
use Rattle.std.proofs.Common.{◌≡◌, ℕ, Bool, false, List, [], ◌∷◌, Option, Some, None, inl, inr, sym, ◌∙◌}
use Rattle.wast_grammar.specs.Tokens.{SignificantToken}
use Rattle.wast_grammar.specs.Spelling as spelling
use Rattle.wast_grammar.specs.Spelling.{that_one, that_mark}
use Rattle.wast_grammar.specs.Twins as twins
use Rattle.wast_grammar.specs.Look.{AMark, This, Test, On, this_word, any_end}
use Rattle.wast_grammar.specs.Grammar.{Syntax, token, nothing, next, seq, seen, only, wide, maybe, many, times, paren, fenced, either, word, mark, led, group, annotation, part}
pub use Rattle.wast_grammar.specs.Lawful.{Paired}
use Rattle.wast_grammar.proofs.GrammarLaws.{Lawful, all_read}

pub token_twins : {N P A : Type 0} (f : SignificantToken N P → Option A) (starts : List Test) → Paired (token f starts)
token_twins f starts = record {
  first = λ a ts us t. (t.0, t.1, t.2);
  second = λ a ts us t. (t.0, t.3, t.2);
  alone = λ a ts s. (s.0, s.1, s.2, s.1);
}

pub nothing_twins : {N P : Type 0} → Paired (nothing {N = N} {P = P})
nothing_twins = record { first = λ a ts us t. t.0; second = λ a ts us t. t.1; alone = λ a ts s. (s, s) }

pub next_twins : {N P A B : Type 0} (g : Syntax N P A) (h : A → Syntax N P B) (starts : List Test) (empty : Bool) (stops : List Test) → Paired g → ((a : A) → Paired (h a)) → Paired (next g h starts empty stops)
next_twins g h starts empty stops lg lh = record {
  first = λ a ts us t. (t.0, t.1, t.4, lg.first _ _ _ t.6, (lh a.0).first _ _ _ t.7);
  second = λ a ts us t. (t.2, t.3, t.5, lg.second _ _ _ t.6, (lh a.0).second _ _ _ t.7);
  alone = λ a ts s. (s.0, s.1, s.0, s.1, s.2, s.2, lg.alone _ _ s.3, (lh a.0).alone _ _ s.4);
}

pub wide_twins : {N P A : Type 0} (starts : List Test) (empty : Bool) (stops : List Test) (g : Syntax N P A) → Paired g → Paired (wide starts empty stops g)
wide_twins starts empty stops g lg = record { first = lg.first; second = lg.second; alone = lg.alone }

pub only_twins : {N P A : Type 0} (p : A → Bool) (g : Syntax N P A) → Paired g → Paired (only p g)
only_twins p g lg = record {
  first = λ a ts us t. (t.0, lg.first _ _ _ t.1);
  second = λ a ts us t. (t.0, lg.second _ _ _ t.1);
  alone = λ a ts s. (s.0, lg.alone _ _ s.1);
}

pub seen_twins : {N P A B : Type 0} (f : A → B) (g : Syntax N P A) → Paired g → Paired (seen f g)
seen_twins f g lg = record {
  first = λ a ts us t. (t.0, t.1, lg.first _ _ _ t.2);
  second = λ a ts us t. (t.0, t.1, lg.second _ _ _ t.2);
  alone = λ a ts s. (s.0, s.1, lg.alone _ _ s.2);
}

pub seq_twins : {N P A B : Type 0} (g : Syntax N P A) (h : Syntax N P B) → Paired g → Paired h → Paired (seq g h)
seq_twins g h lg lh = next_twins g (λ _. h) h.starts h.empty h.stops lg (λ _. lh)

module _ {N P A : Type 0} (starts : List Test) (g : Syntax N P A) (lg : Paired g) where
  maybe_first : (o : Option A) (ts us : List (SignificantToken N P)) → (maybe starts g).twins o ts us → (maybe starts g).spells o ts
  maybe_first None ts us t = t.0
  maybe_first (Some a) ts us t = lg.first a ts us t

  maybe_second : (o : Option A) (ts us : List (SignificantToken N P)) → (maybe starts g).twins o ts us → (maybe starts g).spells o us
  maybe_second None ts us t = t.1
  maybe_second (Some a) ts us t = lg.second a ts us t

  maybe_alone : (o : Option A) (ts : List (SignificantToken N P)) → (maybe starts g).spells o ts → (maybe starts g).twins o ts ts
  maybe_alone None ts s = (s, s)
  maybe_alone (Some a) ts s = lg.alone a ts s

  pub maybe_twin : Paired (maybe starts g)
  maybe_twin = record { first = maybe_first; second = maybe_second; alone = maybe_alone }

  many_first : (xs : List A) (ts us : List (SignificantToken N P)) → twins.many g.twins xs ts us → spelling.many g.spells xs ts
  many_first [] ts us t = t.0
  many_first (x ∷ xs) ts us t = (t.0, t.1, t.4, lg.first _ _ _ t.6, many_first xs _ _ t.7)

  many_second : (xs : List A) (ts us : List (SignificantToken N P)) → twins.many g.twins xs ts us → spelling.many g.spells xs us
  many_second [] ts us t = t.1
  many_second (x ∷ xs) ts us t = (t.2, t.3, t.5, lg.second _ _ _ t.6, many_second xs _ _ t.7)

  many_alone : (xs : List A) (ts : List (SignificantToken N P)) → spelling.many g.spells xs ts → twins.many g.twins xs ts ts
  many_alone [] ts s = (s, s)
  many_alone (x ∷ xs) ts s = (s.0, s.1, s.0, s.1, s.2, s.2, lg.alone _ _ s.3, many_alone xs _ s.4)

  pub many_twin : Paired (many starts g)
  many_twin = record { first = many_first; second = many_second; alone = many_alone }

  pub times_twins : (n : ℕ) → Paired (times n g)
  times_twins n = record {
    first = λ xs ts us t. (t.0, many_first xs ts us t.1);
    second = λ xs ts us t. (t.0, many_second xs ts us t.1);
    alone = λ xs ts s. (s.0, many_alone xs ts s.1);
  }

pub paren_twins : {N P A : Type 0} (g : Syntax N P A) → Paired g → Paired (paren g)
paren_twins g lg = record {
  first = λ a ts us t. (t.0, t.2, t.3, t.4, lg.first _ _ _ t.6);
  second = λ a ts us t. (t.1, t.2, t.3, t.5, lg.second _ _ _ t.6);
  alone = λ a ts s. (s.0, s.0, s.1, s.2, s.3, s.3, lg.alone _ _ s.4);
}

pub fenced_twins : {N P A : Type 0} (g : Syntax N P A) → Paired g → Paired (fenced g)
fenced_twins g lg = record {
  first = λ a ts us t. (t.0, t.2, t.3, lg.first _ _ _ t.5);
  second = λ a ts us t. (t.1, t.2, t.4, lg.second _ _ _ t.5);
  alone = λ a ts s. (s.0, s.0, s.1, s.2, s.2, lg.alone _ _ s.3);
}

pub either_twins : {N P A : Type 0} (starts : List Test) (g h : Syntax N P A) → Paired g → Paired h → Paired (either starts g h)
either_twins starts g h lg lh = record {
  first = λ a ts us t. elim t [ inl x ↦ inl (lg.first _ _ _ x) | inr y ↦ inr (lh.first _ _ _ y) ];
  second = λ a ts us t. elim t [ inl x ↦ inl (lg.second _ _ _ x) | inr y ↦ inr (lh.second _ _ _ y) ];
  alone = λ a ts s. elim s [ inl x ↦ inl (lg.alone _ _ x) | inr y ↦ inr (lh.alone _ _ y) ];
}

pub led_twins : {N P A : Type 0} (w : List ℕ) (g : Syntax N P A) → Paired g → Paired (led w g)
led_twins w g lg = seen_twins (λ p. p.1) (seq (word w) g) (seq_twins (word w) g (token_twins (that_one w) (this_word w ∷ [])) lg)

pub group_twins : {N P A : Type 0} (w : List ℕ) (g : Syntax N P A) → Paired g → Paired (group w g)
group_twins w g lg = paren_twins (led w g) (led_twins w g lg)

pub annotation_twins : {N P A : Type 0} (w : List ℕ) (g : Syntax N P A) → Paired g → Paired (annotation w g)
annotation_twins w g lg = paren_twins _ (seen_twins (λ p. p.1) (seq (mark w) g) (seq_twins (mark w) g (token_twins (that_mark w) (On false AMark (This w) ∷ [])) lg))

pub part_twins : {N P A : Type 0} (g : Syntax N P A) → Paired (part g)
part_twins g = record { first = λ a ts us t. t.0; second = λ a ts us t. t.1; alone = λ a ts s. (s, s) }

-- a marked part keeps the laws
pub part_laws : {N P A : Type 0} (g : Syntax N P A) → Lawful g → Lawful (part g)
part_laws g lg = record {
  sound = λ ts x e. (let s = lg.sound ts x e in record { taken = s.taken; parts = s.parts; spelled = s.spelled });
  complete = lg.complete;
  leads = lg.leads;
  whole = lg.whole;
}

-- twins over all tokens are read alike
pub twins_read : {N P A : Type 0} (g : Syntax N P A) → Lawful g → Paired g → any_end g.stops ≡ false → (a : A) (ts us : List (SignificantToken N P)) → g.twins a ts us → g.reads ts ≡ g.reads us
twins_read g lg pg n a ts us t = all_read g lg n ts a (pg.first a ts us t) ∙ sym (all_read g lg n us a (pg.second a ts us t))
