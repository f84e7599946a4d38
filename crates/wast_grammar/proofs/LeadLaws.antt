-- Looks tell where productions begin.
use Rattle.std.proofs.Common.{◌≡◌, ℕ, Bool, true, false, not, List, [], ◌∷◌, ◌++◌, map, Option, Some, None, inl, inr, refl, sym, ◌∙◌, ap, cond, ◌&&◌}
use Rattle.std.proofs.lemmas.Bool.{cases_Bool, and_parts, not-true}
use Rattle.wast_grammar.specs.Tokens.{SignificantToken, Open, Close, Id, Word, Mark, Integer, Float, Text, Reserved, Broken, Literal}
use Rattle.wast_grammar.specs.Spelling as spelling
use Rattle.wast_grammar.specs.Spelling.{Spells, ◌>>=◌, same_text, any_is, find_by, find_but, that_open, that_close}
use Rattle.wast_grammar.specs.Look.{Shape, AnOpen, AClose, AWord, AMark, AnId, AnInteger, AString, Look, seen_as, look, first, under, same, same_shape, is_plain, is_flat, all_flat, Texts, This, OneOf, Any, holds, Test, On, Opening, NotEnd, fits, any_fits, at, any_end, this_word, this_group, join, apart, faults, ask, under_test, unders}
use Rattle.wast_grammar.specs.Grammar.{Syntax, word, words, among, mark, id, integer, string, only, next, seq, led, paren, group}
use Rattle.wast_grammar.proofs.Looks.{absurd_of, shape_is, first_deep, flat_plain, in_join, join_left, join_right, apart_no2, asked, answered, no_end, under_in, heads_same}
use Rattle.wast_grammar.proofs.TokenLaws.{word_laws, among_laws, mark_laws, id_laws, integer_laws, string_laws}
use Rattle.wast_grammar.proofs.GrammarLaws.{Lawful, Leads, under_look, group_before, seq_laws, led_laws}

-- tokens that spell something look so, with something behind them
abbrev pub LooksSpelled : {N P A : Type 0} → Spells N P A → List (SignificantToken N P) → Type 0
LooksSpelled {N} {P} {A} spells ts = (a : A) × (t : SignificantToken N P) × (us rest : List (SignificantToken N P)) × spells a (t ∷ us) × (look (t ∷ us ++ rest) ≡ look ts)

-- FROM A LAW: what is spelled is seen
pub spelled_seen : {N P A : Type 0} (g : Syntax N P A) → Lawful g → apart (faults g.starts) g.starts ≡ true → (a : A) (t : SignificantToken N P) (ts rest : List (SignificantToken N P)) → g.spells a (t ∷ ts) → ask g.starts (t ∷ ts ++ rest) ≡ Some true
spelled_seen g lg sure a t ts rest s = elim (lg.leads a (t ∷ ts) rest s) [
  | inl y ↦ asked g.starts (t ∷ ts ++ rest) true (apart_no2 _ (faults g.starts) g.starts sure y) y
  | inr z ↦ (let e : t ∷ ts ≡ [] = z.1 in absurd (cc))
]

-- ONE TOKEN
-- no token in front is asked for where a parenthesis opens
shallow : {N P X : Type 0} (s : Shape) (t : Texts) (p : P) (ts : List (SignificantToken N P)) → at (On false s t ∷ []) (Open p ∷ ts) ≡ true → X
shallow {X} s t p ts h = no (first true ts) (first_deep true ts) h
  where
    no : (x : Look) → x.deep ≡ true → any_fits (On false s t ∷ []) x ≡ true → X
    no x d h = absurd_of (any_fits (On false s t ∷ []) x) h (ap (λ b. cond (same false b && (same_shape s x.shape && holds t x.text)) true false) d)

opening_asked : (x : Look) → x.deep ≡ true → (any_fits (faults (Opening ∷ [])) x ≡ false) × (any_fits (Opening ∷ []) x ≡ true)
opening_asked x d = (rw d refl, rw d refl)

given : {X : Type 0} (b : Bool) (x : X) → cond b true false ≡ true → cond b (Some x) None ≡ Some x
given true x h = refl
given false x h = cc

as_given : (b : Bool) → cond b true false ≡ true → b ≡ true
as_given true h = refl
as_given false h = cc

-- a word of a set has an entry
found : {E : Type 0} (word : E → List ℕ) (w : List ℕ) (entries : List E) → any_is w (map word entries) ≡ true → (e : E) × (find_by word w entries ≡ Some e)
found word w [] h = absurd (cc)
found word w (e ∷ es) h = elim (cases_Bool (same_text w (word e))) [
  | inl y ↦ (e, ap (λ b. cond b (Some e) (find_by word w es)) y)
  | inr n ↦ (
      let k = found word w es (ap (λ b. cond b true (any_is w (map word es))) (sym n) ∙ h) in
      (k.0, ap (λ b. cond b (Some e) (find_by word w es)) n ∙ k.1))
]

found_but : {E : Type 0} (word : E → List ℕ) (entries : List E) (but : List (List ℕ)) (w : List ℕ) → holds (OneOf (map word entries) but) w ≡ true → (e : E) × (find_but word entries but w ≡ Some e)
found_but word entries but w h =
    let k = and_parts (any_is w (map word entries)) (not (any_is w but)) h in
    let e = found word w entries k.0 in
    (e.0, ap (λ b. cond b None (find_by word w entries)) (not-true (any_is w but) k.1) ∙ e.1)

module _ {N P : Type 0} where
  word_only : (v : List ℕ) (ts : List (SignificantToken N P)) → at (this_word v ∷ []) ts ≡ true → LooksSpelled (word v).spells ts
  word_only v [] h = absurd (cc)
  word_only v (Open p ∷ ts) h = shallow AWord (This v) p ts h
  word_only v (Word w p ∷ ts) h = (p, Word w p, [], [], (Word w p, refl, given (same_text v w) p h), refl)
  word_only v (_ ∷ ts) h = absurd (cc)

  pub word_leads : (v : List ℕ) → Leads (word {N = N} {P = P} v).spells (this_word v ∷ [])
  word_leads v = record { seen = spelled_seen (word v) (word_laws v) refl; only = λ ts h. word_only v ts (answered (this_word v ∷ []) ts true h).1 }

  -- a word that means something, where each that the test lets through does
  words_only : {A : Type 0} (f : List ℕ → Option A) (t : Texts) → ((w : List ℕ) → holds t w ≡ true → (a : A) × (f w ≡ Some a)) → (ts : List (SignificantToken N P)) → at (On false AWord t ∷ []) ts ≡ true → LooksSpelled (words f t).spells ts
  words_only f t means [] h = absurd (cc)
  words_only f t means (Open p ∷ ts) h = shallow AWord t p ts h
  words_only f t means (Word w p ∷ ts) h = (let a = means w (as_given (holds t w) h) in ((a.0, p), Word w p, [], [], (Word w p, refl, ap (λ o. o >>= λ b. Some (b, p)) a.1), refl))
  words_only f t means (_ ∷ ts) h = absurd (cc)

  pub among_leads : {E : Type 0} (word : E → List ℕ) (entries : List E) (but : List (List ℕ)) → Leads (among {N = N} {P = P} word entries but).spells (On false AWord (OneOf (map word entries) but) ∷ [])
  among_leads word entries but = record {
    seen = spelled_seen (among word entries but) (among_laws word entries but) refl;
    only = λ ts h. words_only (find_but word entries but) (OneOf (map word entries) but) (found_but word entries but) ts (answered (On false AWord (OneOf (map word entries) but) ∷ []) ts true h).1;
  }

  mark_only : (v : List ℕ) (ts : List (SignificantToken N P)) → at (On false AMark (This v) ∷ []) ts ≡ true → LooksSpelled (mark v).spells ts
  mark_only v [] h = absurd (cc)
  mark_only v (Open p ∷ ts) h = shallow AMark (This v) p ts h
  mark_only v (Mark w p ∷ ts) h = (p, Mark w p, [], [], (Mark w p, refl, given (same_text v w) p h), refl)
  mark_only v (_ ∷ ts) h = absurd (cc)

  pub mark_leads : (v : List ℕ) → Leads (mark {N = N} {P = P} v).spells (On false AMark (This v) ∷ [])
  mark_leads v = record { seen = spelled_seen (mark v) (mark_laws v) refl; only = λ ts h. mark_only v ts (answered (On false AMark (This v) ∷ []) ts true h).1 }

  -- an identifier, of a type that has names
  id_only : N → (ts : List (SignificantToken N P)) → at (On false AnId Any ∷ []) ts ≡ true → LooksSpelled (id {N = N} {P = P}).spells ts
  id_only n [] h = absurd (cc)
  id_only n (Open p ∷ ts) h = shallow AnId Any p ts h
  id_only n (Id m p ∷ ts) h = ((n, p), Id (Some n) p, [], [], (Id (Some n) p, refl, refl), refl)
  id_only n (_ ∷ ts) h = absurd (cc)

  pub id_leads : N → Leads (id {N = N} {P = P}).spells (On false AnId Any ∷ [])
  id_leads n = record { seen = spelled_seen id id_laws refl; only = λ ts h. id_only n ts (answered (On false AnId Any ∷ []) ts true h).1 }

  -- an integer of a range, of which one is given
  integer_only : (in_range : Literal × P → Bool) (n : Literal) → ((p : P) → in_range (n, p) ≡ true) → (ts : List (SignificantToken N P)) → at (On false AnInteger Any ∷ []) ts ≡ true → LooksSpelled (only {N = N} in_range integer).spells ts
  integer_only in_range n k [] h = absurd (cc)
  integer_only in_range n k (Open p ∷ ts) h = shallow AnInteger Any p ts h
  integer_only in_range n k (Integer m w p ∷ ts) h = ((n, p), Integer n w p, [], [], (k p, (Integer n w p, refl, refl)), refl)
  integer_only in_range n k (_ ∷ ts) h = absurd (cc)

  pub integer_leads : (in_range : Literal × P → Bool) (n : Literal) → ((p : P) → in_range (n, p) ≡ true) → Leads (only {N = N} in_range integer).spells (On false AnInteger Any ∷ [])
  integer_leads in_range n k = record {
    seen = λ a t ts rest s. spelled_seen integer integer_laws refl a t ts rest s.1;
    only = λ ts h. integer_only in_range n k ts (answered (On false AnInteger Any ∷ []) ts true h).1;
  }

  -- a string of a kind, of which one is given
  string_only : (of_kind : List ℕ → Bool) (s : List ℕ) → of_kind s ≡ true → (ts : List (SignificantToken N P)) → at (On false AString Any ∷ []) ts ≡ true → LooksSpelled (only {N = N} {P = P} of_kind string).spells ts
  string_only of_kind s k [] h = absurd (cc)
  string_only of_kind s k (Open p ∷ ts) h = shallow AString Any p ts h
  string_only of_kind s k (Text r p ∷ ts) h = (s, Text s p, [], [], (k, (Text s p, refl, refl)), refl)
  string_only of_kind s k (_ ∷ ts) h = absurd (cc)

  pub string_leads : (of_kind : List ℕ → Bool) (s : List ℕ) → of_kind s ≡ true → Leads (only {N = N} {P = P} of_kind string).spells (On false AString Any ∷ [])
  string_leads of_kind s k = record {
    seen = λ a t ts rest h. spelled_seen string string_laws refl a t ts rest h.1;
    only = λ ts h. string_only of_kind s k ts (answered (On false AString Any ∷ []) ts true h).1;
  }

  -- PARENTHESES by themselves
  open_seen : (p : P) (t : SignificantToken N P) (ts : List (SignificantToken N P)) → that_open t ≡ Some p → ask (Opening ∷ []) (t ∷ ts) ≡ Some true
  open_seen p (Open q) ts e = let k = opening_asked (first true ts) (first_deep true ts) in asked (Opening ∷ []) (Open q ∷ ts) true k.0 k.1
  open_seen p _ ts e = absurd (cc)

  open_only : (ts : List (SignificantToken N P)) → at (Opening ∷ []) ts ≡ true → LooksSpelled (spelling.token that_open) ts
  open_only [] h = absurd (cc)
  open_only (Open p ∷ ts) h = (p, Open p, [], ts, (Open p, refl, refl), refl)
  open_only (_ ∷ ts) h = absurd (cc)

  pub open_leads : Leads (spelling.token (that_open {N = N} {P = P})) (Opening ∷ [])
  open_leads = record {
    seen = λ a t ts rest s. open_seen a t (ts ++ rest) (ap that_open (heads_same s.1) ∙ s.2);
    only = λ ts h. open_only ts (answered (Opening ∷ []) ts true h).1;
  }

  close_seen : (p : P) (t : SignificantToken N P) (ts : List (SignificantToken N P)) → that_close t ≡ Some p → ask (On false AClose Any ∷ []) (t ∷ ts) ≡ Some true
  close_seen p (Close q) ts e = refl
  close_seen p _ ts e = absurd (cc)

  close_only : (ts : List (SignificantToken N P)) → at (On false AClose Any ∷ []) ts ≡ true → LooksSpelled (spelling.token that_close) ts
  close_only [] h = absurd (cc)
  close_only (Open p ∷ ts) h = shallow AClose Any p ts h
  close_only (Close p ∷ ts) h = (p, Close p, [], ts, (Close p, refl, refl), refl)
  close_only (_ ∷ ts) h = absurd (cc)

  pub close_leads : Leads (spelling.token (that_close {N = N} {P = P})) (On false AClose Any ∷ [])
  close_leads = record {
    seen = λ a t ts rest s. close_seen a t (ts ++ rest) (ap that_close (heads_same s.1) ∙ s.2);
    only = λ ts h. close_only ts (answered (On false AClose Any ∷ []) ts true h).1;
  }

-- OTHER VALUES, and one or the other
pub seen_leads : {N P A B : Type 0} (f : A → B) (s : Spells N P A) (tests : List Test) → Leads s tests → Leads (spelling.seen f s) tests
seen_leads f s tests l = record {
  seen = λ b t ts rest h. l.seen h.0 t ts rest h.2;
  only = λ ts h. (let k = l.only ts h in (f k.0, k.1, k.2, k.3, (k.0, refl, k.4), k.5));
}

module _ {N P A : Type 0} (s r : Spells N P A) (tests others : List Test) (ls : Leads s tests) (lr : Leads r others) (sure : apart (faults tests) tests ≡ true) (sure2 : apart (faults others) others ≡ true) (sure3 : apart (faults (join tests others)) (join tests others) ≡ true) where
  seen_by : (ts : List (SignificantToken N P)) → at (join tests others) ts ≡ true → ask (join tests others) ts ≡ Some true
  seen_by ts y = asked (join tests others) ts true (apart_no2 _ (faults (join tests others)) (join tests others) sure3 y) y

  one_only : (ts : List (SignificantToken N P)) → at (join tests others) ts ≡ true → LooksSpelled (spelling.either s r) ts
  one_only ts h = elim (cases_Bool (at tests ts)) [
    | inl y ↦ (let k = ls.only ts (asked tests ts true (apart_no2 _ (faults tests) tests sure y) y) in (k.0, k.1, k.2, k.3, inl k.4, k.5))
    | inr n ↦ (
        let y : at others ts ≡ true = ap (λ b. cond b true (at others ts)) (sym n) ∙ sym (in_join (look ts) tests others) ∙ h in
        let k = lr.only ts (asked others ts true (apart_no2 _ (faults others) others sure2 y) y) in (k.0, k.1, k.2, k.3, inr k.4, k.5))
  ]

  pub either_leads : Leads (spelling.either s r) (join tests others)
  either_leads = record {
    seen = λ a t ts rest h. elim h [
      | inl x ↦ seen_by (t ∷ ts ++ rest) (join_left (look (t ∷ ts ++ rest)) tests others (answered tests (t ∷ ts ++ rest) true (ls.seen a t ts rest x)).1)
      | inr y ↦ seen_by (t ∷ ts ++ rest) (join_right (look (t ∷ ts ++ rest)) tests others (answered others (t ∷ ts ++ rest) true (lr.seen a t ts rest y)).1)
    ];
    only = λ ts h. one_only ts (answered (join tests others) ts true h).1;
  }

-- ONE AFTER THE OTHER
-- a token in front that is no parenthesis looks alike whatever follows
front_look : {N P : Type 0} (t : SignificantToken N P) (us vs : List (SignificantToken N P)) → (look (t ∷ us)).deep ≡ false → look (t ∷ us) ≡ look (t ∷ vs)
front_look (Open p) us vs d = absurd_of true refl (sym (first_deep true us) ∙ d)
front_look (Close p) us vs d = refl
front_look (Id n p) us vs d = refl
front_look (Word w p) us vs d = refl
front_look (Mark w p) us vs d = refl
front_look (Integer n w p) us vs d = refl
front_look (Float w p) us vs d = refl
front_look (Text s p) us vs d = refl
front_look (Reserved w p) us vs d = refl
front_look Broken us vs d = refl

-- one before others, of which some spelling is given
pub next_leads : {N P A B : Type 0} (g : Syntax N P A) (h : A → Syntax N P B) (starts : List Test) (empty : Bool) (stops : List Test) (tests : List Test) → Lawful (next g h starts empty stops) → (next g h starts empty stops).starts ≡ tests → Leads g.spells tests → all_flat tests ≡ true → apart (faults tests) tests ≡ true → ((a : A) → (b : B) × (us : List (SignificantToken N P)) × (h a).spells b us) → Leads (next g h starts empty stops).spells tests
next_leads {N} {P} {A} {B} g h starts empty stops tests ln begins l flat sure more = record {
  seen = λ a t ts rest s. elim (ln.leads a (t ∷ ts) rest s) [
    | inl y ↦ next_seen (t ∷ ts ++ rest) (ap (λ v. at v (t ∷ ts ++ rest)) (sym begins) ∙ y)
    | inr z ↦ (let e : t ∷ ts ≡ [] = z.1 in absurd (cc))
  ];
  only = next_only;
}
  where
    next_seen : (ts : List (SignificantToken N P)) → at tests ts ≡ true → ask tests ts ≡ Some true
    next_seen ts y = asked tests ts true (apart_no2 _ (faults tests) tests sure y) y

    next_only : (ts : List (SignificantToken N P)) → ask tests ts ≡ Some true → LooksSpelled (next g h starts empty stops).spells ts
    next_only ts y =
        let k = l.only ts y in
        let s = more k.0 in
        let shallow_front : (look (k.1 ∷ k.2 ++ k.3)).deep ≡ false = ap (λ x. x.deep) k.5 ∙ (flat_plain tests (look ts) flat (answered tests ts true y).1).0 in (
          (k.0, s.0),
          k.1,
          k.2 ++ s.1,
          [],
          (k.1 ∷ k.2, s.1, refl, k.4, s.2),
          sym (front_look k.1 (k.2 ++ k.3) ((k.2 ++ s.1) ++ []) shallow_front) ∙ k.5,
        )

-- a word before others
pub headed_leads : {N P A : Type 0} (w : List ℕ) (g : Syntax N P A) → Lawful g → (a : A) (us : List (SignificantToken N P)) → g.spells a us → Leads (seq (word w) g).spells (this_word w ∷ [])
headed_leads w g lg a us s = next_leads (word w) (λ _. g) g.starts g.empty g.stops (this_word w ∷ []) (seq_laws (word w) g (word_laws w) lg refl) refl (word_leads w) refl refl (λ _. (a, us, s))

pub led_leads : {N P A : Type 0} (w : List ℕ) (g : Syntax N P A) → Lawful g → (a : A) (us : List (SignificantToken N P)) → g.spells a us → Leads (led w g).spells (this_word w ∷ [])
led_leads w g lg a us s = seen_leads (λ p. p.1) (seq (word w) g).spells (this_word w ∷ []) (headed_leads w g lg a us s)

-- GROUPS
-- from what is asked behind a parenthesis to what is asked in front
from_under : (s : Shape) (t : Texts) (x : Look) → is_plain s ≡ true → fits (On true s t) (under x) ≡ true → fits (On false s t) x ≡ true
from_under s t x plain h = elim (cases_Bool x.deep) [
  | inl y ↦ (
      let k : (same_shape s AnOpen && holds t []) ≡ true = ap (λ v. fits (On true s t) (cond v (seen_as true AnOpen []) (seen_as true x.shape x.text))) (sym y) ∙ h in
      let e : s ≡ AnOpen = shape_is s AnOpen (and_parts (same_shape s AnOpen) (holds t []) k).0 in
      let q : false ≡ true = ap is_plain (sym e) ∙ plain in cc)
  | inr n ↦ (
      let k : (same_shape s x.shape && holds t x.text) ≡ true = ap (λ v. fits (On true s t) (cond v (seen_as true AnOpen []) (seen_as true x.shape x.text))) (sym n) ∙ h in
      ap (λ d. same false d && (same_shape s x.shape && holds t x.text)) n ∙ k)
]

unders_deep : (tests : List Test) (x : Look) → all_flat tests ≡ true → any_fits (unders tests) x ≡ true → x.deep ≡ true
unders_deep [] x f h = cc
unders_deep (t ∷ tests) x f h =
    let k = and_parts (is_flat t) (all_flat tests) f in
    elim (cases_Bool (fits (under_test t) x)) [
      | inl y ↦ one t k.0 y
      | inr n ↦ unders_deep tests x k.1 (ap (λ v. cond v true (any_fits (unders tests) x)) (sym n) ∙ h)
    ]
  where
    one : (t : Test) → is_flat t ≡ true → fits (under_test t) x ≡ true → x.deep ≡ true
    one (On true s t) f y = cc
    one (On false s t) f y = (and_parts x.deep (same_shape s x.shape && holds t x.text) y).0
    one Opening f y = cc
    one NotEnd f y = cc

unders_plain : (tests : List Test) (x : Look) → all_flat tests ≡ true → any_fits (unders tests) (under x) ≡ true → any_fits tests x ≡ true
unders_plain [] x f h = cc
unders_plain (t ∷ tests) x f h =
    let k = and_parts (is_flat t) (all_flat tests) f in
    elim (cases_Bool (fits (under_test t) (under x))) [
      | inl y ↦ ap (λ v. cond v true (any_fits tests x)) (one t k.0 y)
      | inr n ↦ join_right x (t ∷ []) tests (unders_plain tests x k.1 (ap (λ v. cond v true (any_fits (unders tests) (under x))) (sym n) ∙ h))
    ]
  where
    one : (t : Test) → is_flat t ≡ true → fits (under_test t) (under x) ≡ true → fits t x ≡ true
    one (On true s t) f y = cc
    one (On false s t) f y = from_under s t x f y
    one Opening f y = cc
    one NotEnd f y = cc

module _ {N P A : Type 0} (g : Syntax N P A) (lg : Lawful g) (tests : List Test) (l : Leads g.spells tests) (full : g.empty ≡ false) (none : any_end g.starts ≡ false) (flat : all_flat tests ≡ true) (sure : apart (faults tests) tests ≡ true) (sure2 : apart (faults (unders tests)) (unders tests) ≡ true) where
  not_empty : (a : A) → g.spells a [] → ⊥
  not_empty a s = elim (lg.leads a [] [] s) [ inl y ↦ absurd_of _ y (no_end g.starts none).0 | inr z ↦ absurd_of _ z.0 full ]

  paren_front : (a : A) (p q : P) (us rest : List (SignificantToken N P)) → g.spells a us → at (unders tests) ((Open p ∷ us ++ Close q ∷ []) ++ rest) ≡ true
  paren_front a p q [] rest s = absurd (not_empty a s)
  paren_front a p q (u ∷ us) rest s =
      let inside = u ∷ us ++ (Close q ∷ rest) in
      ap (at (unders tests)) (group_before p q (u ∷ us) rest)
      ∙ ap (any_fits (unders tests)) (under_look p inside)
      ∙ under_in (look inside) tests (answered tests inside true (l.seen a u us (Close q ∷ rest) s)).1

  not_open : {X : Type 0} (ts : List (SignificantToken N P)) → (look ts).deep ≡ false → at (unders tests) ts ≡ true → X
  not_open ts d h = absurd_of (look ts).deep (unders_deep tests (look ts) flat h) d

  paren_only : (ts : List (SignificantToken N P)) → at (unders tests) ts ≡ true → LooksSpelled (paren g).spells ts
  paren_only [] h = not_open [] refl h
  paren_only (Open p ∷ ts) h =
      let y : at tests ts ≡ true = unders_plain tests (look ts) flat (ap (any_fits (unders tests)) (sym (under_look p ts)) ∙ h) in
      let k = l.only ts (asked tests ts true (apart_no2 _ (faults tests) tests sure y) y) in
      let inside = (k.2 ++ Close p ∷ []) ++ [] in
      let shallow_front : (look (k.1 ∷ k.2 ++ k.3)).deep ≡ false = ap (λ x. x.deep) k.5 ∙ (flat_plain tests (look ts) flat y).0 in (
        k.0,
        Open p,
        k.1 ∷ k.2 ++ Close p ∷ [],
        [],
        (k.1 ∷ k.2, p, p, refl, k.4),
        under_look p (k.1 ∷ inside) ∙ ap under (sym (front_look k.1 (k.2 ++ k.3) inside shallow_front) ∙ k.5) ∙ sym (under_look p ts),
      )
  paren_only (t ∷ ts) h = not_open (t ∷ ts) refl h

  pub paren_leads : Leads (paren g).spells (unders tests)
  paren_leads = record {
    seen = λ a t ts rest s. (
        let y = ap (λ z. at (unders tests) (z ++ rest)) s.3 ∙ paren_front a s.1 s.2 s.0 rest s.4 in
        asked (unders tests) (t ∷ ts ++ rest) true (apart_no2 _ (faults (unders tests)) (unders tests) sure2 y) y);
    only = λ ts h. paren_only ts (answered (unders tests) ts true h).1;
  }

pub group_leads : {N P A : Type 0} (w : List ℕ) (g : Syntax N P A) → Lawful g → (a : A) (us : List (SignificantToken N P)) → g.spells a us → Leads (group w g).spells (this_group w ∷ [])
group_leads w g lg a us s = paren_leads (led w g) (led_laws w g lg) (this_word w ∷ []) (led_leads w g lg a us s) refl refl refl refl refl
