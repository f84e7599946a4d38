-- The laws of productions that would go on with what stands behind them.
use Rattle.std.proofs.Common.{◌≡◌, ℕ, zero, suc, ◌≤◌, ◌<◌, ◌+◌, Bool, true, false, List, [], ◌∷◌, ◌++◌, length, Some, None, ◌⊎◌, inl, inr, refl, sym, ◌∙◌, ap, subst, arith, append_assoc, cond, not, length-append, append-nil}
use Rattle.std.proofs.lemmas.Bool.{cases_Bool}
use Rattle.std.proofs.lemmas.Option.{same_Some, cond_some}
use Rattle.wast_grammar.specs.Tokens.{SignificantToken, Open, Close, Id, Word, Mark, Integer, Float, Text, Reserved, Broken, is_whole}
use Rattle.wast_grammar.specs.Spelling.{◌>>=◌}
use Rattle.wast_grammar.specs.Look.{AnEnd, Look, seen_as, first, look, ends, the_end, the_close, Test, NotEnd, any_fits, at, any_end, apart, join, faults, ask}
use Rattle.wast_grammar.specs.Grammar.{Syntax, seq, seen, only, either, many_reads}
use Rattle.wast_grammar.specs.Behind.{next_but, row, row_spells, row_twins}
use Rattle.wast_grammar.proofs.Looks.{bind_ok, absurd_of, join_no, join_left, join_right, apart_no2, asked, no_end, within, first_deep}
use Rattle.wast_grammar.proofs.GrammarLaws.{Lawful, LawfulBut, Takes, parts_of}
use Rattle.wast_grammar.proofs.TokenLaws.{takes_as, takes_so, whole_parts}
use Rattle.wast_grammar.proofs.Twins.{Paired}

pub but_of : {N P A : Type 0} (g : Syntax N P A) → Lawful g → LawfulBut g (λ _. [])
but_of g lg = record { sound = lg.sound; settled = λ ts x e. refl; complete = λ a us rest s n m. lg.complete a us rest s n; leads = lg.leads; whole = lg.whole }

pub seen_but : {N P A B : Type 0} (f : A → B) (own : B → List Test) (g : Syntax N P A) → LawfulBut g (λ a. own (f a)) → LawfulBut (seen f g) own
seen_but {N} {P} f own g lg = record {
  sound = λ ts x e. (
      let b = bind_ok (g.reads ts) _ _ e in
      let s = lg.sound ts b.0 b.1 in
      takes_as (f b.0.0, b.0.1) x b.2 (record { taken = s.taken; parts = s.parts; spelled = (b.0.0, refl, s.spelled) }));
  settled = λ ts x e. (
      let b = bind_ok (g.reads ts) _ _ e in
      subst (λ (y : _ × List (SignificantToken N P)). at (own y.0) y.1 ≡ false) (same_Some _ _ b.2) (lg.settled ts b.0 b.1));
  complete = λ a us rest s n m. rw (lg.complete s.0 us rest s.2 n (subst (λ z. at (own z) rest ≡ false) (sym s.1) m)) (ap (λ v. Some (v, rest)) s.1);
  leads = λ a us rest s. lg.leads s.0 us rest s.2;
  whole = λ a us s. lg.whole s.0 us s.2;
}

pub only_but : {N P A : Type 0} (p : A → Bool) (own : A → List Test) (g : Syntax N P A) → LawfulBut g own → LawfulBut (only p g) own
only_but {N} {P} {A} p own g lg = record {
  sound = λ ts x e. (
      let b = bind_ok (g.reads ts) _ _ e in
      let h = cond_some (p b.0.0) b.0 x b.2 in
      let s = lg.sound ts b.0 b.1 in
      takes_so b.0 x h.1 (record { taken = s.taken; parts = s.parts; spelled = (h.0, s.spelled) }));
  settled = λ ts x e. (
      let b = bind_ok (g.reads ts) _ _ e in
      let h = cond_some (p b.0.0) b.0 x b.2 in
      subst (λ (y : A × List (SignificantToken N P)). at (own y.0) y.1 ≡ false) h.1 (lg.settled ts b.0 b.1));
  complete = λ a us rest s n m. rw (lg.complete a us rest s.1 n m, s.0) refl;
  leads = λ a us rest s. lg.leads a us rest s.1;
  whole = λ a us s. lg.whole a us s.1;
}

-- where the second of two goes on
module _ {N P A B : Type 0} (g : Syntax N P A) (h : Syntax N P B) (own : B → List Test) (lg : Lawful g) (lh : LawfulBut h own) (full : h.empty ≡ false) (d : apart g.stops h.starts ≡ true) where
  second_begins : (b : B) (vs rest : List (SignificantToken N P)) → h.spells b vs → at h.starts (vs ++ rest) ≡ true
  second_begins b vs rest s = elim (lh.leads b vs rest s) [ inl y ↦ y | inr z ↦ absurd_of h.empty z.0 full ]

  pub seq_but : LawfulBut (seq g h) (λ p. own p.1)
  seq_but = record {
    sound = λ ts x e. (
        let b = bind_ok (g.reads ts) _ _ e in
        let c = bind_ok (h.reads b.0.1) _ _ b.2 in
        let s = lg.sound ts b.0 b.1 in
        let t = lh.sound b.0.1 c.0 c.1 in
        takes_as ((b.0.0, c.0.0), c.0.1) x c.2 (record {
          taken = s.taken ++ t.taken;
          parts = parts_of s.taken t.taken c.0.1 s.parts t.parts;
          spelled = (s.taken, t.taken, refl {a = s.taken ++ t.taken}, s.spelled, t.spelled);
        }));
    settled = λ ts x e. (
        let b = bind_ok (g.reads ts) _ _ e in
        let c = bind_ok (h.reads b.0.1) _ _ b.2 in
        subst (λ (y : (A × B) × List (SignificantToken N P)). at (own y.0.1) y.1 ≡ false) (same_Some _ _ c.2) (lh.settled b.0.1 c.0 c.1));
    complete = λ p us rest s n m. (
        let e : us ++ rest ≡ s.0 ++ (s.1 ++ rest) = ap (λ w. w ++ rest) s.2 ∙ append_assoc s.0 s.1 rest in
        let f = lg.complete p.0 s.0 (s.1 ++ rest) s.3 (apart_no2 _ g.stops h.starts d (second_begins p.1 s.1 rest s.4)) in
        let k = lh.complete p.1 s.1 rest s.4 (join_no (look rest) h.stops (cond h.empty g.stops []) n).0 m in
        rw (e, f, k) refl);
    leads = λ p us rest s. (
        let e : us ++ rest ≡ s.0 ++ (s.1 ++ rest) = ap (λ w. w ++ rest) s.2 ∙ append_assoc s.0 s.1 rest in
        let b = second_begins p.1 s.1 rest s.4 in
        elim (lg.leads p.0 s.0 (s.1 ++ rest) s.3) [
          | inl y ↦ inl (join_left (look (us ++ rest)) g.starts (cond g.empty h.starts []) (subst (λ w. at g.starts w ≡ true) (sym e) y))
          | inr z ↦ inl (join_right (look (us ++ rest)) g.starts (cond g.empty h.starts []) (rw (e, z.0, z.1) b))
        ]);
    whole = λ p us s. whole_parts us s.0 s.1 s.2 (lg.whole p.0 s.0 s.3) (lh.whole p.1 s.1 s.4);
  }

-- the first where it begins, else the second
module _ {N P A : Type 0} (starts : List Test) (g h : Syntax N P A) (own : A → List Test) (lg : LawfulBut g own) (lh : LawfulBut h own) (same : starts ≡ g.starts) (full : g.empty ≡ false) (full2 : h.empty ≡ false) (sure : apart (faults starts) starts ≡ true) (d : apart (join (faults starts) starts) h.starts ≡ true) where
  first_begins : (a : A) (us rest : List (SignificantToken N P)) → g.spells a us → at starts (us ++ rest) ≡ true
  first_begins a us rest s = elim (lg.leads a us rest s) [ inl y ↦ ap (λ v. any_fits v (look (us ++ rest))) same ∙ y | inr z ↦ absurd_of g.empty z.0 full ]

  ask_first : (a : A) (us rest : List (SignificantToken N P)) → g.spells a us → ask starts (us ++ rest) ≡ Some true
  ask_first a us rest s = let y = first_begins a us rest s in asked starts (us ++ rest) true (apart_no2 _ (faults starts) starts sure y) y

  other_begins : (a : A) (us rest : List (SignificantToken N P)) → h.spells a us → at h.starts (us ++ rest) ≡ true
  other_begins a us rest s = elim (lh.leads a us rest s) [ inl y ↦ y | inr z ↦ absurd_of h.empty z.0 full2 ]

  ask_other : (a : A) (us rest : List (SignificantToken N P)) → h.spells a us → ask starts (us ++ rest) ≡ Some false
  ask_other a us rest s =
      let n = apart_no2 _ (join (faults starts) starts) h.starts d (other_begins a us rest s) in
      let k = join_no (look (us ++ rest)) (faults starts) starts n in
      asked starts (us ++ rest) false k.0 k.1

  pub either_but : LawfulBut (either starts g h) own
  either_but = record {
    sound = λ ts x e. (
        let q = bind_ok (ask starts ts) _ _ e in
        elim (cases_Bool q.0) [
          | inl y ↦ (let s = lg.sound ts x (rw y at q.2) in record { taken = s.taken; parts = s.parts; spelled = inl s.spelled })
          | inr n ↦ (let s = lh.sound ts x (rw n at q.2) in record { taken = s.taken; parts = s.parts; spelled = inr s.spelled })
        ]);
    settled = λ ts x e. (
        let q = bind_ok (ask starts ts) _ _ e in
        elim (cases_Bool q.0) [
          | inl y ↦ lg.settled ts x (rw y at q.2)
          | inr n ↦ lh.settled ts x (rw n at q.2)
        ]);
    complete = λ a us rest s n m. (
        let k = (join_no (look rest) (join g.stops h.stops) (cond h.empty (join (faults starts) starts) []) n).0 in
        let j = join_no (look rest) g.stops h.stops k in
        elim s [
          | inl p ↦ rw (ask_first a us rest p) (lg.complete a us rest p j.0 m)
          | inr q ↦ rw (ask_other a us rest q) (lh.complete a us rest q j.1 m)
        ]);
    leads = λ a us rest s. elim s [
      | inl p ↦ elim (lg.leads a us rest p) [ inl y ↦ inl (join_left (look (us ++ rest)) g.starts h.starts y) | inr z ↦ absurd_of g.empty z.0 full ]
      | inr q ↦ inl (join_right (look (us ++ rest)) g.starts h.starts (other_begins a us rest q))
    ];
    whole = λ a us s. elim s [ inl p ↦ lg.whole a us p | inr q ↦ lh.whole a us q ];
  }

-- ENDS
pub opens_on : {N P : Type 0} (p : P) (rest : List (SignificantToken N P)) → at (NotEnd ∷ []) (Open p ∷ rest) ≡ true
opens_on p rest = ap (λ d. cond (not (ends d (first true rest).shape)) true false) (first_deep true rest)

pub look_end : {N P : Type 0} (rest : List (SignificantToken N P)) → at (NotEnd ∷ []) rest ≡ false → (look rest ≡ the_end) ⊎ (look rest ≡ the_close)
look_end [] n = inl refl
look_end (Close p ∷ rest) n = inr refl
look_end (Open p ∷ rest) n = absurd_of true refl (sym (opens_on p rest) ∙ n)
look_end (Id m q ∷ ts) n = cc
look_end (Word w q ∷ ts) n = cc
look_end (Mark w q ∷ ts) n = cc
look_end (Integer m w q ∷ ts) n = cc
look_end (Float w q ∷ ts) n = cc
look_end (Text s q ∷ ts) n = cc
look_end (Reserved w q ∷ ts) n = cc
look_end (Broken ∷ ts) n = cc

-- what no end fits
pub none_at : {N P : Type 0} (tests : List Test) (rest : List (SignificantToken N P)) → any_end tests ≡ false → at (NotEnd ∷ []) rest ≡ false → at tests rest ≡ false
none_at tests rest e n =
    let k = no_end tests e in
    elim (look_end rest n) [ inl y ↦ ap (any_fits tests) y ∙ k.0 | inr y ↦ ap (any_fits tests) y ∙ k.1 ]

-- What begins so looks alike whatever follows, where no test asks for a parenthesis before nothing.
abbrev pub a_fence : Look
a_fence = seen_as true AnEnd []

stays : {N P : Type 0} (starts : List Test) (vs rest : List (SignificantToken N P)) → any_fits starts a_fence ≡ false → at starts vs ≡ true → (vs ≡ []) ⊎ (look (vs ++ rest) ≡ look vs)
stays starts [] rest n h = inl refl
stays starts (Open p ∷ []) rest n h = absurd_of _ h n
stays starts (Open p ∷ Open q ∷ us) rest n h = inr refl
stays starts (Open p ∷ Close q ∷ us) rest n h = inr refl
stays starts (Open p ∷ Id m q ∷ us) rest n h = inr refl
stays starts (Open p ∷ Word w q ∷ us) rest n h = inr refl
stays starts (Open p ∷ Mark w q ∷ us) rest n h = inr refl
stays starts (Open p ∷ Integer m w q ∷ us) rest n h = inr refl
stays starts (Open p ∷ Float w q ∷ us) rest n h = inr refl
stays starts (Open p ∷ Text s q ∷ us) rest n h = inr refl
stays starts (Open p ∷ Reserved w q ∷ us) rest n h = inr refl
stays starts (Open p ∷ Broken ∷ us) rest n h = inr refl
stays starts (Close q ∷ us) rest n h = inr refl
stays starts (Id m q ∷ us) rest n h = inr refl
stays starts (Word w q ∷ us) rest n h = inr refl
stays starts (Mark w q ∷ us) rest n h = inr refl
stays starts (Integer m w q ∷ us) rest n h = inr refl
stays starts (Float w q ∷ us) rest n h = inr refl
stays starts (Text s q ∷ us) rest n h = inr refl
stays starts (Reserved w q ∷ us) rest n h = inr refl
stays starts (Broken ∷ us) rest n h = inr refl

-- nothing, or what looks alike whatever follows
abbrev pub Steady : {N P : Type 0} → List (SignificantToken N P) → Type 0
Steady {N} {P} vs = (vs ≡ []) ⊎ ((rest : List (SignificantToken N P)) → look (vs ++ rest) ≡ look vs)

pub steady : {N P : Type 0} (starts : List Test) (vs : List (SignificantToken N P)) → any_fits starts a_fence ≡ false → at starts vs ≡ true → Steady vs
steady starts [] n h = inl refl
steady starts (v ∷ vs) n h = inr (λ rest. elim (stays starts (v ∷ vs) rest n h) [ inl e ↦ absurd cc | inr e ↦ e ])

steady_of : {N P A : Type 0} (g : Syntax N P A) → Lawful g → (starts : List Test) → within g.starts starts → any_fits starts a_fence ≡ false → (a : A) (vs : List (SignificantToken N P)) → g.spells a vs → Steady vs
steady_of g lg starts w n a vs s = elim (lg.leads a vs [] s) [
  | inl y ↦ steady starts vs n (ap (λ z. at starts z) (sym (append-nil vs)) ∙ w _ y)
  | inr z ↦ inl z.1
]

-- a test on what follows, before and behind its end
pub shorten : {N P : Type 0} (tests : List Test) (vs rest : List (SignificantToken N P)) → any_end tests ≡ false → Steady vs → at tests (vs ++ rest) ≡ false → at tests vs ≡ false
shorten tests vs rest e s h = elim s [
  | inl y ↦ ap (λ z. at tests z) y ∙ (no_end tests e).0
  | inr f ↦ ap (λ z. any_fits tests z) (sym (f rest)) ∙ h
]

pub lengthen : {N P : Type 0} (tests : List Test) (vs rest : List (SignificantToken N P)) → any_end tests ≡ false → at (NotEnd ∷ []) rest ≡ false → Steady vs → at tests vs ≡ false → at tests (vs ++ rest) ≡ false
lengthen tests vs rest e n s h = elim s [
  | inl y ↦ ap (λ z. at tests (z ++ rest)) y ∙ none_at tests rest e n
  | inr f ↦ ap (λ z. any_fits tests z) (f rest) ∙ h
]

-- the same of the parts of what follows
as_parts : {N P : Type 0} (tests : List Test) (ts us : List (SignificantToken N P)) → ts ≡ us → at tests ts ≡ false → at tests us ≡ false
as_parts tests ts us e n = ap (at tests) (sym e) ∙ n

-- what may stand second
pub record Second {N P A : Type 0} (g : Syntax N P A) (starts : List Test) : Type 0 where
  pub laws : Lawful g
  pub open_ended : any_end g.stops ≡ false
  pub begins : within g.starts starts

-- one after the other
module _ {N P A B : Type 0} (g : Syntax N P A) (own : A → List Test) (h : A → Syntax N P B) (starts : List Test) (lg : LawfulBut g own) (lh : (a : A) → Second (h a) starts) (full : g.empty ≡ false) (open_ended : any_end g.stops ≡ false) (own_ended : (a : A) → any_end (own a) ≡ false) (solid : any_fits starts a_fence ≡ false) (d : apart g.stops starts ≡ true) where
  behind : (a : A) (b : B) (vs : List (SignificantToken N P)) → (h a).spells b vs → Steady vs
  behind a b vs s = steady_of (h a) (lh a).laws starts (lh a).begins solid b vs s

  pub next_but_laws : Lawful (next_but g own h starts)
  next_but_laws = record {
    sound = λ ts x e. (
        let b = bind_ok (g.reads ts) _ _ e in
        let c = bind_ok ((h b.0.0).reads b.0.1) _ _ b.2 in
        let s = lg.sound ts b.0 b.1 in
        let t = (lh b.0.0).laws.sound b.0.1 c.0 c.1 in
        let o = shorten (own b.0.0) t.taken c.0.1 (own_ended b.0.0) (behind b.0.0 c.0.0 t.taken t.spelled) (as_parts (own b.0.0) b.0.1 (t.taken ++ c.0.1) t.parts (lg.settled ts b.0 b.1)) in
        takes_as ((b.0.0, c.0.0), c.0.1) x c.2 (record {
          taken = s.taken ++ t.taken;
          parts = parts_of s.taken t.taken c.0.1 s.parts t.parts;
          spelled = (s.taken, t.taken, refl {a = s.taken ++ t.taken}, s.spelled, t.spelled, o);
        }));
    complete = λ p us rest s n. (
        let v = s.1 in
        let e : us ++ rest ≡ s.0 ++ (v ++ rest) = ap (λ w. w ++ rest) s.2 ∙ append_assoc s.0 v rest in
        let free : at g.stops (v ++ rest) ≡ false = elim ((lh p.0).laws.leads p.1 v rest s.4) [
          | inl y ↦ apart_no2 _ g.stops starts d ((lh p.0).begins _ y)
          | inr z ↦ ap (λ w. at g.stops (w ++ rest)) z.1 ∙ none_at g.stops rest open_ended n
        ] in
        let f = lg.complete p.0 s.0 (v ++ rest) s.3 free (lengthen (own p.0) v rest (own_ended p.0) n (behind p.0 p.1 v s.4) s.5) in
        let k = (lh p.0).laws.complete p.1 v rest s.4 (none_at (h p.0).stops rest (lh p.0).open_ended n) in
        rw (e, f, k) refl);
    leads = λ p us rest s. (
        let e : us ++ rest ≡ s.0 ++ (s.1 ++ rest) = ap (λ w. w ++ rest) s.2 ∙ append_assoc s.0 s.1 rest in
        elim (lg.leads p.0 s.0 (s.1 ++ rest) s.3) [
          | inl y ↦ inl (subst (λ w. at g.starts w ≡ true) (sym e) y)
          | inr z ↦ absurd_of g.empty z.0 full
        ]);
    whole = λ p us s. whole_parts us s.0 s.1 s.2 (lg.whole p.0 s.0 s.3) ((lh p.0).laws.whole p.1 s.1 s.4);
  }

-- as often as it begins, up to an end
module _ {N P A : Type 0} (starts : List Test) (g : Syntax N P A) (own : A → List Test) (lg : LawfulBut g own) (same : starts ≡ g.starts) (full : g.empty ≡ false) (sure : apart (faults starts) starts ≡ true) (none : any_end starts ≡ false) (fine : any_end (faults starts) ≡ false) (solid : any_fits starts a_fence ≡ false) (d : apart g.stops starts ≡ true) (open_ended : any_end g.stops ≡ false) (own_ended : (a : A) → any_end (own a) ≡ false) where
  row_begins : (a : A) (us rest : List (SignificantToken N P)) → g.spells a us → at starts (us ++ rest) ≡ true
  row_begins a us rest s = elim (lg.leads a us rest s) [ inl y ↦ ap (λ v. any_fits v (look (us ++ rest))) same ∙ y | inr z ↦ absurd_of g.empty z.0 full ]

  ask_row : (a : A) (us rest : List (SignificantToken N P)) → g.spells a us → ask starts (us ++ rest) ≡ Some true
  ask_row a us rest s = let y = row_begins a us rest s in asked starts (us ++ rest) true (apart_no2 _ (faults starts) starts sure y) y

  ask_end : (rest : List (SignificantToken N P)) → at (NotEnd ∷ []) rest ≡ false → ask starts rest ≡ Some false
  ask_end rest n = asked starts rest false (none_at (faults starts) rest fine n) (none_at starts rest none n)

  row_steady : (xs : List A) (vs : List (SignificantToken N P)) → row_spells g.spells own xs vs → Steady vs
  row_steady [] vs s = inl s
  row_steady (x ∷ xs) vs s = steady starts vs solid (rw s.2 (row_begins x s.0 s.1 s.3))

  row_takes : (n : ℕ) (ts : List (SignificantToken N P)) (x : List A × List (SignificantToken N P)) → many_reads starts g.reads n ts ≡ Some x → Takes (row starts g own) x.0 ts x.1
  row_takes zero ts x e =
      let q = bind_ok (ask starts ts) _ x e in
      elim (cases_Bool q.0) [
        | inl y ↦ (let r : None ≡ Some x = rw y at q.2 in cc)
        | inr z ↦ no_items ts x (rw z at q.2)
      ]
    where
      no_items : (ts : List (SignificantToken N P)) (x : List A × List (SignificantToken N P)) → Some ([], ts) ≡ Some x → Takes (row starts g own) x.0 ts x.1
      no_items ts x q = takes_as ([], ts) x q (record { taken = []; parts = refl; spelled = refl })
  row_takes (suc n) ts x e =
      let q = bind_ok (ask starts ts) _ x e in
      elim (cases_Bool q.0) [
        | inl y ↦ (
            let b = bind_ok (g.reads ts) (λ a. many_reads starts g.reads n a.1 >>= λ rest. Some (a.0 ∷ rest.0, rest.1)) x (rw y at q.2) in
            let c = bind_ok (many_reads starts g.reads n b.0.1) _ _ b.2 in
            let s = lg.sound ts b.0 b.1 in
            let t = row_takes n b.0.1 c.0 c.1 in
            let o = shorten (own b.0.0) t.taken c.0.1 (own_ended b.0.0) (row_steady c.0.0 t.taken t.spelled) (as_parts (own b.0.0) b.0.1 (t.taken ++ c.0.1) t.parts (lg.settled ts b.0 b.1)) in
            takes_as (b.0.0 ∷ c.0.0, c.0.1) x c.2 (record {
              taken = s.taken ++ t.taken;
              parts = parts_of s.taken t.taken c.0.1 s.parts t.parts;
              spelled = (s.taken, t.taken, refl {a = s.taken ++ t.taken}, s.spelled, t.spelled, o);
            }))
        | inr z ↦ (let f : Some ([], ts) ≡ Some x = rw z at q.2 in takes_as ([], ts) x f (record { taken = []; parts = refl; spelled = refl }))
      ]

  row_takes_some : (a : A) (us : List (SignificantToken N P)) → g.spells a us → 0 < length us
  row_takes_some a [] s = absurd_of _ (row_begins a [] [] s) (no_end starts none).0
  row_takes_some a (t ∷ us) s = omega arith

  row_after : (more : List A) (vs rest : List (SignificantToken N P)) → row_spells g.spells own more vs → at (NotEnd ∷ []) rest ≡ false → at g.stops (vs ++ rest) ≡ false
  row_after [] vs rest s n = rw s (none_at g.stops rest open_ended n)
  row_after (a ∷ more) vs rest s n =
      let e : vs ++ rest ≡ s.0 ++ (s.1 ++ rest) = ap (λ w. w ++ rest) s.2 ∙ append_assoc s.0 s.1 rest in
      rw e (apart_no2 _ g.stops starts d (row_begins a s.0 (s.1 ++ rest) s.3))

  row_complete : (n : ℕ) (xs : List A) (us rest : List (SignificantToken N P)) → row_spells g.spells own xs us → at (NotEnd ∷ []) rest ≡ false → length (us ++ rest) ≤ n → many_reads starts g.reads n (us ++ rest) ≡ Some (xs, rest)
  row_complete zero [] us rest s n b = rw (s, ask_end rest n) refl
  row_complete zero (a ∷ more) us rest s n b =
      let e : us ++ rest ≡ s.0 ++ (s.1 ++ rest) = ap (λ w. w ++ rest) s.2 ∙ append_assoc s.0 s.1 rest in
      let p = row_takes_some a s.0 s.3 in
      let l : length (us ++ rest) ≡ length s.0 + length (s.1 ++ rest) = ap length e ∙ length-append s.0 (s.1 ++ rest) in
      let no : ⊥ = omega arith in
      absurd no
  row_complete (suc k) [] us rest s n b = rw (s, ask_end rest n) refl
  row_complete (suc k) (a ∷ more) us rest s n b =
      let e : us ++ rest ≡ s.0 ++ (s.1 ++ rest) = ap (λ w. w ++ rest) s.2 ∙ append_assoc s.0 s.1 rest in
      let p = row_takes_some a s.0 s.3 in
      let l : length (us ++ rest) ≡ length s.0 + length (s.1 ++ rest) = ap length e ∙ length-append s.0 (s.1 ++ rest) in
      let short : length (s.1 ++ rest) ≤ k = omega arith in
      let o = lengthen (own a) s.1 rest (own_ended a) n (row_steady more s.1 s.4) s.5 in
      let f = lg.complete a s.0 (s.1 ++ rest) s.3 (row_after more s.1 rest s.4 n) o in
      let r = row_complete k more s.1 rest s.4 n short in
      rw (e, ask_row a s.0 (s.1 ++ rest) s.3, f, r) refl

  row_leads : (xs : List A) (us rest : List (SignificantToken N P)) → row_spells g.spells own xs us → (at starts (us ++ rest) ≡ true) ⊎ ((true ≡ true) × (us ≡ []))
  row_leads [] us rest s = inr (refl, s)
  row_leads (a ∷ more) us rest s =
      let e : us ++ rest ≡ s.0 ++ (s.1 ++ rest) = ap (λ w. w ++ rest) s.2 ∙ append_assoc s.0 s.1 rest in
      inl (rw e (row_begins a s.0 (s.1 ++ rest) s.3))

  row_whole : (xs : List A) (us : List (SignificantToken N P)) → row_spells g.spells own xs us → is_whole us ≡ true
  row_whole [] us s = ap is_whole s
  row_whole (a ∷ more) us s = whole_parts us s.0 s.1 s.2 (lg.whole a s.0 s.3) (row_whole more s.1 s.4)

  ended_is : (b : Bool) (x y : List A × List (SignificantToken N P)) → cond b None (Some x) ≡ Some y → (b ≡ false) × (x ≡ y)
  ended_is true x y e = cc
  ended_is false x y e = (refl, same_Some _ _ e)

  pub row_laws : Lawful (row starts g own)
  row_laws = record {
    sound = λ ts x e. (
        let b = bind_ok (many_reads starts g.reads (length ts) ts) _ _ e in
        let q = ended_is (at (NotEnd ∷ []) b.0.1) b.0 x b.2 in
        row_takes (length ts) ts x (b.1 ∙ ap (λ v. Some v) q.1));
    complete = λ xs us rest s n. rw (row_complete (length (us ++ rest)) xs us rest s n (omega arith), n) refl;
    leads = row_leads;
    whole = row_whole;
  }

-- TWINS
pub next_but_twins : {N P A B : Type 0} (g : Syntax N P A) (own : A → List Test) (h : A → Syntax N P B) (starts : List Test) → Paired g → ((a : A) → Paired (h a)) → Paired (next_but g own h starts)
next_but_twins g own h starts lg lh = record {
  first = λ a ts us t. (t.0, t.1, t.4, lg.first _ _ _ t.6, (lh a.0).first _ _ _ t.7, t.8);
  second = λ a ts us t. (t.2, t.3, t.5, lg.second _ _ _ t.6, (lh a.0).second _ _ _ t.7, t.9);
  alone = λ a ts s. (s.0, s.1, s.0, s.1, s.2, s.2, lg.alone _ _ s.3, (lh a.0).alone _ _ s.4, s.5, s.5);
}

module _ {N P A : Type 0} (starts : List Test) (g : Syntax N P A) (own : A → List Test) (lg : Paired g) where
  row_first : (xs : List A) (ts us : List (SignificantToken N P)) → row_twins g.twins own xs ts us → row_spells g.spells own xs ts
  row_first [] ts us t = t.0
  row_first (x ∷ xs) ts us t = (t.0, t.1, t.4, lg.first _ _ _ t.6, row_first xs _ _ t.7, t.8)

  row_second : (xs : List A) (ts us : List (SignificantToken N P)) → row_twins g.twins own xs ts us → row_spells g.spells own xs us
  row_second [] ts us t = t.1
  row_second (x ∷ xs) ts us t = (t.2, t.3, t.5, lg.second _ _ _ t.6, row_second xs _ _ t.7, t.9)

  row_alone : (xs : List A) (ts : List (SignificantToken N P)) → row_spells g.spells own xs ts → row_twins g.twins own xs ts ts
  row_alone [] ts s = (s, s)
  row_alone (x ∷ xs) ts s = (s.0, s.1, s.0, s.1, s.2, s.2, lg.alone _ _ s.3, row_alone xs _ s.4, s.5, s.5)

  pub row_twin : Paired (row starts g own)
  row_twin = record { first = row_first; second = row_second; alone = row_alone }
