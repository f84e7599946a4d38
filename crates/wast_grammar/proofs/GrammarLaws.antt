-- Each way to make a production of others keeps the laws.
use Rattle.std.proofs.Common.{◌≡◌, ℕ, zero, suc, ◌≤◌, ◌<◌, ◌+◌, Bool, true, false, List, [], ◌∷◌, ◌++◌, length, Option, Some, None, ◌⊎◌, inl, inr, refl, sym, ◌∙◌, ap, subst, arith, append_assoc, cond, length-append, append-nil, nat_eq}
use Rattle.std.proofs.lemmas.Bool.{cases_Bool}
use Rattle.std.proofs.lemmas.Option.{same_Some, cond_some}
use Rattle.wast_grammar.specs.Tokens.{SignificantToken, Open, Close, Id, Word, Mark, Integer, Float, Text, Reserved, Broken, is_whole}
use Rattle.wast_grammar.specs.Spelling as spelling
use Rattle.wast_grammar.specs.Spelling.{Spells, ◌>>=◌, that_open, that_close}
use Rattle.wast_grammar.specs.Look.{AnOpen, seen_as, the_end, the_close, first, look, under, Test, any_fits, at, any_end, apart, join, sub, unders, faults, ask}
use Rattle.wast_grammar.specs.Grammar.{Reader, Syntax, one_of, next, seq, wide, respelled, seen, only, maybe_reads, maybe, many_reads, many, times_reads, times, either_reads, either, paren, fenced, word, mark, led, group, annotation}
use Rattle.wast_grammar.proofs.Looks.{bind_ok, absurd_of, join_no, join_none, join_left, join_right, apart_no2, asked, answered, no_end, end_none, under_in, sub_law, within, within_self}
pub use Rattle.wast_grammar.specs.Lawful.{Takes, Lawful, LawfulBut, Settles, Leads, Shrinks}
use Rattle.wast_grammar.proofs.TokenLaws.{takes_as, takes_so, whole_parts, whole_group}
pub use Rattle.wast_grammar.proofs.TokenLaws.{token_laws, nothing_laws, words_laws, any_found, among_asked, among_laws, begun_laws, word_laws, mark_laws, id_laws, integer_laws, float_laws, string_laws}

-- two parts taken one after the other
pub parts_of : {X : Type 0} {ts us : List X} (a b rest : List X) → ts ≡ a ++ us → us ≡ b ++ rest → ts ≡ (a ++ b) ++ rest
parts_of a b rest e f = e ∙ ap (λ z. a ++ z) f ∙ sym (append_assoc a b rest)

-- one after the other, where the second depends on the first
module _ {N P A B : Type 0} (g : Syntax N P A) (h : A → Syntax N P B) (starts : List Test) (empty : Bool) (stops : List Test) (lg : Lawful g) (lh : (a : A) → Lawful (wide starts empty stops (h a))) (d : apart g.stops starts ≡ true) where
  next_sound : (ts : List (SignificantToken N P)) (x : (A × B) × List (SignificantToken N P)) → (next g h starts empty stops).reads ts ≡ Some x → Takes (next g h starts empty stops) x.0 ts x.1
  next_sound ts x e =
      let b = bind_ok (g.reads ts) _ _ e in
      let c = bind_ok ((h b.0.0).reads b.0.1) _ _ b.2 in
      let s = lg.sound ts b.0 b.1 in
      let t = (lh b.0.0).sound b.0.1 c.0 c.1 in
      takes_as ((b.0.0, c.0.0), c.0.1) x c.2 (record {
        taken = s.taken ++ t.taken;
        parts = parts_of s.taken t.taken c.0.1 s.parts t.parts;
        spelled = (s.taken, t.taken, refl {a = s.taken ++ t.taken}, s.spelled, t.spelled);
      })

  -- what stands after the first may stand there
  next_after : (a : A) (b : B) (vs rest : List (SignificantToken N P)) → (h a).spells b vs → at (join stops (cond empty g.stops [])) rest ≡ false → at g.stops (vs ++ rest) ≡ false
  next_after a b vs rest s n = elim ((lh a).leads b vs rest s) [
    | inl y ↦ apart_no2 _ g.stops starts d y
    | inr z ↦ (
        let k = (join_no (look rest) stops (cond empty g.stops []) n).1 in
        let m = subst (λ v. any_fits (cond v g.stops []) (look rest) ≡ false) z.0 k in
        subst (λ v. at g.stops (v ++ rest) ≡ false) (sym z.1) m)
  ]

  next_complete : (p : A × B) (us rest : List (SignificantToken N P)) → (next g h starts empty stops).spells p us → at (next g h starts empty stops).stops rest ≡ false → (next g h starts empty stops).reads (us ++ rest) ≡ Some (p, rest)
  next_complete p us rest s n =
      let u = s.0 in
      let v = s.1 in
      let e : us ++ rest ≡ u ++ (v ++ rest) = ap (λ w. w ++ rest) s.2 ∙ append_assoc u v rest in
      let f = lg.complete p.0 u (v ++ rest) s.3 (next_after p.0 p.1 v rest s.4 n) in
      let k = (lh p.0).complete p.1 v rest s.4 (join_no (look rest) stops (cond empty g.stops []) n).0 in
      rw (e, f, k) refl

  next_leads : (p : A × B) (us rest : List (SignificantToken N P)) → (next g h starts empty stops).spells p us → (at (next g h starts empty stops).starts (us ++ rest) ≡ true) ⊎ (((next g h starts empty stops).empty ≡ true) × (us ≡ []))
  next_leads p us rest s =
      let u = s.0 in
      let v = s.1 in
      let e : us ++ rest ≡ u ++ (v ++ rest) = ap (λ w. w ++ rest) s.2 ∙ append_assoc u v rest in
      elim (lg.leads p.0 u (v ++ rest) s.3) [
        | inl y ↦ inl (join_left (look (us ++ rest)) g.starts (cond g.empty starts []) (subst (λ w. at g.starts w ≡ true) (sym e) y))
        | inr z ↦ elim ((lh p.0).leads p.1 v rest s.4) [
          | inl y ↦ inl (join_right (look (us ++ rest)) g.starts (cond g.empty starts []) (rw (e, z.0, z.1) y))
          | inr k ↦ inr (rw (z.0, k.0) refl, rw (s.2, z.1, k.1) refl)
        ]
      ]

  pub next_laws : Lawful (next g h starts empty stops)
  next_laws = record {
    sound = next_sound;
    complete = next_complete;
    leads = next_leads;
    whole = λ p us s. whole_parts us s.0 s.1 s.2 (lg.whole p.0 s.0 s.3) ((lh p.0).whole p.1 s.1 s.4);
  }

-- wider bounds
pub wide_laws : {N P A : Type 0} (g : Syntax N P A) (starts : List Test) (empty : Bool) (stops : List Test) → Lawful g → within g.starts starts → (g.empty ≡ true → empty ≡ true) → within g.stops stops → Lawful (wide starts empty stops g)
wide_laws g starts empty stops lg a b c = record {
  sound = λ ts x e. (let s = lg.sound ts x e in record { taken = s.taken; parts = s.parts; spelled = s.spelled });
  complete = λ v us rest s n. lg.complete v us rest s (elim (cases_Bool (at g.stops rest)) [ inl y ↦ absurd_of _ (c (look rest) y) n | inr z ↦ z ]);
  leads = λ v us rest s. elim (lg.leads v us rest s) [ inl y ↦ inl (a _ y) | inr z ↦ inr (b z.0, z.1) ];
  whole = lg.whole;
}

as_itself : {N P A : Type 0} (h : Syntax N P A) → Lawful h → Lawful (wide h.starts h.empty h.stops h)
as_itself h lh = wide_laws h h.starts h.empty h.stops lh (within_self h.starts) (λ e. e) (within_self h.stops)

pub seq_laws : {N P A B : Type 0} (g : Syntax N P A) (h : Syntax N P B) → Lawful g → Lawful h → apart g.stops h.starts ≡ true → Lawful (seq g h)
seq_laws g h lg lh d = next_laws g (λ _. h) h.starts h.empty h.stops lg (λ _. as_itself h lh) d

-- the same, said in another way by which the same is spelled
module _ {N P A : Type 0} (s : Spells N P A) (g : Syntax N P A) (to : (a : A) (ts : List (SignificantToken N P)) → s a ts → g.spells a ts) (from : (a : A) (ts : List (SignificantToken N P)) → g.spells a ts → s a ts) (lg : Lawful g) where
  pub respelled_laws : Lawful (respelled s g)
  respelled_laws = record {
    sound = λ ts x e. let t = lg.sound ts x e in record { taken = t.taken; parts = t.parts; spelled = from x.0 t.taken t.spelled };
    complete = λ a us rest q n. lg.complete a us rest (to a us q) n;
    leads = λ a us rest q. lg.leads a us rest (to a us q);
    whole = λ a us q. lg.whole a us (to a us q);
  }

-- seen as another value
pub seen_laws : {N P A B : Type 0} (f : A → B) (g : Syntax N P A) → Lawful g → Lawful (seen f g)
seen_laws f g lg = record {
  sound = λ ts x e. (
      let b = bind_ok (g.reads ts) _ _ e in
      let s = lg.sound ts b.0 b.1 in
      takes_as (f b.0.0, b.0.1) x b.2 (record { taken = s.taken; parts = s.parts; spelled = (b.0.0, refl, s.spelled) }));
  complete = λ a us rest s n. rw (lg.complete s.0 us rest s.2 n) (ap (λ v. Some (v, rest)) s.1);
  leads = λ a us rest s. lg.leads s.0 us rest s.2;
  whole = λ a us s. lg.whole s.0 us s.2;
}

-- such values alone
pub only_laws : {N P A : Type 0} (p : A → Bool) (g : Syntax N P A) → Lawful g → Lawful (only p g)
only_laws p g lg = record {
  sound = λ ts x e. (
      let b = bind_ok (g.reads ts) _ _ e in
      let h = cond_some (p b.0.0) b.0 x b.2 in
      let s = lg.sound ts b.0 b.1 in
      takes_so b.0 x h.1 (record { taken = s.taken; parts = s.parts; spelled = (h.0, s.spelled) }));
  complete = λ a us rest s n. rw (lg.complete a us rest s.1 n, s.0) refl;
  leads = λ a us rest s. lg.leads a us rest s.1;
  whole = λ a us s. lg.whole a us s.1;
}

-- a list
many_whole : {N P A : Type 0} (g : Syntax N P A) → Lawful g → (xs : List A) (us : List (SignificantToken N P)) → spelling.many g.spells xs us → is_whole us ≡ true
many_whole g lg [] us s = ap is_whole s
many_whole g lg (a ∷ more) us s = whole_parts us s.0 s.1 s.2 (lg.whole a s.0 s.3) (many_whole g lg more s.1 s.4)

-- where it begins, else nothing
module _ {N P A : Type 0} (starts : List Test) (g : Syntax N P A) (lg : Lawful g) (same : starts ≡ g.starts) (full : g.empty ≡ false) (sure : apart (faults starts) starts ≡ true) where
  -- what is spelled begins as it should
  pub begun_so : (a : A) (us rest : List (SignificantToken N P)) → g.spells a us → at starts (us ++ rest) ≡ true
  begun_so a us rest s = elim (lg.leads a us rest s) [
    | inl y ↦ ap (λ v. any_fits v (look (us ++ rest))) same ∙ y
    | inr z ↦ absurd_of g.empty z.0 full
  ]

  pub ask_begun : (a : A) (us rest : List (SignificantToken N P)) → g.spells a us → ask starts (us ++ rest) ≡ Some true
  ask_begun a us rest s = let y = begun_so a us rest s in asked starts (us ++ rest) true (apart_no2 _ (faults starts) starts sure y) y

  ask_none : (ts : List (SignificantToken N P)) → at (join (faults starts) (join starts g.stops)) ts ≡ false → ask starts ts ≡ Some false
  ask_none ts n =
      let k = join_no (look ts) (faults starts) (join starts g.stops) n in
      asked starts ts false k.0 (join_no (look ts) starts g.stops k.1).0

  stops_of : (ts : List (SignificantToken N P)) → at (join (faults starts) (join starts g.stops)) ts ≡ false → at g.stops ts ≡ false
  stops_of ts n = (join_no (look ts) starts g.stops (join_no (look ts) (faults starts) (join starts g.stops) n).1).1

  maybe_sound : (ts : List (SignificantToken N P)) (x : Option A × List (SignificantToken N P)) → maybe_reads starts g.reads ts ≡ Some x → Takes (maybe starts g) x.0 ts x.1
  maybe_sound ts x e =
      let q = bind_ok (ask starts ts) _ x e in
      elim (cases_Bool q.0) [
        | inl y ↦ (
            let b = bind_ok (g.reads ts) (λ a. Some (Some a.0, a.1)) x (rw y at q.2) in
            let s = lg.sound ts b.0 b.1 in
            takes_as (Some b.0.0, b.0.1) x b.2 (record { taken = s.taken; parts = s.parts; spelled = s.spelled }))
        | inr n ↦ (
            let q : Some (None, ts) ≡ Some x = rw n at q.2 in
            takes_as (None, ts) x q (record { taken = []; parts = refl; spelled = refl }))
      ]

  maybe_complete : (o : Option A) (us rest : List (SignificantToken N P)) → (maybe starts g).spells o us → at (maybe starts g).stops rest ≡ false → maybe_reads starts g.reads (us ++ rest) ≡ Some (o, rest)
  maybe_complete None us rest s n = rw (s, ask_none rest n) refl
  maybe_complete (Some a) us rest s n = rw (ask_begun a us rest s, lg.complete a us rest s (stops_of rest n)) refl

  maybe_leads : (o : Option A) (us rest : List (SignificantToken N P)) → (maybe starts g).spells o us → (at starts (us ++ rest) ≡ true) ⊎ ((true ≡ true) × (us ≡ []))
  maybe_leads None us rest s = inr (refl, s)
  maybe_leads (Some a) us rest s = inl (begun_so a us rest s)

  maybe_whole : (o : Option A) (us : List (SignificantToken N P)) → (maybe starts g).spells o us → is_whole us ≡ true
  maybe_whole None us s = ap is_whole s
  maybe_whole (Some a) us s = lg.whole a us s

  pub maybe_laws : Lawful (maybe starts g)
  maybe_laws = record { sound = maybe_sound; complete = maybe_complete; leads = maybe_leads; whole = maybe_whole }

  -- as often as it begins
  none_left : (ts : List (SignificantToken N P)) (x : List A × List (SignificantToken N P)) → Some ([], ts) ≡ Some x → Takes (many starts g) x.0 ts x.1
  none_left ts x q = takes_as ([], ts) x q (record { taken = []; parts = refl; spelled = refl })

  many_sound : (n : ℕ) (ts : List (SignificantToken N P)) (x : List A × List (SignificantToken N P)) → many_reads starts g.reads n ts ≡ Some x → Takes (many starts g) x.0 ts x.1
  many_sound zero ts x e =
      let q = bind_ok (ask starts ts) _ x e in
      elim (cases_Bool q.0) [
        | inl y ↦ (let r : None ≡ Some x = rw y at q.2 in cc)
        | inr z ↦ none_left ts x (rw z at q.2)
      ]
  many_sound (suc n) ts x e =
      let q = bind_ok (ask starts ts) _ x e in
      elim (cases_Bool q.0) [
        | inl y ↦ (
            let b = bind_ok (g.reads ts) (λ a. many_reads starts g.reads n a.1 >>= λ rest. Some (a.0 ∷ rest.0, rest.1)) x (rw y at q.2) in
            let c = bind_ok (many_reads starts g.reads n b.0.1) _ _ b.2 in
            let s = lg.sound ts b.0 b.1 in
            let t = many_sound n b.0.1 c.0 c.1 in
            takes_as (b.0.0 ∷ c.0.0, c.0.1) x c.2 (record {
              taken = s.taken ++ t.taken;
              parts = parts_of s.taken t.taken c.0.1 s.parts t.parts;
              spelled = (s.taken, t.taken, refl {a = s.taken ++ t.taken}, s.spelled, t.spelled);
            }))
        | inr z ↦ none_left ts x (rw z at q.2)
      ]

  module _ (none : any_end starts ≡ false) (d : apart g.stops starts ≡ true) where
    -- an item takes a token
    takes_some : (a : A) (us : List (SignificantToken N P)) → g.spells a us → 0 < length us
    takes_some a [] s = absurd_of _ (begun_so a [] [] s) (no_end starts none).0
    takes_some a (t ∷ us) s = omega arith

    item_after : (more : List A) (vs rest : List (SignificantToken N P)) → spelling.many g.spells more vs → at (join (faults starts) (join starts g.stops)) rest ≡ false → at g.stops (vs ++ rest) ≡ false
    item_after [] vs rest s n = rw s (stops_of rest n)
    item_after (a ∷ more) vs rest s n =
        let e : vs ++ rest ≡ s.0 ++ (s.1 ++ rest) = ap (λ w. w ++ rest) s.2 ∙ append_assoc s.0 s.1 rest in
        rw e (apart_no2 _ g.stops starts d (begun_so a s.0 (s.1 ++ rest) s.3))

    many_complete : (n : ℕ) (xs : List A) (us rest : List (SignificantToken N P)) → spelling.many g.spells xs us → at (join (faults starts) (join starts g.stops)) rest ≡ false → length (us ++ rest) ≤ n → many_reads starts g.reads n (us ++ rest) ≡ Some (xs, rest)
    many_complete zero [] us rest s n b = rw (s, ask_none rest n) refl
    many_complete zero (a ∷ more) us rest s n b =
        let e : us ++ rest ≡ s.0 ++ (s.1 ++ rest) = ap (λ w. w ++ rest) s.2 ∙ append_assoc s.0 s.1 rest in
        let p = takes_some a s.0 s.3 in
        let l : length (us ++ rest) ≡ length s.0 + length (s.1 ++ rest) = ap length e ∙ length-append s.0 (s.1 ++ rest) in
        let no : ⊥ = omega arith in
        absurd no
    many_complete (suc k) [] us rest s n b = rw (s, ask_none rest n) refl
    many_complete (suc k) (a ∷ more) us rest s n b =
        let e : us ++ rest ≡ s.0 ++ (s.1 ++ rest) = ap (λ w. w ++ rest) s.2 ∙ append_assoc s.0 s.1 rest in
        let p = takes_some a s.0 s.3 in
        let l : length (us ++ rest) ≡ length s.0 + length (s.1 ++ rest) = ap length e ∙ length-append s.0 (s.1 ++ rest) in
        let short : length (s.1 ++ rest) ≤ k = omega arith in
        let f = lg.complete a s.0 (s.1 ++ rest) s.3 (item_after more s.1 rest s.4 n) in
        let r = many_complete k more s.1 rest s.4 n short in
        rw (e, ask_begun a s.0 (s.1 ++ rest) s.3, f, r) refl

    many_leads : (xs : List A) (us rest : List (SignificantToken N P)) → spelling.many g.spells xs us → (at starts (us ++ rest) ≡ true) ⊎ ((true ≡ true) × (us ≡ []))
    many_leads [] us rest s = inr (refl, s)
    many_leads (a ∷ more) us rest s =
        let e : us ++ rest ≡ s.0 ++ (s.1 ++ rest) = ap (λ w. w ++ rest) s.2 ∙ append_assoc s.0 s.1 rest in
        inl (rw e (begun_so a s.0 (s.1 ++ rest) s.3))

    pub many_laws : Lawful (many starts g)
    many_laws = record {
      sound = λ ts x e. many_sound (length ts) ts x e;
      complete = λ xs us rest s n. many_complete (length (us ++ rest)) xs us rest s n (omega arith);
      leads = many_leads;
      whole = many_whole g lg;
    }

-- so often
module _ {N P A : Type 0} (g : Syntax N P A) (lg : Lawful g) (full : g.empty ≡ false) (d : apart g.stops g.starts ≡ true) where
  times_begin : (a : A) (us rest : List (SignificantToken N P)) → g.spells a us → at g.starts (us ++ rest) ≡ true
  times_begin a us rest s = elim (lg.leads a us rest s) [ inl y ↦ y | inr z ↦ absurd_of g.empty z.0 full ]

  times_sound : (n : ℕ) (ts : List (SignificantToken N P)) (x : List A × List (SignificantToken N P)) → times_reads n g.reads ts ≡ Some x → Takes (times n g) x.0 ts x.1
  times_sound zero ts x e = takes_as ([], ts) x e (record { taken = []; parts = refl; spelled = (refl, refl) })
  times_sound (suc n) ts x e =
      let b = bind_ok (g.reads ts) (λ a. times_reads n g.reads a.1 >>= λ rest. Some (a.0 ∷ rest.0, rest.1)) x e in
      let c = bind_ok (times_reads n g.reads b.0.1) _ _ b.2 in
      let s = lg.sound ts b.0 b.1 in
      let t = times_sound n b.0.1 c.0 c.1 in
      takes_as (b.0.0 ∷ c.0.0, c.0.1) x c.2 (record {
        taken = s.taken ++ t.taken;
        parts = parts_of s.taken t.taken c.0.1 s.parts t.parts;
        spelled = (ap suc t.spelled.0, (s.taken, t.taken, refl {a = s.taken ++ t.taken}, s.spelled, t.spelled.1));
      })

  times_after : (more : List A) (vs rest : List (SignificantToken N P)) → spelling.many g.spells more vs → at g.stops rest ≡ false → at g.stops (vs ++ rest) ≡ false
  times_after [] vs rest s n = rw s n
  times_after (a ∷ more) vs rest s n =
      let e : vs ++ rest ≡ s.0 ++ (s.1 ++ rest) = ap (λ w. w ++ rest) s.2 ∙ append_assoc s.0 s.1 rest in
      rw e (apart_no2 _ g.stops g.starts d (times_begin a s.0 (s.1 ++ rest) s.3))

  times_complete : (n : ℕ) (xs : List A) (us rest : List (SignificantToken N P)) → length xs ≡ n → spelling.many g.spells xs us → at g.stops rest ≡ false → times_reads n g.reads (us ++ rest) ≡ Some (xs, rest)
  times_complete zero [] us rest l s n = rw s refl
  times_complete zero (a ∷ more) us rest l s n = let no : ⊥ = omega (arith, l) in absurd no
  times_complete (suc k) [] us rest l s n = let no : ⊥ = omega (arith, l) in absurd no
  times_complete (suc k) (a ∷ more) us rest l s n =
      let e : us ++ rest ≡ s.0 ++ (s.1 ++ rest) = ap (λ w. w ++ rest) s.2 ∙ append_assoc s.0 s.1 rest in
      let less : length more ≡ k = omega (arith, l) in
      let f = lg.complete a s.0 (s.1 ++ rest) s.3 (times_after more s.1 rest s.4 n) in
      let r = times_complete k more s.1 rest less s.4 n in
      rw (e, f, r) refl

  times_leads : (n : ℕ) (xs : List A) (us rest : List (SignificantToken N P)) → length xs ≡ n → spelling.many g.spells xs us → (at g.starts (us ++ rest) ≡ true) ⊎ ((nat_eq n 0 ≡ true) × (us ≡ []))
  times_leads zero [] us rest l s = inr (refl, s)
  times_leads (suc k) [] us rest l s = let no : ⊥ = omega (arith, l) in absurd no
  times_leads n (a ∷ more) us rest l s =
      let e : us ++ rest ≡ s.0 ++ (s.1 ++ rest) = ap (λ w. w ++ rest) s.2 ∙ append_assoc s.0 s.1 rest in
      inl (rw e (times_begin a s.0 (s.1 ++ rest) s.3))

  pub times_laws : (n : ℕ) → Lawful (times n g)
  times_laws n = record {
    sound = times_sound n;
    complete = λ xs us rest s m. times_complete n xs us rest s.0 s.1 m;
    leads = λ xs us rest s. times_leads n xs us rest s.0 s.1;
    whole = λ xs us s. many_whole g lg xs us s.1;
  }

-- ( .. )
end_join : (a b : List Test) → any_end a ≡ false → any_end b ≡ false → any_end (join a b) ≡ false
end_join a b n m =
    let u = no_end a n in
    let v = no_end b m in
    end_none (join a b) (join_none the_end a b u.0 v.0) (join_none the_close a b u.1 v.1)

-- what may not stand after a word, or a mark, and a production
led_stops : (empty : Bool) (stops : List Test) → any_end stops ≡ false → any_end (join stops (cond empty [] [])) ≡ false
led_stops empty stops n = end_join stops (cond empty [] []) n (elim empty as (λ v. any_end (cond v [] []) ≡ false) [ true ↦ refl | false ↦ refl ])

module _ {N P : Type 0} where
  deep_under : (us : List (SignificantToken N P)) → under (first true us) ≡ seen_as true AnOpen []
  deep_under [] = refl
  deep_under (Open p ∷ us) = refl
  deep_under (Close p ∷ us) = refl
  deep_under (Id n p ∷ us) = refl
  deep_under (Word w p ∷ us) = refl
  deep_under (Mark w p ∷ us) = refl
  deep_under (Integer n w p ∷ us) = refl
  deep_under (Float w p ∷ us) = refl
  deep_under (Text s p ∷ us) = refl
  deep_under (Reserved w p ∷ us) = refl
  deep_under (Broken ∷ us) = refl

  pub under_look : (q : P) (us : List (SignificantToken N P)) → look (Open q ∷ us) ≡ under (look us)
  under_look q [] = refl
  under_look q (Open p ∷ us) = sym (deep_under us)
  under_look q (Close p ∷ us) = refl
  under_look q (Id n p ∷ us) = refl
  under_look q (Word w p ∷ us) = refl
  under_look q (Mark w p ∷ us) = refl
  under_look q (Integer n w p ∷ us) = refl
  under_look q (Float w p ∷ us) = refl
  under_look q (Text s p ∷ us) = refl
  under_look q (Reserved w p ∷ us) = refl
  under_look q (Broken ∷ us) = refl

  pub one_open : (ts : List (SignificantToken N P)) (x : P × List (SignificantToken N P)) → one_of that_open ts ≡ Some x → ts ≡ Open x.0 ∷ x.1
  one_open (Open p ∷ ts) x e = ap (λ (z : P × List (SignificantToken N P)). Open z.0 ∷ z.1) (same_Some _ _ e)
  one_open _ x e = absurd cc

  pub one_close : (ts : List (SignificantToken N P)) (x : P × List (SignificantToken N P)) → one_of that_close ts ≡ Some x → ts ≡ Close x.0 ∷ x.1
  one_close (Close p ∷ ts) x e = ap (λ (z : P × List (SignificantToken N P)). Close z.0 ∷ z.1) (same_Some _ _ e)
  one_close _ x e = absurd cc

  -- a group before other tokens
  pub group_before : (p q : P) (us rest : List (SignificantToken N P)) → (Open p ∷ us ++ Close q ∷ []) ++ rest ≡ Open p ∷ us ++ (Close q ∷ rest)
  group_before p q us rest = ap (λ z. Open p ∷ z) (append_assoc us (Close q ∷ []) rest)

module _ {N P : Type 0} {A : Type 0} (g : Syntax N P A) (lg : Lawful g) (open_ended : any_end g.stops ≡ false) (full : g.empty ≡ false) where
  -- what stands before and behind what is read within parentheses
  within_parts : (ts : List (SignificantToken N P)) (o c : P × List (SignificantToken N P)) (b : A × List (SignificantToken N P)) → one_of that_open ts ≡ Some o → g.reads o.1 ≡ Some b → one_of that_close b.1 ≡ Some c →
      (us : List (SignificantToken N P)) × (ts ≡ (Open o.0 ∷ us ++ Close c.0 ∷ []) ++ c.1) × g.spells b.0 us
  within_parts ts o c b opens reads closes =
      let s = lg.sound o.1 b reads in
      (s.taken, one_open ts o opens ∙ ap (λ z. Open o.0 ∷ z) (s.parts ∙ ap (λ z. s.taken ++ z) (one_close b.1 c closes)) ∙ sym (group_before o.0 c.0 s.taken c.1), s.spelled)

  within_reads : (a : A) (q : P) (us rest : List (SignificantToken N P)) → g.spells a us → g.reads (us ++ (Close q ∷ rest)) ≡ Some (a, Close q ∷ rest)
  within_reads a q us rest s = lg.complete a us (Close q ∷ rest) s (no_end g.stops open_ended).1

  within_leads : (a : A) (p q : P) (us rest : List (SignificantToken N P)) → g.spells a us → at (unders g.starts) (Open p ∷ us ++ (Close q ∷ rest)) ≡ true
  within_leads a p q us rest s = elim (lg.leads a us (Close q ∷ rest) s) [
    | inl y ↦ rw (under_look p (us ++ (Close q ∷ rest))) (under_in (look (us ++ (Close q ∷ rest))) g.starts y)
    | inr z ↦ absurd_of g.empty z.0 full
  ]

  pub paren_laws : Lawful (paren g)
  paren_laws = record {
    sound = λ ts x e. (
        let o = bind_ok (one_of that_open ts) _ _ e in
        let b = bind_ok (g.reads o.0.1) _ _ o.2 in
        let c = bind_ok (one_of that_close b.0.1) _ _ b.2 in
        let s = within_parts ts o.0 c.0 b.0 o.1 b.1 c.1 in
        takes_as (b.0.0, c.0.1) x c.2 (record {
          taken = Open o.0.0 ∷ s.0 ++ Close c.0.0 ∷ [];
          parts = s.1;
          spelled = (s.0, o.0.0, c.0.0, refl {a = Open o.0.0 ∷ s.0 ++ Close c.0.0 ∷ []}, s.2);
        }));
    complete = λ a us rest s n. (
        let e : us ++ rest ≡ Open s.1 ∷ s.0 ++ (Close s.2 ∷ rest) = ap (λ z. z ++ rest) s.3 ∙ group_before s.1 s.2 s.0 rest in
        rw (e, within_reads a s.2 s.0 rest s.4) refl);
    leads = λ a us rest s. (
        let e : us ++ rest ≡ Open s.1 ∷ s.0 ++ (Close s.2 ∷ rest) = ap (λ z. z ++ rest) s.3 ∙ group_before s.1 s.2 s.0 rest in
        inl (rw e (within_leads a s.1 s.2 s.0 rest s.4)));
    whole = λ a us s. ap is_whole s.3 ∙ whole_group s.1 s.2 s.0 (lg.whole a s.0 s.4);
  }

  pub fenced_laws : Lawful (fenced g)
  fenced_laws = record {
    sound = λ ts x e. (
        let o = bind_ok (one_of that_open ts) _ _ e in
        let b = bind_ok (g.reads o.0.1) _ _ o.2 in
        let c = bind_ok (one_of that_close b.0.1) _ _ b.2 in
        let s = within_parts ts o.0 c.0 b.0 o.1 b.1 c.1 in
        takes_as ((b.0.0, c.0.0), c.0.1) x c.2 (record {
          taken = Open o.0.0 ∷ s.0 ++ Close c.0.0 ∷ [];
          parts = s.1;
          spelled = (s.0, o.0.0, refl {a = Open o.0.0 ∷ s.0 ++ Close c.0.0 ∷ []}, s.2);
        }));
    complete = λ a us rest s n. (
        let e : us ++ rest ≡ Open s.1 ∷ s.0 ++ (Close a.1 ∷ rest) = ap (λ z. z ++ rest) s.2 ∙ group_before s.1 a.1 s.0 rest in
        rw (e, within_reads a.0 a.1 s.0 rest s.3) refl);
    leads = λ a us rest s. (
        let e : us ++ rest ≡ Open s.1 ∷ s.0 ++ (Close a.1 ∷ rest) = ap (λ z. z ++ rest) s.2 ∙ group_before s.1 a.1 s.0 rest in
        inl (rw e (within_leads a.0 s.1 a.1 s.0 rest s.3)));
    whole = λ a us s. ap is_whole s.2 ∙ whole_group s.1 a.1 s.0 (lg.whole a.0 s.0 s.3);
  }

pub led_laws : {N P A : Type 0} (w : List ℕ) (g : Syntax N P A) → Lawful g → Lawful (led w g)
led_laws w g lg = seen_laws (λ p. p.1) (seq (word w) g) (seq_laws (word w) g (word_laws w) lg refl)

pub group_laws : {N P A : Type 0} (w : List ℕ) (g : Syntax N P A) → Lawful g → any_end g.stops ≡ false → Lawful (group w g)
group_laws w g lg n = paren_laws (led w g) (led_laws w g lg) (led_stops g.empty g.stops n) refl

pub annotation_laws : {N P A : Type 0} (w : List ℕ) (g : Syntax N P A) → Lawful g → any_end g.stops ≡ false → Lawful (annotation w g)
annotation_laws w g lg n = paren_laws _ (seen_laws (λ p. p.1) (seq (mark w) g) (seq_laws (mark w) g (mark_laws w) lg refl)) (led_stops g.empty g.stops n) refl

-- the first where it begins, else the second
module _ {N P A : Type 0} (starts : List Test) (g h : Syntax N P A) (lg : Lawful g) (lh : Lawful h) (same : starts ≡ g.starts) (full : g.empty ≡ false) (sure : apart (faults starts) starts ≡ true) (d : apart (join (faults starts) starts) h.starts ≡ true) where
  either_sound : (ts : List (SignificantToken N P)) (x : A × List (SignificantToken N P)) → either_reads starts g.reads h.reads ts ≡ Some x → Takes (either starts g h) x.0 ts x.1
  either_sound ts x e =
      let q = bind_ok (ask starts ts) _ x e in
      elim (cases_Bool q.0) [
        | inl y ↦ (let s = lg.sound ts x (rw y at q.2) in record { taken = s.taken; parts = s.parts; spelled = inl s.spelled })
        | inr n ↦ (let s = lh.sound ts x (rw n at q.2) in record { taken = s.taken; parts = s.parts; spelled = inr s.spelled })
      ]

  not_asked : (ts : List (SignificantToken N P)) → at (join (faults starts) starts) ts ≡ false → ask starts ts ≡ Some false
  not_asked ts n = let k = join_no (look ts) (faults starts) starts n in asked starts ts false k.0 k.1

  either_complete : (a : A) (us rest : List (SignificantToken N P)) → (either starts g h).spells a us → at (either starts g h).stops rest ≡ false → either_reads starts g.reads h.reads (us ++ rest) ≡ Some (a, rest)
  either_complete a us rest s n =
      let k = join_no (look rest) (join g.stops h.stops) (cond h.empty (join (faults starts) starts) []) n in
      let m = join_no (look rest) g.stops h.stops k.0 in
      elim s [
        | inl p ↦ rw (ask_begun starts g lg same full sure a us rest p) (lg.complete a us rest p m.0)
        | inr q ↦ elim (lh.leads a us rest q) [
          | inl y ↦ rw (not_asked (us ++ rest) (apart_no2 _ (join (faults starts) starts) h.starts d y)) (lh.complete a us rest q m.1)
          | inr z ↦ (let f : at (join (faults starts) starts) (us ++ rest) ≡ false = rw z.1 (subst (λ v. any_fits (cond v (join (faults starts) starts) []) (look rest) ≡ false) z.0 k.1) in rw (not_asked (us ++ rest) f) (lh.complete a us rest q m.1))
        ]
      ]

  either_leads : (a : A) (us rest : List (SignificantToken N P)) → (either starts g h).spells a us → (at (either starts g h).starts (us ++ rest) ≡ true) ⊎ ((h.empty ≡ true) × (us ≡ []))
  either_leads a us rest s = elim s [
    | inl p ↦ elim (lg.leads a us rest p) [ inl y ↦ inl (join_left (look (us ++ rest)) g.starts h.starts y) | inr z ↦ absurd_of g.empty z.0 full ]
    | inr q ↦ elim (lh.leads a us rest q) [ inl y ↦ inl (join_right (look (us ++ rest)) g.starts h.starts y) | inr z ↦ inr z ]
  ]

  pub either_laws : Lawful (either starts g h)
  either_laws = record {
    sound = either_sound;
    complete = either_complete;
    leads = either_leads;
    whole = λ a us s. elim s [ inl p ↦ lg.whole a us p | inr q ↦ lh.whole a us q ];
  }

-- Over all tokens: what is read is spelled so, what is spelled is read, and no two values are spelled alike.
pub all_read : {N P A : Type 0} (g : Syntax N P A) → Lawful g → any_end g.stops ≡ false → (ts : List (SignificantToken N P)) (a : A) → g.spells a ts → g.reads ts ≡ Some (a, [])
all_read g lg n ts a s = ap g.reads (sym (append-nil ts)) ∙ lg.complete a ts [] s (no_end g.stops n).0

pub one_value : {N P A : Type 0} (g : Syntax N P A) → Lawful g → any_end g.stops ≡ false → (ts : List (SignificantToken N P)) (a b : A) → g.spells a ts → g.spells b ts → a ≡ b
one_value g lg n ts a b s t = ap (λ x. x.0) (same_Some _ _ (sym (all_read g lg n ts a s) ∙ all_read g lg n ts b t))

pub all_spelled : {N P A : Type 0} (g : Syntax N P A) → Lawful g → (ts : List (SignificantToken N P)) (a : A) → g.reads ts ≡ Some (a, []) → g.spells a ts
all_spelled g lg ts a e = let s = lg.sound ts (a, []) e in subst (λ us. g.spells a us) (sym (s.parts ∙ append-nil s.taken)) s.spelled

-- where nothing is read, or tokens are left, nothing is spelled
pub unread : {N P A : Type 0} (g : Syntax N P A) → Lawful g → any_end g.stops ≡ false → (ts : List (SignificantToken N P)) → g.reads ts ≡ None → (a : A) → g.spells a ts → ⊥
unread g lg n ts e a s = none_some (sym e ∙ all_read g lg n ts a s)
  where
    none_some : {X : Type 0} {x : X} → None ≡ Some x → ⊥
    none_some q = absurd cc

pub left_over : {N P A : Type 0} (g : Syntax N P A) → Lawful g → any_end g.stops ≡ false → (ts rest : List (SignificantToken N P)) (b : A) → g.reads ts ≡ Some (b, rest) → (a : A) → g.spells a ts → rest ≡ []
left_over g lg n ts rest b e a s = ap (λ x. x.1) (same_Some _ _ (sym e ∙ all_read g lg n ts a s))

not_nothing : {N P A : Type 0} (g : Syntax N P A) → Lawful g → g.empty ≡ false → any_end g.starts ≡ false → (a : A) (us : List (SignificantToken N P)) → g.spells a us → 0 < length us
not_nothing g lg full none a [] s = elim (lg.leads a [] [] s) [ inl y ↦ absurd_of _ y (no_end g.starts none).0 | inr z ↦ absurd_of _ z.0 full ]
not_nothing g lg full none a (t ∷ us) s = omega arith

-- What is never nothing takes a token.
pub shrinks : {N P A : Type 0} (g : Syntax N P A) → Lawful g → g.empty ≡ false → any_end g.starts ≡ false → (ts : List (SignificantToken N P)) (x : A × List (SignificantToken N P)) → g.reads ts ≡ Some x → length x.1 < length ts
shrinks g lg full none ts x e =
    let s = lg.sound ts x e in
    let l : length ts ≡ length s.taken + length x.1 = ap length s.parts ∙ length-append s.taken x.1 in
    let p = not_nothing g lg full none x.0 s.taken s.spelled in
    omega arith

pub bound_laws : {N P A : Type 0} (g : Syntax N P A) (starts stops : List Test) → Lawful g → sub g.starts starts ≡ true → sub g.stops stops ≡ true → Lawful (wide starts true stops g)
bound_laws g starts stops lg a b = wide_laws g starts true stops lg (sub_law g.starts starts a) (λ _. refl) (sub_law g.stops stops b)

-- WHAT IS READ DOES NOT GO ON SO
rest_as : {N P A : Type 0} (tests : List Test) (x y : A × List (SignificantToken N P)) → Some x ≡ Some y → at tests x.1 ≡ false → at tests y.1 ≡ false
rest_as tests x y e n = subst (λ z. at tests z.1 ≡ false) (same_Some x y e) n

module _ {N P A : Type 0} (starts : List Test) (r : Reader N P A) where
  -- no more is read
  no_more : (ts : List (SignificantToken N P)) (x : List A × List (SignificantToken N P)) → ask starts ts ≡ Some false → Some ([], ts) ≡ Some x → at starts x.1 ≡ false
  no_more ts x b e = rest_as starts ([], ts) x e (answered starts ts false b).1

  many_settled : (n : ℕ) (ts : List (SignificantToken N P)) (x : List A × List (SignificantToken N P)) → many_reads starts r n ts ≡ Some x → at starts x.1 ≡ false
  many_settled zero ts x e =
      let q = bind_ok (ask starts ts) _ x e in
      elim (cases_Bool q.0) [
        | inl y ↦ (let z : None ≡ Some x = rw y at q.2 in cc)
        | inr z ↦ no_more ts x (q.1 ∙ ap (λ v. Some v) z) (rw z at q.2)
      ]
  many_settled (suc n) ts x e =
      let q = bind_ok (ask starts ts) _ x e in
      elim (cases_Bool q.0) [
        | inl y ↦ (
            let b = bind_ok (r ts) (λ a. many_reads starts r n a.1 >>= λ rest. Some (a.0 ∷ rest.0, rest.1)) x (rw y at q.2) in
            let c = bind_ok (many_reads starts r n b.0.1) _ _ b.2 in
            rest_as starts (b.0.0 ∷ c.0.0, c.0.1) x c.2 (many_settled n b.0.1 c.0 c.1))
        | inr z ↦ no_more ts x (q.1 ∙ ap (λ v. Some v) z) (rw z at q.2)
      ]

pub many_settles : {N P A : Type 0} (starts : List Test) (g : Syntax N P A) → Settles (many starts g) starts
many_settles starts g = record { settled = λ ts x e. many_settled starts g.reads (length ts) ts x e }

pub seq_settles : {N P A B : Type 0} (g : Syntax N P A) (h : Syntax N P B) (tests : List Test) → Settles h tests → Settles (seq g h) tests
seq_settles g h tests sh = record {
  settled = λ ts x e. (
      let b = bind_ok (g.reads ts) _ _ e in
      let c = bind_ok (h.reads b.0.1) _ _ b.2 in
      rest_as tests ((b.0.0, c.0.0), c.0.1) x c.2 (sh.settled b.0.1 c.0 c.1));
}

pub seen_settles : {N P A B : Type 0} (f : A → B) (g : Syntax N P A) (tests : List Test) → Settles g tests → Settles (seen f g) tests
seen_settles f g tests sg = record {
  settled = λ ts x e. (
      let b = bind_ok (g.reads ts) _ _ e in
      rest_as tests (f b.0.0, b.0.1) x b.2 (sg.settled ts b.0 b.1));
}

-- The second is read by its own stops, where the first has none.
pub next_own : {N P A B : Type 0} (g : Syntax N P A) (h : A → Syntax N P B) (starts : List Test) (empty : Bool) (stops : List Test) → Lawful g → ((a : A) → Lawful (h a)) → g.stops ≡ [] → (p : A × B) (us rest : List (SignificantToken N P)) → (next g h starts empty stops).spells p us → at ((h p.0).stops) rest ≡ false → (next g h starts empty stops).reads (us ++ rest) ≡ Some (p, rest)
next_own g h starts empty stops lg lh free p us rest s n =
    let u = s.0 in
    let v = s.1 in
    let e : us ++ rest ≡ u ++ (v ++ rest) = ap (λ w. w ++ rest) s.2 ∙ append_assoc u v rest in
    let f = lg.complete p.0 u (v ++ rest) s.3 (ap (λ z. at z (v ++ rest)) free) in
    let k = (lh p.0).complete p.1 v rest s.4 n in
    rw (e, f, k) refl
