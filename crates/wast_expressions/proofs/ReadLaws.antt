-- What productions read, one turn at a time.
use Rattle.std.proofs.Common.{◌≡◌, ℕ, suc, ◌<◌, ◌+◌, Bool, true, false, List, [], ◌∷◌, length, Option, Some, None, inl, inr, refl, sym, ◌∙◌, ap, arith, cond, length-append}
use Rattle.wast_grammar.specs.Tokens.{SignificantToken, Open, Close, Id, Word, Mark, Integer, Float, Text, Reserved, Broken}
use Rattle.wast_grammar.specs.Spelling.{◌>>=◌, that_close}
use Rattle.wast_grammar.specs.Look.{Test, NotEnd, any_end, at, ask}
use Rattle.wast_grammar.specs.Grammar.{Syntax, Reader, many_reads, one_of, wide}
use Rattle.wast_grammar.specs.Recursion.{deep, fix}
use Rattle.wast_grammar.specs.Behind.{ended}
use Rattle.wast_grammar.specs.Lawful.{Lawful, LawfulBut}
use Rattle.wast_grammar.proofs.Looks.{absurd_of, no_end, same_answers}
use Rattle.wast_grammar.proofs.RecursionLaws.{Under, Steps, deep_laws, deeper, fix_laws}
use Rattle.wast_grammar.proofs.Repeats.{goes_on, many_fuel}

-- one after the other, and again
pub bind_bind : {A B C : Type 0} (o : Option A) (f : A → Option B) (g : B → Option C) → ((o >>= f) >>= g) ≡ (o >>= λ a. f a >>= g)
bind_bind None f g = refl
bind_bind (Some a) f g = refl

-- the same where o gives a
pub bind_where : {A B : Type 0} (o : Option A) (f g : A → Option B) → ((a : A) → o ≡ Some a → f a ≡ g a) → (o >>= f) ≡ (o >>= g)
bind_where None f g e = refl
bind_where (Some a) f g e = e a refl

pub bind_cond : {A B : Type 0} (b : Bool) (o p : Option A) (f : A → Option B) → (cond b o p >>= f) ≡ cond b (o >>= f) (p >>= f)
bind_cond true o p f = refl
bind_cond false o p f = refl

-- what closes none is left where one ends
pub no_close : {N P R : Type 0} (ts : List (SignificantToken N P)) (k : P × List (SignificantToken N P) → Option R) (b : Bool) → at (NotEnd ∷ []) ts ≡ b → cond b None (one_of that_close ts >>= k) ≡ (one_of that_close ts >>= k)
no_close ts k false e = refl
no_close [] k true e = refl
no_close (Close p ∷ ts) k true e = cc
no_close (Open p ∷ ts) k true e = refl
no_close (Word w p ∷ ts) k true e = refl
no_close (Mark w p ∷ ts) k true e = refl
no_close (Id n p ∷ ts) k true e = refl
no_close (Integer n w p ∷ ts) k true e = refl
no_close (Float w p ∷ ts) k true e = refl
no_close (Text s p ∷ ts) k true e = refl
no_close (Reserved w p ∷ ts) k true e = refl
no_close (Broken ∷ ts) k true e = refl

-- Lawful productions without stops that spell the same by fewer tokens than n read the same of them.
pub same_reads : {N P A : Type 0} (g h : Syntax N P A) → Lawful g → Lawful h → g.stops ≡ [] → h.stops ≡ [] → (n : ℕ) → Under n g h → Under n h g → (ts : List (SignificantToken N P)) → length ts < n → g.reads ts ≡ h.reads ts
same_reads {N} {P} {A} g h lg lh eg eh n u v ts l = same_answers (g.reads ts) (h.reads ts) (λ x e. over g h lg lh eh u x e) (λ x e. over h g lh lg eg v x e)
  where
    over : (g h : Syntax N P A) → Lawful g → Lawful h → h.stops ≡ [] → Under n g h → (x : A × List (SignificantToken N P)) → g.reads ts ≡ Some x → h.reads ts ≡ Some x
    over g h lg lh eh u x e =
        let s = lg.sound ts x e in
        let k : length ts ≡ length s.taken + length x.1 = ap length s.parts ∙ length-append s.taken x.1 in
        let c = lh.complete x.0 s.taken x.1 (u.same x.0 s.taken (omega arith) s.spelled) (ap (λ z. at z x.1) eh) in
        ap h.reads s.parts ∙ c

-- A production that stands in itself reads as its step does.
pub fix_reads : {N P A : Type 0} (starts : List Test) (empty : Bool) (step : Syntax N P A → Syntax N P A) (law : Steps starts empty [] step) (ts : List (SignificantToken N P)) → (fix starts empty [] step).reads ts ≡ (step (fix starts empty [] step)).reads ts
fix_reads {N} {P} {A} starts empty step law ts =
    same_reads (wide starts empty [] (step inner)) (wide starts empty [] (step whole)) (law.keeps (deep starts empty [] step (length ts)) (deep_laws starts empty [] step law (length ts))) (law.keeps whole (fix_laws starts empty [] step law)) refl refl (suc (length ts))
    (record { same = λ a us l s. (law.guards (length ts) inner whole (record { same = λ a us l s. (length ts, s) })).same a us l s })
    (record { same = λ a us l s. (law.guards (length ts) whole inner (record { same = λ a us l s. (deeper starts empty [] step law (length ts) s.0).same a us l s.1 })).same a us l s })
    ts (omega arith)
  where
    inner : Syntax N P A
    inner = wide starts empty [] (deep starts empty [] step (length ts))

    whole : Syntax N P A
    whole = fix starts empty [] step

-- repeats
module _ {N P A : Type 0} (starts : List Test) (r : Reader N P A) (progress : (ts : List (SignificantToken N P)) (x : A × List (SignificantToken N P)) → r ts ≡ Some x → length x.1 < length ts) where
  abbrev pub all_reads : Reader N P (List A)
  all_reads ts = many_reads starts r (length ts) ts

  -- one more item, or none
  pub many_turn : (ts : List (SignificantToken N P)) → all_reads ts ≡ (ask starts ts >>= λ b. cond b (r ts >>= λ x. all_reads x.1 >>= λ y. Some (x.0 ∷ y.0, y.1)) (Some ([], ts)))
  many_turn ts = many_fuel starts r progress (length ts) (suc (length ts)) ts (omega arith) (omega arith) ∙ ap (λ v. ask starts ts >>= λ b. cond b v (Some ([], ts)))
      (bind_where (r ts) (goes_on starts r progress (length ts)) (λ x. all_reads x.1 >>= λ y. Some (x.0 ∷ y.0, y.1)) (λ x e. (let l = progress ts x e in ap (λ v. v >>= λ rest. Some (x.0 ∷ rest.0, rest.1)) (many_fuel starts r progress (length ts) (length x.1) x.1 (omega arith) (omega arith)))))

  -- up to an end: what is done with all of them
  module _ {B : Type 0} (f : List A × List (SignificantToken N P) → Option B) where
    one_more : (a : A) (q : Option (List A × List (SignificantToken N P))) → (((q >>= λ y. Some (a ∷ y.0, y.1)) >>= λ x. cond (at (NotEnd ∷ []) x.1) None (Some x)) >>= f) ≡ ((q >>= λ x. cond (at (NotEnd ∷ []) x.1) None (Some x)) >>= λ y. f (a ∷ y.0, y.1))
    one_more a None = refl
    one_more a (Some y) = bind_cond (at (NotEnd ∷ []) y.1) None (Some (a ∷ y.0, y.1)) f ∙ sym (bind_cond (at (NotEnd ∷ []) y.1) None (Some y) (λ y. f (a ∷ y.0, y.1)))

    by_parts : (ts : List (SignificantToken N P)) (o : Option Bool) (p : Option (A × List (SignificantToken N P))) →
        (((o >>= λ b. cond b (p >>= λ x. all_reads x.1 >>= λ y. Some (x.0 ∷ y.0, y.1)) (Some ([], ts))) >>= λ x. cond (at (NotEnd ∷ []) x.1) None (Some x)) >>= f)
        ≡ (o >>= λ b. cond b (p >>= λ x. ended all_reads x.1 >>= λ y. f (x.0 ∷ y.0, y.1)) (cond (at (NotEnd ∷ []) ts) None (f ([], ts))))
    by_parts ts None p = refl
    by_parts ts (Some false) p = bind_cond (at (NotEnd ∷ []) ts) None (Some ([], ts)) f
    by_parts ts (Some true) None = refl
    by_parts ts (Some true) (Some x) = one_more x.0 (all_reads x.1)

    pub row_turns : (ts : List (SignificantToken N P)) → (ended all_reads ts >>= f) ≡ (ask starts ts >>= λ b. cond b (r ts >>= λ x. ended all_reads x.1 >>= λ y. f (x.0 ∷ y.0, y.1)) (cond (at (NotEnd ∷ []) ts) None (f ([], ts))))
    row_turns ts = ap (λ v. (v >>= λ x. cond (at (NotEnd ∷ []) x.1) None (Some x)) >>= f) (many_turn ts) ∙ by_parts ts (ask starts ts) (r ts)

    many_parts : (ts : List (SignificantToken N P)) (o : Option Bool) (p : Option (A × List (SignificantToken N P))) →
        ((o >>= λ b. cond b (p >>= λ x. all_reads x.1 >>= λ y. Some (x.0 ∷ y.0, y.1)) (Some ([], ts))) >>= f)
        ≡ (o >>= λ b. cond b (p >>= λ x. all_reads x.1 >>= λ y. f (x.0 ∷ y.0, y.1)) (f ([], ts)))
    many_parts ts None p = refl
    many_parts ts (Some false) p = refl
    many_parts ts (Some true) None = refl
    many_parts ts (Some true) (Some x) = bind_bind (all_reads x.1) (λ y. Some (x.0 ∷ y.0, y.1)) f

    pub many_turns : (ts : List (SignificantToken N P)) → (all_reads ts >>= f) ≡ (ask starts ts >>= λ b. cond b (r ts >>= λ x. all_reads x.1 >>= λ y. f (x.0 ∷ y.0, y.1)) (f ([], ts)))
    many_turns ts = ap (λ v. v >>= f) (many_turn ts) ∙ many_parts ts (ask starts ts) (r ts)

-- What is never nothing takes a token.
pub shrinks_but : {N P A : Type 0} (g : Syntax N P A) (own : A → List Test) → LawfulBut g own → g.empty ≡ false → any_end g.starts ≡ false → (ts : List (SignificantToken N P)) (x : A × List (SignificantToken N P)) → g.reads ts ≡ Some x → length x.1 < length ts
shrinks_but {N} {P} {A} g own lg full none ts x e =
    let s = lg.sound ts x e in
    let l : length ts ≡ length s.taken + length x.1 = ap length s.parts ∙ length-append s.taken x.1 in
    let p = some s.taken s.spelled in
    omega arith
  where
    some : (us : List (SignificantToken N P)) → g.spells x.0 us → 0 < length us
    some [] s = elim (lg.leads x.0 [] [] s) [ inl y ↦ absurd_of _ y (no_end g.starts none).0 | inr z ↦ absurd_of _ z.0 full ]
    some (t ∷ us) s = omega arith
