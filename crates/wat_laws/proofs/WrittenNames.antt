-- Fresh names in place of those that are made: what is told of tokens is the same.
use Rattle.std.proofs.Common.{◌≡◌, ◌<◌, ◌+◌, ℕ, suc, Bool, true, false, List, [], ◌∷◌, ◌++◌, map, Option, Some, None, refl, sym, ◌∙◌, ap, arith}
use Rattle.std.specs.Prelude.{◌&&◌, ◌||◌, not, if◌then◌else◌}
use Rattle.std.specs.List.{list_any}
use std.Equiv.{Iso, iso_to_equiv}
use Rattle.wast_grammar.specs.Tokens.{Name, SignificantToken, Open, Close, Id, Word, Mark, Integer, Float, Text, Reserved, Broken}
use Rattle.wast_grammar.specs.Spelling.{same_name}
use Rattle.wast_grammar.specs.Significant.{TextToken}
use Rattle.wast_grammar.specs.Alike.{move, Fits, Matched, Carries, name_pair, names}
use Rattle.wast_grammar.proofs.Decide.{names_decide}
use Rattle.wast_grammar.proofs.Extend.{extend}
use Rattle.wast_parser.specs.Identifiers.{Named}
use Rattle.wast_field_syntax.specs.FieldTree.{Defined, Imported, Func, Table, TableOf, Memory, MemoryOf, Global, Tag, Field, TypeField, RecField, ImportField, Define, ExportField, StartField, ElemField, DataField, CustomField}
use Rattle.wast_meaning.specs.Written.{definition_out, field_out, written_from, written_out, takes_name, by_counter}
use Rattle.wast_meaning.specs.Fresh.{taken_from, are_distinct, are_new}
use Rattle.wast_meaning.specs.Made.{made, is_made}
use Rattle.wast_meaning.proofs.Counter.{counted, counted_out}
use Rattle.wast_meaning.proofs.Settled.{left, right, two}
use Rattle.wast_resolve_laws.proofs.RenamedFields.{names_kept}
use Rattle.wat_verdict.proofs.Placed.{AreRead, IsRead}
use Rattle.wat_verdict.proofs.Free.{Known, Kept, free}
use Rattle.wat_verdict.proofs.Told.{told}
use Rattle.wat_verdict.proofs.Alike.{known_by}

-- TOKENS of which the names stay
module _ {N P : Type 0} (f : N → N) where
  stays_one : (t : SignificantToken N P) (ns : List (N × N)) → Carries f (name_pair t t ns) → (move f (λ p. p) t ≡ t) × Carries f ns
  stays_one (Open p) ns c = (refl, c)
  stays_one (Close p) ns c = (refl, c)
  stays_one (Id (Some n) p) ns c = (ap (λ m. Id (Some m) p) c.0, c.1)
  stays_one (Id None p) ns c = (refl, c)
  stays_one (Word w p) ns c = (refl, c)
  stays_one (Mark w p) ns c = (refl, c)
  stays_one (Integer n w p) ns c = (refl, c)
  stays_one (Float w p) ns c = (refl, c)
  stays_one (Text w p) ns c = (refl, c)
  stays_one (Reserved w p) ns c = (refl, c)
  stays_one Broken ns c = (refl, c)

  stays : (ts : List (SignificantToken N P)) → Carries f (names ts ts) → map (move f (λ p. p)) ts ≡ ts
  stays [] c = refl
  stays (t ∷ ts) c = let k = stays_one t (names ts ts) c in two (λ u us. u ∷ us) k.0 (stays ts k.1)

module _ {N : Type 0} (f : N → N) where
  carries_front : (ps qs : List (N × N)) → Carries f (ps ++ qs) → Carries f ps
  carries_front [] qs c = tt
  carries_front (p ∷ ps) qs c = (c.0, carries_front ps qs c.1)

  carries_back : (ps qs : List (N × N)) → Carries f (ps ++ qs) → Carries f qs
  carries_back [] qs c = c
  carries_back (p ∷ ps) qs c = carries_back ps qs c.1

-- PAIRS: names that are read, each with itself, and names that are made with fresh ones
abbrev pub made_pairs : ℕ → List Name → List (Name × Name)
made_pairs n [] = []
made_pairs n (x ∷ xs) = (made n, x) ∷ made_pairs (n + 1) xs

abbrev Own : List (Name × Name) → Type 0
Own [] = Unit {0}
Own (p ∷ ps) = (p.0 ≡ p.1) × (p.0.1 ≡ 0) × Own ps

own_one : (t : SignificantToken Name ℕ) (ps : List (Name × Name)) → IsRead t → Own ps → Own (name_pair t t ps)
own_one (Open p) ps r o = o
own_one (Close p) ps r o = o
own_one (Id (Some n) p) ps r o = (refl, r, o)
own_one (Id None p) ps r o = o
own_one (Word w p) ps r o = o
own_one (Mark w p) ps r o = o
own_one (Integer n w p) ps r o = o
own_one (Float w p) ps r o = o
own_one (Text w p) ps r o = o
own_one (Reserved w p) ps r o = o
own_one Broken ps r o = o

own_names : (ts : List TextToken) → AreRead ts → Own (names ts ts)
own_names [] r = tt
own_names (t ∷ ts) r = own_one t (names ts ts) r.0 (own_names ts r.1)

differ : (m n : Name) → same_name m n ≡ false → m ≡ n → ⊥
differ m n e same = let t = (names_decide m n).1 same in absurd (cc (e, t))

neither : (a b : Bool) → not (a || b) ≡ true → (a ≡ false) × (not b ≡ true)
neither false b h = (refl, h)
neither true b h = absurd (cc)

-- no fresh name is this one
abbrev Avoids : Name → List Name → Type 0
Avoids n [] = Unit {0}
Avoids n (x ∷ xs) = (x ≡ n → ⊥) × Avoids n xs

new_head : (o : Name) (os xs : List Name) → are_new same_name xs (o ∷ os) ≡ true → Avoids o xs
new_head o os [] h = tt
new_head o os (x ∷ xs) h = (
  differ x o (neither (same_name x o) (list_any (same_name x) os) (left (not (list_any (same_name x) (o ∷ os))) (are_new same_name xs (o ∷ os)) h)).0,
  new_head o os xs (right (not (list_any (same_name x) (o ∷ os))) (are_new same_name xs (o ∷ os)) h),
)

new_tail : (o : Name) (os xs : List Name) → are_new same_name xs (o ∷ os) ≡ true → are_new same_name xs os ≡ true
new_tail o os [] h = refl
new_tail o os (x ∷ xs) h =
    two (λ a b. a && b) (neither (same_name x o) (list_any (same_name x) os) (left (not (list_any (same_name x) (o ∷ os))) (are_new same_name xs (o ∷ os)) h)).1
    (new_tail o os xs (right (not (list_any (same_name x) (o ∷ os))) (are_new same_name xs (o ∷ os)) h))

fits_own : (p : Name × Name) (ps : List (Name × Name)) → p.0 ≡ p.1 → Own ps → Fits p ps
fits_own p [] e o = tt
fits_own p (q ∷ qs) e o = ((λ f. sym e ∙ f ∙ o.0, λ f. e ∙ f ∙ sym o.0), fits_own p qs e o.2)

fits_made : (p : Name × Name) (k : ℕ) (xs : List Name) → p.0 ≡ p.1 → p.0.1 ≡ 0 → Avoids p.0 xs → Fits p (made_pairs k xs)
fits_made p k [] e z a = tt
fits_made p k (x ∷ xs) e z a = ((λ f. absurd (let g : p.0.1 ≡ k + 1 = ap (λ n. n.1) f in omega (arith, g, z)), λ f. absurd (a.0 (sym f ∙ sym e))), fits_made p (k + 1) xs e z a.1)

fits_both : (p : Name × Name) (ps qs : List (Name × Name)) → Fits p ps → Fits p qs → Fits p (ps ++ qs)
fits_both p [] qs f g = g
fits_both p (r ∷ ps) qs f g = (f.0, fits_both p ps qs f.1 g)

fits_later : (k j : ℕ) (x : Name) (xs : List Name) → k < j → not (list_any (same_name x) xs) ≡ true → Fits (made k, x) (made_pairs j xs)
fits_later k j x [] l h = tt
fits_later k j x (y ∷ ys) l h =
    let apart = neither (same_name x y) (list_any (same_name x) ys) h in
    ((λ f. absurd (let g : k + 1 ≡ j + 1 = ap (λ (n : Name). n.1) f in omega (arith, g, l)), λ f. absurd (differ x y apart.0 f)), fits_later k (j + 1) x ys (omega (arith, l)) apart.1)

matched_made : (k : ℕ) (xs : List Name) → are_distinct same_name xs ≡ true → Matched (made_pairs k xs)
matched_made k [] h = tt
matched_made k (x ∷ xs) h =
    (fits_later k (k + 1) x xs (omega arith) (left (not (list_any (same_name x) xs)) (are_distinct same_name xs) h), matched_made (k + 1) xs (right (not (list_any (same_name x) xs)) (are_distinct same_name xs) h))

matched_all : (ps : List (Name × Name)) (xs : List Name) → Own ps → are_new same_name xs (map (λ x. x.0) ps) ≡ true → are_distinct same_name xs ≡ true → Matched (ps ++ made_pairs 0 xs)
matched_all [] xs o new h = matched_made 0 xs h
matched_all (p ∷ ps) xs o new h =
    (fits_both p ps (made_pairs 0 xs) (fits_own p ps o.0 o.2) (fits_made p 0 xs o.0 o.1 (new_head p.0 (map (λ x. x.0) ps) xs new)), matched_all ps xs o.2 (new_tail p.0 (map (λ x. x.0) ps) xs new) h)

-- OTHER NAMES ARE MADE: those that a permutation gives for the ones that were
abbrev pub other_made : Iso Name Name → Known Name
other_made i = record { same = same_name; is_made = λ n. is_made (i.inv n); made = λ k. i.fun (made k); show = λ n. [] }

other_kept : (i : Iso Name Name) → Kept (known_by (λ n. [])) (other_made i) i.fun
other_kept i = record { same = names_kept i; is_made = λ n. ap is_made (i.linv n); made = λ k. refl; show = λ n. refl }

abbrev no_move : Iso ℕ ℕ
no_move = record { fun = λ p. p; inv = λ p. p; rinv = λ p. refl; linv = λ p. refl }

-- a permutation in which the names of tokens stay, and the names that are made become these; and what is told then
pub record Renames (ts : List TextToken) (xs : List Name) : Type 0 where
  pub permuted : Iso Name Name
  pub made_so : Carries permuted.fun (made_pairs 0 xs)
  pub told_so : told Name ℕ (other_made permuted) ts ≡ told Name ℕ (known_by (λ n. [])) ts

pub renames : (ts : List TextToken) (xs : List Name) → AreRead ts → are_new same_name xs (map (λ x. x.0) (names ts ts)) ≡ true → are_distinct same_name xs ≡ true → Renames ts xs
renames ts xs read new apart =
    let i = extend same_name names_decide (names ts ts ++ made_pairs 0 xs) (matched_all (names ts ts) xs (own_names ts read) new apart) in
    record {
      permuted = i.0;
      made_so = carries_back i.0.fun (names ts ts) (made_pairs 0 xs) i.1;
      told_so = ap (λ v. told Name ℕ (other_made i.0) v) (sym (stays i.0.fun ts (carries_front i.0.fun (names ts ts) (made_pairs 0 xs) i.1)))
          ∙ free told (iso_to_equiv i.0) (iso_to_equiv no_move) (known_by (λ n. [])) (other_made i.0) (other_kept i.0) ts;
    }

-- WRITTEN OUT with these names
abbrev given_for : (Name → Name) → ℕ → Name
given_for r j = r (made j)

module _ {P : Type 0} where
  definition_untaken : (a b : Name) (p : P) (id : Option (Named Name P)) (given : Option (List ℕ)) (es : List (List ℕ)) (d : Defined Name P) →
      takes_name (Define (record { place = p; id = id; given = given; exports = es; defined = d })) ≡ false →
      definition_out a (record { place = p; id = id; given = given; exports = es; defined = d }) ≡ definition_out b (record { place = p; id = id; given = given; exports = es; defined = d })
  definition_untaken a b p (Some id) given es d h = refl
  definition_untaken a b p None given (e ∷ es) d h = absurd (cc)
  definition_untaken a b p None given [] (Imported from name t) h = refl
  definition_untaken a b p None given [] (Func f) h = refl
  definition_untaken a b p None given [] (Table t init) h = refl
  definition_untaken a b p None given [] (TableOf wide t es) h = absurd (cc)
  definition_untaken a b p None given [] (Memory t) h = refl
  definition_untaken a b p None given [] (MemoryOf wide page vs) h = absurd (cc)
  definition_untaken a b p None given [] (Global t init) h = refl
  definition_untaken a b p None given [] (Tag u) h = refl

  untaken : (a b : Name) (f : Field Name P) → takes_name f ≡ false → field_out a f ≡ field_out b f
  untaken a b (Define d) h = definition_untaken a b d.place d.id d.given d.exports d.defined h
  untaken a b (TypeField t) h = refl
  untaken a b (RecField r) h = refl
  untaken a b (ImportField i) h = refl
  untaken a b (ExportField e) h = refl
  untaken a b (StartField s) h = refl
  untaken a b (ElemField e) h = refl
  untaken a b (DataField d) h = refl
  untaken a b (CustomField c) h = refl

  module _ (r : Name → Name) (naming : ℕ → Name) where
    counted_so : (n k : ℕ) (fs : List (Field Name P)) → Carries r (made_pairs n (taken_from naming k fs)) → counted (given_for r) n fs ≡ written_from naming k fs
    counted_so n k [] c = refl
    counted_so n k (f ∷ fs) c = by_case (takes_name f) refl c (λ m d. counted_so m (suc k) fs d)
      where
        by_case : (b : Bool) → takes_name f ≡ b → Carries r (made_pairs n (if b then naming k ∷ taken_from naming (suc k) fs else taken_from naming (suc k) fs)) →
            ((m : ℕ) → Carries r (made_pairs m (taken_from naming (suc k) fs)) → counted (given_for r) m fs ≡ written_from naming (suc k) fs) →
            field_out (r (made n)) f ++ counted (given_for r) (if b then n + 1 else n) fs ≡ field_out (naming k) f ++ written_from naming (suc k) fs
        by_case true e d rest = two (λ x l. field_out x f ++ l) d.0 (rest (n + 1) d.1)
        by_case false e d rest = two (λ a b. a ++ b) (untaken (r (made n)) (naming k) f e) (rest n d)

    pub written_so : (fs : List (Field Name P)) → Carries r (made_pairs 0 (taken_from naming 0 fs)) → written_out (by_counter (given_for r) 0 fs) fs ≡ written_out naming fs
    written_so fs c = sym (counted_out (given_for r) 0 fs) ∙ counted_so 0 0 fs c
