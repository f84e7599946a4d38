-- Texts that are alike have one verdict.
use Rattle.std.proofs.Common.{◌≡◌, ◌↔◌, ◌<◌, ◌^◌, ℕ, zero, suc, Bool, true, false, List, [], ◌∷◌, map, length, Option, Some, None, refl, sym, ◌∙◌, ap, subst, arith, tests, nat_eq}
use Rattle.std.specs.Prelude.{◌&&◌, not, is_some, option_map, if◌then◌else◌}
use std.Path.{fun_ext}
use Rattle.std.specs.Cmp.Lexicographic.{bytes_decides}
use Rattle.std.specs.Str.{IsUtf8}
use Rattle.std.proofs.lemmas.Option.{same_Some}
use std.Equiv.{Iso, iso_to_equiv}
use Rattle.wast_grammar.specs.Tokens.{Name}
use Rattle.wast_grammar.specs.Tokens as tokens
use Rattle.wast_grammar.specs.Spelling.{same_name, same_text}
use Rattle.wast_grammar.specs.Significant.{TextToken, AreSignificant}
use Rattle.wast_grammar.specs.Alike.{Fits, Matched, Carries, Same, Alike, name_pair, names, places}
use Rattle.wast_grammar.proofs.Decide.{carried, rising_match}
use Rattle.wast_grammar.proofs.Extend.{extend}
use Rattle.wast_names.specs.Demand.{Complaint, Demand}
use Rattle.wast_field_syntax.specs.FieldTree.{Content, Fields, Module}
use Rattle.wast_field_syntax.specs.FieldTree as fields
use Rattle.wast_meaning.specs.Made.{made, is_made}
use Rattle.wast_meaning.specs.Numbered.{resolved}
use Rattle.wast_core.specs.ModuleSyntax.{wat}
use Rattle.wast_meant.specs.Meaning.{meant}
use Rattle.wasm_layout.specs.AbstractModule.{AbstractModule}
use Rattle.wasm_layout.specs.Layout.{layout}
use Rattle.wasm_layout.specs.Lays.{bare, last_joined, no_names}
use Rattle.wasm_layout.specs.Section.{Names}
use Rattle.wast_conversions.specs.Covered.{Form}
use Rattle.wast_meant.specs.Binary.{bytes_of, module_with}
use Rattle.wast_meant.specs.Means.{naming, Worth, Stands, Pieces}
use Rattle.wast_meant.specs.Plain.{IsPlainContent}
use Rattle.wast_meant.specs.NamesMeant.{GivenName, Identifier, Bytes, given_name}
use Rattle.wast_meant.proofs.Renamed.{same_sections}
use Rattle.wast_grammar.proofs.SignificantLaws.{one_list}
use Rattle.wast_resolve_laws.proofs.RenamedFields.{names_kept}
use Rattle.wat_verdict.specs.Registered.{registered}
use Rattle.wat_verdict.specs.Spells.{Spells}
use Rattle.wat_verdict.specs.Naming.{unmet_demand}
use Rattle.wat_verdict.specs.Verdict.{Condition, TooLong, NotUtf8, Misspelled, NotWellFormed, Unmet, Uncovered, unmet_at, tree_breach, tree_uncovered, Fails, Accepts, Assembles, IsBinary, IsPlainText}
use Rattle.wat_verdict.specs.Alike.{AlikeTexts, complaint_shown, SameCondition, Follows, IsSame, Agree, TokensDecide, SameBare, Renaming}
use Rattle.wat_verdict.proofs.Free.{Known, Kept, free}
use Rattle.wat_verdict.proofs.Placed.{IsRead, AreRead, text_rises, both_rise, text_read}
use Rattle.wat_verdict.proofs.Told.{name_shown, content_worth, content_plain, summary, told, told_spelled, spelled_told}
use Rattle.wat_verdict.proofs.Unmet.{unmet_so}
use Rattle.wat_verdict.proofs.Verdict.{IsSound, worth_in, tree_worth, worth_tree, worth_of}

-- PERMUTATIONS OF NAMES that leave those that are made up
abbrev moved_name : (List ℕ → List ℕ) → List ℕ → ℕ → Name
moved_name f bytes zero = (f bytes, zero)
moved_name f bytes (suc generation) = (bytes, suc generation)

back_again : (f g : List ℕ → List ℕ) → ((b : List ℕ) → f (g b) ≡ b) → (bytes : List ℕ) (generation : ℕ) → moved_name f (moved_name g bytes generation).0 (moved_name g bytes generation).1 ≡ (bytes, generation)
back_again f g h bytes zero = ap (λ b. (b, zero)) (h bytes)
back_again f g h bytes (suc generation) = refl

abbrev of_names : Iso (List ℕ) (List ℕ) → Iso Name Name
of_names i = record {
  fun = λ n. moved_name i.fun n.0 n.1;
  inv = λ n. moved_name i.inv n.0 n.1;
  rinv = λ n. back_again i.fun i.inv i.rinv n.0 n.1;
  linv = λ n. back_again i.inv i.fun i.linv n.0 n.1;
}

same_generation : (f : List ℕ → List ℕ) (bytes : List ℕ) (generation : ℕ) → (moved_name f bytes generation).1 ≡ generation
same_generation f bytes zero = refl
same_generation f bytes (suc generation) = refl

made_stays : (f : List ℕ → List ℕ) (bytes : List ℕ) (generation : ℕ) → 0 < generation → (bytes, generation) ≡ moved_name f bytes generation
made_stays f bytes zero h = absurd (omega (arith, h))
made_stays f bytes (suc generation) h = refl

-- what is known of the names of texts, and shown of them
abbrev pub known_by : (Name → List ℕ) → Known Name
known_by show = record { same = same_name; is_made = is_made; made = made; show = show }

nothing_shown : (i : Iso (List ℕ) (List ℕ)) → Kept (known_by (λ n. [])) (known_by (λ n. [])) (of_names i).fun
nothing_shown i = record {
  same = names_kept (of_names i);
  is_made = λ n. ap (λ g. not (nat_eq g 0)) (same_generation i.fun n.0 n.1);
  made = λ k. made_stays i.fun (made k).0 (made k).1 (omega arith);
  show = λ n. refl;
}

abbrev no_change : Iso Name Name
no_change = record { fun = λ n. n; inv = λ n. n; rinv = λ n. refl; linv = λ n. refl }

all_shown : Kept (known_by (λ n. n.0)) (known_by (λ n. n.0)) no_change.fun
all_shown = record { same = λ a b. refl; is_made = λ n. refl; made = λ k. refl; show = λ n. refl }

-- NAMES SIDE BY SIDE
same_carried : (ps : List (Name × Name)) → Same ps → Carries no_change.fun ps
same_carried [] s = tt
same_carried (p ∷ ps) s = (s.0, same_carried ps s.1)

abbrev ReadPairs : List (Name × Name) → Type 0
ReadPairs [] = Unit {0}
ReadPairs (p ∷ ps) = (p.0.1 ≡ 0) × (p.1.1 ≡ 0) × ReadPairs ps

read_pair : (t u : TextToken) (ps : List (Name × Name)) → IsRead t → IsRead u → ReadPairs ps → ReadPairs (name_pair t u ps)
read_pair (tokens.Id (Some n) p) (tokens.Id (Some m) q) ps a b h = (a, b, h)
read_pair t u ps a b h = h

read_pairs : (ts us : List TextToken) → AreRead ts → AreRead us → ReadPairs (names ts us)
read_pairs [] us a b = tt
read_pairs (t ∷ ts) [] a b = tt
read_pairs (t ∷ ts) (u ∷ us) a b = read_pair t u (names ts us) a.0 b.0 (read_pairs ts us a.1 b.1)

abbrev in_bytes_both : Name × Name → List ℕ × List ℕ
in_bytes_both p = (p.0.0, p.1.0)

one_name : (a b : Name) → a.1 ≡ 0 → b.1 ≡ 0 → a.0 ≡ b.0 → a ≡ b
one_name a b g h e = λ i. (e i, (g ∙ sym h) i)

bytes_fit : (p : Name × Name) (ps : List (Name × Name)) → p.0.1 ≡ 0 → p.1.1 ≡ 0 → ReadPairs ps → Fits p ps → Fits (in_bytes_both p) (map in_bytes_both ps)
bytes_fit p [] a b r f = tt
bytes_fit p (q ∷ qs) a b r f = (
  (λ e. ap (λ n. n.0) (f.0.0 (one_name p.0 q.0 a r.0 e)), λ e. ap (λ n. n.0) (f.0.1 (one_name p.1 q.1 b r.1 e))),
  bytes_fit p qs a b r.2 f.1,
)

bytes_match : (ps : List (Name × Name)) → ReadPairs ps → Matched ps → Matched (map in_bytes_both ps)
bytes_match [] r m = tt
bytes_match (p ∷ ps) r m = (bytes_fit p ps r.0 r.1 r.2 m.0, bytes_match ps r.2 m.1)

names_carried : (f : List ℕ → List ℕ) (ps : List (Name × Name)) → ReadPairs ps → Carries f (map in_bytes_both ps) → Carries (λ n. moved_name f n.0 n.1) ps
names_carried f [] r c = tt
names_carried f (p ∷ ps) r c = (ap (moved_name f p.0.0) r.0 ∙ one_name (f p.0.0, 0) p.1 refl r.1 c.0, names_carried f ps r.2 c.1)

numbers_decide : (a b : ℕ) → (nat_eq a b ≡ true) ↔ (a ≡ b)
numbers_decide a b = grind (arith, tests)

-- WHAT IS TOLD of tokens that are alike is the same, where a renaming carries their names, and their places match
module _ (show : Name → List ℕ) (i : Iso Name Name) (kept : Kept (known_by show) (known_by show) i.fun) (ts us : List TextToken) (a : Alike ts us) where
  told_carried : Carries i.fun (names ts us) → Matched (places ts us) → told Name ℕ (known_by show) us ≡ told Name ℕ (known_by show) ts
  told_carried c m =
      let d = extend nat_eq numbers_decide (places ts us) m in
      ap (λ v. told Name ℕ (known_by show) v) (sym (carried i.fun d.0.fun ts us a c d.1)) ∙ free told (iso_to_equiv i) (iso_to_equiv d.0) (known_by show) (known_by show) kept ts

-- so it is the same where their names are, wherever they stand
pub told_moved : (ts us : List TextToken) → Alike ts us → Same (names ts us) → Matched (places ts us) → told Name ℕ (known_by (λ n. n.0)) us ≡ told Name ℕ (known_by (λ n. n.0)) ts
told_moved ts us a s m = told_carried (λ n. n.0) no_change all_shown ts us a (same_carried (names ts us) s) m

-- and so it is of texts whose tokens differ by a renaming
module _ {text other : List ℕ} {ts us : List TextToken} (x : AlikeTexts text other ts us) where
  told_alike : (show : Name → List ℕ) (i : Iso Name Name) → Kept (known_by show) (known_by show) i.fun → Carries i.fun (names ts us) → told Name ℕ (known_by show) us ≡ told Name ℕ (known_by show) ts
  told_alike show i kept c =
      let rise = both_rise 0 0 ts us (text_rises false registered text ts x.significant.0) (text_rises false registered other us x.significant.1) in
      told_carried show i kept ts us x.alike c (rising_match _ rise)

  same_told : Same (names ts us) → told Name ℕ (known_by (λ n. n.0)) us ≡ told Name ℕ (known_by (λ n. n.0)) ts
  same_told s = told_alike (λ n. n.0) no_change all_shown (same_carried (names ts us) s)

  renamed_told : Matched (names ts us) → told Name ℕ (known_by (λ n. [])) us ≡ told Name ℕ (known_by (λ n. [])) ts
  renamed_told m =
      let read = read_pairs ts us (text_read false registered text ts x.significant.0) (text_read false registered other us x.significant.1) in
      let i = extend same_text bytes_decides (map in_bytes_both (names ts us)) (bytes_match (names ts us) read m) in
      told_alike (λ n. []) (of_names i.0) (nothing_shown i.0) (names_carried i.0.fun (names ts us) read i.1)

-- OPTIONS
is_of : {A : Type 0} (o : Option A) → is_some o ≡ true → (x : A) × (o ≡ Some x)
is_of None e = absurd (cc)
is_of (Some x) e = (x, refl)

pub none_of : {A : Type 0} (o : Option A) → is_some o ≡ false → o ≡ None
none_of None e = refl
none_of (Some x) e = absurd (cc)

pub mapped_of : {A B : Type 0} (f : A → B) (o : Option A) (y : B) → option_map f o ≡ Some y → (x : A) × (o ≡ Some x) × (f x ≡ y)
mapped_of f None y e = absurd (cc)
mapped_of f (Some x) y e = (x, refl, same_Some (f x) y e)

pub mapped_none : {A B : Type 0} (f : A → B) (o : Option A) → option_map f o ≡ None → o ≡ None
mapped_none f None e = refl
mapped_none f (Some x) e = absurd (cc)

-- ONE TEXT AND THE OTHER, of whose tokens the same is told
module _ (show : Name → List ℕ) (text other : List ℕ) (ts us : List TextToken) (here : AreSignificant false registered text ts) (there : AreSignificant false registered other us)
    (same : told Name ℕ (known_by show) us ≡ told Name ℕ (known_by show) ts) where
  -- the tree that the other spells
  record Counterpart (t : Module Name ℕ) : Type 0 where
    tree : Module Name ℕ
    spelled : Spells other tree
    same_summary : summary (known_by show) tree ≡ summary (known_by show) t

  counterpart : (t : Module Name ℕ) → Spells text t → Counterpart t
  counterpart t s =
      let spelled = subst (λ v. wat.spells t v) (one_list false registered text s.tokens ts s.significant here) s.spelled in
      let u = spelled_told (known_by show) us (summary (known_by show) t) (same ∙ told_spelled (known_by show) ts t spelled) in
      record { tree = u.0; spelled = record { tokens = us; significant = there; spelled = u.1 }; same_summary = u.2 }

  module _ (t : Module Name ℕ) (u : Counterpart t) where
    breach_none : tree_breach t ≡ None → tree_breach u.tree ≡ None
    breach_none e = none_of (tree_breach u.tree) (ap (λ s. s.breached) u.same_summary ∙ ap is_some e)

    breach_some : (p : ℕ) → tree_breach t ≡ Some p → (q : ℕ) × (tree_breach u.tree ≡ Some q)
    breach_some p e = is_of (tree_breach u.tree) (ap (λ s. s.breached) u.same_summary ∙ ap is_some e)

    unmet_none : unmet_demand t ≡ None → unmet_demand u.tree ≡ None
    unmet_none e = mapped_none (λ d. complaint_shown show d.complaint) (unmet_demand u.tree) (ap (λ s. s.complaint) u.same_summary ∙ ap (option_map (λ d. complaint_shown show d.complaint)) e)

    unmet_some : (p : ℕ) (c : Complaint Name) → unmet_demand t ≡ Some (unmet_at p c) → (d : Demand Name ℕ) × (unmet_demand u.tree ≡ Some d) × (complaint_shown show d.complaint ≡ complaint_shown show c)
    unmet_some p c e = mapped_of (λ d. complaint_shown show d.complaint) (unmet_demand u.tree) (complaint_shown show c) (ap (λ s. s.complaint) u.same_summary ∙ ap (option_map (λ d. complaint_shown show d.complaint)) e)

    form_none : tree_uncovered t ≡ None → tree_uncovered u.tree ≡ None
    form_none e = mapped_none (λ x. x.1) (tree_uncovered u.tree) (ap (λ s. s.form) u.same_summary ∙ ap (option_map (λ x. x.1)) e)

    form_some : (p : ℕ) (f : Form) → tree_uncovered t ≡ Some (p, f) → (x : ℕ × Form) × (tree_uncovered u.tree ≡ Some x) × (x.1 ≡ f)
    form_some p f e = mapped_of (λ x. x.1) (tree_uncovered u.tree) f (ap (λ s. s.form) u.same_summary ∙ ap (option_map (λ x. x.1)) e)

    sound_too : IsSound t → IsSound u.tree
    sound_too s = record { formed = breach_none s.formed; met = unmet_none s.met; covered = form_none s.covered }

  module _ (short : length other < 2 ^ 32) (utf8 : IsUtf8 other) where
    spelled_failed : (c : Condition) → length text < 2 ^ 32 → IsUtf8 text → ((t : Module Name ℕ) → Spells other t → (u : Module Name ℕ) × Spells text u) → Fails text c → (d : Condition) × Fails other d × SameCondition show c d
    spelled_failed TooLong s v back f = absurd (omega (arith, s, f))
    spelled_failed (NotUtf8 n) s v back f = absurd (f.1 v)
    spelled_failed Misspelled s v back f = (Misspelled, (short, utf8, λ t h. (let u = back t h in f.2 u.0 u.1)), tt)
    spelled_failed (NotWellFormed p) s v back f =
        let u = counterpart f.2.0 f.2.1 in
        let q = breach_some f.2.0 u p f.2.2 in
        (NotWellFormed q.0, (short, utf8, (u.tree, u.spelled, q.1)), tt)
    spelled_failed (Unmet p c) s v back f =
        let u = counterpart f.2.0 f.2.1 in
        let d = unmet_some f.2.0 u p c f.2.3 in
        (Unmet d.0.place d.0.complaint, (short, utf8, (u.tree, u.spelled, breach_none f.2.0 u f.2.2, unmet_so u.tree d.0 d.1)), sym d.2)
    spelled_failed (Uncovered p g) s v back f =
        let u = counterpart f.2.0 f.2.1 in
        let x = form_some f.2.0 u p g f.2.4 in
        (Uncovered x.0.0 x.0.1, (short, utf8, (u.tree, u.spelled, breach_none f.2.0 u f.2.2, unmet_none f.2.0 u f.2.3, x.1)), sym x.2)

    -- what is accepted is accepted, by the tree that is its counterpart
    record Taken (w : Worth) : Type 0 where
      tree : Module Name ℕ
      is : w ≡ tree_worth tree
      counter : Counterpart tree
      accepts : Accepts other (tree_worth counter.tree)

    taken : (w : Worth) → Accepts text w → Taken w
    taken w a =
        let t = worth_tree text w a.worth in
        let u = counterpart t.tree t.spelled in
        record {
          tree = t.tree;
          is = t.is;
          counter = u;
          accepts = record { short = short; utf8 = utf8; worth = worth_of other u.tree u.spelled (sound_too t.tree u t.sound) };
        }

-- WHAT TREES ARE WORTH of which the same is told
shown_bytes : (g : GivenName Name) → name_shown (known_by (λ n. n.0)) g ≡ bytes_of g
shown_bytes (Identifier n) = refl
shown_bytes (Bytes bytes) = refl

worth_shown : (name : Option (GivenName Name)) (c : Content Name ℕ) → content_worth (known_by (λ n. n.0)) name c ≡ worth_in name c
worth_shown name (Fields fs) = ap (λ f. Stands (module_with f (meant same_name is_made name (resolved same_name (naming fs) fs)))) (fun_ext shown_bytes)
worth_shown name (fields.Pieces pieces) = refl

-- modules without their names, whatever these show
bare_shown : {A B : Type 0} (f g : A → B) (m : AbstractModule A) → bare (module_with f m) ≡ bare (module_with g m)
bare_shown f g m = ap (λ b. record (module_with f m) { names = no_names; customs = if b then last_joined m.customs else m.customs }) (same_sections f m Names ∙ sym (same_sections g m Names))

pub same_module : (m n : AbstractModule (List ℕ)) → Stands m ≡ Stands n → m ≡ n
same_module m n e = cc

same_pieces : (a b : List ℕ) → Pieces a ≡ Pieces b → a ≡ b
same_pieces a b e = cc

pub no_pieces : {Z : Type 0} (m : AbstractModule (List ℕ)) (b : List ℕ) → Stands m ≡ Pieces b → Z
no_pieces m b e = absurd (cc)

worth_bare : (first second : Option (GivenName Name)) (c d : Content Name ℕ) → content_worth (known_by (λ n. [])) second d ≡ content_worth (known_by (λ n. [])) first c → SameBare (worth_in first c) (worth_in second d)
worth_bare first second (Fields fs) (Fields gs) e =
    let same =
    bare_shown bytes_of (name_shown (known_by (λ n. []))) (meant same_name is_made first (resolved same_name (naming fs) fs))
    ∙ ap bare (sym (same_module _ _ e))
    ∙ bare_shown (name_shown (known_by (λ n. []))) bytes_of (meant same_name is_made second (resolved same_name (naming gs) gs)) in
    (same, ap layout same)
worth_bare first second (Fields fs) (fields.Pieces b) e = no_pieces _ _ (sym e)
worth_bare first second (fields.Pieces a) (Fields gs) e = no_pieces _ _ e
worth_bare first second (fields.Pieces a) (fields.Pieces b) e = sym (same_pieces _ _ e)

-- PLAIN TREES
both_not : (a b : Bool) → (not a && not b) ≡ true → (a ≡ false) × (b ≡ false)
both_not false false e = (refl, refl)
both_not true b e = absurd (cc)
both_not false true e = absurd (cc)

plain_told : (c : Content Name ℕ) → IsPlainContent c → content_plain (known_by (λ n. n.0)) c ≡ true
plain_told (Fields fs) p = rw (p.no_names, p.no_hints) refl
plain_told (fields.Pieces pieces) p = absurd p

told_plain : (c : Content Name ℕ) → content_plain (known_by (λ n. n.0)) c ≡ true → IsPlainContent c
told_plain (Fields fs) e = let h = both_not _ _ e in record { no_names = h.0; no_hints = h.1 }
told_plain (fields.Pieces pieces) e = absurd (cc)

-- THE LAWS
module _ (text other : List ℕ) (ts us : List TextToken) (here : AreSignificant false registered text ts) (there : AreSignificant false registered other us)
    (same : told Name ℕ (known_by (λ n. n.0)) us ≡ told Name ℕ (known_by (λ n. n.0)) ts) where
  plain_back : IsPlainText other → IsPlainText text
  plain_back plain t s =
      let u = counterpart (λ n. n.0) text other ts us here there same t s in
      told_plain t.content (sym (ap (λ s. s.plain) u.same_summary) ∙ plain_told u.tree.content (plain u.tree u.spelled))

  module _ (short : length other < 2 ^ 32) (utf8 : IsUtf8 other) where
    same_worth : (w : Worth) → Accepts text w → Accepts other w
    same_worth w a =
        let t = taken (λ n. n.0) text other ts us here there same short utf8 w a in
        let u = t.counter.tree in
        let e = sym (worth_shown (given_name is_made u.given u.id) u.content) ∙ ap (λ s. s.worth) t.counter.same_summary ∙ worth_shown (given_name is_made t.tree.given t.tree.id) t.tree.content in
        subst (λ v. Accepts other v) (e ∙ sym t.is) t.accepts

    same_binary : (w : Worth) (binary : List ℕ) → IsBinary text w binary → IsBinary other w binary
    same_binary (Stands m) binary b = (b.0, λ plain. b.1 (plain_back plain))
    same_binary (Pieces bytes) binary b = b

    agree_forth : length text < 2 ^ 32 → IsUtf8 text → ((t : Module Name ℕ) → Spells other t → (u : Module Name ℕ) × Spells text u) → Follows (λ n. n.0) IsSame text other
    agree_forth s v back = record {
      failed = λ c. spelled_failed (λ n. n.0) text other ts us here there same short utf8 c s v back;
      accepted = λ w a. (w, same_worth w a, refl);
    }

    binary_forth : (binary : List ℕ) → Assembles text binary → Assembles other binary
    binary_forth binary a = (a.0, same_worth a.0 a.1, same_binary a.0 binary a.2)

-- a tree of the one has one of the other
spelled_there : (show : Name → List ℕ) (text other : List ℕ) (ts us : List TextToken) → AreSignificant false registered text ts → AreSignificant false registered other us → told Name ℕ (known_by show) us ≡ told Name ℕ (known_by show) ts
    → (t : Module Name ℕ) → Spells text t → (u : Module Name ℕ) × Spells other u
spelled_there show text other ts us here there same t s = let u = counterpart show text other ts us here there same t s in (u.tree, u.spelled)

-- texts of whose tokens the same is told get the same binary, or fail the same condition
pub told_agree : (text other : List ℕ) (ts us : List TextToken) → AreSignificant false registered text ts → AreSignificant false registered other us → told Name ℕ (known_by (λ n. n.0)) us ≡ told Name ℕ (known_by (λ n. n.0)) ts
    → (length text < 2 ^ 32) × (length other < 2 ^ 32) → IsUtf8 text × IsUtf8 other → Agree text other
told_agree text other ts us here there same short utf8 = record {
  forth = agree_forth text other ts us here there same short.1 utf8.1 short.0 utf8.0 (spelled_there (λ n. n.0) other text us ts there here (sym same));
  back = agree_forth other text us ts there here (sym same) short.0 utf8.0 short.1 utf8.1 (spelled_there (λ n. n.0) text other ts us here there same);
  binary_forth = binary_forth text other ts us here there same short.1 utf8.1;
  binary_back = binary_forth other text us ts there here (sym same) short.0 utf8.0;
}

pub tokens_decide : TokensDecide
tokens_decide text other ts us x s = told_agree text other ts us x.significant.0 x.significant.1 (same_told x s) x.short x.utf8

renamed_forth : (text other : List ℕ) (ts us : List TextToken) (here : AreSignificant false registered text ts) (there : AreSignificant false registered other us) → told Name ℕ (known_by (λ n. [])) us ≡ told Name ℕ (known_by (λ n. [])) ts
    → length text < 2 ^ 32 → length other < 2 ^ 32 → IsUtf8 text → IsUtf8 other → Follows (λ n. []) SameBare text other
renamed_forth text other ts us here there same s short v utf8 = record {
  failed = λ c. spelled_failed (λ n. []) text other ts us here there same short utf8 c s v (spelled_there (λ n. []) other text us ts there here (sym same));
  accepted = λ w a. (
      let t = taken (λ n. []) text other ts us here there same short utf8 w a in
      let u = t.counter.tree in
      (tree_worth u, t.accepts, subst (λ w. SameBare w (tree_worth u)) (sym t.is) (worth_bare (given_name is_made t.tree.given t.tree.id) (given_name is_made u.given u.id) t.tree.content u.content (ap (λ s. s.worth) t.counter.same_summary))));
}

pub renaming : Renaming
renaming text other ts us x m =
    let same = renamed_told x m in
    let here = x.significant.0 in
    let there = x.significant.1 in
    record {
      forth = renamed_forth text other ts us here there same x.short.0 x.short.1 x.utf8.0 x.utf8.1;
      back = renamed_forth other text us ts there here (sym same) x.short.1 x.short.0 x.utf8.1 x.utf8.0;
    }
