-- An input has one verdict.
use Rattle.std.proofs.Common.{ℕ, zero, suc, true, false, [], ◌∷◌, ◌≡◌, ◌<◌, ◌≤◌, ◌^◌, Option, Some, None, List, length, take, refl, sym, ap, subst, ◌∙◌, arith, take_all, inl, inr, ⊎_elim}
use Rattle.std.specs.Prelude.{slice_get}
use Rattle.std.specs.List.{flat_map}
use Rattle.std.proofs.lemmas.Bool.{cases_lt, cases_Bool}
use Rattle.std.proofs.lemmas.Option.{same_Some}
use Rattle.std.proofs.lemmas.Str.{IsUtf8-nil, IsUtf8-from_is_utf8, is_utf8-from_IsUtf8}
use Rattle.std.specs.Str.{IsUtf8, IsValidUpTo, is_utf8}
use Rattle.wast_grammar.specs.Tokens.{Name}
use Rattle.wast_grammar.specs.Spelling.{same_name}
use Rattle.wast_names.specs.Walk.{first_unmet}
use Rattle.wast_names.specs.Demand.{Complaint, Demand, is_met}
use Rattle.wast_field_syntax.specs.FieldTree.{Content, Fields, Module}
use Rattle.wast_field_syntax.specs.FieldTree as fields
use Rattle.wast_meaning.specs.Demands.{all_demands}
use Rattle.wast_meaning.specs.Modules.{content_fields}
use Rattle.wast_meaning.specs.Numbered.{resolved}
use Rattle.wast_meaning.specs.WellFormed.{breaches, first_breach}
use Rattle.wasm_layout.specs.AbstractModule.{AbstractModule}
use Rattle.wast_conversions.specs.Covered.{Form}
use Rattle.wast_meant.specs.Covered.{uncovered}
use Rattle.wast_meant.specs.NamesMeant.{GivenName, given_name}
use Rattle.wast_meant.specs.Meaning.{meant, FieldsMean, ContentMeans}
use Rattle.wast_meant.specs.Binary.{in_bytes}
use Rattle.wast_meaning.specs.Made.{is_made}
use Rattle.wast_meant.specs.Means.{naming, naming_of, Worth, Stands, Pieces, IsWorth}
use Rattle.wast_meant.proofs.OneMeaning as trees
use Rattle.wat_verdict.specs.Spells.{Spells}
use Rattle.wat_verdict.specs.Naming.{unmet_demand}
use Rattle.wat_verdict.specs.Verdict.{Condition, TooLong, NotUtf8, Misspelled, NotWellFormed, Unmet, Uncovered, unmet_at, tree_breach, tree_uncovered, Fails, Accepts}
use Rattle.wat_verdict.specs.Laws.{OneMeaning, OneVerdict}
use Rattle.wat_verdict.proofs.OneSpelling.{one_spelling}
use Rattle.wat_verdict.proofs.Unmet.{unmet_so}

pub one_meaning : OneMeaning
one_meaning = trees.one_module Spells one_spelling

one_length : (bytes : List ℕ) (m n : ℕ) → IsValidUpTo bytes m → IsValidUpTo bytes n → m ≡ n
one_length bytes m n x y =
    ⊎_elim (λ h. absurd (x.longest n h y.front))
    (λ h. ⊎_elim (λ k. absurd (y.longest m k x.front)) (λ k. omega arith) (cases_lt n m))
    (cases_lt m n)

-- what is asked of two trees that the bytes spell has one answer
same_answer : {A : Type 0} (ask : Module Name ℕ → A) (bytes : List ℕ) (s t : Module Name ℕ) → Spells bytes s → Spells bytes t → (a b : A) → ask s ≡ a → ask t ≡ b → a ≡ b
same_answer ask bytes s t x y a b e f = sym e ∙ ap ask (one_spelling bytes s t x y) ∙ f

differ : {A B : Type 0} (x : A) → Some x ≡ None → B
differ x e = absurd (cc)

differ_back : {A B : Type 0} (x : A) → None ≡ Some x → B
differ_back x e = absurd (cc)

same_complaint : (p q : ℕ) (c d : Complaint Name) → Some (unmet_at p c) ≡ Some (unmet_at q d) → Unmet p c ≡ Unmet q d
same_complaint p q c d e = ap (λ (x : Demand Name ℕ). Unmet x.place x.complaint) (same_Some (unmet_at p c) (unmet_at q d) e)

same_form : (p q : ℕ) (f g : Form) → ◌≡◌ {A = Option (ℕ × Form)} (Some (p, f)) (Some (q, g)) → Uncovered p f ≡ Uncovered q g
same_form p q f g e = ap (λ (x : ℕ × Form). Uncovered x.0 x.1) (same_Some (p, f) (q, g) e)

pub one_condition : (bytes : List ℕ) (c d : Condition) → Fails bytes c → Fails bytes d → c ≡ d
one_condition bytes TooLong TooLong x y = refl
one_condition bytes TooLong (NotUtf8 n) x y = absurd (let short = y.0 in omega arith)
one_condition bytes TooLong Misspelled x y = absurd (let short = y.0 in omega arith)
one_condition bytes TooLong (NotWellFormed n) x y = absurd (let short = y.0 in omega arith)
one_condition bytes TooLong (Unmet q d) x y = absurd (let short = y.0 in omega arith)
one_condition bytes TooLong (Uncovered q g) x y = absurd (let short = y.0 in omega arith)
one_condition bytes (NotUtf8 m) TooLong x y = absurd (let short = x.0 in omega arith)
one_condition bytes (NotUtf8 m) (NotUtf8 n) x y = ap NotUtf8 (one_length bytes m n x.2 y.2)
one_condition bytes (NotUtf8 m) Misspelled x y = absurd (x.1 y.1)
one_condition bytes (NotUtf8 m) (NotWellFormed n) x y = absurd (x.1 y.1)
one_condition bytes (NotUtf8 m) (Unmet q d) x y = absurd (x.1 y.1)
one_condition bytes (NotUtf8 m) (Uncovered q g) x y = absurd (x.1 y.1)
one_condition bytes Misspelled TooLong x y = absurd (let short = x.0 in omega arith)
one_condition bytes Misspelled (NotUtf8 n) x y = absurd (y.1 x.1)
one_condition bytes Misspelled Misspelled x y = refl
one_condition bytes Misspelled (NotWellFormed n) x y = absurd (x.2 y.2.0 y.2.1)
one_condition bytes Misspelled (Unmet q d) x y = absurd (x.2 y.2.0 y.2.1)
one_condition bytes Misspelled (Uncovered q g) x y = absurd (x.2 y.2.0 y.2.1)
one_condition bytes (NotWellFormed m) TooLong x y = absurd (let short = x.0 in omega arith)
one_condition bytes (NotWellFormed m) (NotUtf8 n) x y = absurd (y.1 x.1)
one_condition bytes (NotWellFormed m) Misspelled x y = absurd (y.2 x.2.0 x.2.1)
one_condition bytes (NotWellFormed m) (NotWellFormed n) x y = ap NotWellFormed (same_Some m n (same_answer tree_breach bytes x.2.0 y.2.0 x.2.1 y.2.1 (Some m) (Some n) x.2.2 y.2.2))
one_condition bytes (NotWellFormed m) (Unmet q d) x y = differ m (same_answer tree_breach bytes x.2.0 y.2.0 x.2.1 y.2.1 (Some m) None x.2.2 y.2.2)
one_condition bytes (NotWellFormed m) (Uncovered q g) x y = differ m (same_answer tree_breach bytes x.2.0 y.2.0 x.2.1 y.2.1 (Some m) None x.2.2 y.2.2)
one_condition bytes (Unmet p c) TooLong x y = absurd (let short = x.0 in omega arith)
one_condition bytes (Unmet p c) (NotUtf8 n) x y = absurd (y.1 x.1)
one_condition bytes (Unmet p c) Misspelled x y = absurd (y.2 x.2.0 x.2.1)
one_condition bytes (Unmet p c) (NotWellFormed n) x y = differ_back n (same_answer tree_breach bytes x.2.0 y.2.0 x.2.1 y.2.1 None (Some n) x.2.2 y.2.2)
one_condition bytes (Unmet p c) (Unmet q d) x y = same_complaint p q c d (same_answer unmet_demand bytes x.2.0 y.2.0 x.2.1 y.2.1 (Some (unmet_at p c)) (Some (unmet_at q d)) x.2.3 y.2.3)
one_condition bytes (Unmet p c) (Uncovered q g) x y = differ (unmet_at p c) (same_answer unmet_demand bytes x.2.0 y.2.0 x.2.1 y.2.1 (Some (unmet_at p c)) None x.2.3 y.2.3)
one_condition bytes (Uncovered p f) TooLong x y = absurd (let short = x.0 in omega arith)
one_condition bytes (Uncovered p f) (NotUtf8 n) x y = absurd (y.1 x.1)
one_condition bytes (Uncovered p f) Misspelled x y = absurd (y.2 x.2.0 x.2.1)
one_condition bytes (Uncovered p f) (NotWellFormed n) x y = differ_back n (same_answer tree_breach bytes x.2.0 y.2.0 x.2.1 y.2.1 None (Some n) x.2.2 y.2.2)
one_condition bytes (Uncovered p f) (Unmet q d) x y = differ_back (unmet_at q d) (same_answer unmet_demand bytes x.2.0 y.2.0 x.2.1 y.2.1 None (Some (unmet_at q d)) x.2.3 y.2.3)
one_condition bytes (Uncovered p f) (Uncovered q g) x y = same_form p q f g (same_answer tree_uncovered bytes x.2.0 y.2.0 x.2.1 y.2.1 (Some (p, f)) (Some (q, g)) x.2.4 y.2.4)

-- A TREE THAT MEETS ALL
pub record IsSound (tree : Module Name ℕ) : Type 0 where
  pub formed : tree_breach tree ≡ None
  pub met : unmet_demand tree ≡ None
  pub covered : tree_uncovered tree ≡ None

-- what its fields meet, whatever else it holds
module _ (tree : Module Name ℕ) where
  sound_fields : (c : Content Name ℕ) → tree.content ≡ c →
      first_breach same_name is_made (content_fields c) ≡ None → first_unmet is_met (all_demands same_name (naming_of tree) (content_fields c)) ≡ None →
      uncovered (naming_of tree) (content_fields c) ≡ None → IsSound tree
  sound_fields c e formed met covered = record {
    formed = ap (λ c. first_breach same_name is_made (content_fields c)) e ∙ formed;
    met = ap (λ c. first_unmet is_met (all_demands same_name (naming_of tree) (content_fields c))) e ∙ met;
    covered = ap (λ c. uncovered (naming_of tree) (content_fields c)) e ∙ covered;
  }

  sound_meaning : (c : Content Name ℕ) → tree.content ≡ c → (name : Option (GivenName Name)) (m : AbstractModule (GivenName Name)) → ContentMeans same_name is_made (naming_of tree) name c m → IsSound tree
  sound_meaning (Fields fs) e name m f = sound_fields (Fields fs) e (ap (λ ps. slice_get ps 0) f.is_formed) f.are_met f.is_covered
  sound_meaning (fields.Pieces pieces) e name m f = absurd f

  sound_pieces : (pieces : List (List ℕ)) → tree.content ≡ fields.Pieces pieces → IsSound tree
  sound_pieces pieces e = sound_fields (fields.Pieces pieces) e refl refl refl

-- what a tree is worth
abbrev pub worth_in : Option (GivenName Name) → Content Name ℕ → Worth
worth_in name (Fields fs) = Stands (in_bytes (meant same_name is_made name (resolved same_name (naming fs) fs)))
worth_in name (fields.Pieces pieces) = Pieces (flat_map (λ piece. piece) pieces)

abbrev pub tree_worth : Module Name ℕ → Worth
tree_worth t = worth_in (given_name is_made t.given t.id) t.content

-- What is accepted spells a tree that meets all, and is what that is worth.
pub record WorthTree (bytes : List ℕ) (w : Worth) : Type 0 where
  pub tree : Module Name ℕ
  pub spelled : Spells bytes tree
  pub sound : IsSound tree
  pub is : w ≡ tree_worth tree

worth_meant : (tree : Module Name ℕ) (c : Content Name ℕ) → tree.content ≡ c → (name : Option (GivenName Name)) (m : AbstractModule (GivenName Name)) →
    ContentMeans same_name is_made (naming_of tree) name c m → Stands (in_bytes m) ≡ worth_in name c
worth_meant tree (Fields fs) e name m f =
    ap (λ x. Stands (in_bytes x)) (f.is_meant ∙ ap (λ c. meant same_name is_made name (resolved same_name (naming (content_fields c)) fs)) e)
worth_meant tree (fields.Pieces pieces) e name m f = absurd f

pub worth_tree : (bytes : List ℕ) (w : Worth) → IsWorth Spells bytes w → WorthTree bytes w
worth_tree bytes (Stands m) w =
    let name = given_name is_made w.tree.given w.tree.id in
    record {
      tree = w.tree;
      spelled = w.spelled;
      sound = sound_meaning w.tree w.tree.content refl name w.module_meant w.is_meant;
      is = ap Stands w.named ∙ worth_meant w.tree w.tree.content refl name w.module_meant w.is_meant;
    }
worth_tree bytes (Pieces joined) w = record {
  tree = w.tree;
  spelled = w.spelled;
  sound = sound_pieces w.tree w.pieces w.are_content;
  is = ap Pieces w.joined ∙ ap (λ c. worth_in (given_name is_made w.tree.given w.tree.id) c) (sym w.are_content);
}

sound_fails : (bytes : List ℕ) (c : Condition) → length bytes < 2 ^ 32 → IsUtf8 bytes → (tree : Module Name ℕ) → Spells bytes tree → IsSound tree → Fails bytes c → ⊥
sound_fails bytes TooLong short utf8 t s sound x = omega arith
sound_fails bytes (NotUtf8 n) short utf8 t s sound x = x.1 utf8
sound_fails bytes Misspelled short utf8 t s sound x = x.2 t s
sound_fails bytes (NotWellFormed n) short utf8 t s sound x = differ n (same_answer tree_breach bytes x.2.0 t x.2.1 s (Some n) None x.2.2 sound.formed)
sound_fails bytes (Unmet q d) short utf8 t s sound x = differ (unmet_at q d) (same_answer unmet_demand bytes x.2.0 t x.2.1 s (Some (unmet_at q d)) None x.2.3 sound.met)
sound_fails bytes (Uncovered q g) short utf8 t s sound x = differ (q, g) (same_answer tree_uncovered bytes x.2.0 t x.2.1 s (Some (q, g)) None x.2.4 sound.covered)

none_where_accepted : (bytes : List ℕ) (c : Condition) (w : Worth) → Fails bytes c → Accepts bytes w → ⊥
none_where_accepted bytes c w x y = let t = worth_tree bytes w y.worth in sound_fails bytes c y.short y.utf8 t.tree t.spelled t.sound x

-- A TREE THAT MEETS ALL is worth something
pub none_first : {A : Type 0} (xs : List A) → slice_get xs 0 ≡ None → xs ≡ []
none_first [] e = refl
none_first (x ∷ xs) e = absurd (cc)

module _ (bytes : List ℕ) (tree : Module Name ℕ) (s : Spells bytes tree) (sound : IsSound tree) where
  abbrev name : Option (GivenName Name)
  name = given_name is_made tree.given tree.id

  abbrev meant_of : List (fields.Field Name ℕ) → AbstractModule (GivenName Name)
  meant_of fs = meant same_name is_made name (resolved same_name (naming_of tree) fs)

  fields_mean : (fs : List (fields.Field Name ℕ)) → tree.content ≡ Fields fs → FieldsMean same_name is_made (naming_of tree) name fs (meant_of fs)
  fields_mean fs e = record {
    is_formed = none_first (breaches same_name is_made fs) (ap (λ c. first_breach same_name is_made (content_fields c)) (sym e) ∙ sound.formed);
    are_met = ap (λ c. first_unmet is_met (all_demands same_name (naming_of tree) (content_fields c))) (sym e) ∙ sound.met;
    is_covered = ap (λ c. uncovered (naming_of tree) (content_fields c)) (sym e) ∙ sound.covered;
    is_meant = refl;
  }

  content_worth : (c : Content Name ℕ) → tree.content ≡ c → IsWorth Spells bytes (worth_in name c)
  content_worth (Fields fs) e = record {
    tree = tree;
    spelled = s;
    module_meant = meant_of fs;
    is_meant = subst (λ c. ContentMeans same_name is_made (naming_of tree) name c (meant_of fs)) (sym e) (fields_mean fs e);
    named = ap (λ c. in_bytes (meant same_name is_made name (resolved same_name (naming (content_fields c)) fs))) (sym e);
  }
  content_worth (fields.Pieces pieces) e = record { tree = tree; spelled = s; pieces = pieces; are_content = e; joined = refl }

  pub worth_of : IsWorth Spells bytes (tree_worth tree)
  worth_of = content_worth tree.content refl

-- bytes are UTF-8 or not
no_utf8 : (bytes : List ℕ) → is_utf8 bytes ≡ false → IsUtf8 bytes → ⊥
no_utf8 bytes e u = let t : is_utf8 bytes ≡ true = is_utf8-from_IsUtf8 bytes u in absurd (cc (e, t))

-- the longest front that is UTF-8, where none of so many bytes or more is
record Longest (bytes : List ℕ) (k : ℕ) : Type 0 where
  len : ℕ
  below : len < k
  front : IsUtf8 (take len bytes)
  longest : (m : ℕ) → len < m → IsUtf8 (take m bytes) → ⊥

take-none : (bytes : List ℕ) → take 0 bytes ≡ []
take-none [] = refl
take-none (b ∷ bytes) = refl

longest_below : (bytes : List ℕ) (k : ℕ) → ((m : ℕ) → k ≤ m → IsUtf8 (take m bytes) → ⊥) → Longest bytes k
longest_below bytes zero none = absurd (none 0 (omega arith) (subst IsUtf8 (sym (take-none bytes)) IsUtf8-nil))
longest_below bytes (suc k) none = elim (cases_Bool (is_utf8 (take k bytes))) [
  | inl y ↦ record { len = k; below = omega arith; front = IsUtf8-from_is_utf8 (take k bytes) y; longest = λ m l. none m (omega arith) }
  | inr n ↦
      let shorter = longest_below bytes k (λ m l u. ⊎_elim
      (λ more. none m (omega arith) u)
      (λ same. no_utf8 (take k bytes) n (let e : m ≡ k = omega arith in subst (λ j. IsUtf8 (take j bytes)) e u))
      (cases_lt k m)) in
      record { len = shorter.len; below = (let l = shorter.below in omega arith); front = shorter.front; longest = shorter.longest }
]

valid_up_to : (bytes : List ℕ) → (IsUtf8 bytes → ⊥) → (n : ℕ) × IsValidUpTo bytes n
valid_up_to bytes none =
    let l = longest_below bytes (length bytes) (λ m long u. none (subst IsUtf8 (take_all m bytes long) u)) in
    (l.len, record { short = l.below; front = l.front; longest = l.longest })

-- NO CONDITION FAILS, AND NOTHING IS ACCEPTED
module _ (bytes : List ℕ) (fails : (c : Condition) → Fails bytes c → ⊥) (accepts : (w : Worth) → Accepts bytes w → ⊥) where
  -- and a tree is spelled
  module _ (short : length bytes < 2 ^ 32) (utf8 : IsUtf8 bytes) (tree : Module Name ℕ) (s : Spells bytes tree) where
    by_form : tree_breach tree ≡ None → unmet_demand tree ≡ None → (o : Option (ℕ × Form)) → tree_uncovered tree ≡ o → ⊥
    by_form b u (Some x) e = fails (Uncovered x.0 x.1) (short, utf8, (tree, s, b, u, e))
    by_form b u None e =
        accepts (tree_worth tree) (record { short = short; utf8 = utf8; worth = worth_of bytes tree s (record { formed = b; met = u; covered = e }) })

    by_demand : tree_breach tree ≡ None → (o : Option (Demand Name ℕ)) → unmet_demand tree ≡ o → ⊥
    by_demand b None u = by_form b u (tree_uncovered tree) refl
    by_demand b (Some d) u = fails (Unmet d.place d.complaint) (short, utf8, (tree, s, b, unmet_so tree d u))

    by_breach : (o : Option ℕ) → tree_breach tree ≡ o → ⊥
    by_breach (Some place) b = fails (NotWellFormed place) (short, utf8, (tree, s, b))
    by_breach None b = by_demand b (unmet_demand tree) refl

  some_verdict : ⊥
  some_verdict = ⊎_elim
      (λ short. elim (cases_Bool (is_utf8 bytes)) [
        | inl y ↦
            let utf8 = IsUtf8-from_is_utf8 bytes y in
            fails Misspelled (short, utf8, λ tree s. by_breach short utf8 tree s (tree_breach tree) refl)
        | inr n ↦
            let none = no_utf8 bytes n in
            let front = valid_up_to bytes none in
            fails (NotUtf8 front.0) (short, none, front.1)
      ])
      (λ long. fails TooLong (omega (arith, long)))
      (cases_lt (length bytes) (2 ^ 32))

pub one_verdict : OneVerdict
one_verdict = record {
  one_condition = one_condition;
  none_where_accepted = none_where_accepted;
  one_worth = λ bytes v w x y. trees.one_worth Spells one_spelling bytes v w x.worth y.worth;
  some_verdict = λ bytes none. some_verdict bytes none.0 none.1;
}
