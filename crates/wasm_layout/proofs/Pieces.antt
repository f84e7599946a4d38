-- The sections of a module and the custom ones of its gaps are had back from its binary.
use Rattle.std.proofs.Common.{ℕ, suc, ◌≡◌, ◌≢◌, ◌<◌, ◌+◌, ◌⊎◌, Bool, true, false, cond, nat_eq, List, [], ◌∷◌, ◌++◌, map, length, filter, codes, refl, sym, ap, ◌∙◌, subst, arith, inl, inr, ⊎_elim, flat_map}
use Rattle.std.specs.List.{AllByRecursion, list_any}
use Rattle.std.proofs.lemmas.Bool.{or_parts}
use Rattle.std.proofs.lemmas.List.{append_cancel_left}
use Rattle.wasm_encoder_base.specs.Bytes.{sized}
use Rattle.wasm_encoder_base.specs.Table.{same_text}
use Rattle.wasm_encoder_base.specs.Unique.{Unique, Injective}
use Rattle.wasm_encoder_base.proofs.UniqueParts.{cons_head, cons_tail, no_cons, unique_byte, unique_pair, injective_bytes, injective_all}
use Rattle.wasm_encoder_base.proofs.UniqueBytes.{unique_sized, unique_name}
use Rattle.wasm_encoder_custom.specs.Custom.{Custom}
use Rattle.wasm_encoder.specs.Module.{header}
use Rattle.wasm_layout.specs.Section.{SectionKind, Types, Imports, Functions, Tables, Memories, Tags, Globals, Exports, Starts, Elements, DataCount, Hints, Codes, Datas, Names, section_number, rank, order}
use Rattle.wasm_layout.specs.AbstractModule.{AbstractModule}
use Rattle.wasm_layout.specs.Present.{is_present, is_called}
use Rattle.wasm_layout.specs.Layout.{if_there, contents_of, Section, section, sections, Piece, Known, Free, weave, number, contents, piece_bytes, pieces, name_bytes}
use Rattle.wasm_layout.specs.Lays.{Reads}
use Rattle.wasm_layout.proofs.HadBack.{true_is_not_false, AreOf, once, had_back}
use Rattle.wasm_layout.proofs.HintPlaces.{slot}
use Rattle.wasm_layout.proofs.Joined.{all_joined}

abbrev hints_text : List ℕ
hints_text = codes "metadata.code.branch_hint"

abbrev names_text : List ℕ
names_text = codes "name"

-- kinds by their numbers, but for the two that are custom
back : ℕ → SectionKind
back n =
    cond (nat_eq n 1) Types (cond (nat_eq n 2) Imports (cond (nat_eq n 3) Functions (cond (nat_eq n 4) Tables (cond (nat_eq n 5) Memories
    (cond (nat_eq n 13) Tags (cond (nat_eq n 6) Globals (cond (nat_eq n 7) Exports (cond (nat_eq n 8) Starts (cond (nat_eq n 9) Elements
    (cond (nat_eq n 12) DataCount (cond (nat_eq n 10) Codes Datas)))))))))))

record IsNumbered (k : SectionKind) : Type 0 where
  had_back : back (section_number k) ≡ k
  positive : 0 < section_number k

abbrev Class : SectionKind → Type 0
Class k = IsNumbered k ⊎ ((k ≡ Hints) ⊎ (k ≡ Names))

class_of : (k : SectionKind) → Class k
unfolding back
class_of Types = inl (record { had_back = refl; positive = omega arith })
class_of Imports = inl (record { had_back = refl; positive = omega arith })
class_of Functions = inl (record { had_back = refl; positive = omega arith })
class_of Tables = inl (record { had_back = refl; positive = omega arith })
class_of Memories = inl (record { had_back = refl; positive = omega arith })
class_of Tags = inl (record { had_back = refl; positive = omega arith })
class_of Globals = inl (record { had_back = refl; positive = omega arith })
class_of Exports = inl (record { had_back = refl; positive = omega arith })
class_of Starts = inl (record { had_back = refl; positive = omega arith })
class_of Elements = inl (record { had_back = refl; positive = omega arith })
class_of DataCount = inl (record { had_back = refl; positive = omega arith })
class_of Codes = inl (record { had_back = refl; positive = omega arith })
class_of Datas = inl (record { had_back = refl; positive = omega arith })
class_of Hints = inr (inl refl)
class_of Names = inr (inr refl)

-- the two begin with their names
abbrev Begins : List ℕ → List ℕ → Type 0
Begins name bytes = (rest : List ℕ) × (bytes ≡ sized name ++ rest)

abbrev IsTitled : SectionKind → List ℕ → Type 0
IsTitled Hints bytes = Begins hints_text bytes
IsTitled Names bytes = Begins names_text bytes
IsTitled k bytes = Unit {0}

one_name : (n m bytes : List ℕ) → Begins n bytes → Begins m bytes → n ≡ m
one_name n m bytes p q = (unique_name.reads n m p.0 q.0 tt tt (sym p.1 ∙ q.1)).0

texts_differ : {Z : Type 0} → hints_text ≡ names_text → Z
texts_differ e = absurd (let h = cons_head e in omega arith)

same_kind : (j k : SectionKind) (b : List ℕ) → IsTitled j b → IsTitled k b → section_number j ≡ section_number k → j ≡ k
same_kind j k b s t e = ⊎_elim
    (λ p. ⊎_elim
    (λ q. sym p.had_back ∙ ap back e ∙ q.had_back)
    (λ q. ⊎_elim (λ f. absurd (omega (arith, p.positive, e, ap section_number f))) (λ f. absurd (omega (arith, p.positive, e, ap section_number f))) q)
    (class_of k))
    (λ p. ⊎_elim
    (λ q. ⊎_elim (λ f. absurd (omega (arith, q.positive, e, ap section_number f))) (λ f. absurd (omega (arith, q.positive, e, ap section_number f))) p)
    (λ q. ⊎_elim
    (λ f. ⊎_elim (λ g. f ∙ sym g) (λ g. texts_differ (one_name hints_text names_text b (subst (λ i. IsTitled i b) f s) (subst (λ i. IsTitled i b) g t))) q)
    (λ f. ⊎_elim (λ g. texts_differ (one_name hints_text names_text b (subst (λ i. IsTitled i b) g t) (subst (λ i. IsTitled i b) f s))) (λ g. f ∙ sym g) q)
    p)
    (class_of k))
    (class_of j)

-- a custom section has no name of the two
abbrev IsFree : Custom → Type 0
IsFree c = (c.name ≢ names_text) × (c.name ≢ hints_text)

abbrev IsSound : Piece → Type 0
IsSound (Known s) = IsTitled s.kind s.contents
IsSound (Free c) = IsFree c

not_known : {Z : Type 0} (k : SectionKind) (b : List ℕ) (c : Custom) → IsTitled k b → IsFree c → section_number k ≡ 0 → b ≡ sized c.name ++ c.contents → Z
not_known k b c t f e h = absurd (⊎_elim
    (λ p. omega (arith, p.positive, e))
    (λ p. ⊎_elim
    (λ q. f.1 (sym (one_name hints_text c.name b (subst (λ i. IsTitled i b) q t) (c.contents, h))))
    (λ q. f.0 (sym (one_name names_text c.name b (subst (λ i. IsTitled i b) q t) (c.contents, h))))
    p)
    (class_of k))

same_piece : (p q : Piece) → IsSound p → IsSound q → number p ≡ number q → contents p ≡ contents q → p ≡ q
same_piece (Known s) (Known t) sp sq e h =
    let k = same_kind s.kind t.kind t.contents (subst (IsTitled s.kind) h sp) sq e in
    λ i. Known (record { kind = k i; contents = h i })
same_piece (Known s) (Free c) sp sq e h = not_known s.kind s.contents c sp sq e h
same_piece (Free c) (Known t) sp sq e h = not_known t.kind t.contents c sq sp (sym e) (sym h)
same_piece (Free c) (Free d) sp sq e h =
    let same = unique_name.reads c.name d.name c.contents d.contents tt tt h in
    λ i. Free (record { name = same.0 i; contents = same.1 i })

unique_piece : Unique IsSound piece_bytes
unique_piece = record {
  reads = λ p q r s sp sq h.
      let same = (unique_pair unique_byte (unique_sized injective_bytes)).reads (number p, contents p) (number q, contents q) r s (tt, tt) (tt, tt) h in
      (same_piece p q sp sq (ap (λ v. v.0) same.0) (ap (λ v. v.1) same.0), same.1);
}

piece_full : (p : Piece) → IsSound p → piece_bytes p ≢ []
piece_full p s h = no_cons h

injective_pieces : Injective (AllByRecursion IsSound) (flat_map piece_bytes)
injective_pieces = injective_all unique_piece piece_full

-- a gap ends at the first section
free_one : {b c : Custom} → Free b ≡ Free c → b ≡ c
free_one h = cc

known_one : {s t : Section} → Known s ≡ Known t → s ≡ t
known_one h = cc

free_is_not_known : {Z : Type 0} {c : Custom} {s : Section} → Free c ≡ Known s → Z
free_is_not_known h = absurd cc

gap_pieces : (g h : List Custom) (s t : Section) (r q : List Piece) → map Free g ++ (Known s ∷ r) ≡ map Free h ++ (Known t ∷ q) → (g ≡ h) × (s ≡ t) × (r ≡ q)
gap_pieces [] [] s t r q e = (refl, known_one (cons_head e), cons_tail e)
gap_pieces [] (y ∷ ys) s t r q e = free_is_not_known (sym (cons_head e))
gap_pieces (x ∷ xs) [] s t r q e = free_is_not_known (cons_head e)
gap_pieces (x ∷ xs) (y ∷ ys) s t r q e =
    let rest = gap_pieces xs ys s t r q (cons_tail e) in
    (λ i. free_one (cons_head e) i ∷ rest.0 i, rest.1, rest.2)

last_gap : (g h : List Custom) → map Free g ≡ map Free h → g ≡ h
last_gap [] [] e = refl
last_gap [] (y ∷ ys) e = no_cons (sym e)
last_gap (x ∷ xs) [] e = no_cons e
last_gap (x ∷ xs) (y ∷ ys) e = let rest = last_gap xs ys (cons_tail e) in λ i. free_one (cons_head e) i ∷ rest i

not_last : {Z : Type 0} (g h : List Custom) (t : Section) (q : List Piece) → map Free g ≡ map Free h ++ (Known t ∷ q) → Z
not_last [] [] t q e = no_cons (sym e)
not_last [] (y ∷ ys) t q e = no_cons (sym e)
not_last (x ∷ xs) [] t q e = free_is_not_known (cons_head e)
not_last (x ∷ xs) (y ∷ ys) t q e = not_last xs ys t q (cons_tail e)

weave_pieces : (ss ts : List Section) (gs hs : List (List Custom)) → length gs ≡ length ss + 1 → length hs ≡ length ts + 1 → weave ss gs ≡ weave ts hs → (ss ≡ ts) × (gs ≡ hs)
weave_pieces ss ts [] hs n m e = absurd (omega arith)
weave_pieces ss ts (g ∷ gs) [] n m e = absurd (omega arith)
weave_pieces [] [] (g ∷ []) (h ∷ []) n m e = (refl, ap (λ x. x ∷ []) (last_gap g h e))
weave_pieces [] [] (g ∷ g2 ∷ gs) (h ∷ hs) n m e = absurd (omega arith)
weave_pieces [] [] (g ∷ []) (h ∷ h2 ∷ hs) n m e = absurd (omega arith)
weave_pieces [] (t ∷ ts) (g ∷ gs) (h ∷ hs) n m e = not_last g h t (weave ts hs) e
weave_pieces (s ∷ ss) [] (g ∷ gs) (h ∷ hs) n m e = not_last h g s (weave ss gs) (sym e)
weave_pieces (s ∷ ss) (t ∷ ts) (g ∷ gs) (h ∷ hs) n m e =
    let first = gap_pieces g h s t (weave ss gs) (weave ts hs) e in
    let rest = weave_pieces ss ts gs hs (omega arith) (omega arith) first.2 in
    (λ i. first.1 i ∷ rest.0 i, λ i. first.0 i ∷ rest.1 i)

-- custom sections that are not called by a name of the two are free
not_names : (c : Custom) → same_text names_text c.name ≡ false → c.name ≢ names_text
not_names c h e = true_is_not_false (subst (λ n. same_text names_text n ≡ false) e h)

not_hints : (c : Custom) → same_text hints_text c.name ≡ false → c.name ≢ hints_text
not_hints c h e = true_is_not_false (subst (λ n. same_text hints_text n ≡ false) e h)

abbrev calls : List ℕ → List Custom → Bool
calls name gap = list_any (λ c. same_text name c.name) gap

free_gap : (g : List Custom) → calls names_text g ≡ false → calls hints_text g ≡ false → AllByRecursion IsSound (map Free g)
free_gap [] p q = tt
free_gap (c ∷ cs) p q =
    let n = or_parts (same_text names_text c.name) (calls names_text cs) p in
    let h = or_parts (same_text hints_text c.name) (calls hints_text cs) q in
    ((not_names c n.0, not_hints c h.0), free_gap cs n.1 h.1)

abbrev AreTitled : List Section → Type 0
AreTitled ss = AllByRecursion (λ s. IsTitled s.kind s.contents) ss

known_sound : (ss : List Section) → AreTitled ss → AllByRecursion IsSound (map Known ss)
known_sound [] h = tt
known_sound (s ∷ ss) h = (h.0, known_sound ss h.1)

sound : (ss : List Section) (gs : List (List Custom)) → AreTitled ss → is_called names_text gs ≡ false → is_called hints_text gs ≡ false → AllByRecursion IsSound (weave ss gs)
sound [] [] t p q = tt
sound (s ∷ ss) [] t p q = known_sound (s ∷ ss) t
sound [] (g ∷ gs) t p q = free_gap g (or_parts (calls names_text g) (is_called names_text gs) p).0 (or_parts (calls hints_text g) (is_called hints_text gs) q).0
sound (s ∷ ss) (g ∷ gs) t p q =
    let n = or_parts (calls names_text g) (is_called names_text gs) p in
    let h = or_parts (calls hints_text g) (is_called hints_text gs) q in
    all_joined IsSound (map Free g) (Known s ∷ weave ss gs) (free_gap g n.0 h.0) (t.0, sound ss gs t.1 n.1 h.1)

-- the sections of a module
module _ (m : AbstractModule (List ℕ)) where
  titled : (k : SectionKind) → IsTitled k (contents_of m k)
  titled Hints = (_, refl)
  titled Names = (name_bytes m.names, refl)
  titled Types = tt
  titled Imports = tt
  titled Functions = tt
  titled Tables = tt
  titled Memories = tt
  titled Tags = tt
  titled Globals = tt
  titled Exports = tt
  titled Starts = tt
  titled Elements = tt
  titled DataCount = tt
  titled Codes = tt
  titled Datas = tt

  slot_titled : (b : Bool) (k : SectionKind) → AreTitled (if_there b (section m k))
  slot_titled true k = (titled k, tt)
  slot_titled false k = tt

  all_titled : (ks : List SectionKind) → AreTitled (flat_map (slot m) ks)
  all_titled [] = tt
  all_titled (k ∷ ks) = all_joined (λ s. IsTitled s.kind s.contents) (slot m k) (flat_map (slot m) ks) (slot_titled (is_present m k) k) (all_titled ks)

  slot_of : (b : Bool) (k : SectionKind) → AreOf (λ s. rank s.kind) (rank k) (if_there b (section m k))
  slot_of true k = (refl, tt)
  slot_of false k = tt

  one_more : (b : Bool) (s : Section) (k : SectionKind) (ss : List Section) (ks : List SectionKind) → length ss ≡ length ks → length (if_there b s ++ ss) ≡ length (cond b (k ∷ ks) ks)
  one_more true s k ss ks h = ap suc h
  one_more false s k ss ks h = h

  section_count : (ks : List SectionKind) → length (flat_map (slot m) ks) ≡ length (filter (is_present m) ks)
  section_count [] = refl
  section_count (k ∷ ks) = one_more (is_present m k) (section m k) k (flat_map (slot m) ks) (filter (is_present m) ks) (section_count ks)

-- kinds by their ranks
kind_at : ℕ → SectionKind
kind_at n =
    cond (nat_eq n 0) Types (cond (nat_eq n 1) Imports (cond (nat_eq n 2) Functions (cond (nat_eq n 3) Tables (cond (nat_eq n 4) Memories
    (cond (nat_eq n 5) Tags (cond (nat_eq n 6) Globals (cond (nat_eq n 7) Exports (cond (nat_eq n 8) Starts (cond (nat_eq n 9) Elements
    (cond (nat_eq n 10) DataCount (cond (nat_eq n 11) Hints (cond (nat_eq n 12) Codes (cond (nat_eq n 13) Datas Names)))))))))))))

record IsRanked (k : SectionKind) : Type 0 where
  had_back : kind_at (rank k) ≡ k
  is_once : once rank (rank k) order ≡ true

ranked : (k : SectionKind) → IsRanked k
unfolding kind_at
ranked Types = record { had_back = refl; is_once = refl }
ranked Imports = record { had_back = refl; is_once = refl }
ranked Functions = record { had_back = refl; is_once = refl }
ranked Tables = record { had_back = refl; is_once = refl }
ranked Memories = record { had_back = refl; is_once = refl }
ranked Tags = record { had_back = refl; is_once = refl }
ranked Globals = record { had_back = refl; is_once = refl }
ranked Exports = record { had_back = refl; is_once = refl }
ranked Starts = record { had_back = refl; is_once = refl }
ranked Elements = record { had_back = refl; is_once = refl }
ranked DataCount = record { had_back = refl; is_once = refl }
ranked Hints = record { had_back = refl; is_once = refl }
ranked Codes = record { had_back = refl; is_once = refl }
ranked Datas = record { had_back = refl; is_once = refl }
ranked Names = record { had_back = refl; is_once = refl }

same_rank : (j k : SectionKind) → rank j ≡ rank k → j ≡ k
same_rank j k e = sym (ranked j).had_back ∙ ap kind_at e ∙ (ranked k).had_back

-- what each section holds, and the custom sections of gaps
pub record SameSections (m n : AbstractModule (List ℕ)) : Type 0 where
  pub slots : (k : SectionKind) → if_there (is_present m k) (contents_of m k) ≡ if_there (is_present n k) (contents_of n k)
  pub customs : m.customs ≡ n.customs

same_contents : (a b : Bool) (s t : Section) → if_there a s ≡ if_there b t → if_there a s.contents ≡ if_there b t.contents
same_contents true true s t e = ap (λ v. v.contents ∷ []) (cons_head e)
same_contents true false s t e = no_cons e
same_contents false true s t e = no_cons (sym e)
same_contents false false s t e = refl

pub same_sections : (b : List ℕ) (m n : AbstractModule (List ℕ)) → Reads b m → Reads b n → SameSections m n
same_sections b m n p q =
    let bytes : flat_map piece_bytes (pieces m) ≡ flat_map piece_bytes (pieces n) = append_cancel_left header (flat_map piece_bytes (pieces m)) (flat_map piece_bytes (pieces n)) (sym p.lays.bytes ∙ q.lays.bytes) in
    let same : pieces m ≡ pieces n = injective_pieces.reads (pieces m) (pieces n)
    (sound (sections m) m.customs (all_titled m order) p.no_names p.no_hints) (sound (sections n) n.customs (all_titled n order) q.no_names q.no_hints) bytes in
    let parts = weave_pieces (sections m) (sections n) m.customs n.customs
    (p.lays.is_module.gaps ∙ ap (λ k. k + 1) (sym (section_count m order))) (q.lays.is_module.gaps ∙ ap (λ k. k + 1) (sym (section_count n order))) same in
    record {
      slots = λ k. same_contents (is_present m k) (is_present n k) (section m k) (section n k)
          (had_back (λ s. rank s.kind) rank same_rank (slot m) (slot n) (λ j. slot_of m (is_present m j) j) (λ j. slot_of n (is_present n j) j) order parts.0 k (ranked k).is_once);
      customs = parts.1;
    }
