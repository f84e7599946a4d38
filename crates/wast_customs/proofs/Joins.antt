-- A subsection behind others that are joined.
use Rattle.std.proofs.Common.{◌≡◌, List, [], ◌∷◌, ◌++◌, ℕ, map, refl, sym, ◌∙◌, ap, append_assoc}
use Rattle.std.proofs.lemmas.List.{map-append}
use Rattle.wast_customs.specs.CustomTree.{Subsection, MemInfo, Needed, ExportInfo, ImportInfo, RuntimePath}
use Rattle.std.specs.List.{flat_map}
use Rattle.wast_customs.specs.Dylink.{joined, joined_before, exports_before, imports_before, entries_of}
use Rattle.wast_customs.specs.Laws.{AreApart, SpeakAlike}

-- the same, from the left
abbrev behind : List Subsection → Subsection → List Subsection
behind [] s = s ∷ []
behind (t ∷ []) s = joined_before t (s ∷ [])
behind (t ∷ u ∷ ts) s = t ∷ behind (u ∷ ts) s

exports_again : (es fs : List (List ℕ × ℕ)) (s : Subsection) → joined_before (ExportInfo (es ++ fs)) (s ∷ []) ≡ exports_before es (joined_before (ExportInfo fs) (s ∷ []))
exports_again es fs (ExportInfo gs) = ap (λ x. ExportInfo x ∷ []) (append_assoc es fs gs)
exports_again es fs (MemInfo a b c d) = refl
exports_again es fs (Needed ns) = refl
exports_again es fs (ImportInfo is) = refl
exports_again es fs (RuntimePath ns) = refl

imports_again : (is js : List (List ℕ × (List ℕ × ℕ))) (s : Subsection) → joined_before (ImportInfo (is ++ js)) (s ∷ []) ≡ imports_before is (joined_before (ImportInfo js) (s ∷ []))
imports_again is js (ImportInfo ks) = ap (λ x. ImportInfo x ∷ []) (append_assoc is js ks)
imports_again is js (MemInfo a b c d) = refl
imports_again is js (Needed ns) = refl
imports_again is js (ExportInfo es) = refl
imports_again is js (RuntimePath ns) = refl

-- what stands before imports is no export
before_imports : (es : List (List ℕ × ℕ)) (is : List (List ℕ × (List ℕ × ℕ))) (s : Subsection) → ExportInfo es ∷ joined_before (ImportInfo is) (s ∷ []) ≡ exports_before es (joined_before (ImportInfo is) (s ∷ []))
before_imports es is (ImportInfo js) = refl
before_imports es is (MemInfo a b c d) = refl
before_imports es is (Needed ns) = refl
before_imports es is (ExportInfo fs) = refl
before_imports es is (RuntimePath ns) = refl

before_exports : (is : List (List ℕ × (List ℕ × ℕ))) (es : List (List ℕ × ℕ)) (s : Subsection) → ImportInfo is ∷ joined_before (ExportInfo es) (s ∷ []) ≡ imports_before is (joined_before (ExportInfo es) (s ∷ []))
before_exports is es (ExportInfo fs) = refl
before_exports is es (MemInfo a b c d) = refl
before_exports is es (Needed ns) = refl
before_exports is es (ImportInfo js) = refl
before_exports is es (RuntimePath ns) = refl

behind_exports : (es : List (List ℕ × ℕ)) (ts : List Subsection) (s : Subsection) → behind (exports_before es ts) s ≡ exports_before es (behind ts s)
behind_exports es [] s = none s
  where
    none : (s : Subsection) → joined_before (ExportInfo es) (s ∷ []) ≡ exports_before es (s ∷ [])
    none s = refl
behind_exports es (ExportInfo fs ∷ []) s = exports_again es fs s
behind_exports es (ExportInfo fs ∷ u ∷ ts) s = refl
behind_exports es (ImportInfo is ∷ []) s = before_imports es is s
behind_exports es (ImportInfo is ∷ u ∷ ts) s = refl
behind_exports es (MemInfo a b c d ∷ []) s = refl
behind_exports es (MemInfo a b c d ∷ u ∷ ts) s = refl
behind_exports es (Needed ns ∷ []) s = refl
behind_exports es (Needed ns ∷ u ∷ ts) s = refl
behind_exports es (RuntimePath ns ∷ []) s = refl
behind_exports es (RuntimePath ns ∷ u ∷ ts) s = refl

behind_imports : (is : List (List ℕ × (List ℕ × ℕ))) (ts : List Subsection) (s : Subsection) → behind (imports_before is ts) s ≡ imports_before is (behind ts s)
behind_imports is [] s = refl
behind_imports is (ImportInfo js ∷ []) s = imports_again is js s
behind_imports is (ImportInfo js ∷ u ∷ ts) s = refl
behind_imports is (ExportInfo es ∷ []) s = before_exports is es s
behind_imports is (ExportInfo es ∷ u ∷ ts) s = refl
behind_imports is (MemInfo a b c d ∷ []) s = refl
behind_imports is (MemInfo a b c d ∷ u ∷ ts) s = refl
behind_imports is (Needed ns ∷ []) s = refl
behind_imports is (Needed ns ∷ u ∷ ts) s = refl
behind_imports is (RuntimePath ns ∷ []) s = refl
behind_imports is (RuntimePath ns ∷ u ∷ ts) s = refl

-- one that stands alone
behind_alone : (t : Subsection) (ts : List Subsection) (s : Subsection) → joined_before t (s ∷ []) ≡ t ∷ s ∷ [] → behind (t ∷ ts) s ≡ t ∷ behind ts s
behind_alone t [] s e = e
behind_alone t (u ∷ ts) s e = refl

behind_before : (t : Subsection) (ts : List Subsection) (s : Subsection) → behind (joined_before t ts) s ≡ joined_before t (behind ts s)
behind_before (ExportInfo es) ts s = behind_exports es ts s
behind_before (ImportInfo is) ts s = behind_imports is ts s
behind_before (MemInfo a b c d) ts s = behind_alone (MemInfo a b c d) ts s refl
behind_before (Needed ns) ts s = behind_alone (Needed ns) ts s refl
behind_before (RuntimePath ns) ts s = behind_alone (RuntimePath ns) ts s refl

joined_behind : (ss : List Subsection) (s : Subsection) → joined (ss ++ s ∷ []) ≡ behind (joined ss) s
joined_behind [] (ExportInfo es) = refl
joined_behind [] (ImportInfo is) = refl
joined_behind [] (MemInfo a b c d) = refl
joined_behind [] (Needed ns) = refl
joined_behind [] (RuntimePath ns) = refl
joined_behind (t ∷ ss) s = ap (joined_before t) (joined_behind ss s) ∙ sym (behind_before t (joined ss) s)

-- behind the last of several
behind_last : (ts : List Subsection) (t s : Subsection) → behind (ts ++ t ∷ []) s ≡ ts ++ joined_before t (s ∷ [])
behind_last [] t s = refl
behind_last (u ∷ []) t s = refl
behind_last (u ∷ v ∷ ts) t s = ap (λ z. u ∷ z) (behind_last (v ∷ ts) t s)

-- the last of those that are joined, and one more
pub one_more : (ss : List Subsection) (ts : List Subsection) (t s : Subsection) → ts ++ t ∷ [] ≡ joined ss → ts ++ joined_before t (s ∷ []) ≡ joined (ss ++ s ∷ [])
one_more ss ts t s e = sym (behind_last ts t s) ∙ ap (λ z. behind z s) e ∙ sym (joined_behind ss s)

pub first_one : (ss : List Subsection) (s : Subsection) → [] ≡ joined ss → s ∷ [] ≡ joined (ss ++ s ∷ [])
first_one ss s e = ap (λ z. behind z s) e ∙ sym (joined_behind ss s)

-- what is seen of one or two that are pushed
pub pushed_two : {A : Type 0} (f : A → Subsection) (xs : List A) (a b : A) → map f ((xs ++ a ∷ []) ++ b ∷ []) ≡ map f xs ++ f a ∷ f b ∷ []
pushed_two f xs a b = map-append f (xs ++ a ∷ []) (b ∷ []) ∙ ap (λ z. z ++ f b ∷ []) (map-append f xs (a ∷ [])) ∙ append_assoc (map f xs) (f a ∷ []) (f b ∷ [])

-- WHAT IS KEPT
exports_kept : (es : List (List ℕ × ℕ)) (ts : List Subsection) → flat_map entries_of (exports_before es ts) ≡ entries_of (ExportInfo es) ++ flat_map entries_of ts
exports_kept es [] = refl
exports_kept es (ExportInfo fs ∷ ts) =
    ap (λ z. z ++ flat_map entries_of ts) (map-append (λ e. ExportInfo (e ∷ [])) es fs)
    ∙ append_assoc (entries_of (ExportInfo es)) (entries_of (ExportInfo fs)) (flat_map entries_of ts)
exports_kept es (MemInfo a b c d ∷ ts) = refl
exports_kept es (Needed ns ∷ ts) = refl
exports_kept es (ImportInfo is ∷ ts) = refl
exports_kept es (RuntimePath ns ∷ ts) = refl

imports_kept : (is : List (List ℕ × (List ℕ × ℕ))) (ts : List Subsection) → flat_map entries_of (imports_before is ts) ≡ entries_of (ImportInfo is) ++ flat_map entries_of ts
imports_kept is [] = refl
imports_kept is (ImportInfo js ∷ ts) =
    ap (λ z. z ++ flat_map entries_of ts) (map-append (λ i. ImportInfo (i ∷ [])) is js)
    ∙ append_assoc (entries_of (ImportInfo is)) (entries_of (ImportInfo js)) (flat_map entries_of ts)
imports_kept is (MemInfo a b c d ∷ ts) = refl
imports_kept is (Needed ns ∷ ts) = refl
imports_kept is (ExportInfo es ∷ ts) = refl
imports_kept is (RuntimePath ns ∷ ts) = refl

one_kept : (s : Subsection) (ts : List Subsection) → flat_map entries_of (joined_before s ts) ≡ entries_of s ++ flat_map entries_of ts
one_kept (ExportInfo es) ts = exports_kept es ts
one_kept (ImportInfo is) ts = imports_kept is ts
one_kept (MemInfo a b c d) ts = refl
one_kept (Needed ns) ts = refl
one_kept (RuntimePath ns) ts = refl

pub all_kept : (ss : List Subsection) → flat_map entries_of (joined ss) ≡ flat_map entries_of ss
all_kept [] = refl
all_kept (s ∷ ss) = one_kept s (joined ss) ∙ ap (λ z. entries_of s ++ z) (all_kept ss)

-- WHAT IS LEFT to join: nothing
apart_first : (s : Subsection) (ts : List Subsection) → ((t : Subsection) → ¬ (SpeakAlike s t)) → AreApart ts → AreApart (s ∷ ts)
apart_first s [] alone h = tt
apart_first s (t ∷ ts) alone h = (alone t, h)

exports_apart : (es : List (List ℕ × ℕ)) (ts : List Subsection) → AreApart ts → AreApart (exports_before es ts)
exports_apart es [] h = tt
exports_apart es (ExportInfo fs ∷ []) h = tt
exports_apart es (ExportInfo fs ∷ t ∷ ts) h = h
exports_apart es (ImportInfo is ∷ ts) h = (λ a. a, h)
exports_apart es (MemInfo a b c d ∷ ts) h = (λ a. a, h)
exports_apart es (Needed ns ∷ ts) h = (λ a. a, h)
exports_apart es (RuntimePath ns ∷ ts) h = (λ a. a, h)

imports_apart : (is : List (List ℕ × (List ℕ × ℕ))) (ts : List Subsection) → AreApart ts → AreApart (imports_before is ts)
imports_apart is [] h = tt
imports_apart is (ImportInfo js ∷ []) h = tt
imports_apart is (ImportInfo js ∷ t ∷ ts) h = h
imports_apart is (ExportInfo es ∷ ts) h = (λ a. a, h)
imports_apart is (MemInfo a b c d ∷ ts) h = (λ a. a, h)
imports_apart is (Needed ns ∷ ts) h = (λ a. a, h)
imports_apart is (RuntimePath ns ∷ ts) h = (λ a. a, h)

one_apart : (s : Subsection) (ts : List Subsection) → AreApart ts → AreApart (joined_before s ts)
one_apart (ExportInfo es) ts h = exports_apart es ts h
one_apart (ImportInfo is) ts h = imports_apart is ts h
one_apart (MemInfo a b c d) ts h = apart_first (MemInfo a b c d) ts (λ t a. a) h
one_apart (Needed ns) ts h = apart_first (Needed ns) ts (λ t a. a) h
one_apart (RuntimePath ns) ts h = apart_first (RuntimePath ns) ts (λ t a. a) h

pub all_apart : (ss : List Subsection) → AreApart (joined ss)
all_apart [] = tt
all_apart (s ∷ ss) = one_apart s (joined ss) (all_apart ss)
