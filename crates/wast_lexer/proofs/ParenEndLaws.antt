-- Where groups of parentheses end.
use Rattle.std.proofs.Common.{◌≡◌, ◌↔◌, ◌-◌, MatchOption, ℕ, zero, suc, ◌+◌, ◌<◌, List, [], ◌∷◌, ◌++◌, Option, Some, None, length, take, drop, refl, sym, ◌∙◌, ap, subst, arith, append_assoc, get_or, add-one}
use Rattle.std.proofs.Math.Seq.{drop-cons}
use Rattle.std.proofs.lemmas.List.{length-append}
use Rattle.wast_lexer.specs.declared.paren.Paren.{Paren}
use Rattle.wast_lexer.specs.declared.paren.Paren.TheVariants.{Opens, Closes, Other}
use Rattle.std.proofs.lemmas.List.{length-take-le, take-append-drop}
use Rattle.wast_lexer.specs.Groups.{Balanced, IsGroupAt}
use Rattle.wast_lexer.specs.ParenEnds.{one_more, closing, index_of}
use Rattle.wast_lexer.specs.Groups.Balanced.{Nothing, Plain, Group}

-- so many more
abbrev pub shift : ℕ → Option ℕ → Option ℕ
shift m None = None
shift m (Some n) = Some (m + n)

shift_more : (m : ℕ) (o : Option ℕ) → one_more (shift m o) ≡ shift (suc m) o
shift_more m None = refl
shift_more m (Some n) = ap (λ (k : ℕ). Some k) (omega arith)

shift_shift : (a b : ℕ) (o : Option ℕ) → shift a (shift b o) ≡ shift (a + b) o
shift_shift a b None = refl
shift_shift a b (Some n) = ap (λ (k : ℕ). Some k) (omega arith)

deeper : (d : ℕ) (t : List Paren) → closing (d + 1) t ≡ closing (suc d) t
deeper d t = ap (λ k. closing k t) (omega arith)

-- what balances is passed over
passed : (d : ℕ) (inner : List Paren) → Balanced inner → (rest : List Paren) → closing d (inner ++ rest) ≡ shift (length inner) (closing d rest)
passed d inner Nothing rest = zero_shift (closing d rest)
  where
    zero_shift : (o : Option ℕ) → o ≡ shift 0 o
    zero_shift None = refl
    zero_shift (Some n) = ap (λ (k : ℕ). Some k) (omega arith)
passed d inner (Plain {tokens} b) rest = ap one_more (passed d tokens b rest) ∙ shift_more (length tokens) (closing d rest)
passed d inner (Group {inner = inside} {tokens} b c) rest =
    ap (λ (y : List Paren). one_more (closing (d + 1) y)) (append_assoc inside (Closes ∷ tokens) rest)
    ∙ ap one_more (deeper d (inside ++ Closes ∷ (tokens ++ rest)) ∙ passed (suc d) inside b (Closes ∷ (tokens ++ rest))
    ∙ ap (shift (length inside)) (ap one_more (passed d tokens c rest) ∙ shift_more (length tokens) (closing d rest)) ∙ shift_shift (length inside) (suc (length tokens)) (closing d rest))
    ∙ shift_more (length inside + suc (length tokens)) (closing d rest) ∙ ap (λ k. shift k (closing d rest)) (omega (arith, length-append inside (Closes ∷ tokens)))

-- a group opens in front of these tokens, and so many stand within it
abbrev pub IsGroup : List Paren → ℕ → Type 0
IsGroup tokens n = (inner : List Paren) × (rest : List Paren) × Balanced inner × (tokens ≡ inner ++ Closes ∷ rest) × (n ≡ length inner)

pub complete : (t : List Paren) (n : ℕ) → IsGroup t n → closing 0 t ≡ Some n
complete t n g = ap (closing 0) g.3 ∙ passed 0 g.0 g.2 (Closes ∷ g.1) ∙ (let e : length g.0 + 0 ≡ n = omega (arith, g.4) in ap (λ (k : ℕ). Some k) e)

-- so many groups are closed in front, and the rest balances
abbrev Opened : ℕ → List Paren → Type 0
Opened zero inner = Balanced inner
Opened (suc d) inner = (b : List Paren) × (c : List Paren) × Balanced b × Opened d c × (inner ≡ b ++ Closes ∷ c)

other : (d : ℕ) (inner : List Paren) → Opened d inner → Opened d (Other ∷ inner)
other zero inner o = Plain o
other (suc d) inner o = (Other ∷ o.0, o.1, Plain o.2, o.3, ap (λ (y : List Paren). Other ∷ y) o.4)

opens : (d : ℕ) (inner : List Paren) → Opened (suc d) inner → Opened d (Opens ∷ inner)
opens zero inner o = subst (λ (y : List Paren). Balanced (Opens ∷ y)) (sym o.4) (Group o.2 o.3)
opens (suc d) inner o =
    let p = o.3 in
    (Opens ∷ (o.0 ++ Closes ∷ p.0), p.1, Group o.2 p.2, p.3, ap (λ (y : List Paren). Opens ∷ y) (o.4 ∙ ap (λ (y : List Paren). o.0 ++ Closes ∷ y) p.4 ∙ sym (append_assoc o.0 (Closes ∷ p.0) (Closes ∷ p.1))))

one_of : (o : Option ℕ) (n : ℕ) → one_more o ≡ Some n → (m : ℕ) × (o ≡ Some m) × (n ≡ m + 1)
one_of None n h = absurd (cc)
one_of (Some m) n h = let e : m + 1 ≡ n = cc in (m, refl, sym e)

sound : (t : List Paren) (d n : ℕ) → closing d t ≡ Some n → (inner : List Paren) × (rest : List Paren) × Opened d inner × (t ≡ inner ++ Closes ∷ rest) × (n ≡ length inner)
sound [] d n h = absurd (cc)
sound (Other ∷ t) d n h =
    let m = one_of (closing d t) n h in
    let s = sound t d m.0 m.1 in
    (Other ∷ s.0, s.1, other d s.0 s.2, ap (λ (y : List Paren). Other ∷ y) s.3, omega (arith, m.2, s.4))
sound (Opens ∷ t) d n h =
    let m = one_of (closing (d + 1) t) n h in
    let s = sound t (suc d) m.0 (sym (deeper d t) ∙ m.1) in
    (Opens ∷ s.0, s.1, opens d s.0 s.2, ap (λ (y : List Paren). Opens ∷ y) s.3, omega (arith, m.2, s.4))
sound (Closes ∷ t) zero n h = let e : 0 ≡ n = cc in ([], t, Nothing, refl, sym e)
sound (Closes ∷ t) (suc d) n h =
    let m = one_of (closing d t) n h in
    let s = sound t d m.0 m.1 in
    (Closes ∷ s.0, s.1, ([], s.0, Nothing, s.2, refl), ap (λ (y : List Paren). Closes ∷ y) s.3, omega (arith, m.2, s.4))

pub groups : (t : List Paren) (n : ℕ) → (closing 0 t ≡ Some n) ↔ IsGroup t n
groups t n = (λ h. sound t 0 n h, complete t n)

front_at : (ts : List Paren) (at : ℕ) (p : Paren) → at < length ts → get_or ts at Opens ≡ p → drop at ts ≡ p ∷ drop (at + 1) ts
front_at ts at p inside is = (rw (add-one, drop-cons ts at Opens) refl) ∙ ap (λ (i : Paren). i ∷ drop (at + 1) ts) is

group_at : (ts : List Paren) (index n : ℕ) → index < length ts → get_or ts index Opens ≡ Opens → closing 0 (drop (index + 1) ts) ≡ Some n → IsGroupAt ts index (index + 1 + n)
group_at ts index n inside is found =
    let g = (groups (drop (index + 1) ts) n).0 found in
    record {
      front = take index ts;
      inner = g.0;
      rest = g.1;
      balanced = g.2;
      split = sym (take-append-drop index ts) ∙ ap (λ y. take index ts ++ y) (front_at ts index Opens inside is ∙ ap (λ (y : List Paren). Opens ∷ y) g.3);
      index_is = sym (length-take-le index ts (omega (arith, inside)));
      end_is = omega (arith, g.4);
    }

at_group : (ts : List Paren) (index end : ℕ) → IsGroupAt ts index end → (index < length ts) × (get_or ts index Opens ≡ Opens) × (n : ℕ) × (closing 0 (drop (index + 1) ts) ≡ Some n)
at_group ts index end g =
    let inner = g.inner in
    let behind : drop (index + 1) ts ≡ inner ++ Closes ∷ g.rest = ap (drop (index + 1)) g.split ∙ (let n : index + 1 ≡ length g.front + 1 = omega (arith, g.index_is) in ap (λ i. drop i (g.front ++ Opens ∷ (inner ++ Closes ∷ g.rest))) n) ∙ past g.front Opens (inner ++ Closes ∷ g.rest) in
    let l = ap length g.split ∙ length-append g.front (Opens ∷ (inner ++ Closes ∷ g.rest)) in (
      omega (arith, l, g.index_is),
      ap (λ y. get_or y index Opens) g.split ∙ (let n = g.index_is in ap (λ i. get_or (g.front ++ Opens ∷ (inner ++ Closes ∷ g.rest)) i Opens) n) ∙ seam g.front Opens (inner ++ Closes ∷ g.rest),
      length inner,
      (groups (drop (index + 1) ts) (length inner)).1 (inner, g.rest, g.balanced, behind, refl),
    )
  where
    past : (a : List Paren) (p : Paren) (b : List Paren) → drop (length a + 1) (a ++ p ∷ b) ≡ b
    past [] p b = refl
    past (x ∷ a) p b = let n : length (x ∷ a) + 1 ≡ suc (length a + 1) = omega arith in ap (λ i. drop i (x ∷ (a ++ p ∷ b))) n ∙ past a p b

    seam : (a : List Paren) (p : Paren) (b : List Paren) → get_or (a ++ p ∷ b) (length a) Opens ≡ p
    seam [] p b = refl
    seam (x ∷ a) p b = seam a p b

-- what the search for the end of a group answers
abbrev pub EndOf : List Paren → ℕ → Option ℕ → Type 0
EndOf ts index r = MatchOption r ((end : ℕ) → ¬ IsGroupAt ts index end) (λ end. IsGroupAt ts index end)

pub no_group : (ts : List Paren) (index : ℕ) → (index < length ts → get_or ts index Opens ≡ Opens → ⊥) → (end : ℕ) → ¬ IsGroupAt ts index end
no_group ts index none end g = let found = at_group ts index end g in none found.0 found.1

pub end_of : (ts : List Paren) (index : ℕ) (r : Option ℕ) → index < length ts → get_or ts index Opens ≡ Opens → r ≡ index_of (index + 1) (closing 0 (drop (index + 1) ts)) → EndOf ts index r
end_of ts index r inside is answer = subst (EndOf ts index) (sym answer) (go (closing 0 (drop (index + 1) ts)) refl)
  where
    go : (o : Option ℕ) → closing 0 (drop (index + 1) ts) ≡ o → EndOf ts index (index_of (index + 1) o)
    go None e = λ end g. (let found = at_group ts index end g in let no : None ≡ Some found.2 = sym e ∙ found.3 in cc)
    go (Some n) e = group_at ts index n inside is e

-- one turn of the search: what the tokens from a place on say, by the token there
module _ (ts : List Paren) (depth at : ℕ) (inside : at < length ts) where
  here : (p : Paren) → get_or ts at Opens ≡ p → closing depth (drop at ts) ≡ closing depth (p ∷ drop (at + 1) ts)
  here p is = ap (closing depth) (front_at ts at p inside is)

  moved : (o : Option ℕ) → index_of at (one_more o) ≡ index_of (at + 1) o
  moved None = refl
  moved (Some n) = ap (λ (k : ℕ). Some k) (omega arith)

  pub turn_other : get_or ts at Opens ≡ Other → index_of at (closing depth (drop at ts)) ≡ index_of (at + 1) (closing depth (drop (at + 1) ts))
  turn_other is = ap (index_of at) (here Other is) ∙ moved (closing depth (drop (at + 1) ts))

  pub turn_opens : get_or ts at Opens ≡ Opens → index_of at (closing depth (drop at ts)) ≡ index_of (at + 1) (closing (depth + 1) (drop (at + 1) ts))
  turn_opens is = ap (index_of at) (here Opens is) ∙ moved (closing (depth + 1) (drop (at + 1) ts))

  pub turn_closes : get_or ts at Opens ≡ Closes → (depth ≡ 0 → ⊥) → index_of at (closing depth (drop at ts)) ≡ index_of (at + 1) (closing (depth - 1) (drop (at + 1) ts))
  turn_closes is deep =
      let above : depth ≡ suc (depth - 1) = omega (arith, deep) in
      ap (index_of at) (here Closes is ∙ ap (λ d. closing d (Closes ∷ drop (at + 1) ts)) above) ∙ moved (closing (depth - 1) (drop (at + 1) ts))

  pub turn_last : get_or ts at Opens ≡ Closes → depth ≡ 0 → index_of at (closing depth (drop at ts)) ≡ Some at
  turn_last is none = ap (index_of at) (here Closes is ∙ ap (λ d. closing d (Closes ∷ drop (at + 1) ts)) none) ∙ ap (λ (k : ℕ). Some k) (omega arith)
