-- Reading one byte more of LEB128. `last` is what the last byte stands for less than; turned over only where that is 64.
use Rattle.std.proofs.Common.{ℕ, suc, ◌≡◌, ◌+◌, ◌-◌, ◌*◌, ◌/◌, ◌%◌, ◌<◌, ◌≤◌, ◌⊎◌, Bool, true, false, List, [], ◌∷◌, ◌++◌, length, take, drop, get_or, refl, sym, ap, ◌∙◌, subst, inl, inr, ⊎_elim, arith}
use Rattle.std.specs.Prelude.{nat_le, Option, Some, None, IfSome, IfNone}
use Rattle.std.proofs.lemmas.List.{length-drop}
use Rattle.std.proofs.Math.Seq.{take-length}
use Rattle.std.proofs.lemmas.Bool.{cases_lt, le-leb, lt-leb}
use Rattle.wasm_encoder_bytes.specs.Leb.{seven, leb}
use Rattle.wasm_encoder_bytes.specs.Front.{StandsInFront}
use Rattle.wasm_encoder_bytes.proofs.LebSteps.{seven-below, seven-twice, leb-last, leb-more}
use Rattle.wasm_encoder_bytes.proofs.UniqueLeb.{leb-one, signs-apart}
use Rattle.wasm_encoder_bytes.proofs.UniqueParts.{cons_head, cons_tail, no_cons}

-- how a spelling begins: with its one byte, or with a byte and the rest
record IsLast (flip : Bool) (last n b : ℕ) (r s : List ℕ) : Type 0 where
  small : n < last
  byte : b ≡ seven flip n
  rest : r ≡ s

record IsMore (flip : Bool) (last n b : ℕ) (r s : List ℕ) : Type 0 where
  large : last ≤ n
  byte : b ≡ 128 + seven flip (n % 128)
  rest : r ≡ leb flip last (n / 128) ++ s

leb_head : (flip : Bool) (last n b : ℕ) (r s : List ℕ) → 0 < last → b ∷ r ≡ leb flip last n ++ s → IsLast flip last n b r s ⊎ IsMore flip last n b r s
leb_head flip last n b r s p e = ⊎_elim
    (λ h. let f : b ∷ r ≡ seven flip n ∷ s = e ∙ ap (λ v. v ++ s) (leb-last flip last n h) in inl (record { small = h; byte = cons_head f; rest = cons_tail f }))
    (λ h. let f : b ∷ r ≡ (128 + seven flip (n % 128)) ∷ (leb flip last (n / 128) ++ s) = e ∙ ap (λ v. v ++ s) (leb-more flip last n p h) in inr (record { large = h; byte = cons_head f; rest = cons_tail f }))
    (cases_lt n last)

-- the sign of a number that may be spelled so
abbrev pub MayTurn : ℕ → Bool → Type 0
MayTurn last flip = flip ≡ true → last ≡ 64

pub none_empty : (bytes : List ℕ) (flip : Bool) (last n : ℕ) → length bytes < 1 → 0 < last → StandsInFront (leb flip last n) bytes → ⊥
none_empty [] flip last n h p f = ⊎_elim
    (λ q. no_cons (sym (f.1 ∙ ap (λ v. v ++ f.0) (leb-last flip last n q))))
    (λ q. no_cons (sym (f.1 ∙ ap (λ v. v ++ f.0) (leb-more flip last n p q))))
    (cases_lt n last)
none_empty (b ∷ bytes) flip last n h p f = omega arith

-- what the last byte may stand for less than
abbrev pub IsLimit : ℕ → Type 0
IsLimit last = (last ≡ 64) ⊎ (last ≡ 128)

limit_low : (last : ℕ) → IsLimit last → 64 ≤ last
limit_low last k = ⊎_elim (λ e. omega arith) (λ e. omega arith) k

limit_high : (last : ℕ) → IsLimit last → last ≤ 128
limit_high last k = ⊎_elim (λ e. omega arith) (λ e. omega arith) k

turned_limit : (last b : ℕ) → IsLimit last → b < 128 → last ≤ b → last ≡ 64
turned_limit last b k p q = ⊎_elim (λ e. e) (λ e. omega arith) k

-- one byte
turns : (last b : ℕ) → true ≡ nat_le last b → last ≤ b
turns last b e = ⊎_elim (λ h. absurd (let f = lt-leb last b h in let g : true ≡ false = e ∙ f in cc)) (λ h. h) (cases_lt b last)

stays : (last b : ℕ) → false ≡ nat_le last b → b < last
stays last b e = ⊎_elim (λ h. h) (λ h. absurd (let f = le-leb last b h in let g : false ≡ true = e ∙ f in cc)) (cases_lt b last)

pub found_last : (flip : Bool) (last b size : ℕ) → flip ≡ nat_le last b → size ≡ seven flip b → b < 128 → IsLimit last → leb flip last size ≡ b ∷ []
found_last false last b size f e p k = ap (leb false last) e ∙ leb-last false last b (stays last b f)
found_last true last b size f e p k =
    let l = turns last b f in
    let t = turned_limit last b k p l in
    let h : size < last = omega arith in
    leb-last true last size h ∙ (let v : 127 - size ≡ b = omega arith in ap (λ x. x ∷ []) v)

pub none_last : (flip : Bool) (last most n b : ℕ) (r bytes : List ℕ) → IsLimit last → b < 128 → most < seven (nat_le last b) b → bytes ≡ b ∷ r → MayTurn last flip → n ≤ most → StandsInFront (leb flip last n) bytes → ⊥
none_last flip last most n b r bytes k p over w m l f = ⊎_elim
    (λ h. by flip m h.small h.byte)
    (λ h. omega (arith, h.byte))
    (leb_head flip last n b r f.0 (omega (arith, limit_low last k)) (sym w ∙ f.1))
  where
    by : (flip : Bool) → MayTurn last flip → n < last → b ≡ seven flip n → ⊥
    by false m small e = (let t = lt-leb last b (omega (arith, e)) in let o : most < b = subst (λ c. most < seven c b) t over in omega (arith, e))
    by true m small e = (let z = m refl in let t = le-leb last b (omega (arith, e, z)) in let o : most < 127 - b = subst (λ c. most < seven c b) t over in omega (arith, e, z))

-- no room for a second byte
pub none_short : (flip : Bool) (last most n b : ℕ) (r bytes : List ℕ) → IsLimit last → 128 ≤ b → most < last → bytes ≡ b ∷ r → n ≤ most → StandsInFront (leb flip last n) bytes → ⊥
none_short flip last most n b r bytes k p q w l f = ⊎_elim
    (λ h. omega (arith, h.byte, seven-below flip n (omega (arith, h.small, limit_high last k))))
    (λ h. omega (arith, h.large))
    (leb_head flip last n b r f.0 (omega (arith, limit_low last k)) (sym w ∙ f.1))

-- none after the first byte
pub none_after : (flip : Bool) (last most n b : ℕ) (r bytes : List ℕ) → IsLimit last → 128 ≤ b → ((m : ℕ) → m ≤ most / 128 → StandsInFront (leb flip last m) r → ⊥) → bytes ≡ b ∷ r → n ≤ most → StandsInFront (leb flip last n) bytes → ⊥
none_after flip last most n b r bytes k p none w l f = ⊎_elim
    (λ h. omega (arith, h.byte, seven-below flip n (omega (arith, h.small, limit_high last k))))
    (λ h. none (n / 128) (omega arith) (f.0, h.rest))
    (leb_head flip last n b r f.0 (omega (arith, limit_low last k)) (sym w ∙ f.1))

record SameNumber (f g : Bool) (m n : ℕ) : Type 0 where
  flip : f ≡ g
  size : m ≡ n

leb_same : (f g : Bool) (last m n : ℕ) (r s : List ℕ) → IsLimit last → MayTurn last f → MayTurn last g → leb f last m ++ r ≡ leb g last n ++ s → SameNumber f g m n
leb_same false false last m n r s k p q e = record { flip = refl; size = (leb-one (suc (m + n)) false last m n r s (omega (arith, limit_low last k)) (limit_high last k) (omega arith) (omega arith) e).0 }
leb_same true true last m n r s k p q e = record { flip = refl; size = (leb-one (suc (m + n)) true last m n r s (omega (arith, limit_low last k)) (limit_high last k) (omega arith) (omega arith) e).0 }
leb_same false true last m n r s k p q e = absurd (signs-apart (suc (m + n)) m n r s (omega arith) (omega arith) (subst (λ v. leb false v m ++ r ≡ leb true v n ++ s) (q refl) e))
leb_same true false last m n r s k p q e = absurd (signs-apart (suc (m + n)) n m s r (omega arith) (omega arith) (subst (λ v. leb false v n ++ s ≡ leb true v m ++ r) (p refl) (sym e)))

-- the number that the rest makes with the first byte isn't one
pub none_more : (f flip : Bool) (last most n b size : ℕ) (r bytes : List ℕ) → IsLimit last → 128 ≤ b → MayTurn last f → StandsInFront (leb f last size) r → (last ≤ seven f (b - 128) + 128 * size → seven f (b - 128) + 128 * size ≤ most → ⊥) → bytes ≡ b ∷ r → MayTurn last flip → n ≤ most → StandsInFront (leb flip last n) bytes → ⊥
none_more f flip last most n b size r bytes k p m higher none w t l found = ⊎_elim
    (λ h. omega (arith, h.byte, seven-below flip n (omega (arith, h.small, limit_high last k))))
    (λ h. (let same = leb_same f flip last size (n / 128) higher.0 found.0 k m t (sym higher.1 ∙ h.rest) in
    let d : b - 128 ≡ seven flip (n % 128) = omega (arith, h.byte) in
    let v : seven f (b - 128) ≡ n % 128 = ap (λ c. seven c (b - 128)) same.flip ∙ ap (seven flip) d ∙ seven-twice flip (n % 128) (omega arith) in
    none (omega (arith, v, same.size, h.large)) (omega (arith, v, same.size))))
    (leb_head flip last n b r found.0 (omega (arith, limit_low last k)) (sym w ∙ found.1))

found_more : (flip : Bool) (last b size n : ℕ) → IsLimit last → 128 ≤ b → b < 256 → n ≡ seven flip (b - 128) + 128 * size → last ≤ n → leb flip last n ≡ b ∷ leb flip last size
found_more flip last b size n k p q e l =
    let below = seven-below flip (b - 128) (omega arith) in
    let low : n % 128 ≡ seven flip (b - 128) = omega (arith, below, e) in
    let rest : n / 128 ≡ size = omega (arith, below, e) in
    let first : 128 + seven flip (n % 128) ≡ b = (let t : seven flip (n % 128) ≡ b - 128 = ap (seven flip) low ∙ seven-twice flip (b - 128) (omega arith) in omega (arith, t)) in
    leb-more flip last n (omega (arith, limit_low last k)) l ∙ ap (λ v. v ∷ leb flip last (n / 128)) first ∙ ap (λ v. b ∷ leb flip last v) rest

-- the same, of what stands in front
pub front_more : (f flip : Bool) (last b size n : ℕ) (r bytes : List ℕ) → IsLimit last → 128 ≤ b → b < 256 → flip ≡ f → n ≡ seven f (b - 128) + 128 * size → last ≤ n → bytes ≡ b ∷ r → StandsInFront (leb f last size) r → StandsInFront (leb flip last n) bytes
front_more f flip last b size n r bytes k p q t e l w higher =
    (higher.0, w ∙ ap (λ v. b ∷ v) higher.1 ∙ ap (λ v. v ++ higher.0) (sym (ap (λ g. leb g last n) t ∙ found_more f last b size n k p q e l)))

pub length_more : (f flip : Bool) (last b size n len : ℕ) → IsLimit last → 128 ≤ b → b < 256 → flip ≡ f → n ≡ seven f (b - 128) + 128 * size → last ≤ n → len ≡ length (leb f last size) → len + 1 ≡ length (leb flip last n)
length_more f flip last b size n len k p q t e l h = omega (arith, h, ap length (ap (λ g. leb g last n) t ∙ found_more f last b size n k p q e l))

-- a slice by its first byte and the rest, as a pattern gives it
abbrev pub rest_of : List ℕ → List ℕ
rest_of s = take (length s - 1) (drop 1 s)

uncons : (s : List ℕ) → 1 ≤ length s → s ≡ get_or s 0 0 ∷ drop 1 s
uncons [] h = absurd (omega arith)
uncons (x ∷ s) h = refl

rest-is : (s : List ℕ) → 1 ≤ length s → rest_of s ≡ drop 1 s
rest-is s h = let n : length s - 1 ≡ length (drop 1 s) = omega (arith, length-drop {A = ℕ}) in ap (λ m. take m (drop 1 s)) n ∙ take-length (drop 1 s)

pub whole : (s : List ℕ) (b : ℕ) → 1 ≤ length s → b ≡ get_or s 0 0 → s ≡ b ∷ rest_of s
whole s b h e = uncons s h ∙ ap (λ x. x ∷ drop 1 s) (sym e) ∙ ap (λ r. b ∷ r) (sym (rest-is s h))

-- what is known of a result
pub some_map : {A : Type 0} {P Q : A → Type 0} (o : Option A) → ((x : A) → P x → Q x) → IfSome o P → IfSome o Q
some_map None f p = tt
some_map (Some x) f p = f x p

pub none_map : {A : Type 0} {P Q : Type 0} (o : Option A) → (P → Q) → IfNone o P → IfNone o Q
none_map None f p = f p
none_map (Some x) f p = tt

pub none_holds : {A : Type 0} {Q : Type 0} (o : Option A) → Q → IfNone o Q
none_holds None q = q
none_holds (Some x) q = tt
