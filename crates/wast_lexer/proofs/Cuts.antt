-- A token ends where a character does.
use Rattle.std.proofs.Common.{◌≡◌, ◌≢◌, ℕ, ◌+◌, ◌-◌, ◌<◌, ◌≤◌, Bool, true, List, [], ◌∷◌, ◌++◌, length, drop, get_or, suc, IsUtf8, refl, sym, ◌∙◌, ap, arith}
use Rattle.std.specs.Prelude.{nat_lt}
use Rattle.std.proofs.lemmas.Bool.Decides.{nat_tests}
use Rattle.wast_lexer.specs.Kinds.{is_idchar, Word}
use Rattle.wast_lexer.specs.Kinds.Word.{Ends, Char, Quoted}
use Rattle.wast_lexer.specs.Tiling.{ends}
use Rattle.std.specs.Str.{IsCharBoundary}
use Rattle.std.proofs.lemmas.Str.{IsCharBoundary-after_ascii}
use Rattle.std.proofs.lemmas.List.{get_or-drop, get_or_append_left}

abbrev pub is_low : ℕ → Bool
is_low c = nat_lt c 128

pub ends_append : (p : ℕ → Bool) (x : List ℕ) (c : ℕ) (t : List ℕ) → ends p (x ++ c ∷ t) ≡ ends p (c ∷ t)
ends_append p [] c t = refl
ends_append p (b ∷ []) c t = refl
ends_append p (b ∷ d ∷ x) c t = ends_append p (d ∷ x) c t

id_low : (c : ℕ) → is_idchar c ≡ true → is_low c ≡ true
id_low c h = grind (arith, nat_tests)

step_low : (c : ℕ) (text : List ℕ) → is_low c ≡ true → (text ≢ [] → ends is_low text ≡ true) → ends is_low (c ∷ text) ≡ true
step_low c [] low more = low
step_low c (d ∷ text) low more = more (λ e. cc)

-- a word ends in a byte of ASCII
pub low_word : (w : List ℕ) → Word w → w ≢ [] → ends is_low w ≡ true
low_word w Ends some = absurd (some refl)
low_word w (Char {c} {text} id more) some = step_low c text (id_low c id) (low_word text more)
low_word w (Quoted {inner} {bytes} {text} es more) some = ends_append is_low (34 ∷ inner) 34 text ∙ step_low 34 text refl (low_word text more)

last_low : (w : List ℕ) → w ≢ [] → ends is_low w ≡ true → get_or w (length w - 1) 0 < 128
last_low [] some h = absurd (some refl)
last_low (c ∷ []) some h = grind (arith, nat_tests)
last_low (c ∷ d ∷ w) some h = let more = last_low (d ∷ w) (λ e. cc) h in let n : length (c ∷ d ∷ w) - 1 ≡ suc (length (d ∷ w) - 1) = omega arith in rw n more

pub length_some : (w : List ℕ) → w ≢ [] → 0 < length w
length_some [] some = absurd (some refl)
length_some (c ∷ w) some = omega arith

-- a text may be cut behind such a word
pub cut_behind : (text w rest : List ℕ) (from : ℕ) → IsUtf8 text → w ≢ [] → ends is_low w ≡ true → drop from text ≡ w ++ rest → from + length w ≤ length text → IsCharBoundary text (from + length w)
cut_behind text w rest from utf8 some low split within =
    let last = last_low w some low in
    let size : 0 < length w = length_some w some in
    let at : get_or text (from + (length w - 1)) 0 ≡ get_or w (length w - 1) 0 = sym (get_or-drop from text (length w - 1) 0) ∙ ap (λ y. get_or y (length w - 1) 0) split ∙ get_or_append_left w rest 0 (length w - 1) (omega arith) in
    let cut = IsCharBoundary-after_ascii text (from + (length w - 1)) utf8 (omega arith) (rw at last) in
    let n : from + (length w - 1) + 1 ≡ from + length w = omega arith in
    rw n at cut
