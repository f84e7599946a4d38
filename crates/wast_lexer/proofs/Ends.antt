-- Each token ends where a character does.
use Rattle.std.proofs.Common.{◌≡◌, ◌≢◌, ℕ, ◌+◌, ◌<◌, ◌≤◌, Bool, true, false, not, inl, inr, ◌&&◌, ◌||◌, List, [], ◌∷◌, ◌++◌, length, drop, get_or, IsUtf8, refl, sym, ◌∙◌, ap, subst, arith}
use Rattle.std.specs.List.{list_all}
use Rattle.std.proofs.lemmas.Bool.Decides.{nat_tests}
use Rattle.std.specs.Str.{IsCharBoundary}
use Rattle.std.proofs.lemmas.Str.{IsCharBoundary-end, IsCharBoundary-before_ascii}
use Rattle.std.proofs.lemmas.List.{get_or-drop, length-drop, length-append}
use Rattle.wast_lexer.specs.declared.token.TokenKind.{TokenKind}
use Rattle.wast_lexer.specs.declared.token.TokenKind.TheVariants.{LineComment, BlockComment, Whitespace, LParen, RParen, String, Id, Keyword, Annotation, Reserved, Integer, Float}
use Rattle.wast_lexer_numbers.specs.declared.kind.NumberKind.TheVariants as kinds
use Rattle.wast_lexer.specs.Kinds.{starts, is_space, is_line_end, is_mark, is_semicolon, IsLexeme}
use Rattle.wast_lexer.specs.Tiling.{ends, Begins}
use Rattle.std.specs.Prelude.{Some}
use Rattle.wast_lexer.specs.Scan.{next}
use Rattle.wast_lexer.proofs.ScanLaws.{sound}
use Rattle.wast_lexer.proofs.KindLaws.{id_word, annotation_word, name_word, name_all, string_word, number_all}
use Rattle.wast_lexer.proofs.Cuts.{is_low, ends_append, low_word, cut_behind}

spaces_low : (w : List ℕ) → w ≢ [] → list_all is_space w ≡ true → ends is_low w ≡ true
spaces_low [] some h = absurd (some refl)
spaces_low (c ∷ []) some h = grind (arith, nat_tests)
spaces_low (c ∷ d ∷ w) some h = spaces_low (d ∷ w) (λ e. cc) (and_right (is_space c) (list_all is_space (d ∷ w)) h)
  where
    and_right : (a b : Bool) → (a && b) ≡ true → b ≡ true
    and_right true b h = h
    and_right false b h = absurd (cc)

one_low : (c : ℕ) → (is_mark c || is_semicolon c) ≡ true → is_low c ≡ true
one_low c h = grind (arith, nat_tests)

front_low : (rest : List ℕ) (c : ℕ) (t : List ℕ) → rest ≡ c ∷ t → starts (λ c. not (is_line_end c)) rest ≡ false → c < 128
front_low rest c t e h = below c (sym (ap (starts (λ c. not (is_line_end c))) e) ∙ h)
  where
    below : (c : ℕ) → not (is_line_end c) ≡ false → c < 128
    below c h = grind (arith, nat_tests)

-- every kind but a line comment ends in ASCII
word_low : (allow : Bool) (kind : TokenKind) (w : List ℕ) → w ≢ [] → IsLexeme allow kind w → (kind ≡ LineComment → ⊥) → ends is_low w ≡ true
word_low allow Whitespace w some l n = spaces_low w some l
word_low allow LParen w some l n = ap (ends is_low) l
word_low allow RParen w some l n = ap (ends is_low) l
word_low allow LineComment w some l n = absurd (n refl)
word_low allow BlockComment w some l n = ap (ends is_low) l.0.2 ∙ ends_append is_low (40 ∷ 59 ∷ l.0.0) 59 (41 ∷ [])
word_low allow String w some l n = low_word w (string_word w l.0.0 l.0.1) some
word_low allow Id w some l n = low_word w (id_word w l.0) some
word_low allow Keyword w some l n = low_word w (name_word w (name_all w l.name)) some
word_low allow Annotation w some l n = low_word w (annotation_word w l.0) some
word_low allow (Integer kind) w some l n = low_word w (name_word w (number_all (kinds.Integer kind) w l)) some
word_low allow (Float kind) w some l n = low_word w (name_word w (number_all (kinds.Float kind) w l)) some
word_low allow Reserved w some l n = elim l [
  | inl m ↦ ap (ends is_low) m.2 ∙ one_low m.0 m.1
  | inr o ↦ low_word w o.0.is_word some
]

split_length : (text w rest : List ℕ) (from : ℕ) → drop from text ≡ w ++ rest → w ≢ [] → from + length w + length rest ≡ length text
split_length text w rest from e some = omega (arith, ap length e, length-drop from text, length-append w rest, pos w some)
  where
    pos : (w : List ℕ) → w ≢ [] → 0 < length w
    pos [] some = absurd (some refl)
    pos (c ∷ w) some = omega arith

line_cut : (text w rest : List ℕ) (from : ℕ) → drop from text ≡ w ++ rest → w ≢ [] → starts (λ c. not (is_line_end c)) rest ≡ false → IsCharBoundary text (from + length w)
line_cut text w [] from e some h = let n : from + length w ≡ length text = omega (arith, split_length text w [] from e some) in subst (IsCharBoundary text) (sym n) (IsCharBoundary-end text)
line_cut text w (c ∷ rest) from e some h =
    let l = split_length text w (c ∷ rest) from e some in
    let at : get_or text (from + length w) 0 ≡ c = sym (get_or-drop from text (length w) 0) ∙ ap (λ y. get_or y (length w) 0) e ∙ seam w c rest in
    let low = front_low (c ∷ rest) c rest refl h in
    IsCharBoundary-before_ascii text (from + length w) (omega (arith, l)) (omega (arith, at, low))
  where
    seam : (w : List ℕ) (c : ℕ) (rest : List ℕ) → get_or (w ++ c ∷ rest) (length w) 0 ≡ c
    seam [] c rest = refl
    seam (d ∷ w) c rest = seam w c rest

-- a text may be cut behind each of its tokens
pub token_cut : (allow opened : Bool) (kind : TokenKind) (text w rest : List ℕ) (from : ℕ) → IsUtf8 text → drop from text ≡ w ++ rest → Begins allow opened kind w rest → IsCharBoundary text (from + length w)
token_cut allow opened LineComment text w rest from u e b = line_cut text w rest from e b.nonempty b.follow
token_cut allow opened kind text w rest from u e b = let l = split_length text w rest from e b.nonempty in cut_behind text w rest from u b.nonempty (word_low allow kind w b.nonempty b.lexeme (λ k. cc)) e (omega (arith, l))

-- the scan ends where a character does
pub next_cut : (allow opened : Bool) (text : List ℕ) (from to : ℕ) (k : TokenKind) → IsUtf8 text → from < to → to ≤ length text → next allow opened (drop from text) ≡ Some (k, drop to text) → IsCharBoundary text to
next_cut allow opened text from to k u less within h =
    let found = sound allow opened (drop from text) k (drop to text) h in
    let size : from + length found.0 ≡ to = omega (arith, ap length found.1, length-append found.0 (drop to text), length-drop from text, length-drop to text) in
    subst (IsCharBoundary text) size (token_cut allow opened k text found.0 (drop to text) from u found.1 found.2)
