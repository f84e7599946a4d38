-- The scan of words and strings.
use Rattle.std.proofs.Common.{◌≡◌, ◌≢◌, ℕ, zero, suc, ◌≤◌, true, false, not, inl, inr, ◌&&◌, List, [], ◌∷◌, ◌++◌, Option, Some, None, length, refl, sym, ◌∙◌, ap, arith, append_assoc, length-append}
use Rattle.std.specs.Str.{IsUtf8, is_utf8}
use Rattle.std.proofs.lemmas.Str.{IsUtf8-from_is_utf8, is_utf8-from_IsUtf8}
use Rattle.std.proofs.lemmas.Bool.{cases_Bool, and_parts, eqb-true}
use Rattle.wast_lexer_strings.specs.Strings.{is_quote, IsString}
use Rattle.wast_lexer_strings.specs.StringScan.{Read, more, State, on_step, step, read, is_empty, is_text}
use Rattle.wast_lexer_strings.specs.StringScan.State.{Within}
use Rattle.wast_lexer_strings.specs.StringScan.Step.{Go, Done, Fault}
use Rattle.wast_lexer_strings.proofs.StringScanLaws.{string_read}
use Rattle.wast_lexer_strings.proofs.Sound.{read_sound}
use Rattle.wast_lexer.specs.Kinds.{starts, is_idchar, Word}
use Rattle.wast_lexer.specs.Kinds.Word.{Ends, Char, Quoted}
use Rattle.wast_lexer.specs.Tiling.{goes_on}
use Rattle.wast_lexer.specs.Scan.{after_word, is_whole, is_string, is_text_string}
use Rattle.wast_lexer.proofs.Basics.{cases_option}

-- a word that goes on behind a string
abbrev pub word_behind : Option Read → Option (List ℕ)
word_behind None = None
word_behind (Some r) = after_word None r.rest

behind_more : (b : List ℕ) (o : Option Read) → word_behind (more b o) ≡ word_behind o
behind_more b None = refl
behind_more b (Some r) = refl

pub word_read : (text : List ℕ) (s : State) → after_word (Some s) text ≡ word_behind (read s text)
word_read [] s = refl
word_read (c ∷ text) s = elim (step s c) as (λ x. on_step x (λ to bytes. after_word (Some to) text) (after_word None text) None ≡ word_behind (on_step x (λ to bytes. more bytes (read to text)) (Some (record { bytes = []; rest = text })) None)) [
  | Go to b ↦ word_read text to ∙ sym (behind_more b (read to text))
  | Done ↦ refl
  | Fault ↦ refl
]

goes_apart : (c : ℕ) → goes_on c ≡ false → (is_idchar c ≡ false) × (is_quote c ≡ false)
goes_apart c h = (grind arith, grind arith)

pub word_stops : (r : List ℕ) → starts goes_on r ≡ false → after_word None r ≡ Some r
word_stops [] h = refl
word_stops (c ∷ r) h = let a = goes_apart c h in rw (a.0, a.1) refl

-- the scan of a word ends behind it
pub word_complete : {w : List ℕ} → Word w → (r : List ℕ) → starts goes_on r ≡ false → after_word None (w ++ r) ≡ Some r
word_complete Ends r h = word_stops r h
word_complete (Char {c} {text} id more) r h = rw id (word_complete more r h)
word_complete (Quoted {inner} {bytes} {text} es more) r h =
    rw (append_assoc inner (34 ∷ text) r) (word_read (inner ++ 34 ∷ (text ++ r)) Within ∙ ap word_behind (string_read es (text ++ r)) ∙ word_complete more r h)

-- what the scan passes over is a word, and what follows does not go on with it
pub word_sound : (n : ℕ) (s r : List ℕ) → length s ≤ n → after_word None s ≡ Some r → (w : List ℕ) × (s ≡ w ++ r) × Word w × (starts goes_on r ≡ false)
word_sound n [] r l h = let none : [] ≡ r = cc in ([], none, Ends, ap (starts goes_on) (sym none))
word_sound zero (c ∷ s) r l h = absurd (omega (arith, l))
word_sound (suc n) (c ∷ s) r l h = elim (cases_Bool (is_idchar c)) [
  | inl i ↦ (let found = word_sound n s r (omega (arith, l)) (rw i at h) in
      (c ∷ found.0, ap (λ (y : List ℕ). c ∷ y) found.1, Char i found.2, found.3))
  | inr i ↦ elim (cases_Bool (is_quote c)) [
    | inl q ↦ (let on : after_word (Some Within) s ≡ Some r = rw (i, q) at h in elim (cases_option (read Within s)) [
      | inl none ↦ (let no : None ≡ Some r = ap word_behind (sym none) ∙ sym (word_read s Within) ∙ on in absurd (cc))
      | inr some ↦
          let q' = some.0 in
          let string = read_sound s Within q' some.1 in
          let size : length q'.rest ≤ n = omega (arith, l, ap length string.2, length-append string.0 (34 ∷ q'.rest)) in
          let found = word_sound n q'.rest r size (ap word_behind (sym some.1) ∙ sym (word_read s Within) ∙ on) in (
            34 ∷ (string.0 ++ 34 ∷ found.0),
            ap (λ (k : ℕ). k ∷ s) (eqb-true c 34 q) ∙ ap (λ (y : List ℕ). 34 ∷ y) (string.2 ∙ ap (λ (y : List ℕ). string.0 ++ 34 ∷ y) found.1 ∙ sym (append_assoc string.0 (34 ∷ found.0) r)),
            Quoted string.1 found.2,
            found.3,
          )
    ])
    | inr q ↦ (let same : c ∷ s ≡ r = (let h' = rw (i, q) at h in cc) in
        ([], same, Ends, ap (starts goes_on) (sym same) ∙ (rw (i, q) refl)))
  ]
]

-- ---- strings
pub string_complete : (w b : List ℕ) → IsString w b → is_string w ≡ true
string_complete w b s = ap is_string s.2 ∙ ap is_whole (string_read s.1 [])

empty_is : (s : List ℕ) → is_empty s ≡ true → s ≡ []
empty_is [] h = refl
empty_is (c ∷ s) h = absurd (cc)

-- a scan that read all of a text
pub read_all : (c : ℕ) (s : List ℕ) (r : Read) → is_quote c ≡ true → read Within s ≡ Some r → is_empty r.rest ≡ true → IsString (c ∷ s) r.bytes
read_all c s r q e none =
    let string = read_sound s Within r e in
    (string.0, string.1, ap (λ (k : ℕ). k ∷ s) (eqb-true c 34 q) ∙ ap (λ (y : List ℕ). 34 ∷ y) (string.2 ∙ ap (λ (y : List ℕ). string.0 ++ 34 ∷ y) (empty_is r.rest none)))

pub string_sound : (w : List ℕ) → is_string w ≡ true → (bytes : List ℕ) × IsString w bytes
string_sound [] h = absurd (cc)
string_sound (c ∷ s) h =
    let both = and_parts (is_quote c) (is_whole (read Within s)) h in
    elim (cases_option (read Within s)) [
      | inl none ↦ (let no : is_whole None ≡ true = ap is_whole (sym none) ∙ both.1 in absurd (cc))
      | inr some ↦ (some.0.bytes, read_all c s some.0 both.0 some.1 (ap is_whole (sym some.1) ∙ both.1))
    ]

some_bytes : (b : List ℕ) → b ≢ [] → not (is_empty b) ≡ true
some_bytes [] n = absurd (n refl)
some_bytes (c ∷ b) n = refl

bytes_some : (b : List ℕ) → not (is_empty b) ≡ true → b ≢ []
bytes_some [] h = absurd (cc)
bytes_some (c ∷ b) h = λ e. cc

pub text_complete : (w b : List ℕ) → IsString w b → b ≢ [] → IsUtf8 b → is_text_string w ≡ true
text_complete w b s some utf8 = ap is_text_string s.2 ∙ ap is_text (string_read s.1 []) ∙ (rw (is_utf8-from_IsUtf8 b utf8, some_bytes b some) refl)

pub text_sound : (w : List ℕ) → is_text_string w ≡ true → (bytes : List ℕ) × IsString w bytes × (bytes ≢ []) × IsUtf8 bytes
text_sound [] h = absurd (cc)
text_sound (c ∷ s) h =
    let both = and_parts (is_quote c) (is_text (read Within s)) h in
    elim (cases_option (read Within s)) [
      | inl none ↦ (let no : is_text None ≡ true = ap is_text (sym none) ∙ both.1 in absurd (cc))
      | inr some ↦
          let r = some.0 in
          let whole : (is_utf8 r.bytes && not (is_empty r.bytes) && is_empty r.rest) ≡ true = ap is_text (sym some.1) ∙ both.1 in
          let first = and_parts (is_utf8 r.bytes && not (is_empty r.bytes)) (is_empty r.rest) whole in
          let parts = and_parts (is_utf8 r.bytes) (not (is_empty r.bytes)) first.0 in
          (r.bytes, read_all c s r both.0 some.1 first.1, bytes_some r.bytes parts.1, IsUtf8-from_is_utf8 r.bytes parts.0)
    ]
