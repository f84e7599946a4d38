-- Laws of the scan of a string.
use Rattle.std.proofs.Common.{◌≡◌, ℕ, ◌+◌, ◌*◌, ◌<◌, ◌≤◌, Bool, true, false, inl, inr, List, [], ◌∷◌, ◌++◌, Option, Some, None, length, take, drop, get_or, refl, sym, ◌∙◌, ap, subst, arith, append_assoc, append-nil}
use Rattle.std.specs.Prelude.{encode_utf8, nat_lt, ◌==◌, ◌-◌, slice_range}
use Rattle.std.proofs.lemmas.List.{drop_all, take_more, get_or-drop, length-drop, drop_more}
use Rattle.std.proofs.lemmas.Bool.{cases_Bool}
use Rattle.std.proofs.lemmas.Bool.Decides.{nat_tests}
use Rattle.wast_lexer_numbers.specs.Numbers.{is_hex, Digits}
use Rattle.wast_lexer_numbers.specs.Numbers.Digits.{Last, Next, Gap as Gapped}
use Rattle.wast_lexer_strings.specs.Strings.{is_quote, is_backslash, hex_value, is_string_byte, escaped, is_scalar_value, number, Element, Elements, IsString}
use Rattle.wast_lexer_strings.specs.StringScan.{Read, more, State, on_step, digit_step, step, read}
use Rattle.wast_lexer_strings.specs.Strings.Element.{Plain, Letter, Hex, Scalar}
use Rattle.wast_lexer_strings.specs.Strings.Elements.{None', More}
use Rattle.wast_lexer_strings.specs.StringScan.State.{Within, Escape, Digit, Number, Gap}
use Rattle.wast_lexer_strings.specs.StringScan.Step.{Go}

abbrev pub spelled : Bool → ℕ → State
spelled true n = Gap n
spelled false n = Number n

pub more_none : (o : Option Read) → more [] o ≡ o
more_none None = refl
more_none (Some r) = refl

pub more_more : (a b : List ℕ) (o : Option Read) → more a (more b o) ≡ more (a ++ b) o
more_more a b None = refl
more_more a b (Some r) = rw append_assoc refl

pub read_go : (s to : State) (b : List ℕ) (c : ℕ) (text : List ℕ) → step s c ≡ Go to b → read s (c ∷ text) ≡ more b (read to text)
read_go s to b c text e = rw (e, read) refl

byte_apart : (c : ℕ) → is_string_byte c ≡ true → (is_quote c ≡ false) × (is_backslash c ≡ false)
byte_apart c h = (grind (arith, nat_tests), grind (arith, nat_tests))

pub plain_step : (c : ℕ) → is_string_byte c ≡ true → step Within c ≡ Go Within (c ∷ [])
plain_step c h = let a = byte_apart c h in rw (h, a.0, a.1) refl

-- ---- bytes that stand for themselves
-- one more item of a range
range_more : (text : List ℕ) (from at : ℕ) → from ≤ at → at < length text → slice_range text from at ++ get_or text at 0 ∷ [] ≡ slice_range text from (at + 1)
range_more text from at low inside =
    let on : (at + 1) - from ≡ (at - from) + 1 = omega (arith, low) in
    let here : get_or (drop from text) (at - from) 0 ≡ get_or text at 0 = get_or-drop from text (at - from) 0 ∙ ap (λ (i : ℕ). get_or text i 0) (omega (arith, low)) in
    let room : at - from < length (drop from text) = rw (length-drop) (omega (arith, low, inside)) in
    ap (λ c. take (at - from) (drop from text) ++ c ∷ []) (sym here) ∙ sym (take_more (drop from text) (at - from) 0 room) ∙ ap (λ (n : ℕ). take n (drop from text)) (sym on)

pub plain_none : (text : List ℕ) (from : ℕ) → read Within (drop from text) ≡ more (slice_range text from from) (read Within (drop from text))
plain_none text from = let none : from - from ≡ 0 = omega arith in rw none (sym (more_none _))

pub plain_more : (text : List ℕ) (from at : ℕ) → from ≤ at → at < length text → is_string_byte (get_or text at 0) ≡ true
    → read Within (drop from text) ≡ more (slice_range text from at) (read Within (drop at text))
    → read Within (drop from text) ≡ more (slice_range text from (at + 1)) (read Within (drop (at + 1) text))
plain_more text from at low inside plain inv =
    let c = get_or text at 0 in
    let one : read Within (drop at text) ≡ more (c ∷ []) (read Within (drop (at + 1) text)) = ap (read Within) (drop_more text at 0 inside) ∙ read_go Within Within (c ∷ []) c (drop (at + 1) text) (plain_step c plain) in
    inv ∙ ap (more (slice_range text from at)) one ∙ more_more (slice_range text from at) (c ∷ []) _ ∙ ap (λ b. more b (read Within (drop (at + 1) text))) (range_more text from at low inside)

hex_apart : (c : ℕ) → is_hex c ≡ true → (c == 117) ≡ false
hex_apart c h = grind (arith, nat_tests)

pub first_step : (c : ℕ) → is_hex c ≡ true → step Escape c ≡ Go (Digit c) []
first_step c h = rw (hex_apart c h, h) refl

pub second_step : (h c : ℕ) → is_hex c ≡ true → step (Digit h) c ≡ Go Within ((16 * hex_value h + hex_value c) ∷ [])
second_step h c e = rw e refl

letter_apart : (c d : ℕ) → escaped c ≡ Some d → (is_hex c ≡ false) × ((c == 117) ≡ false)
letter_apart c d e = elim (cases_Bool (is_hex c)) [
  | inl h ↦
      let t : (c == 116) ≡ false = grind (arith, nat_tests) in
      let n : (c == 110) ≡ false = grind (arith, nat_tests) in
      let r : (c == 114) ≡ false = grind (arith, nat_tests) in
      let q : (c == 34) ≡ false = grind (arith, nat_tests) in
      let a : (c == 39) ≡ false = grind (arith, nat_tests) in
      let b : (c == 92) ≡ false = grind (arith, nat_tests) in
      let e' = rw (t, n, r, q, a, b) at e in absurd (cc)
  | inr h ↦ elim (cases_Bool (c == 117)) [
    | inl u ↦
        let t : (c == 116) ≡ false = grind (arith, nat_tests) in
        let n : (c == 110) ≡ false = grind (arith, nat_tests) in
        let r : (c == 114) ≡ false = grind (arith, nat_tests) in
        let q : (c == 34) ≡ false = grind (arith, nat_tests) in
        let a : (c == 39) ≡ false = grind (arith, nat_tests) in
        let b : (c == 92) ≡ false = grind (arith, nat_tests) in
        let e' = rw (t, n, r, q, a, b) at e in absurd (cc)
    | inr u ↦ (h, u)
  ]
]

pub escape_step : (c d : ℕ) → escaped c ≡ Some d → step Escape c ≡ Go Within (d ∷ [])
escape_step c d e = let a = letter_apart c d e in rw (a.1, a.0, e) refl

pub number_step : (n c : ℕ) → is_hex c ≡ true → 16 * n + hex_value c < 1114112 → digit_step n c ≡ Go (Number (16 * n + hex_value c)) []
number_step n c h l = let t : nat_lt (16 * n + hex_value c) 1114112 ≡ true = grind (arith, nat_tests) in rw (h, t) refl

hex_not : (c : ℕ) → is_hex c ≡ true → ((c == 125) ≡ false) × ((c == 95) ≡ false)
hex_not c h = (grind (arith, nat_tests), grind (arith, nat_tests))

pub more_digit : (n c : ℕ) → is_hex c ≡ true → step (Number n) c ≡ digit_step n c
more_digit n c h = let a = hex_not c h in rw (a.0, a.1) refl

pub close_step : (n : ℕ) → is_scalar_value n ≡ true → step (Number n) 125 ≡ Go Within (encode_utf8 n)
close_step n h = rw h refl

-- ---- what is written is read
grows : (n : ℕ) (digits : List ℕ) → n ≤ number n digits
grows n [] = omega arith
grows n (c ∷ digits) = elim (cases_Bool (c == 95)) [
  | inl u ↦ rw u (grows n digits)
  | inr u ↦ rw u (let more = grows (16 * n + hex_value c) digits in omega (arith, more))
]

scalar_small : (n : ℕ) → is_scalar_value n ≡ true → n < 1114112
scalar_small n h = grind (arith, nat_tests)

digits_read : (n : ℕ) (digits : List ℕ) (s : List ℕ) → Digits true digits → is_scalar_value (number n digits) ≡ true
    → read (Gap n) (digits ++ 125 ∷ s) ≡ more (encode_utf8 (number n digits)) (read Within s)
digits_read n digits s (Last c h) ok =
    let a = hex_not c h in
    let m = 16 * n + hex_value c in
    let is : number n (c ∷ []) ≡ m = rw (number, a.1) refl in
    let ok' : is_scalar_value m ≡ true = rw is at ok in
    read_go (Gap n) (Number m) [] c (125 ∷ s) (number_step n c h (scalar_small m ok'))
    ∙ more_none _ ∙ read_go (Number m) Within (encode_utf8 m) 125 s (close_step m ok') ∙ ap (λ k. more (encode_utf8 k) (read Within s)) (sym is)
digits_read n digits s (Next c text h are) ok =
    let a = hex_not c h in
    let m = 16 * n + hex_value c in
    let is : number n (c ∷ text) ≡ number m text = rw (number, a.1) refl in
    let ok' : is_scalar_value (number m text) ≡ true = rw is at ok in
    let small : m < 1114112 = omega (arith, grows m text, scalar_small (number m text) ok') in
    read_go (Gap n) (Number m) [] c (text ++ 125 ∷ s) (number_step n c h small) ∙ more_none _
    ∙ as_gap m text (125 ∷ s) are ∙ digits_read m text s are ok' ∙ ap (λ k. more (encode_utf8 k) (read Within s)) (sym is)
  where
    on_first : (m d : ℕ) (t : List ℕ) → is_hex d ≡ true → read (Number m) (d ∷ t) ≡ read (Gap m) (d ∷ t)
    on_first m d t h = ap (λ y. on_step y (λ to bytes. more bytes (read to t)) (Some (record { bytes = []; rest = t })) None) (more_digit m d h)

    as_gap : (m : ℕ) (text t : List ℕ) → Digits true text → read (Number m) (text ++ t) ≡ read (Gap m) (text ++ t)
    as_gap m text t (Last c h) = on_first m c t h
    as_gap m text t (Next c more h are) = on_first m c (more ++ t) h
    as_gap m text t (Gapped c more h are) = on_first m c (95 ∷ (more ++ t)) h
digits_read n digits s (Gapped c text h are) ok =
    let a = hex_not c h in
    let m = 16 * n + hex_value c in
    let is : number n (c ∷ 95 ∷ text) ≡ number m text = rw (number, a.1) refl in
    let ok' : is_scalar_value (number m text) ≡ true = rw is at ok in
    let small : m < 1114112 = omega (arith, grows m text, scalar_small (number m text) ok') in
    read_go (Gap n) (Number m) [] c (95 ∷ (text ++ 125 ∷ s)) (number_step n c h small) ∙ more_none _
    ∙ read_go (Number m) (Gap m) [] 95 (text ++ 125 ∷ s) refl ∙ more_none _ ∙ digits_read m text s are ok' ∙ ap (λ k. more (encode_utf8 k) (read Within s)) (sym is)

element_read : {w b : List ℕ} → Element w b → (s : List ℕ) → read Within (w ++ s) ≡ more b (read Within s)
element_read (Plain {c} p) s = read_go Within Within (c ∷ []) c s (plain_step c p)
element_read (Letter {c} {d} e) s = more_none _ ∙ read_go Escape Within (d ∷ []) c s (escape_step c d e)
element_read (Hex {h} {l} p q) s = more_none _ ∙ read_go Escape (Digit h) [] h (l ∷ s) (first_step h p) ∙ more_none _ ∙ read_go (Digit h) Within _ l s (second_step h l q)
element_read (Scalar digits p q) s = more_none _ ∙ more_none _ ∙ more_none _ ∙ rw (append_assoc digits (125 ∷ []) s) (digits_read 0 digits s p q)

pub elements_read : {t b : List ℕ} → Elements t b → (s : List ℕ) → read Within (t ++ s) ≡ more b (read Within s)
elements_read None' s = sym (more_none _)
elements_read (More {word} {bytes} {text} {rest} e es) s = rw (append_assoc word text s) (element_read e (text ++ s) ∙ ap (more bytes) (elements_read es s) ∙ more_more bytes rest (read Within s))

pub string_read : {t b : List ℕ} → Elements t b → (s : List ℕ) → read Within (t ++ 34 ∷ s) ≡ Some (record { bytes = b; rest = s })
string_read {t} {b} es s = elements_read es (34 ∷ s) ∙ ap (λ (y : List ℕ). Some (record { bytes = y; rest = s })) (append-nil b)

pub whole_read : (word bytes : List ℕ) → IsString word bytes → read Within (drop 1 word) ≡ Some (record { bytes = bytes; rest = [] })
whole_read word bytes s = ap (λ (y : List ℕ). read Within (drop 1 y)) s.2 ∙ string_read s.1 []

no_more : (out : List ℕ) (r : Read) → Some r ≡ more out None → ⊥
no_more out r h = cc

pub not_read : (word bytes out : List ℕ) (at : ℕ) → IsString word bytes → read Within (drop 1 word) ≡ more out (read Within (drop at word)) → read Within (drop at word) ≡ None → ⊥
not_read word bytes out at s inv none = no_more out (record { bytes = bytes; rest = [] }) (sym (whole_read word bytes s) ∙ inv ∙ ap (more out) none)

abbrev made : List ℕ → List ℕ → Read
made bytes rest = record { bytes = bytes; rest = rest }

pub all_read : (word bytes out : List ℕ) (at : ℕ) → at < length word → get_or word at 0 ≡ 34 → IsString word bytes → read Within (drop 1 word) ≡ more out (read Within (drop at word)) → IsString word out
all_read word bytes out at inside q s inv =
    let here : read Within (drop at word) ≡ Some (record { bytes = []; rest = drop (at + 1) word }) = ap (read Within) (drop_more word at 0 inside ∙ ap (λ (i : ℕ). i ∷ drop (at + 1) word) q) in
    let left = made bytes [] in
    let right = made (out ++ []) (drop (at + 1) word) in
    let e : Some left ≡ Some right = sym (whole_read word bytes s) ∙ inv ∙ ap (more out) here in
    let is : left ≡ right = cc in
    subst (IsString word) (ap (λ (y : Read). y.bytes) is ∙ append-nil out) s

pub past_read : (word bytes out : List ℕ) (at : ℕ) → length word ≤ at → IsString word bytes → read Within (drop 1 word) ≡ more out (read Within (drop at word)) → ⊥
past_read word bytes out at past s inv = not_read word bytes out at s inv (ap (read Within) (drop_all at word past))
