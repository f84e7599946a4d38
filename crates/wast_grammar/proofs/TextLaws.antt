-- What the texts of tokens say, and the lexer's relations.
use Rattle.std.proofs.Common.{◌≡◌, ◌≢◌, ◌⊎◌, ◌↔◌, ℕ, Bool, true, false, List, [], ◌∷◌, ◌++◌, Option, Some, None, inl, inr, refl, sym, ◌∙◌, ap, subst, cond, arith, not, ◌||◌}
use Rattle.std.specs.Prelude.{◌==◌}
use Rattle.std.specs.Str.{IsUtf8, is_utf8}
use Rattle.std.proofs.lemmas.Bool.{cases_Bool, and_right}
use Rattle.std.proofs.lemmas.Bool.Decides.{nat_tests}
use Rattle.std.proofs.lemmas.Str.{IsUtf8-from_is_utf8, is_utf8-from_IsUtf8}
use Rattle.std.proofs.lemmas.Option.{same_Some}
use Rattle.wast_lexer.specs.Strings.{IsString, is_quote}
use Rattle.wast_lexer.specs.StringScan.{is_empty}
use Rattle.wast_lexer.specs.SignToken.{SignToken}
use Rattle.wast_lexer.specs.SignToken.TheVariants.{Plus, Minus}
use Rattle.wast_lexer.specs.Numbers.{Digits, is_digit, sign_text, base_text}
use Rattle.wast_lexer.specs.Numbers.Digits.{Last, Next, Gap}
use Rattle.wast_lexer.specs.Kinds.{starts, IsNameOf, IsId, IsIdOf, IsAnnotationOf}
use Rattle.wast_lexer.proofs.StringScanLaws.{whole_read}
use Rattle.wast_lexer.proofs.TokenTextLaws.{name_string}
use Rattle.wast_grammar.specs.Tokens.{Literal, is_minus, is_sign, behind_sign, number, base_of, size_of, literal, read_value, string_value, name_value, marked_value, name_of, id_name}
use Rattle.wast_grammar.specs.Laws.{says_minus}

-- STRINGS AND NAMES
pub string_is : (text bytes : List ℕ) → IsString text bytes → string_value text ≡ bytes
string_is text bytes is = ap read_value (whole_read text bytes is)

no_string : {X : Type 0} (name bytes : List ℕ) → IsNameOf name bytes → starts is_quote name ≡ false → IsString name bytes → X
no_string name bytes is q s = let e : true ≡ false = sym (ap (starts is_quote) s.2) ∙ q in absurd (cc)

pub name_is : (name bytes : List ℕ) → IsNameOf name bytes → name_value name ≡ bytes
name_is name bytes is = elim (cases_Bool (starts is_quote name)) [
  | inl q ↦ ap (λ b. cond b (string_value name) name) q ∙ string_is name bytes (name_string name bytes is q)
  | inr q ↦ ap (λ b. cond b (string_value name) name) q ∙ plain is q
]
  where
    plain : {name bytes : List ℕ} → IsNameOf name bytes → starts is_quote name ≡ false → name ≡ bytes
    plain (inl n) q = sym n.1
    plain {name} {bytes} (inr s) q = no_string name bytes (inr s) q s

pub annotation_is : (text bytes : List ℕ) → IsAnnotationOf text bytes → marked_value text ≡ bytes
annotation_is text bytes is = ap marked_value is.split ∙ name_is is.name bytes is.is

pub id_is : (text bytes : List ℕ) → IsIdOf text bytes → marked_value text ≡ bytes
id_is text bytes is = ap marked_value is.1 ∙ name_is is.0 bytes is.2

-- the names that bytes are
some_name : (bytes : List ℕ) → bytes ≢ [] → IsUtf8 bytes → name_of bytes ≡ Some bytes
some_name [] some u = absurd (some refl)
some_name (c ∷ bytes) some u = ap (λ b. cond (not b) None (Some (c ∷ bytes))) (is_utf8-from_IsUtf8 (c ∷ bytes) u)

name_parts : (bytes name : List ℕ) → name_of bytes ≡ Some name → (bytes ≡ name) × (bytes ≢ []) × IsUtf8 bytes
name_parts [] name e = cc
name_parts (c ∷ bytes) name e = elim (cases_Bool (is_utf8 (c ∷ bytes))) [
  | inl u ↦ (
      let q : Some (c ∷ bytes) ≡ Some name = sym (ap (λ b. cond (not b) None (Some (c ∷ bytes))) u) ∙ e in
      (same_Some _ _ q, λ h. full h, IsUtf8-from_is_utf8 (c ∷ bytes) u))
  | inr n ↦ (let q : None ≡ Some name = sym (ap (λ b. cond (not b) None (Some (c ∷ bytes))) n) ∙ e in cc)
]
  where
    full : c ∷ bytes ≡ [] → ⊥
    full h = cc

none_parts : (bytes : List ℕ) → name_of bytes ≡ None → (bytes ≡ []) ⊎ (¬ IsUtf8 bytes)
none_parts [] e = inl refl
none_parts (c ∷ bytes) e = elim (cases_Bool (is_utf8 (c ∷ bytes))) [
  | inl u ↦ (let q : Some (c ∷ bytes) ≡ None = sym (ap (λ b. cond (not b) None (Some (c ∷ bytes))) u) ∙ e in cc)
  | inr n ↦ inr (λ u. no (is_utf8-from_IsUtf8 (c ∷ bytes) u) n)
]
  where
    no : {b : Bool} → b ≡ true → b ≡ false → ⊥
    no t f = cc

no_name : (bytes : List ℕ) → ¬ IsUtf8 bytes → name_of bytes ≡ None
no_name bytes bad = elim (cases_Bool (is_utf8 bytes)) [
  | inl y ↦ absurd (bad (IsUtf8-from_is_utf8 bytes y))
  | inr z ↦ ap (λ b. cond (is_empty bytes || not b) None (Some bytes)) z ∙ always (is_empty bytes)
]
  where
    always : (a : Bool) → cond (a || true) None (Some bytes) ≡ None
    always true = refl
    always false = refl

pub id_named : (text name : List ℕ) → IsId text → (id_name text ≡ Some name) ↔ (IsIdOf text name × (name ≢ []) × IsUtf8 name)
id_named text name is = (
  λ e. (
      let p = name_parts (marked_value text) name e in
      let b : is.0 ≡ name = sym (id_is text is.0 is.1) ∙ p.0 in
      (subst (IsIdOf text) b is.1, λ h. p.1 (p.0 ∙ h), subst IsUtf8 p.0 p.2)),
  λ h. ap name_of (id_is text name h.0) ∙ some_name name h.1 h.2,
)

pub id_nameless : (text : List ℕ) → IsId text → (id_name text ≡ None) ↔ (IsIdOf text [] ⊎ ((bytes : List ℕ) × IsIdOf text bytes × ¬ IsUtf8 bytes))
id_nameless text is = (
  λ e. elim (none_parts (marked_value text) e) [
    | inl n ↦ inl (subst (IsIdOf text) (sym (id_is text is.0 is.1) ∙ n) is.1)
    | inr bad ↦ inr (is.0, is.1, λ u. bad (subst IsUtf8 (sym (id_is text is.0 is.1)) u))
  ],
  λ h. elim h [
    | inl n ↦ ap name_of (id_is text [] n)
    | inr b ↦ ap name_of (id_is text b.0 b.1) ∙ no_name b.0 b.2
  ],
)

-- INTEGERS
digit_no_sign : (c : ℕ) → is_digit c ≡ true → (is_minus c ≡ false) × (is_sign c ≡ false)
digit_no_sign c h = (grind (arith, nat_tests), grind (arith, nat_tests))

digit_no_x : (c : ℕ) → is_digit c ≡ true → (c == 120) ≡ false
digit_no_x c h = grind (arith, nat_tests)

-- decimal digits have no `x` behind the first
decimal : (c d : ℕ) (text : List ℕ) → (d == 120) ≡ false → size_of (c ∷ d ∷ text) ≡ number 10 (c ∷ d ∷ text)
decimal c d text n = ap (λ b. cond b (number 16 text) (number 10 (c ∷ d ∷ text))) (and_right (c == 48) (d == 120) n)

decimal_after : (c : ℕ) {text : List ℕ} → Digits false text → size_of (c ∷ text) ≡ number 10 (c ∷ text)
decimal_after c (Last d p) = decimal c d [] (digit_no_x d p)
decimal_after c (Next d text p ds) = decimal c d text (digit_no_x d p)
decimal_after c (Gap d text p ds) = decimal c d (95 ∷ text) (digit_no_x d p)

decimal_size : (digits : List ℕ) → Digits false digits → size_of digits ≡ number 10 digits
decimal_size digits (Last c p) = refl
decimal_size digits (Next c text p ds) = decimal_after c ds
decimal_size digits (Gap c text p ds) = decimal c 95 text refl

size_is : (hex : Bool) (digits : List ℕ) → Digits hex digits → size_of (base_text hex ++ digits) ≡ number (base_of hex) digits
size_is true digits ds = refl
size_is false digits ds = decimal_size digits ds

-- digits have no sign
unsigned : (hex : Bool) (digits : List ℕ) → Digits hex digits → (starts is_minus (base_text hex ++ digits) ≡ false) × (behind_sign (base_text hex ++ digits) ≡ base_text hex ++ digits)
unsigned true digits ds = (refl, refl)
unsigned false digits ds = of_digits ds
  where
    of_first : (c : ℕ) (text : List ℕ) → is_digit c ≡ true → (starts is_minus (c ∷ text) ≡ false) × (behind_sign (c ∷ text) ≡ c ∷ text)
    of_first c text h = let n = digit_no_sign c h in (n.0, ap (λ b. cond b text (c ∷ text)) n.1)

    of_digits : {digits : List ℕ} → Digits false digits → (starts is_minus digits ≡ false) × (behind_sign digits ≡ digits)
    of_digits (Last c p) = of_first c [] p
    of_digits (Next c text p ds) = of_first c text p
    of_digits (Gap c text p ds) = of_first c (95 ∷ text) p

abbrev says : Bool → ℕ → Literal
says minus size = record { minus = minus; size = size }

pub integer_is : (sign : Option SignToken) (hex : Bool) (digits : List ℕ) → Digits hex digits → literal (sign_text sign ++ (base_text hex ++ digits)) ≡ record { minus = says_minus sign; size = number (base_of hex) digits }
integer_is None hex digits ds =
    let u = unsigned hex digits ds in
    ap (λ b. says b (size_of (behind_sign (base_text hex ++ digits)))) u.0 ∙ ap (says false) (ap size_of u.1 ∙ size_is hex digits ds)
integer_is (Some Plus) hex digits ds = ap (says false) (size_is hex digits ds)
integer_is (Some Minus) hex digits ds = ap (says true) (size_is hex digits ds)
