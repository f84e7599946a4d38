-- The kinds of words.
use Rattle.std.proofs.Common.{◌≡◌, ◌≢◌, ℕ, Bool, true, false, inl, inr, ◌&&◌, ◌||◌, List, [], ◌∷◌, Some, None, refl, sym, ◌∙◌, ap, subst, arith}
use Rattle.std.specs.Prelude.{◌==◌}
use Rattle.std.specs.List.{list_all}
use Rattle.std.proofs.Math.Bool.{or-true}
use Rattle.std.proofs.lemmas.Bool.{cases_Bool, or_cases, and_parts, eqb-true}
use Rattle.std.proofs.lemmas.Bool.Decides.{nat_tests}
use Rattle.wast_lexer_strings.specs.Strings.{IsString}
use Rattle.wast_lexer_numbers.specs.declared.kind.NumberKind.{NumberKind}
use Rattle.wast_lexer_numbers.specs.Numbers.{IsNumber}
use Rattle.wast_lexer_numbers.specs.NumberScan.{number}
use Rattle.wast_lexer_numbers.proofs.ByteLaws.{is_number_byte, number_bytes, all_more}
use Rattle.wast_lexer_numbers.proofs.NumberLaws.{number_scanned, scanned_number}
use Rattle.wast_lexer.specs.declared.token.TokenKind.TheVariants.{String, Id, Keyword, Reserved}
use Rattle.wast_lexer.specs.Kinds.{starts, is_idchar, is_clean, may_stand, is_at, is_lower, is_name, IsNameOf, IsId, IsKeyword, IsAnnotation, IsOddWord, Word}
use Rattle.wast_lexer.specs.Kinds.Word.{Ends, Char, Quoted}
use Rattle.wast_lexer.specs.Scan.{plain_kind, number_token, is_string, is_text_string, is_id, is_annotated}
use Rattle.wast_lexer.proofs.Basics.{cases_option}
use Rattle.wast_lexer.proofs.WordLaws.{string_complete, string_sound, text_complete, text_sound}
use Rattle.wast_lexer.proofs.Refused.{not_refused}
use Rattle.wast_lexer.proofs.Ascii.{names_utf8}

-- ---- names
pub name_word : (w : List ℕ) → list_all is_idchar w ≡ true → Word w
name_word [] h = Ends
name_word (c ∷ w) h = let both = and_parts (is_idchar c) (list_all is_idchar w) h in Char both.0 (name_word w both.1)

pub name_all : (w : List ℕ) → is_name w ≡ true → list_all is_idchar w ≡ true
name_all w h = (and_parts (starts is_idchar w) (list_all is_idchar w) h).1

name_some : (w : List ℕ) → is_name w ≡ true → w ≢ []
name_some [] h = absurd (cc)
name_some (c ∷ w) h = λ e. cc

id_no_lead : (c : ℕ) → is_idchar c ≡ true → (c == 0xE2) ≡ false
id_no_lead c h = grind (arith, nat_tests)

names_clean : (w : List ℕ) → list_all is_idchar w ≡ true → is_clean w ≡ true
names_clean [] h = refl
names_clean (c ∷ w) h = let both = and_parts (is_idchar c) (list_all is_idchar w) h in rw (not_refused c w (id_no_lead c both.0)) (names_clean w both.1)

pub names_stand : (allow : Bool) (w : List ℕ) → list_all is_idchar w ≡ true → may_stand allow w ≡ true
names_stand true w h = refl
names_stand false w h = names_clean w h

-- ---- words of each kind
pub string_word : (w b : List ℕ) → IsString w b → Word w
string_word w b s = subst Word (sym s.2) (Quoted s.1 Ends)

name_of_word : (w b : List ℕ) → IsNameOf w b → Word w
name_of_word w b (inl h) = name_word w (name_all w h.0)
name_of_word w b (inr s) = string_word w b s

pub id_word : (w : List ℕ) → IsId w → Word w
id_word w (bytes, (name, split, is)) = subst Word (sym split) (Char refl (name_of_word name bytes is))

pub annotation_word : (w : List ℕ) → IsAnnotation w → Word w
annotation_word w (bytes, a) = subst Word (sym a.split) (Char refl (name_of_word a.name bytes a.is))

-- a number is identifier characters
pub number_all : (k : NumberKind) (w : List ℕ) → IsNumber k w → list_all is_idchar w ≡ true
number_all k w num = all_more is_number_byte is_idchar number_idchar w (number_bytes k w num)
  where
    number_idchar : (c : ℕ) → is_number_byte c ≡ true → is_idchar c ≡ true
    number_idchar c h = grind (arith, nat_tests)

-- ---- what each kind is taken for
id_accepted : (name bytes : List ℕ) → IsNameOf name bytes → (is_name name || is_string name) ≡ true
id_accepted name bytes (inl h) = rw h.0 refl
id_accepted name bytes (inr s) = rw (string_complete name bytes s) (or-true (is_name name))

pub id_is : (w : List ℕ) → IsId w → is_id w ≡ true
id_is w (bytes, (name, split, is)) = ap is_id split ∙ id_accepted name bytes is

pub id_sound : (w : List ℕ) → is_id w ≡ true → IsId w
id_sound [] h = absurd (cc)
id_sound (c ∷ w) h =
    let both = and_parts (c == 36) (is_name w || is_string w) h in
    let split : c ∷ w ≡ 36 ∷ w = ap (λ (i : ℕ). i ∷ w) (eqb-true c 36 both.0) in
    elim (or_cases (is_name w) (is_string w) both.1) [
      | inl name ↦ (w, (w, split, inl (name, refl)))
      | inr q ↦ (let s = string_sound w q in (s.0, (w, split, inr s.1)))
    ]

pub id_kind : (w : List ℕ) → IsId w → plain_kind w ≡ Id
id_kind w id = rw (id_is w id) refl

-- an identifier is no number
not_both : (w : List ℕ) (k : NumberKind) → IsId w → IsNumber k w → ⊥
not_both w k (bytes, (name, split, is)) num = let no : None ≡ Some k = sym (ap number split) ∙ number_scanned w k num in cc

not_id : (w : List ℕ) → ¬ IsId w → is_id w ≡ false
not_id w isnt = elim (cases_Bool (is_id w)) [ inl i ↦ absurd (isnt (id_sound w i)) | inr i ↦ i ]

none_number : (w : List ℕ) → ((k : NumberKind) → ¬ IsNumber k w) → number w ≡ None
none_number w isnt = elim (cases_option (number w)) [ inl none ↦ none | inr some ↦ absurd (isnt some.0 (scanned_number w some.0 some.1)) ]

pub number_kind : (w : List ℕ) (k : NumberKind) → IsNumber k w → plain_kind w ≡ number_token k
number_kind w k num = rw (not_id w (λ id. not_both w k id num), number_scanned w k num) refl

lower_no_dollar : (c : ℕ) → is_lower c ≡ true → (c == 36) ≡ false
lower_no_dollar c h = grind (arith, nat_tests)

keyword_no_id : (w : List ℕ) → starts is_lower w ≡ true → is_id w ≡ false
keyword_no_id [] h = refl
keyword_no_id (c ∷ w) h = rw (lower_no_dollar c h) refl

pub keyword_kind : (w : List ℕ) → IsKeyword w → plain_kind w ≡ Keyword
keyword_kind w k = rw (keyword_no_id w k.lower, none_number w k.not_number) (rw (k.lower, k.name) refl)

pub string_kind : (w b : List ℕ) → IsString w b → plain_kind w ≡ String
string_kind w b s = ap plain_kind s.2 ∙ (rw (ap is_string (sym s.2) ∙ string_complete w b s) refl)

pub annotation_is : (w : List ℕ) → IsAnnotation w → is_annotated w ≡ true
annotation_is w (bytes, a) = ap is_annotated a.split ∙ accepted a.is
  where
    accepted : IsNameOf a.name bytes → (is_name a.name || is_text_string a.name) ≡ true
    accepted (inl h) = rw h.0 refl
    accepted (inr s) = rw (text_complete a.name bytes s a.nonempty a.utf8) (or-true (is_name a.name))

pub annotation_sound : (w : List ℕ) → is_annotated w ≡ true → IsAnnotation w
annotation_sound [] h = absurd (cc)
annotation_sound (c ∷ w) h =
    let both = and_parts (is_at c) (is_name w || is_text_string w) h in
    let split : c ∷ w ≡ 64 ∷ w = ap (λ (i : ℕ). i ∷ w) (eqb-true c 64 both.0) in
    elim (or_cases (is_name w) (is_text_string w) both.1) [
      | inl name ↦ (w, record { name = w; split = split; is = inl (name, refl); nonempty = name_some w name; utf8 = names_utf8 w (name_all w name) })
      | inr q ↦ (let s = text_sound w q in (s.0, record { name = w; split = split; is = inr s.1; nonempty = s.2; utf8 = s.3 }))
    ]

pub keyword_of : (w : List ℕ) → number w ≡ None → (starts is_lower w && is_name w) ≡ true → IsKeyword w
keyword_of w none h =
    let both = and_parts (starts is_lower w) (is_name w) h in
    record { lower = both.0; name = both.1; not_number = λ k num. (let no : None ≡ Some k = sym none ∙ number_scanned w k num in cc) }

pub odd_kind : (w : List ℕ) → IsOddWord w → plain_kind w ≡ Reserved
odd_kind w odd =
    let none = none_number w odd.not_number in
    elim (cases_Bool (starts is_lower w && is_name w)) [
      | inl k ↦ absurd (odd.not_keyword (keyword_of w none k))
      | inr k ↦ elim (cases_Bool (is_string w)) [
        | inl q ↦ (let found = string_sound w q in absurd (odd.not_string found.0 found.1))
        | inr q ↦ rw (not_id w odd.not_id, none, k, q) refl
      ]
    ]
