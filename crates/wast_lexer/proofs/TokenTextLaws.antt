-- What the readers of tokens rest on.
use Rattle.std.proofs.Common.{◌≡◌, ℕ, ◌-◌, ◌<◌, true, not, inl, inr, List, [], ◌∷◌, ◌++◌, length, take, drop, get_or, refl, sym, ◌∙◌, ap, subst, arith, length-append}
use Rattle.std.specs.List.{list_all}
use Rattle.std.proofs.Math.Seq.{take-append_seam}
use Rattle.wast_lexer_strings.specs.Strings.{is_backslash, Elements, IsString}
use Rattle.wast_lexer_strings.specs.Strings.Element.{Plain, Letter, Hex, Scalar}
use Rattle.wast_lexer_strings.specs.Strings.Elements.{None', More}
use Rattle.wast_lexer_strings.specs.Strings.{is_quote}
use Rattle.wast_lexer_strings.specs.StringScan.{Read}
use Rattle.wast_lexer_strings.proofs.StringScanLaws.{whole_read}
use Rattle.wast_lexer_strings.specs.declared.error.LexError.TheVariants.{InvalidUtf8Id}
use Rattle.std.specs.Prelude.{Some}
use Rattle.std.specs.Str.{IsUtf8, IsCharBoundary}
use Rattle.std.proofs.lemmas.Str.{IsCharBoundary-after_ascii}
use Rattle.std.proofs.lemmas.Bool.{and_parts, eqb-true}
use Rattle.wast_lexer.specs.declared.fault.LexFault.{LexFault}
use Rattle.wast_lexer.specs.declared.fault.LexFault.TheVariants.{Lex, Memory}
use Rattle.wast_lexer.specs.Kinds.{starts, is_idchar, IsNameOf, IsId, IsIdOf, IsAnnotation, IsAnnotationOf}
use Rattle.wast_lexer.specs.TokenText.{is_plain, IsIdFault, IsRefusal}
use Rattle.wast_lexer.proofs.Basics.{apart}

all_front : (a b : List ℕ) → is_plain (a ++ b) ≡ true → is_plain a ≡ true
all_front [] b h = refl
all_front (c ∷ a) b h = let both = and_parts (not (is_backslash c)) (is_plain (a ++ b)) h in rw both.0 (all_front a b both.1)

all_back : (a b : List ℕ) → is_plain (a ++ b) ≡ true → is_plain b ≡ true
all_back [] b h = h
all_back (c ∷ a) b h = all_back a b (and_parts (not (is_backslash c)) (is_plain (a ++ b)) h).1

-- what has no escape stands for itself
pub plain_elements : {inner bytes : List ℕ} → Elements inner bytes → is_plain inner ≡ true → bytes ≡ inner
plain_elements None' h = refl
plain_elements (More {word} {bytes} {text} {rest} (Plain {c} p) es) h = ap (λ (y : List ℕ). c ∷ y) (plain_elements es (all_back (c ∷ []) text h))
plain_elements (More (Letter e) es) h = absurd (apart refl h)
plain_elements (More (Hex p q) es) h = absurd (apart refl h)
plain_elements (More (Scalar digits p q) es) h = absurd (apart refl h)

-- what stands between the quotes
pub between : (inner : List ℕ) → take (length (34 ∷ (inner ++ 34 ∷ [])) - 1 - 1) (inner ++ 34 ∷ []) ≡ inner
between inner = let n : length (34 ∷ (inner ++ 34 ∷ [])) - 1 - 1 ≡ length inner = omega (arith, length-append inner (34 ∷ [])) in rw n (take-append_seam inner (34 ∷ []))

pub plain_is : (word bytes : List ℕ) → IsString word bytes → is_plain word ≡ true → IsString word (take (length word - 1 - 1) (drop 1 word))
plain_is word bytes s h =
    let inner = s.0 in
    let plain : is_plain inner ≡ true = all_front inner (34 ∷ []) (all_back (34 ∷ []) (inner ++ 34 ∷ []) (ap is_plain (sym s.2) ∙ h)) in
    let is : take (length word - 1 - 1) (drop 1 word) ≡ bytes = ap (λ (y : List ℕ). take (length y - 1 - 1) (drop 1 y)) s.2 ∙ between inner ∙ sym (plain_elements s.1 plain) in
    subst (IsString word) (sym is) s

-- ---- names
quote_first : (s : List ℕ) → starts is_quote s ≡ true → (0 < length s) × (get_or s 0 0 ≡ 34)
quote_first [] h = absurd (cc)
quote_first (c ∷ s) h = (omega arith, eqb-true c 34 h)

-- behind the first quote a text may be cut
pub quote_cut : (s : List ℕ) → IsUtf8 s → starts is_quote s ≡ true → IsCharBoundary s 1
quote_cut s u h = let q = quote_first s h in IsCharBoundary-after_ascii s 0 u q.0 (omega (arith, q.1))

pub name_string : (name bytes : List ℕ) → IsNameOf name bytes → starts is_quote name ≡ true → IsString name bytes
name_string name bytes (inr s) q = s
name_string [] bytes (inl h) q = absurd (cc)
name_string (c ∷ name) bytes (inl h) q =
    let id : is_idchar c ≡ true = (and_parts (is_idchar c) (list_all is_idchar (c ∷ name)) h.0).0 in
    let at : is_idchar 34 ≡ true = subst (λ (i : ℕ). is_idchar i ≡ true) (eqb-true c 34 q) id in absurd (cc)

string_once : (word a b : List ℕ) → IsString word a → IsString word b → a ≡ b
string_once word a b s t =
    let l : Read = record { bytes = a; rest = [] } in
    let r : Read = record { bytes = b; rest = [] } in
    let e : Some l ≡ Some r = sym (whole_read word a s) ∙ whole_read word b t in
    let same : l ≡ r = cc in ap (λ (y : Read). y.bytes) same

-- a name stands for at most one list of bytes
pub name_once : (name a b : List ℕ) → IsNameOf name a → IsNameOf name b → a ≡ b
name_once name a b (inl h) (inl k) = h.1 ∙ sym k.1
name_once name a b (inr s) k = string_once name a b s (name_string name b k (ap (starts is_quote) s.2))
name_once name a b (inl h) (inr t) = sym (string_once name b a t (name_string name a (inl h) (ap (starts is_quote) t.2)))

pub annotated_name : (word rest bytes : List ℕ) → IsAnnotation word → rest ≡ drop 1 word → IsNameOf rest bytes → IsAnnotationOf word bytes
annotated_name word rest bytes (b, a) e is =
    let name : IsNameOf a.name bytes = subst (λ y. IsNameOf y bytes) (e ∙ ap (drop 1) a.split) is in
    let same : bytes ≡ b = name_once a.name bytes b name a.is in
    subst (IsAnnotationOf word) (sym same) a

pub id_name : (word rest bytes : List ℕ) → IsId word → rest ≡ drop 1 word → IsNameOf rest bytes → IsIdOf word bytes
id_name word rest bytes (b, (name, split, a)) e is = (name, split, subst (λ y. IsNameOf y bytes) (e ∙ ap (drop 1) split) is)

pub bad_id : (word : List ℕ) (place : ℕ) (f : LexFault) → IsRefusal f place InvalidUtf8Id → (bytes : List ℕ) → IsIdOf word bytes → ¬ IsUtf8 bytes → IsIdFault word place f
bad_id word place (Lex span e) r bytes is isnt = (r.0, inr (r.1, bytes, is, isnt))
bad_id word place Memory r bytes is isnt = absurd r
