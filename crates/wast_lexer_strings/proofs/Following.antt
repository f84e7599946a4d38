-- What is known of the bytes that a string has stood for so far.
use Rattle.std.proofs.Common.{◌≡◌, ◌↔◌, ℕ, Bool, true, false, not, ◌&&◌, List, [], ◌∷◌, ◌++◌, Option, Some, None, length, drop, get_or, refl, sym, ◌∙◌, ap, subst, arith, append_assoc}
use Rattle.std.specs.Str.{IsUtf8, is_utf8}
use Rattle.std.specs.Prelude.{◌<◌, ◌+◌, IsTrue}
use Rattle.std.proofs.Common.{inl, inr}
use Rattle.std.specs.Prelude.{encode_utf8, ◌≤◌}
use Rattle.std.proofs.lemmas.Str.{length-encode, len_utf8_bounds}
use Rattle.wast_lexer_strings.specs.declared.piece.Piece.{Piece}
use Rattle.wast_lexer_strings.specs.declared.piece.Piece.TheVariants.{Byte, Char}
use Rattle.wast_lexer_strings.specs.StringScan.{meant}
use Rattle.std.proofs.lemmas.Bool.{cases_Bool}
use Rattle.std.proofs.lemmas.Str.{IsUtf8-from_is_utf8, is_utf8-from_IsUtf8}
use Rattle.std.proofs.lemmas.List.{drop_more}
use Rattle.wast_lexer_strings.proofs.StringScanLaws.{more_more}
use Rattle.simdutf8.specs.Steps.{IsClosed}
use Rattle.simdutf8.proofs.Chars.{StepsThen-IsUtf8}
use Rattle.wast_lexer_strings.specs.declared.utf8.Tail.{Tail}
use Rattle.wast_lexer_strings.specs.Feeds.{Completes, Leads, Fails}
use Rattle.wast_lexer_strings.specs.StringScan.{Read, more, read, is_empty, is_text}
use Rattle.wast_lexer_strings.specs.StringScan.State.{Within}

abbrev pub Reads : List ℕ → ℕ → ℕ → Tail → Bool → Type 0
Reads text from at tail some = (out : List ℕ) × (read Within (drop from text) ≡ more out (read Within (drop at text))) × ((bytes : List ℕ) → IsUtf8 (out ++ bytes) ↔ Completes tail bytes) × (some ≡ not (is_empty out))

pub begin : (bytes : List ℕ) (t : Tail) → t.x ≡ 0 → t.y ≡ 0 → t.z ≡ 0 → IsUtf8 bytes ↔ Completes t bytes
begin bytes t x y z = rw (x, y, z) (let e = StepsThen-IsUtf8 bytes in (e.1, e.0))

pub turn : (text : List ℕ) (from at end : ℕ) (t u : Tail) (some : Bool) (x : List ℕ) → Reads text from at t some → read Within (drop at text) ≡ more x (read Within (drop end text)) → Leads t x u → is_empty x ≡ false → Reads text from end u true
turn text from at end t u some x inv e l f = (
  inv.0 ++ x,
  inv.1 ∙ ap (more inv.0) e ∙ more_more inv.0 x (read Within (drop end text)),
  λ bytes. (λ h. (l bytes).0 ((inv.2 (x ++ bytes)).0 (subst IsUtf8 (append_assoc inv.0 x bytes) h)), λ h. subst IsUtf8 (sym (append_assoc inv.0 x bytes)) ((inv.2 (x ++ bytes)).1 ((l bytes).1 h))),
  not_empty inv.0 x f,
)
  where
    not_empty : (a x : List ℕ) → is_empty x ≡ false → true ≡ not (is_empty (a ++ x))
    not_empty [] x f = rw f refl
    not_empty (b ∷ a) x f = refl

pub fails : (text : List ℕ) (from at end : ℕ) (t : Tail) (some : Bool) (x : List ℕ) → Reads text from at t some → read Within (drop at text) ≡ more x (read Within (drop end text)) → Fails t x → false ≡ is_text (read Within (drop from text))
fails text from at end t some x inv e f = sym (ap is_text (inv.1 ∙ ap (more inv.0) e ∙ more_more inv.0 x (read Within (drop end text))) ∙ no (read Within (drop end text)))
  where
    no_utf8 : (b : List ℕ) → (IsUtf8 b → ⊥) → is_utf8 b ≡ false
    no_utf8 b n = elim (cases_Bool (is_utf8 b)) [ inl h ↦ absurd (n (IsUtf8-from_is_utf8 b h)) | inr h ↦ h ]

    no : (o : Option Read) → is_text (more (inv.0 ++ x) o) ≡ false
    no None = refl
    no (Some r) = rw (no_utf8 ((inv.0 ++ x) ++ r.bytes) (λ u. f r.bytes ((inv.2 (x ++ r.bytes)).0 (subst IsUtf8 (append_assoc inv.0 x r.bytes) u)))) refl

pub utf8_is : (b : List ℕ) (closed : Bool) → IsUtf8 b ↔ IsTrue closed → is_utf8 b ≡ closed
utf8_is b true e = is_utf8-from_IsUtf8 b (e.1 refl)
utf8_is b false e = elim (cases_Bool (is_utf8 b)) [ inl h ↦ (let no : false ≡ true = e.0 (IsUtf8-from_is_utf8 b h) in absurd (cc)) | inr h ↦ h ]

-- the closing quote
pub at_quote : (text : List ℕ) (from at : ℕ) (t : Tail) (some closed : Bool) → at < length text → get_or text at 0 ≡ 34 → Reads text from at t some → IsTrue closed ↔ IsClosed t.x t.y t.z
    → is_text (read Within (drop from text)) ≡ (closed && some && is_empty (drop (at + 1) text))
at_quote text from at t some closed inside q inv e =
    let here : read Within (drop at text) ≡ Some (record { bytes = []; rest = drop (at + 1) text }) = ap (read Within) (drop_more text at 0 inside ∙ ap (λ (i : ℕ). i ∷ drop (at + 1) text) q) in
    let u : is_utf8 (inv.0 ++ []) ≡ closed = utf8_is (inv.0 ++ []) closed (λ h. e.1 ((inv.2 []).0 h), λ h. (inv.2 []).1 (e.0 h)) in
    ap is_text (inv.1 ∙ ap (more inv.0) here) ∙ rw (u, some_is inv.0) (let s = sym inv.3 in rw s refl)
  where
    some_is : (a : List ℕ) → is_empty (a ++ []) ≡ is_empty a
    some_is [] = refl
    some_is (b ∷ a) = refl

some_length : (b : List ℕ) → 1 ≤ length b → is_empty b ≡ false
some_length [] h = absurd (omega arith)
some_length (c ∷ b) h = refl

pub meant_some : (p : Piece) → is_empty (meant p) ≡ false
meant_some (Byte b) = refl
meant_some (Char c) = some_length (encode_utf8 c) (let n = length-encode c in let b = len_utf8_bounds c in omega (arith, n, b.0))
