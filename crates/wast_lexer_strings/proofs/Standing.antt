-- What is left of the bytes for which a string is to stand.
use Rattle.std.proofs.Common.{◌≡◌, ℕ, ◌+◌, ◌<◌, ◌≤◌, List, [], ◌∷◌, ◌++◌, Option, Some, None, length, drop, get_or, refl, sym, ◌∙◌, ap, arith, append_assoc, length-drop, append-nil}
use Rattle.std.proofs.lemmas.List.{append_cancel_left, drop_all, nil_from_length, drop_more}
use Rattle.wast_lexer_strings.specs.Strings.{IsString}
use Rattle.wast_lexer_strings.specs.StringScan.{Read, more, read}
use Rattle.wast_lexer_strings.specs.StringScan.State.{Within}
use Rattle.wast_lexer_strings.proofs.StringScanLaws.{more_none, more_more, whole_read, not_read, past_read}
use Rattle.wast_lexer_strings.proofs.Sound.{read_sound}

-- behind its quote the word was read up to a place, and stood for the bytes but those that are left
abbrev pub Reads : List ℕ → ℕ → List ℕ → List ℕ → Type 0
Reads word at bytes left = (out : List ℕ) × (bytes ≡ out ++ left) × (read Within (drop 1 word) ≡ more out (read Within (drop at word)))

pub begin : (word bytes : List ℕ) → Reads word 1 bytes bytes
begin word bytes = ([], refl, sym (more_none _))

pub turn : (word : List ℕ) (at end : ℕ) (bytes left rest x : List ℕ) → Reads word at bytes left → read Within (drop at word) ≡ more x (read Within (drop end word)) → left ≡ x ++ rest → Reads word end bytes rest
turn word at end bytes left rest x inv e f = (
  inv.0 ++ x,
  inv.1 ∙ ap (λ y. inv.0 ++ y) f ∙ sym (append_assoc inv.0 x rest),
  inv.2 ∙ ap (more inv.0) e ∙ more_more inv.0 x (read Within (drop end word)),
)

-- the part that comes next stands for other bytes
pub differs : (word : List ℕ) (at end : ℕ) (bytes left x : List ℕ) → Reads word at bytes left → read Within (drop at word) ≡ more x (read Within (drop end word)) → ((rest : List ℕ) → left ≡ x ++ rest → ⊥) → IsString word bytes → ⊥
differs word at end bytes left x inv e f s = other (read Within (drop end word)) (sym (whole_read word bytes s) ∙ inv.2 ∙ ap (more inv.0) e ∙ more_more inv.0 x (read Within (drop end word)))
  where
    other : (o : Option Read) → Some (record { bytes = bytes; rest = [] }) ≡ more (inv.0 ++ x) o → ⊥
    other None h = cc
    other (Some r) h =
        let l : Read = record { bytes = bytes; rest = [] } in
        let g : Read = record { bytes = (inv.0 ++ x) ++ r.bytes; rest = r.rest } in
        let same : l ≡ g = cc in
        f r.bytes (append_cancel_left inv.0 left (x ++ r.bytes) (sym inv.1 ∙ ap (λ (y : Read). y.bytes) same ∙ append_assoc inv.0 x r.bytes))

pub fault : (word : List ℕ) (at : ℕ) (bytes left : List ℕ) → Reads word at bytes left → read Within (drop at word) ≡ None → IsString word bytes → ⊥
fault word at bytes left inv none s = not_read word bytes inv.0 at s inv.2 none

pub past : (word : List ℕ) (at : ℕ) (bytes left : List ℕ) → Reads word at bytes left → length word ≤ at → IsString word bytes → ⊥
past word at bytes left inv end s = past_read word bytes inv.0 at end s inv.2

-- at the closing quote
at_quote : (word : List ℕ) (at : ℕ) (bytes left : List ℕ) (inv : Reads word at bytes left) → at < length word → get_or word at 0 ≡ 34 → read Within (drop 1 word) ≡ Some (record { bytes = inv.0; rest = drop (at + 1) word })
at_quote word at bytes left inv inside q =
    inv.2 ∙ ap (λ (y : List ℕ). more inv.0 (read Within y)) (drop_more word at 0 inside ∙ ap (λ (i : ℕ). i ∷ drop (at + 1) word) q) ∙ ap (λ (y : List ℕ). Some (record { bytes = y; rest = drop (at + 1) word })) (append-nil inv.0)

pub ends : (word : List ℕ) (at : ℕ) (bytes left : List ℕ) → Reads word at bytes left → at < length word → 0 < length word → get_or word 0 0 ≡ 34 → get_or word at 0 ≡ 34 → at + 1 ≡ length word → length left ≡ 0 → IsString word bytes
ends word at bytes left inv inside some first q last none =
    let all : bytes ≡ inv.0 = inv.1 ∙ ap (λ y. inv.0 ++ y) (nil_from_length left none) ∙ append-nil inv.0 in
    let behind : drop (at + 1) word ≡ [] = drop_all (at + 1) word (omega (arith, last)) in
    let whole : Read = record { bytes = bytes; rest = [] } in
    let is : read Within (drop 1 word) ≡ Some whole = at_quote word at bytes left inv inside q ∙ rw (behind, all) refl in
    let s = read_sound (drop 1 word) Within whole is in
    (s.0, s.1, drop_more word 0 0 some ∙ ap (λ (i : ℕ). i ∷ drop 1 word) first ∙ ap (λ (y : List ℕ). 34 ∷ y) s.2)

pub ended : (word : List ℕ) (at : ℕ) (bytes left : List ℕ) → Reads word at bytes left → at < length word → get_or word at 0 ≡ 34 → IsString word bytes → (at + 1 ≡ length word) × (length left ≡ 0)
ended word at bytes left inv inside q s =
    let l : Read = record { bytes = bytes; rest = [] } in
    let r : Read = record { bytes = inv.0; rest = drop (at + 1) word } in
    let e : Some l ≡ Some r = sym (whole_read word bytes s) ∙ at_quote word at bytes left inv inside q in
    let same : l ≡ r = cc in
    let none : left ≡ [] = append_cancel_left inv.0 left [] (sym inv.1 ∙ ap (λ (y : Read). y.bytes) same ∙ sym (append-nil inv.0)) in
    let behind : [] ≡ drop (at + 1) word = ap (λ (y : Read). y.rest) same in
    let n = length_left (at + 1) word (omega (arith, inside)) (sym behind) in
    (n, ap length none)
  where
    length_left : (i : ℕ) (w : List ℕ) → i ≤ length w → drop i w ≡ [] → i ≡ length w
    length_left i w h e = grind (arith, ap length e, length-drop)
