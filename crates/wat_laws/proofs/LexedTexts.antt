-- Texts by hand, cut into tokens by computation, and tokens and trees by hand.
use Rattle.std.proofs.Common.{◌≡◌, ◌<◌, ◌^◌, ℕ, zero, suc, ◌+◌, Bool, true, false, List, [], ◌∷◌, ◌++◌, length, Option, Some, None, refl, sym, ◌∙◌, ap, subst}
use Rattle.std.specs.Prelude.{option_map, codes}
use Rattle.std.specs.Str.{is_utf8}
use Rattle.std.proofs.lemmas.Option.{same_Some}
use Rattle.std.proofs.lemmas.Str.{IsUtf8-from_is_utf8}
use Prim.Native.String.{String}
use Rattle.wast_lexer.specs.declared.token.TokenKind.{TokenKind}
use Rattle.wast_lexer.specs.Kinds.{is_open}
use Rattle.wast_lexer.specs.Lexeme.{Lexeme}
use Rattle.wast_lexer.specs.Tiling.{Begins, Tiles, ends}
use Rattle.wast_lexer.specs.Scan.{front, next}
use Rattle.wast_lexer.proofs.ScanLaws.{front_of, sound}
use Rattle.wast_grammar.specs.Tokens.{Name, Id, Word, Integer, is_whole}
use Rattle.wast_grammar.specs.Significant.{TextToken, AreSignificant, significant}
use Rattle.wast_grammar.proofs.SignificantLaws.{significant_law}
use Rattle.wast_field_syntax.specs.FieldTree.{Field, Fields, Module}
use Rattle.wat_verdict.specs.Registered.{registered}
use Rattle.wat_verdict.proofs.Alike.{mapped_of}
use Rattle.wat_laws.specs.Bounds.{WithinBounds}

abbrev lexeme : TokenKind → List ℕ → ℕ → Lexeme
lexeme kind text place = record { kind = kind; text = text; place = place }

-- the tokens that the scan finds, so many at most
abbrev pub lexemes : ℕ → Bool → ℕ → List ℕ → Option (List Lexeme)
lexemes n opened from [] = Some []
lexemes zero opened from (c ∷ s) = None
lexemes (suc n) opened from (c ∷ s) = elim (next false opened (c ∷ s)) [
  | Some x ↦ option_map (λ ls. lexeme x.0 (front (c ∷ s) x.1) from ∷ ls) (lexemes n (ends is_open (front (c ∷ s) x.1)) (from + length (front (c ∷ s) x.1)) x.1)
  | None ↦ None
]

tiled : (n : ℕ) (opened : Bool) (from : ℕ) (text : List ℕ) (ls : List Lexeme) → lexemes n opened from text ≡ Some ls → Tiles false opened from text ls
tiled zero opened from [] ls e = subst (Tiles false opened from []) (same_Some [] ls e) refl
tiled (suc n) opened from [] ls e = subst (Tiles false opened from []) (same_Some [] ls e) refl
tiled zero opened from (c ∷ s) ls e = absurd (cc)
tiled (suc n) opened from (c ∷ s) ls e = by_case (next false opened (c ∷ s)) refl e (λ o f r more. tiled n o f r more)
  where
    by_case : (o : Option (TokenKind × List ℕ)) → next false opened (c ∷ s) ≡ o →
        (elim o [
          | Some x ↦ option_map (λ ls. lexeme x.0 (front (c ∷ s) x.1) from ∷ ls) (lexemes n (ends is_open (front (c ∷ s) x.1)) (from + length (front (c ∷ s) x.1)) x.1)
          | None ↦ None
        ]) ≡ Some ls → ((o : Bool) (f : ℕ) (r : List ℕ) (more : List Lexeme) → lexemes n o f r ≡ Some more → Tiles false o f r more) → Tiles false opened from (c ∷ s) ls
    by_case None h e rest = absurd (cc)
    by_case (Some (k, r)) h e rest =
        let found = sound false opened (c ∷ s) k r h in
        let w = front (c ∷ s) r in
        let is : w ≡ found.0 = ap (λ t. front t r) found.1 ∙ front_of found.0 r in
        let behind = mapped_of (λ ls. lexeme k w from ∷ ls) (lexemes n (ends is_open w) (from + length w) r) ls e in
        subst (Tiles false opened from (c ∷ s)) behind.2 (
          r,
          refl,
          found.1 ∙ ap (λ v. v ++ r) (sym is),
          subst (λ v. Begins false opened k v r) (sym is) found.2,
          rest (ends is_open w) (from + length w) r behind.0 behind.1,
        )

pub text_tokens : (text : List ℕ) (ts : List TextToken) → option_map (significant registered false) (lexemes (length text) false 0 text) ≡ Some ts → is_whole ts ≡ true → AreSignificant false registered text ts
text_tokens text ts e whole =
    let found = mapped_of (significant registered false) (lexemes (length text) false 0 text) ts e in
    (found.0, tiled (length text) false 0 text found.0 found.1, (significant_law registered found.0 ts).1 (found.2, whole))

-- TEXTS within bounds
pub within_bounds : (text other : List ℕ) → length text < 2 ^ 32 → length other < 2 ^ 32 → is_utf8 text ≡ true → is_utf8 other ≡ true → WithinBounds text other
within_bounds text other short also utf8 too = record { short = (short, also); utf8 = (IsUtf8-from_is_utf8 text utf8, IsUtf8-from_is_utf8 other too) }

-- TOKENS by hand
abbrev pub id : String → ℕ → TextToken
id name place = Id (Some (codes name, 0)) place

abbrev pub word : String → ℕ → TextToken
word w place = Word (codes w) place

abbrev pub integer : ℕ → String → ℕ → TextToken
integer n w place = Integer (record { minus = false; size = n }) (codes w) place

-- TREES by hand
abbrev pub of_fields : List (Field Name ℕ) → Module Name ℕ
of_fields fs = record { place = 1; id = None; given = None; content = Fields fs; refusal = None }
