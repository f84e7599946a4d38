-- Where a text has no token, no tokens are the text.
use Rattle.std.proofs.Common.{◌≡◌, ◌≢◌, ℕ, ◌+◌, ◌<◌, Bool, false, Option, Some, map, List, [], ◌∷◌, ◌++◌, length, drop, refl, sym, ◌∙◌, ap, subst, arith}
use Rattle.std.proofs.lemmas.List.{length-drop}
use Rattle.wast_lexer.specs.declared.token.TokenKind.{TokenKind}
use Rattle.wast_lexer.specs.Kinds.{is_open}
use Rattle.wast_lexer.specs.Lexeme.{Lexeme, lexeme_of}
use Rattle.wast_lexer.specs.Tiling.{Begins, Tiles, TilesUpTo, ends}
use Rattle.wast_lexer.specs.Parse.{is_opened, NoTokenAt}
use Rattle.wast_lexer.specs.Table.{IsTable}
use Rattle.wast_lexer.specs.declared.token.Token.{Token}
use Rattle.wast_lexer.specs.declared.fault.LexFault.{LexFault}
use Rattle.wast_lexer.specs.declared.fault.LexFault.TheVariants.{Lex}
use Rattle.wast_lexer.specs.declared.span.Span.{Span}
use Rattle.wast_lexer.specs.LexError.{LexError}
use Rattle.wast_lexer.proofs.TilingLaws.{once}

front_nil : (w r : List ℕ) → w ++ r ≡ [] → w ≡ []
front_nil [] r e = refl
front_nil (c ∷ w) r e = cc

-- tokens up to a place where none begins
stops : (allow opened : Bool) (from : ℕ) (text : List ℕ) (ts us : List Lexeme) (opens : Bool) (to : ℕ) (follows : List ℕ)
    → TilesUpTo allow opened from text ts opens to follows → follows ≢ []
    → ((kind : TokenKind) (word rest : List ℕ) → follows ≡ word ++ rest → ¬ Begins allow opens kind word rest)
    → Tiles allow opened from text us → ⊥
stops allow opened from text [] [] opens to follows s some none t = some (sym s.2 ∙ t)
stops allow opened from text [] (u ∷ us) opens to follows s some none t =
    none u.kind u.text t.0 (sym s.2 ∙ t.2) (subst (λ o. Begins allow o u.kind u.text t.0) s.1 t.3)
stops allow opened from text (x ∷ ts) [] opens to follows s some none t = s.3.nonempty (front_nil x.text s.0 (sym s.2 ∙ t))
stops allow opened from text (x ∷ ts) (u ∷ us) opens to follows s some none t =
    let same = once allow opened x.kind u.kind x.text u.text s.0 t.0 s.3 t.3 (sym s.2 ∙ t.2) in
    stops allow (ends is_open x.text) (from + length x.text) s.0 ts us opens to follows s.4 some none (rw (same.1, same.2) t.4)

pub untiled : (allow : Bool) (text : List ℕ) (ts us : List Lexeme) (opened : Bool) (place : ℕ)
    → TilesUpTo allow opened 0 text ts (is_opened text place) place (drop place text) → place < length text → NoTokenAt allow text place
    → Tiles allow opened 0 text us → ⊥
untiled allow text ts us opened place s within none t =
    stops allow opened 0 text ts us (is_opened text place) place (drop place text) s (λ e. (let l = ap length e in omega (arith, l, within, length-drop place text))) none t

-- a table with a fault at a place
pub table_stops : (allow : Bool) (text : List ℕ) (tokens : List Token) (f : Option LexFault) (span : Span) (error : LexError) → IsTable allow text tokens f → f ≡ Some (Lex span error) → (us : List Lexeme) → ¬ Tiles allow false 0 text us
table_stops allow text tokens f span error is e us t =
    let at = subst (IsTable allow text tokens) e is in
    untiled allow text (map (lexeme_of text) tokens) us false at.0 at.1 at.2.0 at.2.1 t
