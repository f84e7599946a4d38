-- A text is at most one list of tokens.
use Rattle.std.proofs.Common.{◌≡◌, ℕ, ◌+◌, Bool, List, [], ◌∷◌, ◌++◌, length, refl, sym, ◌∙◌, ap}
use Rattle.std.proofs.lemmas.List.{append_cancel_right}
use Rattle.wast_lexer.specs.declared.token.TokenKind.{TokenKind}
use Rattle.wast_lexer.specs.Kinds.{is_open}
use Rattle.wast_lexer.specs.Lexeme.{Lexeme}
use Rattle.wast_lexer.specs.Tiling.{Begins, Tiles, ends}
use Rattle.wast_lexer.specs.Scan.{next}
use Rattle.wast_lexer.proofs.ScanLaws.{complete, pair_same}

-- two texts that begin with a token each, and are one
pub once : (allow opened : Bool) (j k : TokenKind) (v w r s : List ℕ) → Begins allow opened j v r → Begins allow opened k w s → v ++ r ≡ w ++ s → (j ≡ k) × (v ≡ w) × (r ≡ s)
once allow opened j k v w r s a b e =
    let same = pair_same j k r s (sym (complete allow opened j v r a) ∙ ap (next allow opened) e ∙ complete allow opened k w s b) in
    (same.0, append_cancel_right v w s (rw same.1 at e), same.1)

front_nil : (w r : List ℕ) → w ++ r ≡ [] → w ≡ []
front_nil [] r e = refl
front_nil (c ∷ w) r e = cc

lexeme_same : (a b : Lexeme) → a.kind ≡ b.kind → a.text ≡ b.text → a.place ≡ b.place → a ≡ b
lexeme_same a b k t p =
    ap (λ (i : TokenKind). let l : Lexeme = record { kind = i; text = a.text; place = a.place } in l) k
    ∙ ap (λ (i : List ℕ). let l : Lexeme = record { kind = b.kind; text = i; place = a.place } in l) t
    ∙ ap (λ (i : ℕ). let l : Lexeme = record { kind = b.kind; text = b.text; place = i } in l) p

pub tile_once : (allow opened : Bool) (from : ℕ) (text : List ℕ) (a b : List Lexeme) → Tiles allow opened from text a → Tiles allow opened from text b → a ≡ b
tile_once allow opened from text [] [] s t = refl
tile_once allow opened from text [] (y ∷ b) s t = absurd (t.3.nonempty (front_nil y.text t.0 (sym t.2 ∙ s)))
tile_once allow opened from text (x ∷ a) [] s t = absurd (s.3.nonempty (front_nil x.text s.0 (sym s.2 ∙ t)))
tile_once allow opened from text (x ∷ a) (y ∷ b) s t =
    let same = once allow opened x.kind y.kind x.text y.text s.0 t.0 s.3 t.3 (sym s.2 ∙ t.2) in
    let tails : a ≡ b = tile_once allow (ends is_open x.text) (from + length x.text) s.0 a b s.4 (rw (same.1, same.2) t.4) in
    let heads : x ≡ y = lexeme_same x y same.0 same.1 (s.1 ∙ sym t.1) in
    ap (λ (l : Lexeme). l ∷ a) heads ∙ ap (λ (l : List Lexeme). y ∷ l) tails
