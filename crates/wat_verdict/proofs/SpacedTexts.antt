-- A text with spaces over a comment is as long, and UTF-8 again: before a comment, and behind it, a character begins.
use Rattle.std.proofs.Common.{◌≡◌, ◌⊎◌, inl, inr, ℕ, zero, suc, ◌+◌, ◌<◌, Bool, false, List, [], ◌∷◌, ◌++◌, length, refl, sym, ◌∙◌, ap, subst, arith}
use Rattle.std.specs.Prelude.{replicate}
use Rattle.std.specs.Str.{IsUtf8, IsAscii, IsCharBoundary}
use Rattle.std.proofs.lemmas.List.{drop_at, get_or_at, length-append, length-replicate, take_at}
use Rattle.std.proofs.lemmas.Str.{IsUtf8-append, IsUtf8-drop, IsUtf8-from_ascii, IsUtf8-take, IsCharBoundary-before_ascii}
use Rattle.wast_lexer.specs.declared.token.TokenKind.{TokenKind}
use Rattle.wast_lexer.specs.declared.token.TokenKind.TheVariants as kinds
use Rattle.wast_lexer.specs.Kinds.{IsLexeme}
use Rattle.wast_lexer.specs.Tiling.{Begins}
use Rattle.wast_lexer.proofs.Ends.{token_cut}

-- an ASCII character parts a text in two
front : (p r : List ℕ) (c : ℕ) → c < 128 → IsUtf8 (p ++ c ∷ r) → IsUtf8 p × IsUtf8 (c ∷ r)
front p r c small u =
    let long = length-append p (c ∷ r) in
    let at = IsCharBoundary-before_ascii (p ++ c ∷ r) (length p) (omega (arith, long)) (subst (λ z. z < 128) (sym (get_or_at p c r 0 (length p) refl)) small) in
    (subst IsUtf8 (take_at p (c ∷ r) (length p) refl) (IsUtf8-take (p ++ c ∷ r) (length p) u at), subst IsUtf8 (drop_at p (c ∷ r) (length p) refl) (IsUtf8-drop (p ++ c ∷ r) (length p) u at))

-- a comment begins with one
first_ascii : (k : TokenKind) (w : List ℕ) → (k ≡ kinds.LineComment) ⊎ (k ≡ kinds.BlockComment) → IsLexeme false k w → (c : ℕ) × (rest : List ℕ) × (w ≡ c ∷ rest) × (c < 128)
first_ascii k w (inl e) l = let line = (subst (λ k. IsLexeme false k w) e l).0 in (59, 59 ∷ line.0, line.2, omega arith)
first_ascii k w (inr e) l = let block = (subst (λ k. IsLexeme false k w) e l).0 in (40, 59 ∷ (block.0 ++ 59 ∷ 41 ∷ []), block.2, omega arith)

-- what stands before a comment, and what stands behind it
around : (opened : Bool) (k : TokenKind) (p w q : List ℕ) → (k ≡ kinds.LineComment) ⊎ (k ≡ kinds.BlockComment) → Begins false opened k w q → IsUtf8 (p ++ (w ++ q)) → IsUtf8 p × IsUtf8 q
around opened k p w q c b u =
    let first = first_ascii k w c b.lexeme in
    let two = front p (first.1 ++ q) first.0 first.3 (subst (λ z. IsUtf8 (p ++ (z ++ q))) first.2 u) in
    let whole : IsUtf8 (w ++ q) = subst (λ z. IsUtf8 (z ++ q)) (sym first.2) two.1 in
    let n : 0 + length w ≡ length w = omega arith in
    (two.0, subst IsUtf8 (drop_at w q (length w) refl) (IsUtf8-drop (w ++ q) (length w) whole (subst (IsCharBoundary (w ++ q)) n (token_cut false opened k (w ++ q) w q 0 whole refl b))))

spaces_ascii : (n : ℕ) → IsAscii (replicate n 0x20)
spaces_ascii zero zero = omega arith
spaces_ascii zero (suc i) = omega arith
spaces_ascii (suc n) zero = omega arith
spaces_ascii (suc n) (suc i) = spaces_ascii n i

pub spaced_utf8 : (opened : Bool) (k : TokenKind) (p w q : List ℕ) → (k ≡ kinds.LineComment) ⊎ (k ≡ kinds.BlockComment) → Begins false opened k w q → IsUtf8 (p ++ (w ++ q)) → IsUtf8 (p ++ (replicate (length w) 0x20 ++ q))
spaced_utf8 opened k p w q c b u =
    let two = around opened k p w q c b u in
    IsUtf8-append p (replicate (length w) 0x20 ++ q) two.0 (IsUtf8-append (replicate (length w) 0x20) q (IsUtf8-from_ascii (replicate (length w) 0x20) (spaces_ascii (length w))) two.1)

pub spaced_long : (p w q : List ℕ) → length (p ++ (replicate {A = ℕ} (length w) 0x20 ++ q)) ≡ length (p ++ (w ++ q))
spaced_long p w q =
    length-append p (replicate (length w) 0x20 ++ q)
    ∙ ap (λ n. length p + n) (length-append (replicate (length w) 0x20) q ∙ ap (λ n. n + length q) (length-replicate (length w) 0x20) ∙ sym (length-append w q))
    ∙ sym (length-append p (w ++ q))
