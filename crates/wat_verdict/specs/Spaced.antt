-- A text, and the same with spaces over one of its comments.
use Rattle.std.specs.Prelude.{ℕ, ◌≡◌, ◌⊎◌, ◌↔◌, ◌<◌, ◌^◌, false, List, ◌∷◌, ◌++◌, length, replicate}
use Rattle.std.specs.List.{flat_map}
use Rattle.std.specs.Str.{IsUtf8}
use Rattle.wast_lexer.specs.declared.token.TokenKind.TheVariants as kinds
use Rattle.wast_lexer.specs.Lexeme.{Lexeme}
use Rattle.wast_lexer.specs.Tiling.{Tiles}
use Rattle.wast_meant.specs.Means.{Worth}
use Rattle.wat_verdict.specs.Verdict.{Condition, Fails, Accepts, Assembles}

-- the text of tokens
abbrev pub text_of : List Lexeme → List ℕ
text_of ls = flat_map (λ l. l.text) ls

pub record Spaced (text other : List ℕ) : Type 0 where
  pub before : List Lexeme
  pub comment : Lexeme
  pub after : List Lexeme
  pub tiled : Tiles false false 0 text (before ++ comment ∷ after)
  pub is_comment : (comment.kind ≡ kinds.LineComment) ⊎ (comment.kind ≡ kinds.BlockComment)
  -- as long as the comment, a space each
  pub spaced : other ≡ text_of before ++ (replicate (length comment.text) 0x20 ++ text_of after)

-- They fail the same condition at the same place, or are worth the same and have the same binaries.
pub record OneVerdictOfBoth (text other : List ℕ) : Type 0 where
  pub failed : (c : Condition) → Fails text c ↔ Fails other c
  pub accepted : (w : Worth) → Accepts text w ↔ Accepts other w
  pub assembled : (binary : List ℕ) → Assembles text binary ↔ Assembles other binary

abbrev pub CommentsAside : Type 0
CommentsAside = (text other : List ℕ) → length text < 2 ^ 32 → IsUtf8 text → Spaced text other → OneVerdictOfBoth text other
