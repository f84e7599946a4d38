-- Comments behind white space.
use Rattle.std.proofs.Common.{◌≡◌, ℕ, ◌+◌, true, false, cond, List, Some, None, drop, ap, ◌∙◌}
use Rattle.std.specs.Prelude.{slice_get}
use Rattle.wast_lexer.specs.declared.token.Token.{Token}
use Rattle.wast_parser_core.specs.Comments.{is_space, is_comment, comment_in, blank}
use Rattle.wast_parser_core.proofs.Ahead.{cell, past_end}

module _ (ts : List Token) (i : ℕ) (t : Token) (got : slice_get ts i ≡ Some t) where
  more : comment_in (drop i ts) ≡ cond (is_space t.kind) (comment_in (drop (i + 1) ts)) (cond (is_comment t.kind) (Some (t, drop (i + 1) ts)) None)
  more = ap comment_in (cell ts i t got)

  more_blank : blank (drop i ts) ≡ cond (is_space t.kind) (blank (drop (i + 1) ts)) false
  more_blank = ap blank (cell ts i t got)

  -- white space is passed
  pub passed : is_space t.kind ≡ true → comment_in (drop i ts) ≡ comment_in (drop (i + 1) ts)
  passed is = more ∙ ap (λ b. cond b (comment_in (drop (i + 1) ts)) (cond (is_comment t.kind) (Some (t, drop (i + 1) ts)) None)) is

  pub passed_blank : is_space t.kind ≡ true → blank (drop i ts) ≡ blank (drop (i + 1) ts)
  passed_blank is = more_blank ∙ ap (λ b. cond b (blank (drop (i + 1) ts)) false) is

  -- what is none stops, a comment or another token
  pub found : is_space t.kind ≡ false → is_comment t.kind ≡ true → comment_in (drop i ts) ≡ Some (t, drop (i + 1) ts)
  found space is =
      more
      ∙ ap (λ b. cond b (comment_in (drop (i + 1) ts)) (cond (is_comment t.kind) (Some (t, drop (i + 1) ts)) None)) space
      ∙ ap (λ b. cond b (Some (t, drop (i + 1) ts)) None) is

  pub another : is_space t.kind ≡ false → is_comment t.kind ≡ false → comment_in (drop i ts) ≡ None
  another space is =
      more
      ∙ ap (λ b. cond b (comment_in (drop (i + 1) ts)) (cond (is_comment t.kind) (Some (t, drop (i + 1) ts)) None)) space
      ∙ ap (λ b. cond b (Some (t, drop (i + 1) ts)) None) is

  pub not_blank : is_space t.kind ≡ false → blank (drop i ts) ≡ false
  not_blank space = more_blank ∙ ap (λ b. cond b (blank (drop (i + 1) ts)) false) space

-- the tokens end
pub none_left : (ts : List Token) (i : ℕ) → slice_get ts i ≡ None → comment_in (drop i ts) ≡ None
none_left ts i h = ap comment_in (past_end ts i h)

pub all_blank : (ts : List Token) (i : ℕ) → slice_get ts i ≡ None → blank (drop i ts) ≡ true
all_blank ts i h = ap blank (past_end ts i h)
