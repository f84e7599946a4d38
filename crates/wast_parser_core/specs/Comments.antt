-- The comment that follows a place, with white space alone between (WebAssembly 3.0, 6.2.3 and 6.2.4).
use Rattle.std.specs.Prelude.{◌≡◌, ◌≤◌, ◌<◌, ◌&&◌, ℕ, Bool, true, false, if◌then◌else◌, is_some, List, [], ◌∷◌, length, drop, Option, Some, None, Result, Ok, Err}
use Rattle.wast_lexer.specs.declared.token.Token.{Token}
use Rattle.wast_lexer.specs.declared.token.TokenKind.{TokenKind}
use Rattle.wast_lexer.specs.declared.token.TokenKind.TheVariants as kinds
use Rattle.wast_lexer.specs.TokenText.{IsOf, text_of}
use Rattle.wast_parser_base.specs.Problem.{Problem}
use Rattle.wast_parser_core.specs.declared.cursor.Cursor.{Cursor}
use Rattle.wast_parser_core.specs.State.{State}
use Rattle.wast_parser_core.specs.Reading.{IsStop}
use Rattle.wast_parser_core.specs.Cursors.{stands, Follows}

abbrev pub is_space : TokenKind → Bool
is_space kinds.Whitespace = true
is_space _ = false

abbrev pub is_comment : TokenKind → Bool
is_comment kinds.LineComment = true
is_comment kinds.BlockComment = true
is_comment _ = false

-- the comment behind white space, and the tokens behind it
abbrev pub comment_in : List Token → Option (Token × List Token)
comment_in [] = None
comment_in (t ∷ ts) = if is_space t.kind then comment_in ts else if is_comment t.kind then Some (t, ts) else None

-- white space alone
abbrev pub blank : List Token → Bool
blank [] = true
blank (t ∷ ts) = if is_space t.kind then blank ts else false

-- all tokens not yet taken or passed
abbrev pub left : State → List Token
left s = drop s.at s.source.tokens

-- A comment is shown where one follows; none where another token does, or the text ends; a fault where the lexer's does.
abbrev pub ShowsComment : Result (Option (Token × ℕ)) Problem → State → Type 0
ShowsComment (Ok (Some (t, i))) s = (comment_in (left s) ≡ Some (t, drop i s.source.tokens)) × IsOf s.source.text t × (s.at < i) × (i ≤ length s.source.tokens)
ShowsComment (Ok None) s = (comment_in (left s) ≡ None) × (blank (left s) && is_some s.source.fault ≡ false)
ShowsComment (Err p) s = (blank (left s) && is_some s.source.fault ≡ true) × IsStop p s.source

-- the same of a cursor, which then stands directly behind the comment
abbrev pub TakesComment : {X : Type 0} → (X → List ℕ) → Cursor → Result (Option (X × Cursor)) Problem → Type 0
TakesComment view c (Ok (Some (x, d))) = (t : Token) × (comment_in (left (stands c)) ≡ Some (t, left (stands d))) × (view x ≡ text_of (stands c).source.text t) × Follows c d × (d.at ≤ length (stands c).source.tokens)
TakesComment view c (Ok None) = (comment_in (left (stands c)) ≡ None) × (blank (left (stands c)) && is_some (stands c).source.fault ≡ false)
TakesComment view c (Err p) = (blank (left (stands c)) && is_some (stands c).source.fault ≡ true) × IsStop p (stands c).source
