-- Which tokens of a text are significant, where some annotations are registered by name (WebAssembly 3.0, 6.2.3 to 6.2.5).
use Rattle.std.specs.Prelude.{◌≡◌, ◌⊎◌, ℕ, zero, suc, Bool, true, false, not, ◌&&◌, if◌then◌else◌, List, [], ◌∷◌, ◌++◌, map, option_map}
use Rattle.wast_lexer.specs.declared.token.TokenKind.{TokenKind}
use Rattle.wast_lexer.specs.declared.token.TokenKind.TheVariants as kinds
use Rattle.wast_lexer.specs.Groups.{Balanced, paren_of}
use Rattle.wast_lexer.specs.Tiling.{Tiles, is_annotation}
use Rattle.wast_lexer.specs.Lexeme.{Lexeme}
use Rattle.wast_grammar.specs.Tokens.{Name, as_read, SignificantToken, Open, Close, Id, Word, Mark, Integer, Float, Text, Reserved, Broken, literal, string_value, marked_value, id_name}
use Rattle.wast_grammar.specs.Spelling.{any_is}

-- a token of a text: places are offsets
abbrev pub TextToken : Type 0
TextToken = SignificantToken Name ℕ

-- the token that a lexeme is; white space and comments are none
abbrev pub token_of : TokenKind → List ℕ → ℕ → List TextToken
token_of kinds.Whitespace text place = []
token_of kinds.LineComment text place = []
token_of kinds.BlockComment text place = []
token_of kinds.LParen text place = Open place ∷ []
token_of kinds.RParen text place = Close place ∷ []
token_of kinds.Id text place = Id (option_map as_read (id_name text)) place ∷ []
token_of kinds.Keyword text place = Word text place ∷ []
token_of kinds.Annotation text place = Mark (marked_value text) place ∷ []
token_of (kinds.Integer kind) text place = Integer (literal text) text place ∷ []
token_of (kinds.Float kind) text place = Float text place ∷ []
token_of kinds.String text place = Text (string_value text) place ∷ []
token_of kinds.Reserved text place = Reserved text place ∷ []

-- white space and comments (6.2.3, 6.2.4)
abbrev pub is_trivia : TokenKind → Bool
is_trivia kinds.Whitespace = true
is_trivia kinds.LineComment = true
is_trivia kinds.BlockComment = true
is_trivia _ = false

abbrev pub is_lparen : TokenKind → Bool
is_lparen kinds.LParen = true
is_lparen _ = false

-- an annotation that is not registered
abbrev pub is_unknown : List (List ℕ) → Lexeme → Bool
is_unknown names l = is_annotation l.kind && not (any_is (marked_value l.text) names)

abbrev pub begins_unknown : List (List ℕ) → List Lexeme → Bool
begins_unknown names [] = false
begins_unknown names (a ∷ ls) = is_unknown names a

-- whether a lexeme opens the group of an annotation that is not registered, where these follow it
abbrev pub opens_dropped : List (List ℕ) → Lexeme → List Lexeme → Bool
opens_dropped names l ls = is_lparen l.kind && begins_unknown names ls

-- THE DEFINITION, as a relation
-- What is dropped where nothing else stands: white space, comments, and balanced groups of annotations that are not
-- registered (6.2.5).
pub data Dropped (names : List (List ℕ)) : List Lexeme → Type 0 where
  Nothing : Dropped names []
  Blank : {l : Lexeme} {ls : List Lexeme} → is_trivia l.kind ≡ true → Dropped names ls → Dropped names (l ∷ ls)
  Group : {o a : Lexeme} {ls : List Lexeme} (inner : List Lexeme) (c : Lexeme) → o.kind ≡ kinds.LParen → is_unknown names a ≡ true → Balanced (map (λ l. paren_of l.kind) inner) → c.kind ≡ kinds.RParen → Dropped names ls → Dropped names (o ∷ a ∷ (inner ++ c ∷ ls))

-- The first significant token is this one, and these lexemes follow it.
pub record Shows (names : List (List ℕ)) (ls : List Lexeme) (l : Lexeme) (rest : List Lexeme) : Type 0 where
  pub gap : List Lexeme
  pub dropped : Dropped names gap
  pub split : ls ≡ gap ++ l ∷ rest
  pub seen : is_trivia l.kind ≡ false
  pub kept : opens_dropped names l rest ≡ false

-- The significant tokens of lexemes. There are none, not even no tokens, where a group that is to be dropped isn't closed.
abbrev pub IsSignificant : List (List ℕ) → List Lexeme → List TextToken → Type 0
IsSignificant names ls [] = Dropped names ls
IsSignificant names ls (t ∷ ts) =
    (l : Lexeme) × (rest : List Lexeme) × Shows names ls l rest × (token_of l.kind l.text l.place ≡ t ∷ []) × IsSignificant names rest ts

-- The significant tokens of a text, none where it does not lex; `allow`: the refused characters may stand in it.
abbrev pub AreSignificant : Bool → List (List ℕ) → List ℕ → List TextToken → Type 0
AreSignificant allow names text ts = (ls : List Lexeme) × Tiles allow false 0 text ls × IsSignificant names ls ts

-- WHAT A PARSER IS SHOWN: the significant tokens, up to where there are none, and there `Broken`
-- A group that is to be dropped opens behind what is dropped, and isn't closed.
pub record IsUnclosed (names : List (List ℕ)) (ls : List Lexeme) : Type 0 where
  pub gap : List Lexeme
  pub open_at : Lexeme
  pub mark_at : Lexeme
  pub rest : List Lexeme
  pub dropped : Dropped names gap
  pub split : ls ≡ gap ++ open_at ∷ mark_at ∷ rest
  pub opens : open_at.kind ≡ kinds.LParen
  pub unknown : is_unknown names mark_at ≡ true
  pub unclosed : (inner after : List Lexeme) (c : Lexeme) → Balanced (map (λ l. paren_of l.kind) inner) → c.kind ≡ kinds.RParen → rest ≡ inner ++ c ∷ after → ⊥

-- `broken`: behind the last lexeme no token begins
abbrev pub IsShown : List (List ℕ) → Bool → List Lexeme → List TextToken → Type 0
IsShown names broken ls [] = Dropped names ls × (broken ≡ false)
IsShown names broken ls (t ∷ ts) =
    ((t ∷ ts ≡ Broken ∷ []) × ((Dropped names ls × (broken ≡ true)) ⊎ IsUnclosed names ls))
    ⊎ ((l : Lexeme) × (rest : List Lexeme) × Shows names ls l rest × (token_of l.kind l.text l.place ≡ t ∷ []) × IsShown names broken rest ts)

-- THE SAME, as a function
-- how many groups are open behind a lexeme, where one and so many are
abbrev pub behind : TokenKind → ℕ → ℕ
behind kinds.LParen d = suc (suc d)
behind kinds.RParen d = d
behind _ d = suc d

-- how the tokens end
abbrev pub at_end : Bool → List TextToken
at_end false = []
at_end true = Broken ∷ []

-- what is shown of lexemes, of which so many groups that are dropped are open
abbrev pub shown : List (List ℕ) → Bool → ℕ → List Lexeme → List TextToken
shown names broken zero [] = at_end broken
shown names broken (suc d) [] = Broken ∷ []
shown names broken zero (l ∷ ls) = if opens_dropped names l ls then shown names broken 1 ls else token_of l.kind l.text l.place ++ shown names broken zero ls
shown names broken (suc d) (l ∷ ls) = shown names broken (behind l.kind d) ls

abbrev pub significant : List (List ℕ) → Bool → List Lexeme → List TextToken
significant names broken ls = shown names broken 0 ls
