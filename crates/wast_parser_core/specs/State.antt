-- What a parser has before it.
use Rattle.std.specs.Prelude.{◌≡◌, ◌≤◌, ◌<◌, ℕ, zero, suc, Bool, false, is_some, List, [], ◌∷◌, ◌++◌, length, map, drop, codes, Option, Some, None, slice_get}
use Rattle.wast_lexer.specs.declared.token.Token.{Token}
use Rattle.wast_lexer.specs.declared.fault.LexFault.{LexFault}
use Rattle.wast_lexer.specs.Lexeme.{lexeme_of}
use Rattle.wast_lexer.specs.TokenText.{IsOf, text_of}
use Rattle.wast_grammar.specs.Tokens.{SignificantToken, Open, Close, Id, Word, Mark, Integer, Float, Text, Reserved, Broken}
use Rattle.wast_grammar.specs.Significant.{TextToken, token_of, is_trivia, significant}
use Rattle.wast_parser_base.specs.Problem.{Problem, Said}
use Rattle.wast_parser_base.specs.Faults.{problem_of}
use Rattle.wast_parser_core.specs.Standing.{Standing, Behind, stand, slack_of}

-- A text and its tokens, up to its end or a fault; `track`: the places of instructions are asked for.
pub record Source : Type 0 where
  pub text : List ℕ
  pub tokens : List Token
  pub fault : Option LexFault
  pub track : Bool

-- A parser: the registered names, how many parentheses are open, and how many tokens are taken or passed.
pub record State : Type 0 where
  pub source : Source
  pub names : List (List ℕ)
  pub depth : ℕ
  pub at : ℕ

-- at the start of a text
abbrev pub start : Source → State
start s = record { source = s; names = []; depth = 0; at = 0 }

-- where these names are registered too
abbrev pub knowing : List (List ℕ) → State → State
knowing more s = record s { names = more ++ s.names }

-- where this one is too, behind them
abbrev pub also : List ℕ → State → State
also name s = record s { names = s.names ++ name ∷ [] }

-- THE TOKENS BEFORE A PARSER: those not yet taken that are significant under the names registered now
abbrev pub ahead : State → List TextToken
ahead s = significant s.names (is_some s.source.fault) (map (lexeme_of s.source.text) (drop s.at s.source.tokens))

-- HOW IT STANDS AMONG THEM
abbrev pub standing : State → Standing
standing s = stand s.names s.at Behind (map (lexeme_of s.source.text) s.source.tokens)

-- HOW FAR IT HAS GONE BEYOND WHAT IT TOOK: nothing directly behind a significant token; its place, where it has passed one that isn't;
-- and within a group that is dropped more than any place. So where this doesn't grow, a parser stays where it was or stands
-- directly behind the last token that it took, unless it was within such a group.
abbrev pub slack : State → ℕ
slack s = slack_of s.at (length s.source.tokens) (standing s)

-- They begin with this token, and go on as they do after so many, which is directly behind it.
pub record IsNext (s : State) (t : Token) (after : ℕ) : Type 0 where
  pub found : ahead s ≡ token_of t.kind (text_of s.source.text t) t.offset ++ ahead (record s { at = after })
  pub seen : is_trivia t.kind ≡ false
  pub own : IsOf s.source.text t
  pub onward : s.at < after
  pub tight : slack (record s { at = after }) ≤ slack s

-- What taking leaves alone, and that it goes back nowhere.
pub record Moves (old new : State) : Type 0 where
  pub source : new.source ≡ old.source
  pub names : new.names ≡ old.names
  pub depth : new.depth ≡ old.depth
  pub onward : old.at ≤ new.at

-- The same of reading, where these names are registered too while it reads: it passes nothing behind what it takes.
pub record KeepsWith (more : List (List ℕ)) (old new : State) : Type 0 where
  pub source : new.source ≡ old.source
  pub names : new.names ≡ old.names
  pub depth : new.depth ≡ old.depth
  pub onward : old.at ≤ new.at
  pub tight : slack (knowing more new) ≤ slack (knowing more old)

abbrev pub Keeps : State → State → Type 0
Keeps old new = KeepsWith [] old new

-- the tokens behind the first, where one can be read
abbrev pub past : {N P : Type 0} → List (SignificantToken N P) → List (SignificantToken N P)
past [] = []
past (Broken ∷ ts) = Broken ∷ ts
past (t ∷ ts) = ts

-- WHERE THINGS STAND
-- why tokens end where they can't be read: the lexer's fault, or a group that isn't closed
abbrev pub stop_at : ℕ → Option LexFault → Problem
stop_at end None = record { place = end; cause = Said (codes "expected `)`"); lines = None }
stop_at end (Some fault) = problem_of fault

abbrev pub stop : Source → Problem
stop s = stop_at (length s.text) s.fault

-- Where tokens begin: at the first of them; where there is none the text ends, and where none can be read it stops.
abbrev pub front : ℕ → ℕ → List TextToken → ℕ
front end broken [] = end
front end broken (Open p ∷ ts) = p
front end broken (Close p ∷ ts) = p
front end broken (Id n p ∷ ts) = p
front end broken (Word w p ∷ ts) = p
front end broken (Mark w p ∷ ts) = p
front end broken (Integer n w p ∷ ts) = p
front end broken (Float w p ∷ ts) = p
front end broken (Text s p ∷ ts) = p
front end broken (Reserved w p ∷ ts) = p
front end broken (Broken ∷ ts) = broken

abbrev pub place_ahead : State → ℕ
place_ahead s = front (length s.source.text) (stop s.source).place (ahead s)

abbrev pub offset_of : Option Token → ℕ
offset_of None = 0
offset_of (Some t) = t.offset

-- where the last token begins that was taken or passed
abbrev pub place_of_last : List Token → ℕ → ℕ
place_of_last tokens zero = 0
place_of_last tokens (suc i) = offset_of (slice_get tokens i)

abbrev pub place_behind : State → ℕ
place_behind s = place_of_last s.source.tokens s.at
