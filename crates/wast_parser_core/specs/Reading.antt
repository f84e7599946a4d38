-- What a parser's calls answer.
use Rattle.std.specs.Prelude.{◌≡◌, ◌≢◌, ◌≤◌, ◌⊎◌, ℕ, ◌+◌, Bool, true, false, List, [], ◌∷◌, Option, Some, None, Result, Ok, Err, slice_get}
use Rattle.wast_lexer.specs.declared.token.Token.{Token}
use Rattle.wast_lexer.specs.TokenText.{text_of, is_plain}
use Rattle.wast_parser_core.specs.declared.parser.Front.{Front}
use Rattle.wast_parser_core.specs.declared.parser.Front.TheVariants as fronts
use Rattle.wast_grammar.specs.Tokens.{Name, Broken, Open, Close}
use Rattle.wast_grammar.specs.Spelling.{that_close}
use Rattle.wast_grammar.specs.Significant.{TextToken}
use Rattle.wast_grammar.specs.Grammar.{Reader, one_of}
use Rattle.wast_parser_base.specs.Problem.{Problem, Said, Memory}
use Rattle.wast_parser_core.specs.State.{Source, State, start, ahead, knowing, slack, KeepsWith, IsNext, stop}

-- want of memory, which has no place
abbrev pub out_of_memory : Problem
out_of_memory = record { place = 0; cause = Memory; lines = None }

-- want of memory, or what reading refuses
abbrev pub Refuses : {Y : Type 0} → Problem → Option Y → Type 0
Refuses p read = (p ≡ out_of_memory) ⊎ (read ≡ None)

-- memory is wanted for the next token, in which something is escaped
abbrev pub WantsRoom : State → Type 0
WantsRoom s = (t : Token) × (after : ℕ) × IsNext s t after × (is_plain (text_of s.source.text t) ≡ false)

-- What is returned, seen by view, with the tokens before the parser, is what reading gives.
abbrev pub Gives : {X Y : Type 0} → (X → Y) → Result X Problem → State → Option (Y × List TextToken) → Type 0
Gives view (Ok x) s read = read ≡ Some (view x, ahead s)
Gives view (Err p) s read = Refuses p read

-- All of a text is read, where these names are registered while it is: no significant token is left behind it.
abbrev pub ReadsAll : {A : Type 0} → Reader Name ℕ A → List (List ℕ) → Source → A → Type 0
ReadsAll reads more source a = (end : State) × KeepsWith more (start source) end × (reads (ahead (knowing more (start source))) ≡ Some (a, ahead (knowing more end))) × (ahead end ≡ [])

-- Nothing is read, or a significant token is left.
abbrev pub ReadsNotAll : {A : Type 0} → Reader Name ℕ A → List (List ℕ) → Source → Type 0
ReadsNotAll {A} reads more source =
    (reads (ahead (knowing more (start source))) ≡ None)
    ⊎ ((a : A) × (end : State) × KeepsWith more (start source) end × (reads (ahead (knowing more (start source))) ≡ Some (a, ahead (knowing more end))) × (ahead end ≢ []))

-- The problem tells why no token of these can be read; or there was no memory for its message, which the lexer's fault doesn't want.
abbrev pub IsStop : Problem → Source → Type 0
IsStop p source = (p ≡ stop source) ⊎ ((source.fault ≡ None) × (p ≡ out_of_memory))

-- A peek's answer is what the look asks; where it meets a fault, that is told.
abbrev pub Asks : Result Bool Problem → Source → Option Bool → Type 0
Asks (Ok b) source asked = asked ≡ Some b
Asks (Err p) source asked = (asked ≡ None) × IsStop p source

-- The same, where the name of what isn't there is kept, for which memory may be wanted.
abbrev pub LooksFor : Result Bool Problem → Source → Option Bool → Type 0
LooksFor (Ok b) source asked = asked ≡ Some b
LooksFor (Err p) source asked = ((asked ≡ Some false) × (p ≡ out_of_memory)) ⊎ ((asked ≡ None) × IsStop p source)

-- the problem has this message and place, or there was no memory for it
abbrev pub SaysAt : List ℕ → ℕ → Problem → Type 0
SaysAt text place p = (p ≡ out_of_memory) ⊎ (p ≡ record { place = place; cause = Said text; lines = None })

-- no token can be read, and this tells why
abbrev pub Stops : Problem → State → Type 0
Stops p s = (ahead s ≡ Broken ∷ []) × IsStop p s.source

-- the next significant token, none at the end, or a fault where it can't be told
abbrev pub ShowsNext : Result (Option (Token × ℕ)) Problem → State → Type 0
ShowsNext (Ok (Some found)) s = IsNext s found.0 found.1
ShowsNext (Ok None) s = ahead s ≡ []
ShowsNext (Err p) s = Stops p s

-- A parenthesis opens before one state, and the other stands directly behind it, one deeper.
pub record Enters (old within : State) : Type 0 where
  pub place : ℕ
  pub opens : ahead old ≡ Open place ∷ ahead within
  pub deeper : within ≡ record old { at = within.at; depth = old.depth + 1 }
  pub tight : slack within ≤ slack old

-- A parenthesis closes before one state, and the other stands behind it.
abbrev pub Leaves : State → State → Type 0
Leaves after new = (place : ℕ) × (ahead after ≡ Close place ∷ ahead new)

-- what was read within parentheses was refused, or they aren't closed behind it
abbrev pub IsRefusedWithin : {T : Type 0} → Problem → Result T Problem → State → Type 0
IsRefusedWithin p (Ok value) after = one_of that_close (ahead after) ≡ None
IsRefusedWithin p (Err q) after = p ≡ q

-- What stands before a state: its next significant token, by index and kind, which is passed with all before it; none; or none
-- that can be told.
abbrev pub IsFront : Front → State → Type 0
IsFront (fronts.Token index kind) s = (t : Token) × (slice_get s.source.tokens index ≡ Some t) × (t.kind ≡ kind) × IsNext s t (index + 1)
IsFront fronts.End s = ahead s ≡ []
IsFront fronts.Stuck s = ahead s ≡ Broken ∷ []

-- no token can be read here
abbrev pub is_stuck : List TextToken → Bool
is_stuck (Broken ∷ ts) = true
is_stuck _ = false

-- a group or the text ends here
abbrev pub ends_here : List TextToken → Bool
ends_here [] = true
ends_here (Close p ∷ ts) = true
ends_here _ = false
