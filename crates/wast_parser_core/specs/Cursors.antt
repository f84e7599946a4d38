-- Where a cursor stands.
use Rattle.std.specs.Prelude.{◌≡◌, ◌⊎◌, ℕ, ◌≤◌, true, false, List, [], Option, Some, None, is_some, Result, Ok, Err}
use Rattle.wast_lexer.specs.declared.token.Token.{Token}
use Rattle.wast_parser_core.specs.declared.cursor.Cursor.{Cursor}
use Rattle.wast_lexer.specs.declared.fault.LexFault.{LexFault}
use Rattle.wast_lexer.specs.TokenText.{text_of, is_plain, IsIdFault}
use Rattle.wast_parser_base.specs.Faults.{problem_of}
use Rattle.wast_parser_base.specs.Problem.{Problem}
use Rattle.wast_parser_core.specs.State.{State, ahead, slack, IsNext}
use Rattle.wast_lexer.specs.Float.{Float as FloatParts}
use Rattle.wast_lexer.specs.Integer.{Integer as IntegerParts}
use Rattle.wast_lexer.specs.NumberParts.{IsFloatOf, IsIntegerOf}
use Rattle.wast_grammar.specs.Tokens.{Name, SignificantToken, Id, Word, Mark, Integer, Float, Text, Reserved}
use Rattle.wast_grammar.specs.Significant.{TextToken}
use Rattle.wast_grammar.specs.Look.{Shape, same_shape}
use Rattle.wast_grammar.specs.Grammar.{one_of}
use Rattle.wast_parser_core.specs.Kinds.{shape_of, front_shape, is_identifier}
use Rattle.wast_parser_core.specs.Reading.{Stops, out_of_memory, is_stuck}

-- what a parser has that stands there
abbrev pub stands : Cursor → State
stands c = record c.parser.now { at = c.at }

-- one cursor stands where another does, or behind
pub record Follows (c d : Cursor) : Type 0 where
  pub same : d.parser.now ≡ c.parser.now
  pub onward : c.at ≤ d.at

-- the next token, and the cursor behind it
abbrev pub GivesToken : Result (Option (Token × Cursor)) Problem → Cursor → Type 0
GivesToken (Ok (Some found)) c = IsNext (stands c) found.0 found.1.at × (found.1.parser.now ≡ c.parser.now)
GivesToken (Ok None) c = ahead (stands c) ≡ []
GivesToken (Err p) c = Stops p (stands c)

-- WHAT THE CALLS OF A CURSOR TAKE
abbrev pub said_word : {N P : Type 0} → SignificantToken N P → Option (List ℕ)
said_word (Word w p) = Some w
said_word t = None

abbrev pub said_reserved : {N P : Type 0} → SignificantToken N P → Option (List ℕ)
said_reserved (Reserved w p) = Some w
said_reserved t = None

abbrev pub said_mark : {N P : Type 0} → SignificantToken N P → Option (List ℕ)
said_mark (Mark w p) = Some w
said_mark t = None

abbrev pub said_integer : {N P : Type 0} → SignificantToken N P → Option (List ℕ)
said_integer (Integer n w p) = Some w
said_integer t = None

abbrev pub said_float : {N P : Type 0} → SignificantToken N P → Option (List ℕ)
said_float (Float w p) = Some w
said_float t = None

abbrev pub said_text : {N P : Type 0} → SignificantToken N P → Option (List ℕ)
said_text (Text s p) = Some s
said_text t = None

-- the name of an identifier, where it has one
abbrev pub said_id : {N P : Type 0} → SignificantToken N P → Option (Option N)
said_id (Id n p) = Some n
said_id t = None

-- no such token is in front, and one could be read
abbrev pub TakesNone : {Y : Type 0} → (TextToken → Option Y) → Cursor → Type 0
TakesNone f c = (one_of f (ahead (stands c)) ≡ None) × (is_stuck (ahead (stands c)) ≡ false)

-- the token in front says this, and the other cursor stands directly behind it
abbrev pub TakesOne : {Y : Type 0} → (TextToken → Option Y) → Cursor → Y → Cursor → Type 0
TakesOne f c y d = (one_of f (ahead (stands c)) ≡ Some (y, ahead (stands d))) × Follows c d × (slack (stands d) ≤ slack (stands c))

-- A call takes the token in front exactly where it is such a one; none is taken where it is another or the end, and where
-- none can be read that is told.
abbrev pub Takes : {X Y : Type 0} → (X → Y) → (TextToken → Option Y) → Cursor → Result (Option (X × Cursor)) Problem → Type 0
Takes view f c (Ok (Some (x, d))) = TakesOne f c (view x) d
Takes view f c (Ok None) = TakesNone f c
Takes view f c (Err p) = Stops p (stands c)

-- the same of an integer, which is answered in its parts
abbrev pub TakesInteger : Cursor → Result (Option (IntegerParts × Cursor)) Problem → Type 0
TakesInteger c (Ok (Some (x, d))) = (w : List ℕ) × IsIntegerOf w x × TakesOne said_integer c w d
TakesInteger c (Ok None) = TakesNone said_integer c
TakesInteger c (Err p) = Stops p (stands c)

-- the same of a float
abbrev pub TakesFloat : Cursor → Result (Option (FloatParts × Cursor)) Problem → Type 0
TakesFloat c (Ok (Some (x, d))) = (w : List ℕ) × IsFloatOf w x × TakesOne said_float c w d
TakesFloat c (Ok None) = TakesNone said_float c
TakesFloat c (Err p) = Stops p (stands c)

-- such a token is in front, in which something is escaped, and there was no memory for what it says
abbrev pub FindsNoRoom : {Y : Type 0} → (TextToken → Option Y) → Cursor → Problem → Type 0
FindsNoRoom f c p =
    (t : Token) × (after : ℕ) × IsNext (stands c) t after × (is_some (one_of f (ahead (stands c))) ≡ true)
    × (is_plain (text_of (stands c).source.text t) ≡ false) × (p ≡ out_of_memory)

-- the same, where memory may be wanted
abbrev pub Copies : {X Y : Type 0} → (X → Y) → (TextToken → Option Y) → Cursor → Result (Option (X × Cursor)) Problem → Type 0
Copies view f c (Ok (Some (x, d))) = TakesOne f c (view x) d
Copies view f c (Ok None) = TakesNone f c
Copies view f c (Err p) = FindsNoRoom f c p ⊎ Stops p (stands c)

-- an identifier is in front, and this is why it isn't read: it has no name, or there was no memory for what is escaped in it
abbrev pub RefusesId : Cursor → Problem → Type 0
RefusesId c p =
    (t : Token) × (after : ℕ) × (fault : LexFault) × IsNext (stands c) t after × (is_identifier t.kind ≡ true)
    × IsIdFault (text_of (stands c).source.text t) t.offset fault × (p ≡ problem_of fault)

-- the same of an identifier; one without a name is refused by a lexical error
abbrev pub TakesId : {X : Type 0} → (X → Name) → Cursor → Result (Option (X × Cursor)) Problem → Type 0
TakesId view c (Ok (Some (x, d))) = TakesOne said_id c (Some (view x)) d
TakesId view c (Ok None) = TakesNone said_id c
TakesId view c (Err p) = RefusesId c p ⊎ Stops p (stands c)

-- the same, where the cursor behind it alone is answered
abbrev pub Passes : {Y : Type 0} → (TextToken → Option Y) → Cursor → Result (Option Cursor) Problem → Type 0
Passes {Y} f c (Ok (Some d)) = (y : Y) × TakesOne f c y d
Passes f c (Ok None) = TakesNone f c
Passes f c (Err p) = Stops p (stands c)

-- the token in front is of this kind, and the other cursor stands behind it
abbrev pub FindsKind : Shape → Cursor → Result (Option (Token × Cursor)) Problem → Type 0
FindsKind shape c (Ok (Some (t, d))) = IsNext (stands c) t d.at × (d.parser.now ≡ c.parser.now) × (same_shape shape (shape_of t.kind) ≡ true)
FindsKind shape c (Ok None) = (same_shape shape (front_shape (ahead (stands c))) ≡ false) × (is_stuck (ahead (stands c)) ≡ false)
FindsKind shape c (Err p) = Stops p (stands c)
