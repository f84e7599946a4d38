-- Tokens in front, by the kind that is wanted.
use Rattle.std.proofs.Common.{◌≡◌, ℕ, Bool, true, false, cond, ◌&&◌, List, [], ◌∷◌, ◌++◌, Some, None, refl, sym, ◌∙◌, ap}
use Rattle.std.specs.Prelude.{option_map}
use Rattle.wast_lexer.specs.declared.token.Token.{Token}
use Rattle.wast_lexer.specs.declared.token.TokenKind.{TokenKind}
use Rattle.wast_lexer.specs.declared.token.TokenKind.TheVariants as kinds
use Rattle.wast_lexer.specs.TokenText.{text_of}
use Rattle.wast_grammar.specs.Tokens.{Name, as_read, Open, Close, Id, Word, Mark, Integer, Float, Text, Reserved, Broken, id_name, marked_value, string_value}
use Rattle.wast_grammar.specs.Significant.{TextToken, token_of, is_trivia}
use Rattle.wast_grammar.specs.Spelling.{that_close}
use Rattle.wast_grammar.specs.Look.{Shape, AnEnd, AnOpen, AClose, AWord, AMark, AnId, AnInteger, AFloat, AString, AReserved, same_shape, ask, On, Any}
use Rattle.wast_grammar.specs.Grammar.{one_of}
use Rattle.wast_parser_core.specs.declared.kind.Wanted.{Wanted}
use Rattle.wast_parser_core.specs.declared.kind.Wanted.TheVariants as wants
use Rattle.wast_parser_core.specs.Kinds.{is_identifier, shape_of, wanted, front_shape}
use Rattle.wast_parser_core.specs.State.{State, ahead, IsNext}
use Rattle.wast_parser_core.specs.Reading.{is_stuck}
use Rattle.wast_parser_core.specs.Cursors.{said_word, said_reserved, said_mark, said_integer, said_float, said_text, said_id}

-- what is wanted is no parenthesis that opens, and no end
pub wanted_open : (k : Wanted) → same_shape (wanted k) AnOpen ≡ false
wanted_open wants.RParen = refl
wanted_open wants.Id = refl
wanted_open wants.Keyword = refl
wanted_open wants.Annotation = refl
wanted_open wants.Integer = refl
wanted_open wants.Float = refl
wanted_open wants.String = refl
wanted_open wants.Reserved = refl

pub wanted_end : (k : Wanted) → same_shape (wanted k) AnEnd ≡ false
wanted_end wants.RParen = refl
wanted_end wants.Id = refl
wanted_end wants.Keyword = refl
wanted_end wants.Annotation = refl
wanted_end wants.Integer = refl
wanted_end wants.Float = refl
wanted_end wants.String = refl
wanted_end wants.Reserved = refl

shape_token : (k : TokenKind) (w : List ℕ) (p : ℕ) (ts : List TextToken) → is_trivia k ≡ false → front_shape (token_of k w p ++ ts) ≡ shape_of k
shape_token kinds.Whitespace w p ts h = absurd (cc)
shape_token kinds.LineComment w p ts h = absurd (cc)
shape_token kinds.BlockComment w p ts h = absurd (cc)
shape_token kinds.LParen w p ts h = refl
shape_token kinds.RParen w p ts h = refl
shape_token kinds.String w p ts h = refl
shape_token kinds.Id w p ts h = refl
shape_token kinds.Keyword w p ts h = refl
shape_token kinds.Annotation w p ts h = refl
shape_token kinds.Reserved w p ts h = refl
shape_token (kinds.Integer k) w p ts h = refl
shape_token (kinds.Float k) w p ts h = refl

pub shape_next : (s : State) (t : Token) (i : ℕ) → IsNext s t i → front_shape (ahead s) ≡ shape_of t.kind
shape_next s t i n = ap front_shape n.found ∙ shape_token t.kind (text_of s.source.text t) t.offset (ahead (record s { at = i })) n.seen

stuck_token : (k : TokenKind) (w : List ℕ) (p : ℕ) (ts : List TextToken) → is_trivia k ≡ false → is_stuck (token_of k w p ++ ts) ≡ false
stuck_token kinds.Whitespace w p ts h = absurd (cc)
stuck_token kinds.LineComment w p ts h = absurd (cc)
stuck_token kinds.BlockComment w p ts h = absurd (cc)
stuck_token kinds.LParen w p ts h = refl
stuck_token kinds.RParen w p ts h = refl
stuck_token kinds.String w p ts h = refl
stuck_token kinds.Id w p ts h = refl
stuck_token kinds.Keyword w p ts h = refl
stuck_token kinds.Annotation w p ts h = refl
stuck_token kinds.Reserved w p ts h = refl
stuck_token (kinds.Integer k) w p ts h = refl
stuck_token (kinds.Float k) w p ts h = refl

pub not_stuck : (s : State) (t : Token) (i : ℕ) → IsNext s t i → is_stuck (ahead s) ≡ false
not_stuck s t i n = ap is_stuck n.found ∙ stuck_token t.kind (text_of s.source.text t) t.offset (ahead (record s { at = i })) n.seen

-- LOOKS
flat : (s : Shape) (q : ℕ) (ts : List TextToken) → ask (On false s Any ∷ []) (Open q ∷ ts) ≡ Some false
flat s q [] = refl
flat s q (Open p ∷ ts) = refl
flat s q (Close p ∷ ts) = refl
flat s q (Id n p ∷ ts) = refl
flat s q (Word n p ∷ ts) = refl
flat s q (Mark n p ∷ ts) = refl
flat s q (Integer n w p ∷ ts) = refl
flat s q (Float n p ∷ ts) = refl
flat s q (Text n p ∷ ts) = refl
flat s q (Reserved n p ∷ ts) = refl
flat s q (Broken ∷ ts) = refl

same_bool : (b : Bool) → Some (cond (b && true) true false) ≡ Some b
same_bool true = refl
same_bool false = refl

asks_shape : (s : Shape) (k : TokenKind) (w : List ℕ) (p : ℕ) (ts : List TextToken) → same_shape s AnOpen ≡ false → is_trivia k ≡ false → ask (On false s Any ∷ []) (token_of k w p ++ ts) ≡ Some (same_shape s (shape_of k))
asks_shape s kinds.Whitespace w p ts o h = absurd (cc)
asks_shape s kinds.LineComment w p ts o h = absurd (cc)
asks_shape s kinds.BlockComment w p ts o h = absurd (cc)
asks_shape s kinds.LParen w p ts o h = flat s p ts ∙ ap (λ b. Some b) (sym o)
asks_shape s kinds.RParen w p ts o h = same_bool (same_shape s AClose)
asks_shape s kinds.String w p ts o h = same_bool (same_shape s AString)
asks_shape s kinds.Id w p ts o h = same_bool (same_shape s AnId)
asks_shape s kinds.Keyword w p ts o h = same_bool (same_shape s AWord)
asks_shape s kinds.Annotation w p ts o h = same_bool (same_shape s AMark)
asks_shape s kinds.Reserved w p ts o h = same_bool (same_shape s AReserved)
asks_shape s (kinds.Integer k) w p ts o h = same_bool (same_shape s AnInteger)
asks_shape s (kinds.Float k) w p ts o h = same_bool (same_shape s AFloat)

pub asked_shape : (s : State) (t : Token) (i : ℕ) (k : Wanted) → IsNext s t i → ask (On false (wanted k) Any ∷ []) (ahead s) ≡ Some (same_shape (wanted k) (shape_of t.kind))
asked_shape s t i k n = ap (ask (On false (wanted k) Any ∷ [])) n.found ∙ asks_shape (wanted k) t.kind (text_of s.source.text t) t.offset (ahead (record s { at = i })) (wanted_open k) n.seen

pub asked_none : (k : Wanted) → ask {N = Name} {P = ℕ} (On false (wanted k) Any ∷ []) [] ≡ Some false
asked_none k = same_bool (same_shape (wanted k) AnEnd) ∙ ap (λ b. Some b) (wanted_end k)

-- WHAT IS TAKEN
pub no_close : (ts : List TextToken) → same_shape AClose (front_shape ts) ≡ false → one_of that_close ts ≡ None
no_close [] h = refl
no_close (Open p ∷ ts) h = refl
no_close (Close p ∷ ts) h = absurd (cc)
no_close (Id n p ∷ ts) h = refl
no_close (Word n p ∷ ts) h = refl
no_close (Mark n p ∷ ts) h = refl
no_close (Integer n w p ∷ ts) h = refl
no_close (Float n p ∷ ts) h = refl
no_close (Text n p ∷ ts) h = refl
no_close (Reserved n p ∷ ts) h = refl
no_close (Broken ∷ ts) h = refl

took_close : (k : TokenKind) (w : List ℕ) (p : ℕ) (ts : List TextToken) → same_shape AClose (shape_of k) ≡ true → one_of that_close (token_of k w p ++ ts) ≡ Some (p, ts)
took_close kinds.RParen w p ts h = refl
took_close _ w p ts h = absurd (cc)

pub next_close : (s : State) (t : Token) (i : ℕ) → IsNext s t i → same_shape AClose (shape_of t.kind) ≡ true → one_of that_close (ahead s) ≡ Some (t.offset, ahead (record s { at = i }))
next_close s t i n h = ap (one_of that_close) n.found ∙ took_close t.kind (text_of s.source.text t) t.offset (ahead (record s { at = i })) h

pub no_word : (ts : List TextToken) → same_shape AWord (front_shape ts) ≡ false → one_of said_word ts ≡ None
no_word [] h = refl
no_word (Open p ∷ ts) h = refl
no_word (Close p ∷ ts) h = refl
no_word (Id n p ∷ ts) h = refl
no_word (Word n p ∷ ts) h = absurd (cc)
no_word (Mark n p ∷ ts) h = refl
no_word (Integer n w p ∷ ts) h = refl
no_word (Float n p ∷ ts) h = refl
no_word (Text n p ∷ ts) h = refl
no_word (Reserved n p ∷ ts) h = refl
no_word (Broken ∷ ts) h = refl

took_word : (k : TokenKind) (w : List ℕ) (p : ℕ) (ts : List TextToken) → same_shape AWord (shape_of k) ≡ true → one_of said_word (token_of k w p ++ ts) ≡ Some (w, ts)
took_word kinds.Keyword w p ts h = refl
took_word _ w p ts h = absurd (cc)

pub next_word : (s : State) (t : Token) (i : ℕ) → IsNext s t i → same_shape AWord (shape_of t.kind) ≡ true → one_of said_word (ahead s) ≡ Some (text_of s.source.text t, ahead (record s { at = i }))
next_word s t i n h = ap (one_of said_word) n.found ∙ took_word t.kind (text_of s.source.text t) t.offset (ahead (record s { at = i })) h

pub no_reserved : (ts : List TextToken) → same_shape AReserved (front_shape ts) ≡ false → one_of said_reserved ts ≡ None
no_reserved [] h = refl
no_reserved (Open p ∷ ts) h = refl
no_reserved (Close p ∷ ts) h = refl
no_reserved (Id n p ∷ ts) h = refl
no_reserved (Word n p ∷ ts) h = refl
no_reserved (Mark n p ∷ ts) h = refl
no_reserved (Integer n w p ∷ ts) h = refl
no_reserved (Float n p ∷ ts) h = refl
no_reserved (Text n p ∷ ts) h = refl
no_reserved (Reserved n p ∷ ts) h = absurd (cc)
no_reserved (Broken ∷ ts) h = refl

took_reserved : (k : TokenKind) (w : List ℕ) (p : ℕ) (ts : List TextToken) → same_shape AReserved (shape_of k) ≡ true → one_of said_reserved (token_of k w p ++ ts) ≡ Some (w, ts)
took_reserved kinds.Reserved w p ts h = refl
took_reserved _ w p ts h = absurd (cc)

pub next_reserved : (s : State) (t : Token) (i : ℕ) → IsNext s t i → same_shape AReserved (shape_of t.kind) ≡ true → one_of said_reserved (ahead s) ≡ Some (text_of s.source.text t, ahead (record s { at = i }))
next_reserved s t i n h = ap (one_of said_reserved) n.found ∙ took_reserved t.kind (text_of s.source.text t) t.offset (ahead (record s { at = i })) h

pub no_mark : (ts : List TextToken) → same_shape AMark (front_shape ts) ≡ false → one_of said_mark ts ≡ None
no_mark [] h = refl
no_mark (Open p ∷ ts) h = refl
no_mark (Close p ∷ ts) h = refl
no_mark (Id n p ∷ ts) h = refl
no_mark (Word n p ∷ ts) h = refl
no_mark (Mark n p ∷ ts) h = absurd (cc)
no_mark (Integer n w p ∷ ts) h = refl
no_mark (Float n p ∷ ts) h = refl
no_mark (Text n p ∷ ts) h = refl
no_mark (Reserved n p ∷ ts) h = refl
no_mark (Broken ∷ ts) h = refl

took_mark : (k : TokenKind) (w : List ℕ) (p : ℕ) (ts : List TextToken) → same_shape AMark (shape_of k) ≡ true → one_of said_mark (token_of k w p ++ ts) ≡ Some (marked_value w, ts)
took_mark kinds.Annotation w p ts h = refl
took_mark _ w p ts h = absurd (cc)

pub next_mark : (s : State) (t : Token) (i : ℕ) → IsNext s t i → same_shape AMark (shape_of t.kind) ≡ true → one_of said_mark (ahead s) ≡ Some (marked_value (text_of s.source.text t), ahead (record s { at = i }))
next_mark s t i n h = ap (one_of said_mark) n.found ∙ took_mark t.kind (text_of s.source.text t) t.offset (ahead (record s { at = i })) h

pub no_integer : (ts : List TextToken) → same_shape AnInteger (front_shape ts) ≡ false → one_of said_integer ts ≡ None
no_integer [] h = refl
no_integer (Open p ∷ ts) h = refl
no_integer (Close p ∷ ts) h = refl
no_integer (Id n p ∷ ts) h = refl
no_integer (Word n p ∷ ts) h = refl
no_integer (Mark n p ∷ ts) h = refl
no_integer (Integer n w p ∷ ts) h = absurd (cc)
no_integer (Float n p ∷ ts) h = refl
no_integer (Text n p ∷ ts) h = refl
no_integer (Reserved n p ∷ ts) h = refl
no_integer (Broken ∷ ts) h = refl

took_integer : (k : TokenKind) (w : List ℕ) (p : ℕ) (ts : List TextToken) → same_shape AnInteger (shape_of k) ≡ true → one_of said_integer (token_of k w p ++ ts) ≡ Some (w, ts)
took_integer (kinds.Integer j) w p ts h = refl
took_integer _ w p ts h = absurd (cc)

pub next_integer : (s : State) (t : Token) (i : ℕ) → IsNext s t i → same_shape AnInteger (shape_of t.kind) ≡ true → one_of said_integer (ahead s) ≡ Some (text_of s.source.text t, ahead (record s { at = i }))
next_integer s t i n h = ap (one_of said_integer) n.found ∙ took_integer t.kind (text_of s.source.text t) t.offset (ahead (record s { at = i })) h

pub no_float : (ts : List TextToken) → same_shape AFloat (front_shape ts) ≡ false → one_of said_float ts ≡ None
no_float [] h = refl
no_float (Open p ∷ ts) h = refl
no_float (Close p ∷ ts) h = refl
no_float (Id n p ∷ ts) h = refl
no_float (Word n p ∷ ts) h = refl
no_float (Mark n p ∷ ts) h = refl
no_float (Integer n w p ∷ ts) h = refl
no_float (Float n p ∷ ts) h = absurd (cc)
no_float (Text n p ∷ ts) h = refl
no_float (Reserved n p ∷ ts) h = refl
no_float (Broken ∷ ts) h = refl

took_float : (k : TokenKind) (w : List ℕ) (p : ℕ) (ts : List TextToken) → same_shape AFloat (shape_of k) ≡ true → one_of said_float (token_of k w p ++ ts) ≡ Some (w, ts)
took_float (kinds.Float j) w p ts h = refl
took_float _ w p ts h = absurd (cc)

pub next_float : (s : State) (t : Token) (i : ℕ) → IsNext s t i → same_shape AFloat (shape_of t.kind) ≡ true → one_of said_float (ahead s) ≡ Some (text_of s.source.text t, ahead (record s { at = i }))
next_float s t i n h = ap (one_of said_float) n.found ∙ took_float t.kind (text_of s.source.text t) t.offset (ahead (record s { at = i })) h

pub no_text : (ts : List TextToken) → same_shape AString (front_shape ts) ≡ false → one_of said_text ts ≡ None
no_text [] h = refl
no_text (Open p ∷ ts) h = refl
no_text (Close p ∷ ts) h = refl
no_text (Id n p ∷ ts) h = refl
no_text (Word n p ∷ ts) h = refl
no_text (Mark n p ∷ ts) h = refl
no_text (Integer n w p ∷ ts) h = refl
no_text (Float n p ∷ ts) h = refl
no_text (Text n p ∷ ts) h = absurd (cc)
no_text (Reserved n p ∷ ts) h = refl
no_text (Broken ∷ ts) h = refl

took_text : (k : TokenKind) (w : List ℕ) (p : ℕ) (ts : List TextToken) → same_shape AString (shape_of k) ≡ true → one_of said_text (token_of k w p ++ ts) ≡ Some (string_value w, ts)
took_text kinds.String w p ts h = refl
took_text _ w p ts h = absurd (cc)

pub next_text : (s : State) (t : Token) (i : ℕ) → IsNext s t i → same_shape AString (shape_of t.kind) ≡ true → one_of said_text (ahead s) ≡ Some (string_value (text_of s.source.text t), ahead (record s { at = i }))
next_text s t i n h = ap (one_of said_text) n.found ∙ took_text t.kind (text_of s.source.text t) t.offset (ahead (record s { at = i })) h

pub no_id : (ts : List TextToken) → same_shape AnId (front_shape ts) ≡ false → one_of said_id ts ≡ None
no_id [] h = refl
no_id (Open p ∷ ts) h = refl
no_id (Close p ∷ ts) h = refl
no_id (Id n p ∷ ts) h = absurd (cc)
no_id (Word n p ∷ ts) h = refl
no_id (Mark n p ∷ ts) h = refl
no_id (Integer n w p ∷ ts) h = refl
no_id (Float n p ∷ ts) h = refl
no_id (Text n p ∷ ts) h = refl
no_id (Reserved n p ∷ ts) h = refl
no_id (Broken ∷ ts) h = refl

took_id : (k : TokenKind) (w : List ℕ) (p : ℕ) (ts : List TextToken) → same_shape AnId (shape_of k) ≡ true → one_of said_id (token_of k w p ++ ts) ≡ Some (option_map as_read (id_name w), ts)
took_id kinds.Id w p ts h = refl
took_id _ w p ts h = absurd (cc)

pub next_id : (s : State) (t : Token) (i : ℕ) → IsNext s t i → same_shape AnId (shape_of t.kind) ≡ true → one_of said_id (ahead s) ≡ Some (option_map as_read (id_name (text_of s.source.text t)), ahead (record s { at = i }))
next_id s t i n h = ap (one_of said_id) n.found ∙ took_id t.kind (text_of s.source.text t) t.offset (ahead (record s { at = i })) h

pub identifier : (k : TokenKind) → same_shape AnId (shape_of k) ≡ true → is_identifier k ≡ true
identifier kinds.Id h = refl
identifier _ h = absurd (cc)
