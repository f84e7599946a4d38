-- Identifiers, names of annotations, strings and integers in front.
use Rattle.std.proofs.Common.{◌≡◌, ℕ, Bool, true, false, cond, List, ◌∷◌, ◌++◌, Option, Some, None, refl, sym, ◌∙◌, ap, subst, inl, inr, ◌⊎◌}
use Rattle.std.specs.Prelude.{option_map}
use Rattle.std.specs.Str.{IsUtf8, is_utf8}
use Rattle.std.proofs.lemmas.Bool.{cases_Bool}
use Rattle.std.proofs.lemmas.Str.{IsUtf8-from_is_utf8, is_utf8-from_IsUtf8}
use Rattle.wast_lexer.specs.Strings.{IsString}
use Rattle.wast_lexer.specs.Kinds.{IsId, IsLexeme}
use Rattle.wast_lexer.specs.LexError.{LexError}
use Rattle.wast_lexer.specs.TokenText.{text_of, IsOf, IsIdFault}
use Rattle.wast_lexer.specs.declared.fault.LexFault.{LexFault}
use Rattle.wast_lexer.specs.declared.fault.LexFault.TheVariants.{Lex}
use Rattle.wast_lexer.specs.declared.fault.LexFault.TheVariants as faults
use Rattle.wast_lexer.specs.declared.token.Token.{Token}
use Rattle.wast_lexer.specs.declared.token.TokenKind.{TokenKind}
use Rattle.wast_lexer.specs.declared.token.TokenKind.TheVariants as kinds
use Rattle.wast_lexer.specs.Tiling.{is_annotation}
use Rattle.wast_grammar.specs.Tokens.{Name, as_read, Id, string_value, marked_value, id_name}
use Rattle.wast_grammar.specs.Significant.{TextToken, token_of, is_trivia}
use Rattle.wast_grammar.specs.Spelling.{same_text, ◌>>=◌, that_id, that_mark, that_text}
use Rattle.wast_grammar.specs.Grammar.{Reader, one_of, only_reads}
use Rattle.wast_grammar.proofs.SignificantLaws.{annotation_kind}
use Rattle.wast_grammar.proofs.TextLaws.{string_is, id_nameless}
use Rattle.wast_parser_core.specs.Kinds.{is_identifier, is_string}
use Rattle.wast_parser_base.specs.Faults.{problem_of}
use Rattle.wast_parser_core.specs.State.{State, ahead, IsNext}
use Rattle.wast_parser_core.specs.Reading.{Refuses, WantsRoom}

-- IDENTIFIERS
identifier_kind : (k : TokenKind) → is_identifier k ≡ true → k ≡ kinds.Id
identifier_kind kinds.Id h = refl
identifier_kind _ h = absurd (cc)

-- the token of an identifier is one
pub is_id : (text : List ℕ) (t : Token) → IsOf text t → is_identifier t.kind ≡ true → IsId (text_of text t)
is_id text t own h = (subst (λ k. IsLexeme own.lexeme.0 k (text_of text t)) (identifier_kind t.kind h) own.lexeme.1).0

pub unnamed : (word : List ℕ) (place span : ℕ) (error : LexError) → IsId word → IsIdFault word place (Lex span error) → id_name word ≡ None
unnamed word place span error is fault = (id_nameless word is).1 (elim fault.1 [
  | inl empty ↦ inl empty.1
  | inr bad ↦ inr (bad.1, bad.2, bad.3)
])

pub read_id : (s : State) (t : Token) (i : ℕ) (name : Option (List ℕ)) → IsNext s t i → is_identifier t.kind ≡ true → id_name (text_of s.source.text t) ≡ name → one_of that_id (ahead s) ≡ one_of that_id (Id (option_map as_read name) t.offset ∷ ahead (record s { at = i }))
read_id s t i name next h e =
    ap (one_of that_id) next.found
    ∙ ap (λ k. one_of that_id (token_of k (text_of s.source.text t) t.offset ++ ahead (record s { at = i }))) (identifier_kind t.kind h)
    ∙ ap (λ m. one_of that_id (Id (option_map as_read m) t.offset ∷ ahead (record s { at = i }))) e

-- a fault that tells of an identifier is a refusal
pub id_refused : (s : State) (t : Token) (i : ℕ) (fault : LexFault) → IsNext s t i → is_identifier t.kind ≡ true → IsIdFault (text_of s.source.text t) t.offset fault → Refuses (problem_of fault) (one_of that_id (ahead s))
id_refused s t i (Lex span error) next h e = inr (read_id s t i None next h (unnamed (text_of s.source.text t) t.offset span error (is_id s.source.text t next.own h) e))
id_refused s t i faults.Memory next h e = inl refl

-- and no memory is wanted but for what is escaped
pub id_unread : (s : State) (t : Token) (i : ℕ) (fault : LexFault) → IsNext s t i → is_identifier t.kind ≡ true → IsIdFault (text_of s.source.text t) t.offset fault → WantsRoom s ⊎ (one_of that_id (ahead s) ≡ None)
id_unread s t i (Lex span error) next h e = inr (read_id s t i None next h (unnamed (text_of s.source.text t) t.offset span error (is_id s.source.text t next.own h) e))
id_unread s t i faults.Memory next h e = inl (t, i, next, e)

no_id : (k : TokenKind) (w : List ℕ) (p : ℕ) (ts : List TextToken) → is_identifier k ≡ false → is_trivia k ≡ false → one_of that_id (token_of k w p ++ ts) ≡ None
no_id kinds.Whitespace w p ts h i = absurd (cc)
no_id kinds.LineComment w p ts h i = absurd (cc)
no_id kinds.BlockComment w p ts h i = absurd (cc)
no_id kinds.LParen w p ts h i = refl
no_id kinds.RParen w p ts h i = refl
no_id kinds.String w p ts h i = refl
no_id kinds.Id w p ts h i = absurd (cc)
no_id kinds.Keyword w p ts h i = refl
no_id kinds.Annotation w p ts h i = refl
no_id kinds.Reserved w p ts h i = refl
no_id (kinds.Integer k) w p ts h i = refl
no_id (kinds.Float k) w p ts h i = refl

pub not_id : (s : State) (t : Token) (i : ℕ) → IsNext s t i → is_identifier t.kind ≡ false → one_of that_id (ahead s) ≡ None
not_id s t i n h = ap (one_of that_id) n.found ∙ no_id t.kind (text_of s.source.text t) t.offset (ahead (record s { at = i })) h n.seen

-- NAMES OF ANNOTATIONS
pub read_mark : (v : List ℕ) (b : Bool) (s : State) (t : Token) (i : ℕ) → IsNext s t i → is_annotation t.kind ≡ true → same_text v (marked_value (text_of s.source.text t)) ≡ b →
    one_of (that_mark v) (ahead s) ≡ (cond b (Some t.offset) None >>= λ a. Some (a, ahead (record s { at = i })))
read_mark v b s t i next h same =
    ap (one_of (that_mark v)) next.found
    ∙ ap (λ k. one_of (that_mark v) (token_of k (text_of s.source.text t) t.offset ++ ahead (record s { at = i }))) (annotation_kind t.kind h)
    ∙ ap (λ b. cond b (Some t.offset) None >>= λ a. Some (a, ahead (record s { at = i }))) same

no_mark : (v : List ℕ) (k : TokenKind) (w : List ℕ) (p : ℕ) (ts : List TextToken) → is_annotation k ≡ false → is_trivia k ≡ false → one_of (that_mark v) (token_of k w p ++ ts) ≡ None
no_mark v kinds.Whitespace w p ts h i = absurd (cc)
no_mark v kinds.LineComment w p ts h i = absurd (cc)
no_mark v kinds.BlockComment w p ts h i = absurd (cc)
no_mark v kinds.LParen w p ts h i = refl
no_mark v kinds.RParen w p ts h i = refl
no_mark v kinds.String w p ts h i = refl
no_mark v kinds.Id w p ts h i = refl
no_mark v kinds.Keyword w p ts h i = refl
no_mark v kinds.Annotation w p ts h i = absurd (cc)
no_mark v kinds.Reserved w p ts h i = refl
no_mark v (kinds.Integer k) w p ts h i = refl
no_mark v (kinds.Float k) w p ts h i = refl

pub not_mark : (v : List ℕ) (s : State) (t : Token) (i : ℕ) → IsNext s t i → is_annotation t.kind ≡ false → one_of (that_mark v) (ahead s) ≡ None
not_mark v s t i n h = ap (one_of (that_mark v)) n.found ∙ no_mark v t.kind (text_of s.source.text t) t.offset (ahead (record s { at = i })) h n.seen

-- STRINGS
pub string_kind : (k : TokenKind) → is_string k ≡ true → k ≡ kinds.String
string_kind kinds.String h = refl
string_kind _ h = absurd (cc)

no_string : (k : TokenKind) (w : List ℕ) (p : ℕ) (ts : List TextToken) → is_string k ≡ false → is_trivia k ≡ false → one_of that_text (token_of k w p ++ ts) ≡ None
no_string kinds.Whitespace w p ts h i = absurd (cc)
no_string kinds.LineComment w p ts h i = absurd (cc)
no_string kinds.BlockComment w p ts h i = absurd (cc)
no_string kinds.LParen w p ts h i = refl
no_string kinds.RParen w p ts h i = refl
no_string kinds.String w p ts h i = absurd (cc)
no_string kinds.Id w p ts h i = refl
no_string kinds.Keyword w p ts h i = refl
no_string kinds.Annotation w p ts h i = refl
no_string kinds.Reserved w p ts h i = refl
no_string (kinds.Integer k) w p ts h i = refl
no_string (kinds.Float k) w p ts h i = refl

pub not_string : (s : State) (t : Token) (i : ℕ) → IsNext s t i → is_string t.kind ≡ false → one_of that_text (ahead s) ≡ None
not_string s t i n h = ap (one_of that_text) n.found ∙ no_string t.kind (text_of s.source.text t) t.offset (ahead (record s { at = i })) h n.seen

pub read_string : (s : State) (t : Token) (i : ℕ) → IsNext s t i → is_string t.kind ≡ true → one_of that_text (ahead s) ≡ Some (string_value (text_of s.source.text t), ahead (record s { at = i }))
read_string s t i n h =
    ap (one_of that_text) n.found
    ∙ ap (λ k. one_of that_text (token_of k (text_of s.source.text t) t.offset ++ ahead (record s { at = i }))) (string_kind t.kind h)

pub string_read : (t : Token) (text same bytes : List ℕ) → text ≡ same → IsString (text_of text t) bytes → IsString (text_of same t) bytes
string_read t text same bytes e is = subst (λ y. IsString (text_of y t) bytes) e is

pub is_text : (word bytes said : List ℕ) → IsString word bytes → said ≡ bytes → IsUtf8 said → (is_utf8 (string_value word) ≡ true) × (said ≡ string_value word)
is_text word bytes said is e u =
    let same : said ≡ string_value word = e ∙ sym (string_is word bytes is) in
    (is_utf8-from_IsUtf8 (string_value word) (subst IsUtf8 same u), same)

pub no_text : (word bytes said : List ℕ) → IsString word bytes → said ≡ bytes → ¬ IsUtf8 said → is_utf8 (string_value word) ≡ false
no_text word bytes said is e n = elim (cases_Bool (is_utf8 (string_value word))) [
  | inl y ↦ absurd (n (subst IsUtf8 (string_is word bytes is ∙ sym e) (IsUtf8-from_is_utf8 (string_value word) y)))
  | inr z ↦ z
]

-- INTEGERS
-- where none is read, none of a range is
pub only_none : {A : Type 0} (p : A → Bool) (r : Reader Name ℕ A) (ts : List TextToken) → r ts ≡ None → only_reads p r ts ≡ None
only_none p r ts e = rw e refl
