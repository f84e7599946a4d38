-- Worked examples of each definition, by computation.
use Rattle.std.proofs.Common.{◌≡◌, ℕ, suc, ◌+◌, true, false, List, [], ◌∷◌, ◌++◌, Some, None, refl, codes, not, lit<}
use Rattle.std.specs.Str.{is_utf8, chars}
use lib.Utf8
use Prim.Native.String.{String}
use Rattle.wast_lexer.specs.declared.token.TokenKind.{TokenKind}
use Rattle.wast_lexer.specs.declared.token.TokenKind.TheVariants as kinds
use Rattle.wast_lexer.specs.Lexeme.{Lexeme}
use Rattle.wast_lexer.specs.Groups.Balanced.{Nothing as NoParens, Plain as OnePlain}
use Rattle.wast_grammar.specs.Tokens.{Name, as_read, is_whole, Open, Close, Id, Word, Mark, Integer, Text, Broken, Literal, number, literal, string_value, name_value, marked_value, id_name}
use Rattle.wast_grammar.specs.Significant.{TextToken, token_of, is_unknown, opens_dropped, Dropped, IsSignificant, significant, AreSignificant, IsShown}
use Rattle.wast_grammar.specs.Significant.Dropped.{Nothing, Blank, Group}
use Rattle.wast_grammar.specs.Spelling.{◌>>=◌, same_text, any_is, find_by, find_but, after, that_word, that_one, that_mark, that_id, that_integer, that_float, that_text, that_open, that_close}
use Rattle.wast_grammar.specs.Look.{same as agree, AClose, AnOpen, AWord, AMark, AnId, AnInteger, AFloat, AFault, seen_as, the_end, the_close, look, under, same_shape, This, OneOf, Begun, Any, holds, any_holds, all_hold, meet, covers_text, starts_with, Test, On, Opening, NotEnd, this_word, this_group, this_annotation, fits, clash, covers, at, any_end, apart, join, sub, unders, all_flat, faults, ask}
use Rattle.wast_grammar.specs.Alike.{move, Alike, names, places, place_of, Keeps, Matched, Carries, Same, Rising}
use Rattle.wast_grammar.proofs.SignificantLaws.{shown_law}

-- INTEGERS (6.3.1)
grouped_digits : number 10 (codes "1_000") ≡ 1000
grouped_digits = refl

hexadecimal_digits : number 16 (codes "fF") ≡ 255
hexadecimal_digits = refl

negative : literal (codes "-0x1f") ≡ record { minus = true; size = 31 }
negative = refl

plus_sign : literal (codes "+7") ≡ record { minus = false; size = 7 }
plus_sign = refl

minus_zero : literal (codes "-0") ≡ record { minus = true; size = 0 }
minus_zero = refl

-- STRINGS AND NAMES (6.3.3 to 6.3.5)
escapes : string_value (codes "\"a\\n\\41\"") ≡ 97 ∷ 10 ∷ 65 ∷ []
escapes = refl

plain_name : name_value (codes "abc") ≡ codes "abc"
plain_name = refl

quoted_mark : marked_value (codes "@\"a b\"") ≡ codes "a b"
quoted_mark = refl

id_has_name : id_name (codes "$x") ≡ Some (codes "x")
unfolding is_utf8 chars lib.Utf8.encode
id_has_name = refl

empty_id : id_name (codes "$\"\"") ≡ None
empty_id = refl

id_no_text : id_name (codes "$\"\\ff\"") ≡ None
unfolding is_utf8 chars lib.Utf8.encode
id_no_text = refl

-- SIGNIFICANT TOKENS (6.2.3 to 6.2.5)
abbrev lexeme : TokenKind → String → ℕ → Lexeme
lexeme kind text place = record { kind = kind; text = codes text; place = place }

abbrev a_name : List (List ℕ)
a_name = codes "a" ∷ []

-- `(@a b) c`
abbrev note_inside : List Lexeme
note_inside = lexeme kinds.Whitespace " " 3 ∷ lexeme kinds.Keyword "b" 4 ∷ []

abbrev noted : List Lexeme
noted = lexeme kinds.LParen "(" 0 ∷ lexeme kinds.Annotation "@a" 1 ∷ (note_inside ++ lexeme kinds.RParen ")" 5 ∷ lexeme kinds.Whitespace " " 6 ∷ lexeme kinds.Keyword "c" 7 ∷ [])

is_note : is_unknown [] (lexeme kinds.Annotation "@a" 1) ≡ true
is_note = refl

registered_note : is_unknown a_name (lexeme kinds.Annotation "@\"a\"" 1) ≡ false
registered_note = refl

note_opens : opens_dropped [] (lexeme kinds.LParen "(" 0) (lexeme kinds.Annotation "@a" 1 ∷ []) ≡ true
note_opens = refl

note_dropped : significant [] false noted ≡ Word (codes "c") 7 ∷ []
note_dropped = refl

note_kept : significant a_name false noted ≡ Open 0 ∷ Mark (codes "a") 1 ∷ Word (codes "b") 4 ∷ Close 5 ∷ Word (codes "c") 7 ∷ []
note_kept = refl

-- by the relation: the note and the space are dropped, and nothing is left behind the keyword
gap : Dropped [] (lexeme kinds.LParen "(" 0 ∷ lexeme kinds.Annotation "@a" 1 ∷ (note_inside ++ lexeme kinds.RParen ")" 5 ∷ lexeme kinds.Whitespace " " 6 ∷ []))
gap = Group note_inside (lexeme kinds.RParen ")" 5) refl refl (OnePlain (OnePlain NoParens)) refl (Blank refl Nothing)

note_significant : IsSignificant [] noted (Word (codes "c") 7 ∷ [])
note_significant = (lexeme kinds.Keyword "c" 7, [], record { gap = _; dropped = gap; split = refl; seen = refl; kept = refl }, refl, Nothing)

-- `c (@b (`: the note is not closed, and the text has no significant tokens
abbrev open_note : List Lexeme
open_note = lexeme kinds.Keyword "c" 0 ∷ lexeme kinds.LParen "(" 2 ∷ lexeme kinds.Annotation "@b" 3 ∷ lexeme kinds.LParen "(" 6 ∷ []

open_note_broken : significant a_name false open_note ≡ Word (codes "c") 0 ∷ Broken ∷ []
open_note_broken = refl

open_note_not_whole : is_whole (significant a_name false open_note) ≡ false
open_note_not_whole = refl

-- the same registered is none of the lexer's business
open_note_kept : significant (codes "b" ∷ []) false open_note ≡ Word (codes "c") 0 ∷ Open 2 ∷ Mark (codes "b") 3 ∷ Open 6 ∷ []
open_note_kept = refl

-- `$""` and then a fault
fault_behind : significant [] true (lexeme kinds.Id "$\"\"" 0 ∷ []) ≡ Id None 0 ∷ Broken ∷ []
fault_behind = refl

-- by the relation the same is shown, and nothing else
open_note_shown : IsShown a_name false open_note (Word (codes "c") 0 ∷ Broken ∷ [])
open_note_shown = (shown_law a_name false open_note (Word (codes "c") 0 ∷ Broken ∷ [])).1 refl

-- a text of no tokens
empty_text : AreSignificant false [] [] []
empty_text = ([], refl, Nothing)

integer_token : token_of (kinds.Integer (record { sign = None; hex = true })) (codes "0x10") 4 ≡ Integer (record { minus = false; size = 16 }) (codes "0x10") 4 ∷ []
integer_token = refl

-- WORDS
abbrev pub heaps : List (List ℕ × ℕ)
heaps = (codes "func", 0x70) ∷ (codes "extern", 0x6F) ∷ []

same : same_text (codes "func") (codes "func") ≡ true
same = refl

longer : same_text (codes "func") (codes "funcs") ≡ false
longer = refl

one_of_two : any_is (codes "b") (codes "a" ∷ codes "b" ∷ []) ≡ true
one_of_two = refl

second_found : find_by (λ e. e.0) (codes "extern") heaps ≡ Some (codes "extern", 0x6F)
second_found = refl

left_out : find_but (λ e. e.0) heaps (codes "extern" ∷ []) (codes "extern") ≡ None
left_out = refl

behind_prefix : after (codes "offset=") (codes "offset=8") ≡ Some (codes "8")
behind_prefix = refl

no_prefix : after (codes "offset=") (codes "align=8") ≡ None
no_prefix = refl

bound : (Some 3 >>= λ n. Some (suc n)) ≡ Some 4
bound = refl

-- ONE TOKEN
abbrev pub word_at : String → ℕ → TextToken
word_at w p = Word (codes w) p

abbrev pub named : String → Name
named n = as_read (codes n)

abbrev pub id_at : String → ℕ → TextToken
id_at n p = Id (Some (named n)) p

abbrev pub mark_at : String → ℕ → TextToken
mark_at n p = Mark (codes n) p

abbrev pub nameless_at : ℕ → TextToken
nameless_at p = Id None p

abbrev pub open_at : ℕ → TextToken
open_at p = Open p

abbrev pub close_at : ℕ → TextToken
close_at p = Close p

abbrev pub broken : TextToken
broken = Broken

abbrev pub seven : Literal
seven = record { minus = false; size = 7 }

abbrev pub seven_at : ℕ → TextToken
seven_at p = Integer seven (codes "7") p

abbrev pub text_at : String → ℕ → TextToken
text_at s p = Text (codes s) p

says_word : that_word (λ w. find_by (λ e. e.0) w heaps) (word_at "func" 3) ≡ Some ((codes "func", 0x70), 3)
says_word = refl

says_one : that_one (codes "func") (word_at "func" 3) ≡ Some 3
says_one = refl

says_mark : that_mark (codes "name") (mark_at "name" 1) ≡ Some 1
says_mark = refl

says_id : that_id (id_at "x" 1) ≡ Some (named "x", 1)
says_id = refl

-- an identifier without a name is read by nothing
says_no_id : that_id (nameless_at 1) ≡ None
says_no_id = refl

says_integer : that_integer (seven_at 2) ≡ Some (seven, 2)
says_integer = refl

-- an integer may stand for a float
says_float : that_float (seven_at 2) ≡ Some (codes "7", 2)
says_float = refl

says_text : that_text (text_at "a" 2) ≡ Some (codes "a")
says_text = refl

says_open : that_open (open_at 2) ≡ Some 2
says_open = refl

says_close : that_close (open_at 2) ≡ None
says_close = refl

-- LOOKS
-- what is seen of `(func` and of `)`, and behind one more parenthesis
looks_behind : look (open_at 0 ∷ word_at "func" 1 ∷ id_at "x" 6 ∷ []) ≡ seen_as true AWord (codes "func")
looks_behind = refl

looks_at_close : look (close_at 0 ∷ []) ≡ the_close
looks_at_close = refl

looks_at_nothing : look {N = List ℕ} {P = ℕ} [] ≡ the_end
looks_at_nothing = refl

nameless_looks : look (nameless_at 0 ∷ []) ≡ look (id_at "x" 0 ∷ [])
nameless_looks = refl

looks_no_further : under (seen_as true AWord (codes "func")) ≡ seen_as true AnOpen []
looks_no_further = refl

looks_under : under (seen_as false AWord (codes "func")) ≡ seen_as true AWord (codes "func")
looks_under = refl

two_shapes : same_shape AFloat AnInteger ≡ false
two_shapes = refl

-- TEXTS
prefix : starts_with (codes "i32.") (codes "i32.add") ≡ true
prefix = refl

abbrev pub mnemonics : List (List ℕ)
mnemonics = codes "nop" ∷ codes "then" ∷ codes "else" ∷ []

holds_of_some : holds (OneOf mnemonics (codes "then" ∷ [])) (codes "nop") ≡ true
holds_of_some = refl

not_of_others : holds (OneOf mnemonics (codes "then" ∷ [])) (codes "then") ≡ false
not_of_others = refl

meets : meet (OneOf mnemonics []) (Begun (codes "th")) ≡ true
meets = refl

does_not_meet : meet (OneOf mnemonics (codes "then" ∷ [])) (Begun (codes "th")) ≡ false
does_not_meet = refl

sets_meet : meet (OneOf mnemonics []) (OneOf (codes "func" ∷ codes "else" ∷ []) []) ≡ true
sets_meet = refl

any_so : any_holds (Begun (codes "e")) [] mnemonics ≡ true
any_so = refl

all_so : all_hold (Begun (codes "e")) [] mnemonics ≡ false
all_so = refl

covered : covers_text (This (codes "nop")) (OneOf mnemonics []) ≡ true
covered = refl

set_covered : covers_text (OneOf mnemonics (codes "nop" ∷ [])) (OneOf (codes "then" ∷ codes "else" ∷ []) []) ≡ true
set_covered = refl

-- TESTS
group_fits : fits (this_group (codes "func")) (seen_as true AWord (codes "func")) ≡ true
group_fits = refl

annotation_fits : fits (this_annotation (codes "name")) (seen_as true AMark (codes "name")) ≡ true
annotation_fits = refl

opening_fits : fits Opening (look (open_at 0 ∷ [])) ≡ true
opening_fits = refl

close_is_end : fits NotEnd the_close ≡ false
close_is_end = refl

word_and_group : clash (this_word (codes "func")) (this_group (codes "func")) ≡ false
word_and_group = refl

group_and_opening : clash (this_group (codes "func")) Opening ≡ true
group_and_opening = refl

group_covered : covers (this_group (codes "func")) Opening ≡ true
group_covered = refl

abbrev pub indices : List Test
indices = On false AnInteger Any ∷ On false AnId Any ∷ []

begins_so : at indices (id_at "x" 0 ∷ []) ≡ true
begins_so = refl

no_end_asked : any_end indices ≡ false
no_end_asked = refl

an_end_asked : any_end (On false AClose Any ∷ []) ≡ true
an_end_asked = refl

tests_apart : apart indices (this_word (codes "func") ∷ []) ≡ true
tests_apart = refl

tests_clash : apart indices (On false AnId Any ∷ []) ≡ false
tests_clash = refl

tests_joined : join indices (NotEnd ∷ []) ≡ On false AnInteger Any ∷ On false AnId Any ∷ NotEnd ∷ []
tests_joined = refl

tests_covered : sub (On false AnId Any ∷ []) indices ≡ true
tests_covered = refl

behind_parenthesis : unders (this_word (codes "func") ∷ this_group (codes "type") ∷ NotEnd ∷ []) ≡ this_group (codes "func") ∷ On true AnOpen Any ∷ Opening ∷ []
behind_parenthesis = refl

all_in_front : all_flat indices ≡ true
all_in_front = refl

-- FAULTS: a test behind a parenthesis meets one there, another does not
fault_in_front : ask indices (broken ∷ []) ≡ None
fault_in_front = refl

fault_not_met : ask indices (open_at 0 ∷ broken ∷ []) ≡ Some false
fault_not_met = refl

fault_met : ask (this_group (codes "func") ∷ []) (open_at 0 ∷ broken ∷ []) ≡ None
fault_met = refl

faults_two : faults (this_group (codes "func") ∷ []) ≡ On false AFault Any ∷ On true AFault Any ∷ []
faults_two = refl

-- NAMES AND PLACES
abbrev front : List TextToken
front = id_at "x" 0 ∷ word_at "f" 3 ∷ id_at "x" 5 ∷ []

abbrev other : List TextToken
other = id_at "y" 4 ∷ word_at "f" 7 ∷ id_at "y" 8 ∷ []

moved : move (λ n. named "y") (λ p. p + 1) (id_at "x" 0) ≡ id_at "y" 1
moved = refl

names_paired : names front other ≡ (named "x", named "y") ∷ (named "x", named "y") ∷ []
names_paired = refl

places_paired : places front other ≡ (0, 4) ∷ (3, 7) ∷ (5, 8) ∷ []
places_paired = refl

place_found : place_of (word_at "f" 3) ≡ Some 3
place_found = refl

they_are_alike : Alike front other
they_are_alike = (tt, (refl, (tt, tt)))

names_matched : Matched (names front other)
names_matched = (((λ e. refl, λ e. refl), tt), (tt, tt))

names_carried : Carries (λ n. named "y") (names front other)
names_carried = (refl, (refl, tt))

places_rise : Rising (places front other)
places_rise = ((lit< tt, lit< tt, (lit< tt, lit< tt, tt)), ((lit< tt, lit< tt, tt), (tt, tt)))

names_the_same : Same (names front front)
names_the_same = (refl, (refl, tt))

-- a renaming of two names, and the test whether they agree
test_kept : Keeps agree agree not
test_kept true true = refl
test_kept true false = refl
test_kept false true = refl
test_kept false false = refl
