-- How a reader decides: what it sees in front of it, and what it asks of that.
use Rattle.std.specs.Prelude.{Bool, true, false, not, ◌&&◌, ◌||◌, if◌then◌else◌, List, [], ◌∷◌, Option, Some, None, ℕ, nat_eq, codes}
use Rattle.wast_grammar.specs.Tokens.{SignificantToken, Open, Close, Id, Word, Mark, Integer, Float, Text, Reserved, Broken}
use Rattle.wast_grammar.specs.Spelling.{same_text, any_is}

-- LOOKS
-- what a token is by its kind alone, and what ends tokens
pub data Shape : Type 0 where
  AnEnd : Shape
  AClose : Shape
  AnOpen : Shape
  AWord : Shape
  AMark : Shape
  AnId : Shape
  AnInteger : Shape
  AFloat : Shape
  AString : Shape
  AReserved : Shape
  AFault : Shape

-- What stands in front, as far as a choice looks: the first token, or the one behind a parenthesis that opens.
pub record Look : Type 0 where
  -- whether a parenthesis opens before it
  pub deep : Bool
  pub shape : Shape
  -- its text, where it is a word, the name of an annotation or reserved
  pub text : List ℕ

abbrev pub seen_as : Bool → Shape → List ℕ → Look
seen_as deep shape text = record { deep = deep; shape = shape; text = text }

-- where nothing stands
abbrev pub the_end : Look
the_end = seen_as false AnEnd []

-- where a group ends
abbrev pub the_close : Look
the_close = seen_as false AClose []

-- the first token
abbrev pub first : {N P : Type 0} → Bool → List (SignificantToken N P) → Look
first deep [] = seen_as deep AnEnd []
first deep (Open p ∷ ts) = seen_as deep AnOpen []
first deep (Close p ∷ ts) = seen_as deep AClose []
first deep (Id n p ∷ ts) = seen_as deep AnId []
first deep (Word w p ∷ ts) = seen_as deep AWord w
first deep (Mark w p ∷ ts) = seen_as deep AMark w
first deep (Integer n w p ∷ ts) = seen_as deep AnInteger []
first deep (Float w p ∷ ts) = seen_as deep AFloat []
first deep (Text s p ∷ ts) = seen_as deep AString []
first deep (Reserved w p ∷ ts) = seen_as deep AReserved w
first deep (Broken ∷ ts) = seen_as deep AFault []

-- what stands in front of these
abbrev pub look : {N P : Type 0} → List (SignificantToken N P) → Look
look (Open p ∷ ts) = first true ts
look ts = first false ts

-- what a parenthesis before it makes of a look
abbrev pub under : Look → Look
under x = if x.deep then seen_as true AnOpen [] else seen_as true x.shape x.text

-- TEXTS
-- whether two answers agree
abbrev pub same : Bool → Bool → Bool
same true b = b
same false b = not b

abbrev pub same_shape : Shape → Shape → Bool
same_shape AnEnd AnEnd = true
same_shape AClose AClose = true
same_shape AnOpen AnOpen = true
same_shape AWord AWord = true
same_shape AMark AMark = true
same_shape AnId AnId = true
same_shape AnInteger AnInteger = true
same_shape AFloat AFloat = true
same_shape AString AString = true
same_shape AReserved AReserved = true
same_shape AFault AFault = true
same_shape s r = false

-- whether a text begins with another
abbrev pub starts_with : List ℕ → List ℕ → Bool
starts_with [] w = true
starts_with (c ∷ p) [] = false
starts_with (c ∷ p) (d ∷ w) = nat_eq c d && starts_with p w

-- What a text may be: this one, one of these but some, one that begins so, any.
pub data Texts : Type 0 where
  This : List ℕ → Texts
  OneOf : (words but : List (List ℕ)) → Texts
  Begun : List ℕ → Texts
  Any : Texts

-- whether a text is so
abbrev pub holds : Texts → List ℕ → Bool
holds (This v) w = same_text v w
holds (OneOf words but) w = any_is w words && not (any_is w but)
holds (Begun p) w = starts_with p w
holds Any w = true

-- whether one of these words but some is so, and whether all of them are
abbrev pub any_holds : Texts → List (List ℕ) → List (List ℕ) → Bool
any_holds t but [] = false
any_holds t but (w ∷ words) = elim (holds t w && not (any_is w but)) [ true ↦ true | false ↦ any_holds t but words ]

abbrev pub all_hold : Texts → List (List ℕ) → List (List ℕ) → Bool
all_hold t but [] = true
all_hold t but (w ∷ words) = elim (holds t w || any_is w but) [ true ↦ all_hold t but words | false ↦ false ]

-- whether some text may be both
abbrev pub meet : Texts → Texts → Bool
meet (This v) t = holds t v
meet t (This v) = holds t v
meet (OneOf words but) t = any_holds t but words
meet t (OneOf words but) = any_holds t but words
meet (Begun p) (Begun q) = starts_with p q || starts_with q p
meet s t = true

-- whether each text that is one is the other too; false where that isn't looked into
abbrev pub covers_text : Texts → Texts → Bool
covers_text t Any = true
covers_text (This v) t = holds t v
covers_text (OneOf words but) t = all_hold t but words
covers_text (Begun p) (Begun q) = starts_with q p
covers_text s t = false

-- TESTS
-- What a choice asks: a token of this shape and text, in front or behind a parenthesis; a parenthesis that opens; anything
-- but an end, which a parenthesis that closes is too.
pub data Test : Type 0 where
  On : (deep : Bool) → Shape → Texts → Test
  Opening : Test
  NotEnd : Test

-- a word, and a word behind a parenthesis
abbrev pub this_word : List ℕ → Test
this_word v = On false AWord (This v)

abbrev pub this_group : List ℕ → Test
this_group v = On true AWord (This v)

-- the name of an annotation behind a parenthesis
abbrev pub this_annotation : List ℕ → Test
this_annotation v = On true AMark (This v)

-- an identifier, an integer, an index, a string, a use of a type
abbrev pub id_starts : List Test
id_starts = On false AnId Any ∷ []

abbrev pub integer_starts : List Test
integer_starts = On false AnInteger Any ∷ []

abbrev pub index_starts : List Test
index_starts = On false AnInteger Any ∷ On false AnId Any ∷ []

abbrev pub string_starts : List Test
string_starts = On false AString Any ∷ []

abbrev pub type_starts : List Test
type_starts = this_group (codes "type") ∷ []

abbrev pub is_end : Shape → Bool
is_end AnEnd = true
is_end AClose = true
is_end s = false

-- whether a shape in front is an end
abbrev pub ends : Bool → Shape → Bool
ends deep shape = not deep && is_end shape

-- whether a look is as a test asks
abbrev pub fits : Test → Look → Bool
fits (On d s t) x = same d x.deep && (same_shape s x.shape && holds t x.text)
fits Opening x = x.deep
fits NotEnd x = not (ends x.deep x.shape)

-- whether one look may be as both ask
abbrev pub clash : Test → Test → Bool
clash (On d s t) (On c r u) = same d c && (same_shape s r && meet t u)
clash (On d s t) Opening = d
clash Opening (On d s t) = d
clash (On d s t) NotEnd = not (ends d s)
clash NotEnd (On d s t) = not (ends d s)
clash t u = true

-- whether each look that is as one asks is as the other asks too
abbrev pub covers : Test → Test → Bool
covers (On d s t) (On c r u) = same d c && (same_shape s r && covers_text t u)
covers (On d s t) Opening = d
covers (On d s t) NotEnd = not (ends d s)
covers Opening Opening = true
covers Opening NotEnd = true
covers NotEnd NotEnd = true
covers t u = false

-- LISTS OF TESTS: what one of them asks
abbrev pub any_fits : List Test → Look → Bool
any_fits [] x = false
any_fits (t ∷ ts) x = if fits t x then true else any_fits ts x

-- whether the tokens begin as one of these asks
abbrev pub at : {N P : Type 0} → List Test → List (SignificantToken N P) → Bool
at tests ts = any_fits tests (look ts)

-- whether one of them asks for an end
abbrev pub any_end : List Test → Bool
any_end tests = any_fits tests the_end || any_fits tests the_close

-- whether one look may be as the first and one of the others ask
abbrev pub any_clash : Test → List Test → Bool
any_clash t [] = false
any_clash t (u ∷ us) = if clash t u then true else any_clash t us

-- whether no look is as one of each asks
abbrev pub apart : List Test → List Test → Bool
apart [] us = true
apart (t ∷ ts) us = if any_clash t us then false else apart ts us

-- what one or the other list asks
abbrev pub join : List Test → List Test → List Test
join [] us = us
join (t ∷ ts) us = t ∷ join ts us

-- whether what one of the first asks one of the others asks too
abbrev pub any_covers : Test → List Test → Bool
any_covers t [] = false
any_covers t (u ∷ us) = if covers t u then true else any_covers t us

abbrev pub sub : List Test → List Test → Bool
sub [] us = true
sub (t ∷ ts) us = any_covers t us && sub ts us

-- the same, a parenthesis before it
abbrev pub under_test : Test → Test
under_test (On d s t) = if d then On true AnOpen Any else On true s t
under_test Opening = On true AnOpen Any
under_test NotEnd = Opening

abbrev pub unders : List Test → List Test
unders [] = []
unders (t ∷ ts) = under_test t ∷ unders ts

-- whether each asks for a token in front that is no parenthesis
abbrev pub is_plain : Shape → Bool
is_plain AnEnd = false
is_plain AClose = false
is_plain AnOpen = false
is_plain s = true

abbrev pub is_flat : Test → Bool
is_flat (On d s t) = not d && is_plain s
is_flat t = false

abbrev pub all_flat : List Test → Bool
all_flat [] = true
all_flat (t ∷ ts) = is_flat t && all_flat ts

-- FAULTS
-- whether a test looks behind a parenthesis
abbrev pub is_deep : Test → Bool
is_deep (On d s t) = d
is_deep t = false

abbrev pub any_deep : List Test → Bool
any_deep [] = false
any_deep (t ∷ ts) = if is_deep t then true else any_deep ts

-- what looking so may not meet: a fault at the first token, and at the second where a test looks behind a parenthesis
abbrev pub faults : List Test → List Test
faults tests = On false AFault Any ∷ (if any_deep tests then On true AFault Any ∷ [] else [])

-- the answer of a look, or none where it meets a fault
abbrev pub ask : {N P : Type 0} → List Test → List (SignificantToken N P) → Option Bool
ask tests ts = if at (faults tests) ts then None else Some (at tests ts)
