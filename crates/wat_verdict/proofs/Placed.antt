-- The significant tokens of a text: their places rise, and their names are read.
use Rattle.std.proofs.Common.{◌≡◌, ℕ, suc, ◌+◌, ◌<◌, ◌≤◌, Bool, List, [], ◌∷◌, ◌++◌, length, Option, Some, None, refl, sym, ap, subst, arith}
use Rattle.std.specs.Prelude.{option_map}
use Rattle.wast_lexer.specs.declared.token.TokenKind.{TokenKind}
use Rattle.wast_lexer.specs.declared.token.TokenKind.TheVariants as kinds
use Rattle.wast_lexer.specs.Lexeme.{Lexeme}
use Rattle.wast_lexer.specs.Kinds.{is_open}
use Rattle.wast_lexer.specs.Tiling.{Tiles, ends}
use Rattle.wast_grammar.specs.Tokens.{as_read, id_name, Id}
use Rattle.wast_grammar.specs.Significant.{TextToken, token_of, IsSignificant, AreSignificant}
use Rattle.wast_grammar.specs.Alike.{Later, Rising, place_of, places}

-- PLACES
-- they rise, from one on
abbrev pub RisesFrom : ℕ → List TextToken → Type 0
RisesFrom from [] = Unit {0}
RisesFrom from (t ∷ ts) = (p : ℕ) × (place_of t ≡ Some p) × (from ≤ p) × RisesFrom (suc p) ts

-- a token behind others
record Behind (allow : Bool) (from : ℕ) (l : Lexeme) (rest : List Lexeme) : Type 0 where
  opened : Bool
  tail : List ℕ
  later : from ≤ l.place
  longer : 0 < length l.text
  tiles : Tiles allow opened (l.place + length l.text) tail rest

some_length : (w : List ℕ) → (w ≡ [] → ⊥) → 0 < length w
some_length [] n = absurd (n refl)
some_length (c ∷ w) n = omega arith

behind : (allow opened : Bool) (from : ℕ) (text : List ℕ) (gap : List Lexeme) (l : Lexeme) (rest : List Lexeme) → Tiles allow opened from text (gap ++ l ∷ rest) → Behind allow from l rest
behind allow opened from text [] l rest t = record {
  opened = ends is_open l.text;
  tail = t.0;
  later = (let e = t.1 in omega (arith, e));
  longer = some_length l.text t.3.nonempty;
  tiles = subst (λ p. Tiles allow (ends is_open l.text) (p + length l.text) t.0 rest) (sym t.1) t.4;
}
behind allow opened from text (g ∷ gap) l rest t =
    let b = behind allow (ends is_open g.text) (from + length g.text) t.0 gap l rest t.4 in
    record { opened = b.opened; tail = b.tail; later = (let h = b.later in omega (arith, h)); longer = b.longer; tiles = b.tiles }

-- where the first stands
abbrev first_place : List TextToken → Option ℕ
first_place [] = None
first_place (t ∷ ts) = place_of t

placed : (k : TokenKind) (w : List ℕ) (p : ℕ) (t : TextToken) → token_of k w p ≡ t ∷ [] → place_of t ≡ Some p
placed kinds.Whitespace w p t e = absurd (cc)
placed kinds.LineComment w p t e = absurd (cc)
placed kinds.BlockComment w p t e = absurd (cc)
placed kinds.LParen w p t e = ap first_place (sym e)
placed kinds.RParen w p t e = ap first_place (sym e)
placed kinds.Id w p t e = ap first_place (sym e)
placed kinds.Keyword w p t e = ap first_place (sym e)
placed kinds.Annotation w p t e = ap first_place (sym e)
placed (kinds.Integer kind) w p t e = ap first_place (sym e)
placed (kinds.Float kind) w p t e = ap first_place (sym e)
placed kinds.String w p t e = ap first_place (sym e)
placed kinds.Reserved w p t e = ap first_place (sym e)

sooner : (m n : ℕ) (ts : List TextToken) → m ≤ n → RisesFrom n ts → RisesFrom m ts
sooner m n [] le r = tt
sooner m n (t ∷ ts) le r = (r.0, r.1, (let h = r.2 in omega (arith, h, le)), r.3)

rises : (names : List (List ℕ)) (allow opened : Bool) (from : ℕ) (text : List ℕ) (ls : List Lexeme) (ts : List TextToken) → Tiles allow opened from text ls → IsSignificant names ls ts → RisesFrom from ts
rises names allow opened from text ls [] t s = tt
rises names allow opened from text ls (u ∷ ts) t s =
    let l = s.0 in
    let rest = s.1 in
    let b = behind allow opened from text s.2.gap l rest (subst (λ ls. Tiles allow opened from text ls) s.2.split t) in
    let h = b.longer in
    (l.place, placed l.kind l.text l.place u s.3, b.later, sooner (suc l.place) (l.place + length l.text) ts (omega (arith, h)) (rises names allow b.opened (l.place + length l.text) b.tail rest ts b.tiles s.4))

pub text_rises : (allow : Bool) (names : List (List ℕ)) (text : List ℕ) (ts : List TextToken) → AreSignificant allow names text ts → RisesFrom 0 ts
text_rises allow names text ts s = rises names allow _ 0 text s.0 ts s.1 s.2

-- the places of two such lists rise side by side
all_later : (x y : ℕ) (ts us : List TextToken) → RisesFrom (suc x) ts → RisesFrom (suc y) us → Later (x, y) (places ts us)
all_later x y [] us a b = tt
all_later x y (t ∷ ts) [] a b = tt
all_later x y (t ∷ ts) (u ∷ us) a b =
    let f = a.2 in
    let g = b.2 in
    rw (a.1, b.1) (omega (arith, f), omega (arith, g), all_later x y ts us (sooner (suc x) (suc a.0) ts (omega (arith, f)) a.3) (sooner (suc y) (suc b.0) us (omega (arith, g)) b.3))

pub both_rise : (m n : ℕ) (ts us : List TextToken) → RisesFrom m ts → RisesFrom n us → Rising (places ts us)
both_rise m n [] us a b = tt
both_rise m n (t ∷ ts) [] a b = tt
both_rise m n (t ∷ ts) (u ∷ us) a b = rw (a.1, b.1) (all_later a.0 b.0 ts us a.3 b.3, both_rise (suc a.0) (suc b.0) ts us a.3 b.3)

-- NAMES
-- they are read: none is made up
abbrev pub IsRead : TextToken → Type 0
IsRead (Id (Some n) p) = n.1 ≡ 0
IsRead t = Unit {0}

abbrev pub AreRead : List TextToken → Type 0
AreRead [] = Unit {0}
AreRead (t ∷ ts) = IsRead t × AreRead ts

read_id : (o : Option (List ℕ)) (p : ℕ) → IsRead (Id (option_map as_read o) p)
read_id None p = tt
read_id (Some bytes) p = refl

read_tokens : (k : TokenKind) (w : List ℕ) (p : ℕ) → AreRead (token_of k w p)
read_tokens kinds.Whitespace w p = tt
read_tokens kinds.LineComment w p = tt
read_tokens kinds.BlockComment w p = tt
read_tokens kinds.LParen w p = (tt, tt)
read_tokens kinds.RParen w p = (tt, tt)
read_tokens kinds.Id w p = (read_id (id_name w) p, tt)
read_tokens kinds.Keyword w p = (tt, tt)
read_tokens kinds.Annotation w p = (tt, tt)
read_tokens (kinds.Integer kind) w p = (tt, tt)
read_tokens (kinds.Float kind) w p = (tt, tt)
read_tokens kinds.String w p = (tt, tt)
read_tokens kinds.Reserved w p = (tt, tt)

are_read : (names : List (List ℕ)) (ls : List Lexeme) (ts : List TextToken) → IsSignificant names ls ts → AreRead ts
are_read names ls [] s = tt
are_read names ls (t ∷ ts) s = (let h = subst AreRead s.3 (read_tokens s.0.kind s.0.text s.0.place) in h.0, are_read names s.1 ts s.4)

pub text_read : (allow : Bool) (names : List (List ℕ)) (text : List ℕ) (ts : List TextToken) → AreSignificant allow names text ts → AreRead ts
text_read allow names text ts s = are_read names s.0 ts s.2
