-- The function of significant tokens and its relation agree.
use Rattle.std.proofs.Common.{◌≡◌, ◌↔◌, inl, inr, ℕ, zero, suc, ◌+◌, ◌≤◌, Bool, true, false, cond, ◌&&◌, not, List, [], ◌∷◌, ◌++◌, Option, Some, None, length, map, drop, refl, sym, ◌∙◌, ap, subst, arith, append_assoc, append-nil, length-append}
use Rattle.std.proofs.lemmas.Bool.{cases_Bool, and_parts}
use Rattle.wast_lexer.specs.declared.token.TokenKind.{TokenKind}
use Rattle.wast_lexer.specs.declared.token.TokenKind.TheVariants as kinds
use Rattle.wast_lexer.specs.Groups.{Balanced, paren_of}
use Rattle.wast_lexer.specs.Groups.Balanced.{Nothing as NoParens, Plain as OnePlain, Group as OneGroup}
use Rattle.wast_lexer.specs.ParenEnds.{closing, one_more}
use Rattle.wast_lexer.specs.Tiling.{is_annotation}
use Rattle.wast_lexer.specs.Lexeme.{Lexeme}
use Rattle.wast_lexer.proofs.ParenEndLaws.{groups}
use Rattle.wast_lexer.proofs.TilingLaws.{tile_once}
use Rattle.wast_grammar.specs.Tokens.{Open, Close, Id, Word, Mark, Integer, Float, Text, Reserved, Broken, marked_value, is_whole}
use Rattle.wast_grammar.specs.Spelling.{any_is}
use Rattle.wast_grammar.specs.Significant.{TextToken, token_of, is_trivia, is_lparen, is_unknown, begins_unknown, opens_dropped, Dropped, Shows, IsSignificant, AreSignificant, IsUnclosed, IsShown, behind, at_end, shown, significant}
use Rattle.wast_grammar.specs.Significant.Dropped.{Nothing, Blank, Group}
use Rattle.wast_grammar.proofs.Looks.{heads_same, tails_same}
use Rattle.wast_lexer.proofs.Basics.{cases_option}

-- KINDS
pub annotation_kind : (k : TokenKind) → is_annotation k ≡ true → k ≡ kinds.Annotation
annotation_kind kinds.Annotation h = refl
annotation_kind _ h = absurd (cc)

pub lparen_kind : (k : TokenKind) → is_lparen k ≡ true → k ≡ kinds.LParen
lparen_kind kinds.LParen h = refl
lparen_kind _ h = absurd (cc)

closing_kind : (k : TokenKind) → paren_of k ≡ paren_of kinds.RParen → k ≡ kinds.RParen
closing_kind kinds.RParen h = refl
closing_kind _ h = absurd (cc)

pub trivia_none : (k : TokenKind) (w : List ℕ) (p : ℕ) → is_trivia k ≡ true → token_of k w p ≡ []
trivia_none kinds.Whitespace w p h = refl
trivia_none kinds.LineComment w p h = refl
trivia_none kinds.BlockComment w p h = refl
trivia_none _ w p h = absurd (cc)

pub trivia_opens : (k : TokenKind) (b : Bool) → is_trivia k ≡ true → is_lparen k && b ≡ false
trivia_opens kinds.Whitespace b h = refl
trivia_opens kinds.LineComment b h = refl
trivia_opens kinds.BlockComment b h = refl
trivia_opens _ b h = absurd (cc)

-- what is neither white space nor a comment is one token, and not a broken one
pub one_token : (k : TokenKind) (w : List ℕ) (p : ℕ) → is_trivia k ≡ false → (t : TextToken) × (token_of k w p ≡ t ∷ [])
one_token kinds.Whitespace w p h = absurd (cc)
one_token kinds.LineComment w p h = absurd (cc)
one_token kinds.BlockComment w p h = absurd (cc)
one_token kinds.LParen w p h = (_, refl)
one_token kinds.RParen w p h = (_, refl)
one_token kinds.String w p h = (_, refl)
one_token kinds.Keyword w p h = (_, refl)
one_token (kinds.Integer k) w p h = (_, refl)
one_token (kinds.Float k) w p h = (_, refl)
one_token kinds.Id w p h = (_, refl)
one_token kinds.Annotation w p h = (_, refl)
one_token kinds.Reserved w p h = (_, refl)

whole_token : (k : TokenKind) (w : List ℕ) (p : ℕ) → is_whole (token_of k w p) ≡ true
whole_token kinds.Whitespace w p = refl
whole_token kinds.LineComment w p = refl
whole_token kinds.BlockComment w p = refl
whole_token kinds.LParen w p = refl
whole_token kinds.RParen w p = refl
whole_token kinds.String w p = refl
whole_token kinds.Keyword w p = refl
whole_token (kinds.Integer k) w p = refl
whole_token (kinds.Float k) w p = refl
whole_token kinds.Id w p = refl
whole_token kinds.Annotation w p = refl
whole_token kinds.Reserved w p = refl

whole_more : (t : TextToken) (ts : List TextToken) → is_whole (t ∷ []) ≡ true → is_whole (t ∷ ts) ≡ is_whole ts
whole_more (Open p) ts h = refl
whole_more (Close p) ts h = refl
whole_more (Id n p) ts h = refl
whole_more (Word w p) ts h = refl
whole_more (Mark w p) ts h = refl
whole_more (Integer n w p) ts h = refl
whole_more (Float w p) ts h = refl
whole_more (Text s p) ts h = refl
whole_more (Reserved w p) ts h = refl
whole_more Broken ts h = absurd (cc)

-- LISTS
-- where the image of a list splits, so does the list
split_map : {X Y : Type 0} (f : X → Y) (ls : List X) (xs : List Y) (y : Y) (ys : List Y) → map f ls ≡ xs ++ y ∷ ys →
    (a : List X) × (c : X) × (b : List X) × (ls ≡ a ++ c ∷ b) × (map f a ≡ xs) × (f c ≡ y)
split_map f [] [] y ys e = cc
split_map f [] (x ∷ xs) y ys e = cc
split_map f (l ∷ ls) [] y ys e = ([], l, ls, refl, refl, heads_same e)
split_map f (l ∷ ls) (x ∷ xs) y ys e =
    let s = split_map f ls xs y ys (tails_same e) in
    (l ∷ s.0, s.1, s.2, ap (λ z. l ∷ z) s.3, ap (λ z. z ∷ map f s.0) (heads_same e) ∙ ap (λ z. x ∷ z) s.4, s.5)

map_seam : {X Y : Type 0} (f : X → Y) (inner : List X) (c : X) (ls : List X) → map f (inner ++ c ∷ ls) ≡ map f inner ++ f c ∷ map f ls
map_seam f [] c ls = refl
map_seam f (x ∷ inner) c ls = ap (λ y. f x ∷ y) (map_seam f inner c ls)

map_length : {X Y : Type 0} (f : X → Y) (inner : List X) → length (map f inner) ≡ length inner
map_length f [] = refl
map_length f (x ∷ inner) = ap suc (map_length f inner)

drop_seam : {X : Type 0} (inner : List X) (c : X) (ls : List X) → drop (suc (length inner)) (inner ++ c ∷ ls) ≡ ls
drop_seam [] c ls = refl
drop_seam (x ∷ inner) c ls = drop_seam inner c ls

-- what balances behind an annotation
inside_plain : {ts : List _} → Balanced ts → (x : List _) → ts ≡ paren_of kinds.Annotation ∷ x → Balanced x
inside_plain NoParens x e = absurd (cc)
inside_plain (OnePlain b) x e = subst Balanced (tails_same e) b
inside_plain (OneGroup b c) x e = absurd (cc)

-- GROUPS THAT ARE DROPPED
module _ (names : List (List ℕ)) where
  -- a group with its parenthesis that closes, in front of these
  pub record Closed (ls : List Lexeme) : Type 0 where
    pub inner : List Lexeme
    pub close_at : Lexeme
    pub rest : List Lexeme
    pub balanced : Balanced (map (λ l. paren_of l.kind) inner)
    pub closes : close_at.kind ≡ kinds.RParen
    pub split : ls ≡ inner ++ close_at ∷ rest

  closing_at : (ls : List Lexeme) (g : Closed ls) → closing 0 (map (λ l. paren_of l.kind) ls) ≡ Some (length g.inner)
  closing_at ls g =
      let parens = λ (l : Lexeme). paren_of l.kind in
      let split = ap (map parens) g.split ∙ map_seam parens g.inner g.close_at g.rest ∙ ap (λ k. map parens g.inner ++ paren_of k ∷ map parens g.rest) g.closes in
      (groups (map parens ls) (length g.inner)).1 (map parens g.inner, map parens g.rest, g.balanced, split, sym (map_length parens g.inner))

  closed_at : (ls : List Lexeme) (n : ℕ) → closing 0 (map (λ l. paren_of l.kind) ls) ≡ Some n → (g : Closed ls) × (n ≡ length g.inner)
  closed_at ls n h =
      let parens = λ (l : Lexeme). paren_of l.kind in
      let g = (groups (map parens ls) n).0 h in
      let s = split_map parens ls g.0 (paren_of kinds.RParen) g.1 g.3 in
      (record { inner = s.0; close_at = s.1; rest = s.2; balanced = subst Balanced (sym s.4) g.2; closes = closing_kind s.1.kind s.5; split = s.3 }, g.4 ∙ ap length (sym s.4) ∙ map_length parens s.0)

  -- the same behind an annotation, which is no parenthesis
  unknown_kind : (a : Lexeme) → is_unknown names a ≡ true → a.kind ≡ kinds.Annotation
  unknown_kind a h = annotation_kind a.kind (and_parts (is_annotation a.kind) (not (any_is (marked_value a.text) names)) h).0

  abbrev behind_mark : (a : Lexeme) (ls : List Lexeme) → is_unknown names a ≡ true → Closed ls → Closed (a ∷ ls)
  behind_mark a ls h g = record {
    inner = a ∷ g.inner;
    close_at = g.close_at;
    rest = g.rest;
    balanced = subst (λ k. Balanced (paren_of k ∷ map (λ l. paren_of l.kind) g.inner)) (sym (unknown_kind a h)) (OnePlain g.balanced);
    closes = g.closes;
    split = ap (λ y. a ∷ y) g.split;
  }

  no_close : (k l : TokenKind) → k ≡ kinds.Annotation → l ≡ kinds.RParen → k ≡ l → ⊥
  no_close k l e f h = let q : kinds.Annotation ≡ kinds.RParen = sym e ∙ h ∙ f in absurd (cc)

  before_mark : (a : Lexeme) (ls : List Lexeme) → is_unknown names a ≡ true → (g : Closed (a ∷ ls)) → (h : Closed ls) × (g.inner ≡ a ∷ h.inner) × (g.rest ≡ h.rest)
  before_mark a ls h g = of_inner g.inner g.close_at g.rest g.balanced g.closes g.split
    where
      of_inner : (inner : List Lexeme) (c : Lexeme) (rest : List Lexeme) → Balanced (map (λ l. paren_of l.kind) inner) → c.kind ≡ kinds.RParen → a ∷ ls ≡ inner ++ c ∷ rest → (h : Closed ls) × (inner ≡ a ∷ h.inner) × (rest ≡ h.rest)
      of_inner [] c rest b closes e = absurd (no_close a.kind c.kind (unknown_kind a h) closes (ap (λ l. l.kind) (heads_same e)))
      of_inner (x ∷ inner) c rest b closes e =
          let same : a ≡ x = heads_same e in
          let inside = inside_plain b (map (λ l. paren_of l.kind) inner) (ap (λ k. paren_of k ∷ map (λ l. paren_of l.kind) inner) (ap (λ l. l.kind) (sym same) ∙ unknown_kind a h)) in
          (record { inner = inner; close_at = c; rest = rest; balanced = inside; closes = closes; split = tails_same e }, ap (λ y. y ∷ inner) (sym same), refl)

module _ (names : List (List ℕ)) (broken : Bool) where
  -- what is shown behind the group that closes there
  abbrev pub after : List Lexeme → Option ℕ → List TextToken
  after ls None = Broken ∷ []
  after ls (Some n) = shown names broken 0 (drop (suc n) ls)

  after_more : (l : Lexeme) (ls : List Lexeme) (o : Option ℕ) → after ls o ≡ after (l ∷ ls) (one_more o)
  after_more l ls None = refl
  after_more l ls (Some n) = let e : suc n ≡ n + 1 = omega arith in ap (λ k. shown names broken 0 (drop k ls)) e

  turn : (k : TokenKind) (d : ℕ) (l : Lexeme) (ls : List Lexeme) → ((e : ℕ) → shown names broken (suc e) ls ≡ after ls (closing e (map (λ l. paren_of l.kind) ls))) →
      shown names broken (behind k d) ls ≡ after (l ∷ ls) (closing d (paren_of k ∷ map (λ l. paren_of l.kind) ls))
  turn kinds.LParen d l ls ih = ih (suc d) ∙ (let e : suc d ≡ d + 1 = omega arith in ap (λ k. after ls (closing k (map (λ l. paren_of l.kind) ls))) e) ∙ after_more l ls (closing (d + 1) (map (λ l. paren_of l.kind) ls))
  turn kinds.RParen zero l ls ih = refl
  turn kinds.RParen (suc d) l ls ih = ih d ∙ after_more l ls (closing d (map (λ l. paren_of l.kind) ls))
  turn kinds.Whitespace d l ls ih = ih d ∙ after_more l ls (closing d (map (λ l. paren_of l.kind) ls))
  turn kinds.LineComment d l ls ih = ih d ∙ after_more l ls (closing d (map (λ l. paren_of l.kind) ls))
  turn kinds.BlockComment d l ls ih = ih d ∙ after_more l ls (closing d (map (λ l. paren_of l.kind) ls))
  turn kinds.String d l ls ih = ih d ∙ after_more l ls (closing d (map (λ l. paren_of l.kind) ls))
  turn kinds.Id d l ls ih = ih d ∙ after_more l ls (closing d (map (λ l. paren_of l.kind) ls))
  turn kinds.Keyword d l ls ih = ih d ∙ after_more l ls (closing d (map (λ l. paren_of l.kind) ls))
  turn kinds.Annotation d l ls ih = ih d ∙ after_more l ls (closing d (map (λ l. paren_of l.kind) ls))
  turn kinds.Reserved d l ls ih = ih d ∙ after_more l ls (closing d (map (λ l. paren_of l.kind) ls))
  turn (kinds.Integer k) d l ls ih = ih d ∙ after_more l ls (closing d (map (λ l. paren_of l.kind) ls))
  turn (kinds.Float k) d l ls ih = ih d ∙ after_more l ls (closing d (map (λ l. paren_of l.kind) ls))

  -- behind an open group that is dropped
  pub passed : (d : ℕ) (ls : List Lexeme) → shown names broken (suc d) ls ≡ after ls (closing d (map (λ l. paren_of l.kind) ls))
  passed d [] = refl
  passed d (l ∷ ls) = turn l.kind d l ls (λ e. passed e ls)

  pub opened : (o a : Lexeme) (ls : List Lexeme) → o.kind ≡ kinds.LParen → is_unknown names a ≡ true →
      shown names broken 0 (o ∷ a ∷ ls) ≡ after (a ∷ ls) (closing 0 (map (λ l. paren_of l.kind) (a ∷ ls)))
  opened o a ls opens unknown =
      let drops : is_lparen o.kind && is_unknown names a ≡ true = ap (λ k. is_lparen k && is_unknown names a) opens ∙ unknown in
      ap (λ b. cond b (shown names broken 1 (a ∷ ls)) (token_of o.kind o.text o.place ++ shown names broken 0 (a ∷ ls))) drops
      ∙ passed 0 (a ∷ ls)

  -- WHAT IS DROPPED
  blank_passed : (l : Lexeme) (ls : List Lexeme) → is_trivia l.kind ≡ true → shown names broken 0 (l ∷ ls) ≡ shown names broken 0 ls
  blank_passed l ls is =
      ap (λ b. cond b (shown names broken 1 ls) (token_of l.kind l.text l.place ++ shown names broken 0 ls)) (trivia_opens l.kind (begins_unknown names ls) is)
      ∙ ap (λ y. y ++ shown names broken 0 ls) (trivia_none l.kind l.text l.place is)

  group_passed : (o a : Lexeme) (ls : List Lexeme) → o.kind ≡ kinds.LParen → is_unknown names a ≡ true → (g : Closed names ls) → shown names broken 0 (o ∷ a ∷ ls) ≡ shown names broken 0 g.rest
  group_passed o a ls opens unknown g =
      let h = behind_mark names a ls unknown g in
      opened o a ls opens unknown
      ∙ ap (after (a ∷ ls)) (closing_at names (a ∷ ls) h)
      ∙ ap (λ y. shown names broken 0 (drop (suc (length h.inner)) y)) h.split
      ∙ ap (shown names broken 0) (drop_seam h.inner g.close_at g.rest)

  pub dropped_passed : (gap : List Lexeme) → Dropped names gap → (ls : List Lexeme) → shown names broken 0 (gap ++ ls) ≡ shown names broken 0 ls
  dropped_passed gap Nothing ls = refl
  dropped_passed gap (Blank {l} {ls = more} is d) ls = blank_passed l (more ++ ls) is ∙ dropped_passed more d ls
  dropped_passed gap (Group {o} {a} {ls = more} inner c opens unknown balanced closes d) ls =
      group_passed o a ((inner ++ c ∷ more) ++ ls) opens unknown (record { inner = inner; close_at = c; rest = more ++ ls; balanced = balanced; closes = closes; split = append_assoc inner (c ∷ more) ls })
      ∙ dropped_passed more d ls

  unclosed_shown : (ls : List Lexeme) → IsUnclosed names ls → shown names broken 0 ls ≡ Broken ∷ []
  unclosed_shown ls u =
      ap (shown names broken 0) u.split
      ∙ dropped_passed u.gap u.dropped (u.open_at ∷ u.mark_at ∷ u.rest)
      ∙ opened u.open_at u.mark_at u.rest u.opens u.unknown
      ∙ elim (cases_option (closing 0 (map (λ l. paren_of l.kind) (u.mark_at ∷ u.rest)))) [
        | inl none ↦ ap (after (u.mark_at ∷ u.rest)) none
        | inr some ↦ (
            let g = closed_at names (u.mark_at ∷ u.rest) some.0 some.1 in
            let h = before_mark names u.mark_at u.rest u.unknown g.0 in
            absurd (u.unclosed h.0.inner h.0.rest h.0.close_at h.0.balanced h.0.closes h.0.split))
      ]

  pub shows_first : (ls : List Lexeme) (l : Lexeme) (rest : List Lexeme) → Shows names ls l rest → shown names broken 0 ls ≡ token_of l.kind l.text l.place ++ shown names broken 0 rest
  shows_first ls l rest s =
      ap (shown names broken 0) s.split
      ∙ dropped_passed s.gap s.dropped (l ∷ rest)
      ∙ ap (λ b. cond b (shown names broken 1 rest) (token_of l.kind l.text l.place ++ shown names broken 0 rest)) s.kept

  dropped_all : (ls : List Lexeme) → Dropped names ls → shown names broken 0 ls ≡ at_end broken
  dropped_all ls d = ap (shown names broken 0) (sym (append-nil ls)) ∙ dropped_passed ls d []

  -- FROM THE RELATION
  pub shown_is : (ls : List Lexeme) (ts : List TextToken) → IsShown names broken ls ts → shown names broken 0 ls ≡ ts
  shown_is ls [] s = dropped_all ls s.0 ∙ ap at_end s.1
  shown_is ls (t ∷ ts) (inl s) = elim s.1 [
    | inl d ↦ dropped_all ls d.0 ∙ ap at_end d.1 ∙ sym s.0
    | inr u ↦ unclosed_shown ls u ∙ sym s.0
  ]
  shown_is ls (t ∷ ts) (inr s) =
      shows_first ls s.0 s.1 s.2
      ∙ ap (λ y. y ++ shown names broken 0 s.1) s.3
      ∙ ap (λ y. t ∷ y) (shown_is s.1 ts s.4)

  -- TO THE RELATION
  join_dropped : (a : List Lexeme) → Dropped names a → (b : List Lexeme) → Dropped names b → Dropped names (a ++ b)
  join_dropped a Nothing b e = e
  join_dropped a (Blank {l} {ls = more} is d) b e = Blank is (join_dropped more d b e)
  join_dropped a (Group {o} {a = m} {ls = more} inner c opens unknown balanced closes d) b e =
      subst (λ y. Dropped names (o ∷ m ∷ y)) (sym (append_assoc inner (c ∷ more) b)) (Group inner c opens unknown balanced closes (join_dropped more d b e))

  -- behind what is dropped the same is shown
  unclosed_behind : (gap : List Lexeme) → Dropped names gap → (ls : List Lexeme) → IsUnclosed names ls → IsUnclosed names (gap ++ ls)
  unclosed_behind gap d ls u = record {
    gap = gap ++ u.gap;
    open_at = u.open_at;
    mark_at = u.mark_at;
    rest = u.rest;
    dropped = join_dropped gap d u.gap u.dropped;
    split = ap (λ y. gap ++ y) u.split ∙ sym (append_assoc gap u.gap (u.open_at ∷ u.mark_at ∷ u.rest));
    opens = u.opens;
    unknown = u.unknown;
    unclosed = u.unclosed;
  }

  shows_behind : (gap : List Lexeme) → Dropped names gap → (ls : List Lexeme) (l : Lexeme) (rest : List Lexeme) → Shows names ls l rest → Shows names (gap ++ ls) l rest
  shows_behind gap d ls l rest s = record {
    gap = gap ++ s.gap;
    dropped = join_dropped gap d s.gap s.dropped;
    split = ap (λ y. gap ++ y) s.split ∙ sym (append_assoc gap s.gap (l ∷ rest));
    seen = s.seen;
    kept = s.kept;
  }

  shown_behind : (gap : List Lexeme) → Dropped names gap → (ls : List Lexeme) (ts : List TextToken) → IsShown names broken ls ts → IsShown names broken (gap ++ ls) ts
  shown_behind gap d ls [] s = (join_dropped gap d ls s.0, s.1)
  shown_behind gap d ls (t ∷ ts) (inl s) = inl (
    s.0,
    elim s.1 [
      | inl e ↦ inl (join_dropped gap d ls e.0, e.1)
      | inr u ↦ inr (unclosed_behind gap d ls u)
    ],
  )
  shown_behind gap d ls (t ∷ ts) (inr s) = inr (s.0, s.1, shows_behind gap d ls s.0 s.1 s.2, s.3, s.4)

  first_shown : (l : Lexeme) (ls : List Lexeme) (ts : List TextToken) → is_trivia l.kind ≡ false → opens_dropped names l ls ≡ false → IsShown names broken ls ts → IsShown names broken (l ∷ ls) (token_of l.kind l.text l.place ++ ts)
  first_shown l ls ts seen kept s =
      let t = one_token l.kind l.text l.place seen in
      subst (λ y. IsShown names broken (l ∷ ls) (y ++ ts)) (sym t.1)
      (inr (l, ls, record { gap = []; dropped = Nothing; split = refl; seen = seen; kept = kept }, t.1, s))

  rest_short : (n : ℕ) (ls : List Lexeme) (g : Closed names ls) → length ls ≤ n → length g.rest ≤ n
  rest_short n ls g l = let e = ap length g.split ∙ length-append g.inner (g.close_at ∷ g.rest) in omega (arith, e, l)

  at_none : (b : Bool) → broken ≡ b → IsShown names broken [] (at_end b)
  at_none false e = (Nothing, e)
  at_none true e = inl (refl, inl (Nothing, e))

  -- a group that is dropped opens
  group_shown : (n : ℕ) → ((ls : List Lexeme) → length ls ≤ n → IsShown names broken ls (shown names broken 0 ls)) →
      (o a : Lexeme) (ls : List Lexeme) → length ls ≤ n → o.kind ≡ kinds.LParen → is_unknown names a ≡ true → IsShown names broken (o ∷ a ∷ ls) (shown names broken 0 (o ∷ a ∷ ls))
  group_shown n ih o a ls l opens unknown = elim (cases_option (closing 0 (map (λ l. paren_of l.kind) (a ∷ ls)))) [
    | inl none ↦
        subst (λ y. IsShown names broken (o ∷ a ∷ ls) y) (sym (opened o a ls opens unknown ∙ ap (after (a ∷ ls)) none))
        (inl (
          refl,
          inr (record {
            gap = [];
            open_at = o;
            mark_at = a;
            rest = ls;
            dropped = Nothing;
            split = refl;
            opens = opens;
            unknown = unknown;
            unclosed = λ inner rest c balanced closes split. never none (closing_at names (a ∷ ls) (behind_mark names a ls unknown (record { inner = inner; close_at = c; rest = rest; balanced = balanced; closes = closes; split = split })));
          }),
        ))
    | inr some ↦ (
        let g = closed_at names (a ∷ ls) some.0 some.1 in
        let h = (before_mark names a ls unknown g.0).0 in
        let e : (o ∷ a ∷ (h.inner ++ h.close_at ∷ [])) ++ h.rest ≡ o ∷ a ∷ ls = ap (λ y. o ∷ a ∷ y) (append_assoc h.inner (h.close_at ∷ []) h.rest ∙ sym h.split) in
        let d : Dropped names (o ∷ a ∷ (h.inner ++ h.close_at ∷ [])) = Group h.inner h.close_at opens unknown h.balanced h.closes Nothing in
        subst (λ y. IsShown names broken (o ∷ a ∷ ls) y) (sym (group_passed o a ls opens unknown h))
        (subst (λ y. IsShown names broken y (shown names broken 0 h.rest)) e
        (shown_behind (o ∷ a ∷ (h.inner ++ h.close_at ∷ [])) d h.rest (shown names broken 0 h.rest) (ih h.rest (rest_short n ls h l)))))
  ]
    where
      never : {o : Option ℕ} {n : ℕ} → o ≡ None → o ≡ Some n → ⊥
      never p q = cc

  is_shown : (n : ℕ) (ls : List Lexeme) → length ls ≤ n → IsShown names broken ls (shown names broken 0 ls)
  is_shown n [] h = at_none broken refl
  is_shown zero (l ∷ ls) h = let no : ⊥ = omega (arith, h) in absurd no
  is_shown (suc n) (l ∷ ls) h = elim (cases_Bool (opens_dropped names l ls)) [
    | inl drops ↦ dropped_first n (λ ls h. is_shown n ls h) l ls h drops
    | inr kept ↦ kept_first (is_shown n ls (omega (arith, h))) kept
  ]
    where
      kept_first : IsShown names broken ls (shown names broken 0 ls) → opens_dropped names l ls ≡ false → IsShown names broken (l ∷ ls) (shown names broken 0 (l ∷ ls))
      kept_first s kept = elim (cases_Bool (is_trivia l.kind)) [
        | inl is ↦ subst (λ y. IsShown names broken (l ∷ ls) y) (sym (blank_passed l ls is)) (shown_behind (l ∷ []) (Blank is Nothing) ls (shown names broken 0 ls) s)
        | inr seen ↦ subst (λ y. IsShown names broken (l ∷ ls) y) (sym (ap (λ b. cond b (shown names broken 1 ls) (token_of l.kind l.text l.place ++ shown names broken 0 ls)) kept)) (first_shown l ls (shown names broken 0 ls) seen kept s)
      ]

      dropped_first : (n : ℕ) → ((ls : List Lexeme) → length ls ≤ n → IsShown names broken ls (shown names broken 0 ls)) → (l : Lexeme) (ls : List Lexeme) → length (l ∷ ls) ≤ suc n → opens_dropped names l ls ≡ true → IsShown names broken (l ∷ ls) (shown names broken 0 (l ∷ ls))
      dropped_first n ih l [] h drops = let q = and_parts (is_lparen l.kind) false drops in absurd (cc)
      dropped_first n ih l (a ∷ ls) h drops =
          let q = and_parts (is_lparen l.kind) (is_unknown names a) drops in
          group_shown n ih l a ls (omega (arith, h)) (lparen_kind l.kind q.0) q.1

  pub shown_law : (ls : List Lexeme) (ts : List TextToken) → IsShown names broken ls ts ↔ (shown names broken 0 ls ≡ ts)
  shown_law ls ts = (shown_is ls ts, λ e. subst (IsShown names broken ls) e (is_shown (length ls) ls (omega arith)))

-- WITHOUT A FAULT
module _ (names : List (List ℕ)) where
  significant_shown : (ls : List Lexeme) (ts : List TextToken) → IsSignificant names ls ts → IsShown names false ls ts
  significant_shown ls [] s = (s, refl)
  significant_shown ls (t ∷ ts) s = inr (s.0, s.1, s.2, s.3, significant_shown s.1 ts s.4)

  whole_first : (k : TokenKind) (w : List ℕ) (p : ℕ) (t : TextToken) (ts : List TextToken) → token_of k w p ≡ t ∷ [] → is_whole (t ∷ ts) ≡ is_whole ts
  whole_first k w p t ts e = whole_more t ts (ap is_whole (sym e) ∙ whole_token k w p)

  significant_whole : (ls : List Lexeme) (ts : List TextToken) → IsSignificant names ls ts → is_whole ts ≡ true
  significant_whole ls [] s = refl
  significant_whole ls (t ∷ ts) s = whole_first s.0.kind s.0.text s.0.place t ts s.3 ∙ significant_whole s.1 ts s.4

  -- what is shown without a fault is significant, and no fault stands behind it
  pub whole_significant : (broken : Bool) (ls : List Lexeme) (ts : List TextToken) → IsShown names broken ls ts → is_whole ts ≡ true → (broken ≡ false) × IsSignificant names ls ts
  whole_significant broken ls [] s w = (s.1, s.0)
  whole_significant broken ls (t ∷ ts) (inl s) w = let q : is_whole {N = List ℕ} {P = ℕ} (Broken ∷ []) ≡ true = ap is_whole (sym s.0) ∙ w in absurd (cc)
  whole_significant broken ls (t ∷ ts) (inr s) w =
      let more = whole_significant broken s.1 ts s.4 (sym (whole_first s.0.kind s.0.text s.0.place t ts s.3) ∙ w) in
      (more.0, (s.0, s.1, s.2, s.3, more.1))

  pub significant_law : (ls : List Lexeme) (ts : List TextToken) → IsSignificant names ls ts ↔ ((significant names false ls ≡ ts) × (is_whole ts ≡ true))
  significant_law ls ts = (
    λ s. (shown_is names false ls ts (significant_shown ls ts s), significant_whole ls ts s),
    λ e. (whole_significant false ls ts ((shown_law names false ls ts).1 e.0) e.1).1,
  )

pub one_list : (allow : Bool) (names : List (List ℕ)) (text : List ℕ) (ts us : List TextToken) → AreSignificant allow names text ts → AreSignificant allow names text us → ts ≡ us
one_list allow names text ts us a b =
    let same = tile_once allow false 0 text a.0 b.0 a.1 b.1 in
    sym ((significant_law names a.0 ts).0 a.2).0 ∙ ap (significant names false) same ∙ ((significant_law names b.0 us).0 b.2).0
