-- Spaces over a comment leave the significant tokens.
use Rattle.std.proofs.Common.{◌≡◌, ◌≢◌, ◌⊎◌, inl, inr, ℕ, zero, suc, ◌+◌, ◌<◌, ◌^◌, Bool, true, false, List, [], ◌∷◌, ◌++◌, length, refl, sym, ◌∙◌, ap, subst, arith, tests, append-nil}
use Rattle.std.specs.Prelude.{◌&&◌, not, replicate, if◌then◌else◌}
use Rattle.std.specs.List.{list_all}
use Rattle.std.specs.Str.{IsUtf8}
use Rattle.std.proofs.lemmas.Bool.{cases_Bool, and_parts, eqb-true}
use Rattle.std.proofs.lemmas.List.{append_assoc, length-append}
use Rattle.wast_lexer.specs.declared.token.TokenKind.{TokenKind}
use Rattle.wast_lexer.specs.declared.token.TokenKind.TheVariants as kinds
use Rattle.wast_lexer.specs.Kinds.{IsLexeme, IsLineComment, IsBlockComment, starts, is_space, is_line_end, is_open, is_at}
use Rattle.wast_lexer.specs.Lexeme.{Lexeme}
use Rattle.wast_lexer.specs.Tiling.{MayFollow, Begins, Tiles, ends, is_annotation}
use Rattle.wast_lexer.proofs.Basics.{all_append}
use Rattle.wast_lexer.proofs.Cuts.{ends_append}
use Rattle.wast_lexer.proofs.ScanLaws.{skip_split}
use Rattle.wast_lexer.proofs.TilingLaws.{once, tile_once}
use Rattle.wast_grammar.specs.Significant.{TextToken, token_of, is_trivia, is_lparen, is_unknown, begins_unknown, behind, shown, significant, AreSignificant}
use Rattle.wast_grammar.proofs.SignificantLaws.{significant_law}
use Rattle.wast_grammar.specs.Tokens.{Name}
use Rattle.wast_field_syntax.specs.FieldTree.{Module}
use Rattle.wast_meant.specs.Means.{Worth, Stands, Pieces, IsWorth}
use Rattle.wat_verdict.specs.Registered.{registered}
use Rattle.wat_verdict.specs.Spells.{Spells}
use Rattle.wat_verdict.specs.Verdict.{Condition, TooLong, NotUtf8, Misspelled, NotWellFormed, Unmet, Uncovered, Fails, Accepts, Assembles, IsBinary}
use Rattle.wat_verdict.specs.Spaced.{text_of, Spaced, CommentsAside}
use Rattle.wat_verdict.proofs.SpacedTexts.{spaced_long, spaced_utf8}

-- WHAT IS SHOWN: white space and comments leave no trace
abbrev AreTrivia : List Lexeme → Type 0
AreTrivia [] = Unit {0}
AreTrivia (l ∷ ls) = (is_trivia l.kind ≡ true) × AreTrivia ls

module _ (names : List (List ℕ)) (broken : Bool) where
  trivia_first : (k : TokenKind) (w : List ℕ) (p : ℕ) (b : Bool) (d : ℕ) (rest : List Lexeme) → is_trivia k ≡ true →
      shown names broken d (record { kind = k; text = w; place = p } ∷ rest) ≡ shown names broken d rest
  trivia_first kinds.Whitespace w p b zero rest h = refl
  trivia_first kinds.LineComment w p b zero rest h = refl
  trivia_first kinds.BlockComment w p b zero rest h = refl
  trivia_first kinds.Whitespace w p b (suc d) rest h = refl
  trivia_first kinds.LineComment w p b (suc d) rest h = refl
  trivia_first kinds.BlockComment w p b (suc d) rest h = refl
  trivia_first kinds.LParen w p b d rest h = absurd (cc)
  trivia_first kinds.RParen w p b d rest h = absurd (cc)
  trivia_first kinds.Id w p b d rest h = absurd (cc)
  trivia_first kinds.Keyword w p b d rest h = absurd (cc)
  trivia_first kinds.Annotation w p b d rest h = absurd (cc)
  trivia_first (kinds.Integer kind) w p b d rest h = absurd (cc)
  trivia_first (kinds.Float kind) w p b d rest h = absurd (cc)
  trivia_first kinds.String w p b d rest h = absurd (cc)
  trivia_first kinds.Reserved w p b d rest h = absurd (cc)

  trivia_passed : (d : ℕ) (ts rest : List Lexeme) → AreTrivia ts → shown names broken d (ts ++ rest) ≡ shown names broken d rest
  trivia_passed d [] rest h = refl
  trivia_passed d (t ∷ ts) rest h = trivia_first t.kind t.text t.place true d (ts ++ rest) h.0 ∙ trivia_passed d ts rest h.1

  no_mark : (l : Lexeme) → is_trivia l.kind ≡ true → is_unknown names l ≡ false
  no_mark l h = of_kind l.kind (not _) h
    where
      of_kind : (k : TokenKind) (b : Bool) → is_trivia k ≡ true → is_annotation k && b ≡ false
      of_kind kinds.Annotation b h = absurd (cc)
      of_kind kinds.Whitespace b h = refl
      of_kind kinds.LineComment b h = refl
      of_kind kinds.BlockComment b h = refl
      of_kind _ b h = refl

  -- no mark of an annotation stands first in either
  same_mark : (pre : List Lexeme) (t u : Lexeme) (rest more : List Lexeme) → is_trivia t.kind ≡ true → is_trivia u.kind ≡ true → begins_unknown names (pre ++ t ∷ rest) ≡ begins_unknown names (pre ++ u ∷ more)
  same_mark [] t u rest more h k = no_mark t h ∙ sym (no_mark u k)
  same_mark (l ∷ pre) t u rest more h k = refl

  same_shown : (d : ℕ) (pre : List Lexeme) (t u : Lexeme) (ts us rest : List Lexeme) → AreTrivia (t ∷ ts) → AreTrivia (u ∷ us) →
      shown names broken d (pre ++ ((t ∷ ts) ++ rest)) ≡ shown names broken d (pre ++ ((u ∷ us) ++ rest))
  same_shown d [] t u ts us rest h k = trivia_passed d (t ∷ ts) rest h ∙ sym (trivia_passed d (u ∷ us) rest k)
  same_shown zero (l ∷ pre) t u ts us rest h k =
      ap (λ b. if is_lparen l.kind && b then shown names broken 1 (pre ++ ((t ∷ ts) ++ rest)) else token_of l.kind l.text l.place ++ shown names broken 0 (pre ++ ((t ∷ ts) ++ rest)))
      (same_mark pre t u (ts ++ rest) (us ++ rest) h.0 k.0)
      ∙ ap (λ s. if is_lparen l.kind && begins_unknown names (pre ++ ((u ∷ us) ++ rest)) then s else token_of l.kind l.text l.place ++ shown names broken 0 (pre ++ ((t ∷ ts) ++ rest)))
      (same_shown 1 pre t u ts us rest h k)
      ∙ ap (λ s. if is_lparen l.kind && begins_unknown names (pre ++ ((u ∷ us) ++ rest)) then shown names broken 1 (pre ++ ((u ∷ us) ++ rest)) else token_of l.kind l.text l.place ++ s)
      (same_shown 0 pre t u ts us rest h k)
  same_shown (suc d) (l ∷ pre) t u ts us rest h k = same_shown (behind l.kind d) pre t u ts us rest h k

-- BYTES of white space
no_at : (c : ℕ) → is_space c ≡ true → is_at c ≡ false
no_at c h = elim (cases_Bool (is_at c)) [
  | inl t ↦ (let e = sym (ap is_space (eqb-true c 64 t)) ∙ h in absurd (cc))
  | inr n ↦ n
]

not_open : (c : ℕ) → is_space c ≡ true → is_open c ≡ false
not_open c h = elim (cases_Bool (is_open c)) [
  | inl t ↦ (let e = sym (ap is_space (eqb-true c 40 t)) ∙ h in absurd (cc))
  | inr n ↦ n
]

-- white space doesn't end with `(`
ends_white : (w : List ℕ) → list_all is_space w ≡ true → ends is_open w ≡ false
ends_white [] h = refl
ends_white (c ∷ []) h = not_open c (and_parts (is_space c) true h).0
ends_white (c ∷ d ∷ w) h = ends_white (d ∷ w) (and_parts (is_space c) (list_all is_space (d ∷ w)) h).1

spaces_white : (n : ℕ) → list_all is_space (replicate {A = ℕ} n 0x20) ≡ true
spaces_white zero = refl
spaces_white (suc n) = spaces_white n

spaces_length : (n : ℕ) → length {A = ℕ} (replicate n 0x20) ≡ n
spaces_length zero = refl
spaces_length (suc n) = ap suc (spaces_length n)

and_none : (b : Bool) → false ≡ (b && false)
and_none true = refl
and_none false = refl

-- KINDS
abbrev is_white : TokenKind → Bool
is_white kinds.Whitespace = true
is_white _ = false

apart_bool : {Z : Type 0} → false ≡ true → Z
apart_bool e = absurd (cc)

white_kind : (k : TokenKind) → is_white k ≡ true → k ≡ kinds.Whitespace
white_kind kinds.Whitespace h = refl
white_kind kinds.LineComment h = apart_bool h
white_kind kinds.BlockComment h = apart_bool h
white_kind kinds.LParen h = apart_bool h
white_kind kinds.RParen h = apart_bool h
white_kind kinds.Id h = apart_bool h
white_kind kinds.Keyword h = apart_bool h
white_kind kinds.Annotation h = apart_bool h
white_kind (kinds.Integer kind) h = apart_bool h
white_kind (kinds.Float kind) h = apart_bool h
white_kind kinds.String h = apart_bool h
white_kind kinds.Reserved h = apart_bool h

white_trivia : (k : TokenKind) → k ≡ kinds.Whitespace → is_trivia k ≡ true
white_trivia k e = ap is_trivia e

comment_trivia : (k : TokenKind) → (k ≡ kinds.LineComment) ⊎ (k ≡ kinds.BlockComment) → is_trivia k ≡ true
comment_trivia k h = elim h [ inl e ↦ ap is_trivia e | inr e ↦ ap is_trivia e ]

-- tokens are their text
tiled_text : (opened : Bool) (from : ℕ) (text : List ℕ) (ls : List Lexeme) → Tiles false opened from text ls → text ≡ text_of ls
tiled_text opened from text [] t = t
tiled_text opened from text (l ∷ ls) t = t.2 ∙ ap (λ r. l.text ++ r) (tiled_text (ends is_open l.text) (from + length l.text) t.0 ls t.4)

-- the first byte of a text is that of what it begins with
starts_front : (p : ℕ → Bool) (w r : List ℕ) → w ≢ [] → starts p (w ++ r) ≡ starts p w
starts_front p [] r n = absurd (n refl)
starts_front p (c ∷ w) r n = refl

blank_marked : (opened : Bool) (run : List ℕ) → run ≢ [] → list_all is_space run ≡ true → false ≡ (opened && starts is_at run)
blank_marked opened [] n h = absurd (n refl)
blank_marked opened (c ∷ run) n h = and_none opened ∙ ap (λ b. opened && b) (sym (no_at c (and_parts (is_space c) (list_all is_space run) h).0))

-- a token that begins with white space is white space
starts_no_white : (opened : Bool) (k : TokenKind) (w r : List ℕ) → Begins false opened k w r → is_white k ≡ false → starts is_space (w ++ r) ≡ false
starts_no_white opened k w r b n = elim (cases_Bool (starts is_space (w ++ r))) [
  | inl t ↦ (
      let cut = skip_split is_space (w ++ r) in
      let run = starts_run (w ++ r) cut.0 _ cut.1 t cut.3 in
      let same = once false opened k kinds.Whitespace w cut.0 r _ b (record { nonempty = run; lexeme = cut.2; follow = cut.3; marked = blank_marked opened cut.0 run cut.2 }) cut.1 in
      let e : is_white k ≡ true = ap is_white same.0 in
      absurd (cc (e, n)))
  | inr f ↦ f
]
  where
    -- the run is not empty
    starts_run : (s run rest : List ℕ) → s ≡ run ++ rest → starts is_space s ≡ true → starts is_space rest ≡ false → run ≢ []
    starts_run s run rest e t f none = (let h = sym f ∙ ap (starts is_space) (sym (e ∙ ap (λ x. x ++ rest) none)) ∙ t in absurd (cc))

-- WHAT MAY FOLLOW
-- only the first byte counts
follow_same : (k : TokenKind) (w r s : List ℕ) → ((p : ℕ → Bool) → starts p s ≡ starts p r) → MayFollow k w r → MayFollow k w s
follow_same kinds.Whitespace w r s e f = e is_space ∙ f
follow_same kinds.LineComment w r s e f = e _ ∙ f
follow_same kinds.BlockComment w r s e f = tt
follow_same kinds.LParen w r s e f = e _ ∙ f
follow_same kinds.RParen w r s e f = tt
follow_same kinds.Id w r s e f = e _ ∙ f
follow_same kinds.Keyword w r s e f = e _ ∙ f
follow_same kinds.Annotation w r s e f = e _ ∙ f
follow_same (kinds.Integer kind) w r s e f = e _ ∙ f
follow_same (kinds.Float kind) w r s e f = e _ ∙ f
follow_same kinds.String w r s e f = e _ ∙ f
follow_same kinds.Reserved w r s e f = (λ h. e _ ∙ f.0 h, λ h. e _ ∙ f.1 h)

-- a space may follow what a comment follows
space_follows : (k : TokenKind) (w c r s : List ℕ) → (starts is_line_end c ≡ false) → c ≢ [] → is_white k ≡ false → MayFollow k w (c ++ r) → MayFollow k w (0x20 ∷ s)
space_follows kinds.Whitespace w c r s h n i f = apart_bool (sym i)
space_follows kinds.LineComment w [] r s h n i f = absurd (n refl)
space_follows kinds.LineComment w (b ∷ c) r s h n i f = (let e = sym (ap not h) ∙ f in absurd (cc))
space_follows kinds.BlockComment w c r s h n i f = tt
space_follows kinds.LParen w c r s h n i f = refl
space_follows kinds.RParen w c r s h n i f = tt
space_follows kinds.Id w c r s h n i f = refl
space_follows kinds.Keyword w c r s h n i f = refl
space_follows kinds.Annotation w c r s h n i f = refl
space_follows (kinds.Integer kind) w c r s h n i f = refl
space_follows (kinds.Float kind) w c r s h n i f = refl
space_follows kinds.String w c r s h n i f = refl
space_follows kinds.Reserved w c r s h n i f = (λ h. refl, λ h. refl)

-- COMMENTS
module _ (c : Lexeme) (is : (c.kind ≡ kinds.LineComment) ⊎ (c.kind ≡ kinds.BlockComment)) (opened : Bool) (rest : List ℕ) (b : Begins false opened c.kind c.text rest) where
  line_parts : c.kind ≡ kinds.LineComment → IsLineComment c.text × (starts (λ d. not (is_line_end d)) rest ≡ false)
  line_parts e = ((subst (λ k. IsLexeme false k c.text) e b.lexeme).0, subst (λ k. MayFollow k c.text rest) e b.follow)

  block_part : c.kind ≡ kinds.BlockComment → IsBlockComment c.text
  block_part e = (subst (λ k. IsLexeme false k c.text) e b.lexeme).0

  -- it begins with no line end
  comment_starts : starts is_line_end c.text ≡ false
  comment_starts = elim is [
    | inl e ↦ ap (starts is_line_end) (line_parts e).0.2
    | inr e ↦ ap (starts is_line_end) (block_part e).2
  ]

  -- nor does it end with `(`, but where nothing follows, or a line end
  comment_ends : (ends is_open c.text ≡ false) ⊎ (starts (λ d. not (is_line_end d)) rest ≡ false)
  comment_ends = elim is [
    | inl e ↦ inr (line_parts e).1
    | inr e ↦ (let p = block_part e in inl (ap (ends is_open) p.2 ∙ ends_append is_open (40 ∷ 59 ∷ p.0) 59 (41 ∷ [])))
  ]

-- BEHIND THE COMMENT: spaces in its place, with the white space behind it, and the same tokens
record Spread (opened : Bool) (at : ℕ) (length_of : ℕ) (after : List Lexeme) : Type 0 where
  run : List Lexeme
  post : List Lexeme
  split : after ≡ run ++ post
  trivia : AreTrivia run
  white : Lexeme
  is_white_space : white.kind ≡ kinds.Whitespace
  place : white.place ≡ at
  tail : List ℕ
  text : replicate length_of 0x20 ++ text_of after ≡ white.text ++ tail
  blank : list_all is_space white.text ≡ true
  nonempty : white.text ≢ []
  ends_run : starts is_space tail ≡ false
  tiles : Tiles false false (at + length white.text) tail post

no_text : {Z : Type 0} (d : ℕ) (w : List ℕ) → d ∷ w ≡ [] → Z
no_text d w e = absurd (cc)

blank_spaces : (n : ℕ) (w : List ℕ) → 0 < n → replicate n 0x20 ++ w ≢ []
blank_spaces zero w h e = absurd (omega (arith, h))
blank_spaces (suc n) w h e = no_text 0x20 (replicate n 0x20 ++ w) e

-- tokens behind the comment, which may be opened only where there are none
spread_alone : (opened : Bool) (at n : ℕ) (after : List Lexeme) → 0 < n → starts is_space (text_of after) ≡ false → Tiles false false (at + n) (text_of after) after → Spread opened at n after
spread_alone opened at n after some none t = record {
  run = [];
  post = after;
  split = refl;
  trivia = tt;
  white = record { kind = kinds.Whitespace; text = replicate n 0x20; place = at };
  is_white_space = refl;
  place = refl;
  tail = text_of after;
  text = refl;
  blank = spaces_white n;
  nonempty = λ e. blank_spaces n [] some (append-nil (replicate n 0x20) ∙ e);
  ends_run = none;
  tiles = subst (λ k. Tiles false false (at + k) (text_of after) after) (sym (spaces_length n)) t;
}

spread_white : (opened : Bool) (at n : ℕ) (y : Lexeme) (post : List Lexeme) (o : Bool) (rest : List ℕ) → 0 < n → y.kind ≡ kinds.Whitespace → Tiles false o (at + n) rest (y ∷ post) → Spread opened at n (y ∷ post)
spread_white opened at n y post o rest some white t =
    let blank : list_all is_space y.text ≡ true = subst (λ k. IsLexeme false k y.text) white t.3.lexeme in
    let tail_is : t.0 ≡ text_of post = tiled_text _ _ t.0 post t.4 in
    record {
      run = y ∷ [];
      post = post;
      split = refl;
      trivia = (white_trivia y.kind white, tt);
      white = record { kind = kinds.Whitespace; text = replicate n 0x20 ++ y.text; place = at };
      is_white_space = refl;
      place = refl;
      tail = t.0;
      text = sym (append_assoc (replicate n 0x20) y.text (text_of post)) ∙ ap (λ r. (replicate n 0x20 ++ y.text) ++ r) (sym tail_is);
      blank = all_append is_space (replicate n 0x20) y.text (spaces_white n) blank;
      nonempty = blank_spaces n y.text some;
      ends_run = subst (λ k. MayFollow k y.text t.0) white t.3.follow;
      tiles =
          let far : at + length (replicate n 0x20 ++ y.text) ≡ (at + n) + length y.text = (let l = length-append (replicate n 0x20) y.text in let m = spaces_length n in omega (arith, l, m)) in
          subst (λ k. Tiles false false k t.0 post) (sym far) (subst (λ b. Tiles false b ((at + n) + length y.text) t.0 post) (ends_white y.text blank) t.4);
    }

spread : (opened o : Bool) (at n : ℕ) (rest : List ℕ) (after : List Lexeme) → 0 < n → (o ≡ false) ⊎ (starts (λ d. not (is_line_end d)) rest ≡ false) → Tiles false o (at + n) rest after → Spread opened at n after
spread opened o at n rest [] some closing t = spread_alone opened at n [] some refl refl
spread opened o at n rest (y ∷ after) some closing t = elim (cases_Bool (is_white y.kind)) [
  | inl w ↦ spread_white opened at n y after o rest some (white_kind y.kind w) t
  | inr m ↦ (
      let none = starts_no_white o y.kind y.text t.0 t.3 m in
      let same : rest ≡ text_of (y ∷ after) = tiled_text o (at + n) rest (y ∷ after) t in
      let closed : o ≡ false = elim closing [ inl e ↦ e | inr e ↦ absurd (no_line rest (ap (starts is_space) t.2 ∙ none) e (λ z. t.3.nonempty (front_none y.text t.0 (sym t.2 ∙ z)))) ] in
      spread_alone opened at n (y ∷ after) some (ap (starts is_space) (sym same ∙ t.2) ∙ none) (subst (λ r. Tiles false false (at + n) r (y ∷ after)) same (subst (λ b. Tiles false b (at + n) rest (y ∷ after)) closed t)))
]
  where
    front_none : (w r : List ℕ) → w ++ r ≡ [] → w ≡ []
    front_none [] r e = refl
    front_none (d ∷ w) r e = absurd (cc)

    line_space : (d : ℕ) → not (is_line_end d) ≡ false → is_space d ≡ true
    line_space d h = grind (arith, tests, h)

    no_line : (r : List ℕ) → starts is_space r ≡ false → starts (λ d. not (is_line_end d)) r ≡ false → r ≢ [] → ⊥
    no_line [] a b n = n refl
    no_line (d ∷ r) a b n = (let e = sym (line_space d b) ∙ a in absurd (cc))

-- BEFORE THE COMMENT: white space that stands right before it joins the spaces
record Retiled (opened : Bool) (from : ℕ) (text other : List ℕ) (before after : List Lexeme) : Type 0 where
  pre : List Lexeme
  run : List Lexeme
  split : before ≡ pre ++ run
  trivia : AreTrivia run
  behind : List Lexeme
  post : List Lexeme
  split_after : after ≡ behind ++ post
  trivia_after : AreTrivia behind
  white : Lexeme
  is_white_space : white.kind ≡ kinds.Whitespace
  tiles : Tiles false opened from other (pre ++ white ∷ post)
  -- the first byte is the same, where it isn't the comment's
  first : (before ≡ []) ⊎ ((p : ℕ → Bool) → starts p other ≡ starts p text)
  -- of the white space where it stands first
  alone : pre ≡ [] → (tail : List ℕ) × (white.place ≡ from) × (other ≡ white.text ++ tail) × (list_all is_space white.text ≡ true) × (white.text ≢ []) × (starts is_space tail ≡ false) × Tiles false false (from + length white.text) tail post

white_tiles : (opened : Bool) (from : ℕ) (other : List ℕ) (white : Lexeme) (tail : List ℕ) (post : List Lexeme) → white.kind ≡ kinds.Whitespace → white.place ≡ from → other ≡ white.text ++ tail →
    list_all is_space white.text ≡ true → white.text ≢ [] → starts is_space tail ≡ false → Tiles false false (from + length white.text) tail post → Tiles false opened from other (white ∷ post)
white_tiles opened from other white tail post kind place text blank some stops t = (
  tail,
  place,
  text,
  subst (λ k. Begins false opened k white.text tail) (sym kind) (record { nonempty = some; lexeme = blank; follow = stops; marked = blank_marked opened white.text some blank }),
  subst (λ b. Tiles false b (from + length white.text) tail post) (sym (ends_white white.text blank)) t,
)

no_token : {Z : Type 0} (x : Lexeme) (xs : List Lexeme) → x ∷ xs ≡ [] → Z
no_token x xs e = absurd (cc)

some_text : (w : List ℕ) → w ≢ [] → 0 < length w
some_text [] n = absurd (n refl)
some_text (c ∷ w) n = omega arith

module _ (c : Lexeme) (is : (c.kind ≡ kinds.LineComment) ⊎ (c.kind ≡ kinds.BlockComment)) (after : List Lexeme) where
  -- what stands in the place of the comment and all behind it
  abbrev spaces : List ℕ
  spaces = replicate (length c.text) 0x20 ++ text_of after

  at_comment : (opened : Bool) (from : ℕ) (text : List ℕ) → Tiles false opened from text (c ∷ after) → Retiled opened from text spaces [] after
  at_comment opened from text t =
      let s = spread opened (ends is_open c.text) from (length c.text) t.0 after (some_text c.text t.3.nonempty) (comment_ends c is opened t.0 t.3) t.4 in
      record {
        pre = [];
        run = [];
        split = refl;
        trivia = tt;
        behind = s.run;
        post = s.post;
        split_after = s.split;
        trivia_after = s.trivia;
        white = s.white;
        is_white_space = s.is_white_space;
        tiles = white_tiles opened from spaces s.white s.tail s.post s.is_white_space s.place s.text s.blank s.nonempty s.ends_run s.tiles;
        first = inl refl;
        alone = λ e. (s.tail, s.place, s.text, s.blank, s.nonempty, s.ends_run, s.tiles);
      }

  -- one token more in front
  module _ (opened : Bool) (from : ℕ) (text : List ℕ) (x : Lexeme) (before : List Lexeme) (t : Tiles false opened from text (x ∷ (before ++ c ∷ after)))
      (r : Retiled (ends is_open x.text) (from + length x.text) t.0 (text_of before ++ spaces) before after) where
    abbrev other : List ℕ
    other = text_of (x ∷ before) ++ spaces

    other_is : other ≡ x.text ++ (text_of before ++ spaces)
    other_is = append_assoc x.text (text_of before) spaces

    first_of : (p : ℕ → Bool) → starts p other ≡ starts p text
    first_of p = ap (starts p) other_is ∙ starts_front p x.text (text_of before ++ spaces) t.3.nonempty ∙ sym (ap (starts p) t.2 ∙ starts_front p x.text t.0 t.3.nonempty)

    kept : MayFollow x.kind x.text (text_of before ++ spaces) → Retiled opened from text other (x ∷ before) after
    kept follow = record {
      pre = x ∷ r.pre;
      run = r.run;
      split = ap (λ ls. x ∷ ls) r.split;
      trivia = r.trivia;
      behind = r.behind;
      post = r.post;
      split_after = r.split_after;
      trivia_after = r.trivia_after;
      white = r.white;
      is_white_space = r.is_white_space;
      tiles = (text_of before ++ spaces, t.1, other_is, record { nonempty = t.3.nonempty; lexeme = t.3.lexeme; follow = follow; marked = t.3.marked }, r.tiles);
      first = inr first_of;
      alone = λ e. no_token x r.pre e;
    }

    joins : r.pre ≡ [] → x.kind ≡ kinds.Whitespace → Retiled opened from text other (x ∷ before) after
    joins none white =
        let a = r.alone none in
        let blank : list_all is_space x.text ≡ true = subst (λ k. IsLexeme false k x.text) white t.3.lexeme in
        let w : Lexeme = record { kind = kinds.Whitespace; text = x.text ++ r.white.text; place = from } in
        let text_is = other_is ∙ ap (λ z. x.text ++ z) a.2 ∙ sym (append_assoc x.text r.white.text a.0) in
        let blank_all = all_append is_space x.text r.white.text blank a.3 in
        let some : x.text ++ r.white.text ≢ [] = (λ e. t.3.nonempty (front_nil x.text r.white.text e)) in
        let far : from + length (x.text ++ r.white.text) ≡ (from + length x.text) + length r.white.text = (let l = length-append x.text r.white.text in omega (arith, l)) in
        let tiles = subst (λ k. Tiles false false k a.0 r.post) (sym far) a.6 in
        record {
          pre = [];
          run = x ∷ r.run;
          split = ap (λ ls. x ∷ ls) (r.split ∙ ap (λ ls. ls ++ r.run) none);
          trivia = (white_trivia x.kind white, r.trivia);
          behind = r.behind;
          post = r.post;
          split_after = r.split_after;
          trivia_after = r.trivia_after;
          white = w;
          is_white_space = refl;
          tiles = white_tiles opened from other w a.0 r.post refl refl text_is blank_all some a.5 tiles;
          first = inr first_of;
          alone = λ e. (a.0, refl, text_is, blank_all, some, a.5, tiles);
        }
      where
        front_nil : (w r : List ℕ) → w ++ r ≡ [] → w ≡ []
        front_nil [] r e = refl
        front_nil (d ∷ w) r e = absurd (cc)

    -- what may follow, where the comment isn't next
    by_first : (p : List Lexeme) → r.pre ≡ p → is_white x.kind ≡ true → Retiled opened from text other (x ∷ before) after
    by_first [] e w = joins e (white_kind x.kind w)
    by_first (q ∷ qs) e w = elim r.first [
      | inl none ↦ no_token q (qs ++ r.run) (ap (λ ls. ls ++ r.run) (sym e) ∙ sym r.split ∙ none)
      | inr same ↦ kept (follow_same x.kind x.text t.0 (text_of before ++ spaces) same t.3.follow)
    ]

  retile : (opened : Bool) (from : ℕ) (text : List ℕ) (before : List Lexeme) → Tiles false opened from text (before ++ c ∷ after) → Retiled opened from text (text_of before ++ spaces) before after
  retile opened from text [] t = at_comment opened from text t
  retile opened from text (x ∷ []) t =
      let r = retile (ends is_open x.text) (from + length x.text) t.0 [] t.4 in
      elim (cases_Bool (is_white x.kind)) [
        | inl w ↦ by_first opened from text x [] t r r.pre refl w
        | inr m ↦ kept opened from text x [] t r (next_space (length c.text) x.kind x.text c.text t.4.0 (text_of after) (some_text c.text t.4.3.nonempty) (subst (λ z. MayFollow x.kind x.text z) t.4.2 t.3.follow) m (comment_starts c is _ t.4.0 t.4.3) t.4.3.nonempty)
      ]
    where
      next_space : (n : ℕ) (k : TokenKind) (w d r s : List ℕ) → 0 < n → MayFollow k w (d ++ r) → is_white k ≡ false → starts is_line_end d ≡ false → d ≢ [] → MayFollow k w (replicate n 0x20 ++ s)
      next_space zero k w d r s h f m e some = absurd (omega (arith, h))
      next_space (suc n) k w d r s h f m e some = space_follows k w d r (replicate n 0x20 ++ s) e some m f
  retile opened from text (x ∷ y ∷ before) t =
      let r = retile (ends is_open x.text) (from + length x.text) t.0 (y ∷ before) t.4 in
      elim (cases_Bool (is_white x.kind)) [
        | inl w ↦ by_first opened from text x (y ∷ before) t r r.pre refl w
        | inr m ↦ elim r.first [
          | inl none ↦ no_token y before none
          | inr same ↦ kept opened from text x (y ∷ before) t r (follow_same x.kind x.text t.0 (text_of (y ∷ before) ++ spaces) same t.3.follow)
        ]
      ]

-- THE SAME TOKENS ARE SIGNIFICANT
module _ (names : List (List ℕ)) (c w : Lexeme) (pre behind post : List Lexeme) (comment : is_trivia c.kind ≡ true) (white : is_trivia w.kind ≡ true) (h : AreTrivia behind) where
  same_around : (run : List Lexeme) → AreTrivia run → significant names false (pre ++ (run ++ (c ∷ (behind ++ post)))) ≡ significant names false (pre ++ (w ∷ post))
  same_around [] r = same_shown names false 0 pre c w behind [] post (comment, h) (white, tt)
  same_around (x ∷ run) r =
      ap (λ ls. significant names false (pre ++ (x ∷ ls))) (sym (append_assoc run (c ∷ behind) post))
      ∙ same_shown names false 0 pre x w (run ++ (c ∷ behind)) [] post (r.0, all_trivia run r.1) (white, tt)
    where
      all_trivia : (run : List Lexeme) → AreTrivia run → AreTrivia (run ++ (c ∷ behind))
      all_trivia [] r = (comment, h)
      all_trivia (x ∷ run) r = (r.0, all_trivia run r.1)

-- the lexemes of both, with one list of significant tokens
record Both (names : List (List ℕ)) (text other : List ℕ) : Type 0 where
  here : List Lexeme
  there : List Lexeme
  tiles_here : Tiles false false 0 text here
  tiles_there : Tiles false false 0 other there
  same : significant names false here ≡ significant names false there

both : (names : List (List ℕ)) (text copy : List ℕ) → Spaced text copy → Both names text copy
both names text copy s =
    let r = retile s.comment s.is_comment s.after false 0 text s.before s.tiled in
    record {
      here = s.before ++ s.comment ∷ s.after;
      there = r.pre ++ r.white ∷ r.post;
      tiles_here = s.tiled;
      tiles_there = subst (λ z. Tiles false false 0 z (r.pre ++ r.white ∷ r.post)) (sym s.spaced) r.tiles;
      same =
          ap (λ ls. significant names false (ls ++ s.comment ∷ s.after)) r.split
          ∙ ap (significant names false) (append_assoc r.pre r.run (s.comment ∷ s.after))
          ∙ ap (λ ls. significant names false (r.pre ++ (r.run ++ (s.comment ∷ ls)))) r.split_after
          ∙ same_around names s.comment r.white r.pre r.behind r.post (comment_trivia s.comment.kind s.is_comment) (white_trivia r.white.kind r.is_white_space) r.trivia_after r.run r.trivia;
    }

one_way : (names : List (List ℕ)) (text copy : List ℕ) (here there : List Lexeme) → Tiles false false 0 text here → Tiles false false 0 copy there → significant names false here ≡ significant names false there →
    (ts : List TextToken) → AreSignificant false names text ts → AreSignificant false names copy ts
one_way names text copy here there t u same ts s =
    let law = (significant_law names s.0 ts).0 s.2 in
    let e = sym (ap (significant names false) (tile_once false false 0 text s.0 here s.1 t) ∙ same) ∙ law.0 in
    (there, u, (significant_law names there ts).1 (e, law.1))

-- WHAT FOLLOWS for verdicts, where both texts spell the same trees
module _ (text other : List ℕ) (short : length other < 2 ^ 32) (utf8 : IsUtf8 other) (forth : (t : Module Name ℕ) → Spells text t → Spells other t) (back : (t : Module Name ℕ) → Spells other t → Spells text t) where
  fails_too : (c : Condition) → length text < 2 ^ 32 → IsUtf8 text → Fails text c → Fails other c
  fails_too TooLong s v f = absurd (omega (arith, s, f))
  fails_too (NotUtf8 n) s v f = absurd (f.1 v)
  fails_too Misspelled s v f = (short, utf8, λ t h. f.2 t (back t h))
  fails_too (NotWellFormed p) s v f = (short, utf8, (f.2.0, forth f.2.0 f.2.1, f.2.2))
  fails_too (Unmet p c) s v f = (short, utf8, (f.2.0, forth f.2.0 f.2.1, f.2.2, f.2.3))
  fails_too (Uncovered p g) s v f = (short, utf8, (f.2.0, forth f.2.0 f.2.1, f.2.2, f.2.3, f.2.4))

  worth_too : (w : Worth) → IsWorth Spells text w → IsWorth Spells other w
  worth_too (Stands m) w = record { tree = w.tree; spelled = forth w.tree w.spelled; module_meant = w.module_meant; is_meant = w.is_meant; named = w.named }
  worth_too (Pieces bytes) w = record { tree = w.tree; spelled = forth w.tree w.spelled; pieces = w.pieces; are_content = w.are_content; joined = w.joined }

  accepts_too : (w : Worth) → Accepts text w → Accepts other w
  accepts_too w a = record { short = short; utf8 = utf8; worth = worth_too w a.worth }

  binary_too : (w : Worth) (binary : List ℕ) → IsBinary text w binary → IsBinary other w binary
  binary_too (Stands m) binary b = (b.0, λ plain. b.1 (λ t s. plain t (forth t s)))
  binary_too (Pieces bytes) binary b = b

  assembles_too : (binary : List ℕ) → Assembles text binary → Assembles other binary
  assembles_too binary a = (a.0, accepts_too a.0 a.1, binary_too a.0 binary a.2)

-- THE COMMENT of a text: what stands before it and behind it, and that it is one
record Parted (text : List ℕ) (before : List Lexeme) (comment : Lexeme) (after : List Lexeme) : Type 0 where
  whole : text ≡ text_of before ++ (comment.text ++ text_of after)
  opened : Bool
  begins : Begins false opened comment.kind comment.text (text_of after)

parted : (opened : Bool) (from : ℕ) (text : List ℕ) (before : List Lexeme) (comment : Lexeme) (after : List Lexeme) → Tiles false opened from text (before ++ comment ∷ after) → Parted text before comment after
parted opened from text [] comment after t =
    let rest = tiled_text (ends is_open comment.text) (from + length comment.text) t.0 after t.4 in
    record { whole = t.2 ∙ ap (λ r. comment.text ++ r) rest; opened = opened; begins = subst (Begins false opened comment.kind comment.text) rest t.3 }
parted opened from text (l ∷ before) comment after t =
    let p = parted (ends is_open l.text) (from + length l.text) t.0 before comment after t.4 in
    record { whole = t.2 ∙ ap (λ r. l.text ++ r) p.whole ∙ sym (append_assoc l.text (text_of before) (comment.text ++ text_of after)); opened = p.opened; begins = p.begins }

pub comments_aside : CommentsAside
comments_aside text other short utf8 s =
    let p = parted false 0 text s.before s.comment s.after s.tiled in
    let shorter : length other < 2 ^ 32 = subst (λ n. n < 2 ^ 32) (ap length p.whole ∙ sym (ap length s.spaced ∙ spaced_long (text_of s.before) s.comment.text (text_of s.after))) short in
    let utf8_too : IsUtf8 other = subst IsUtf8 (sym s.spaced) (spaced_utf8 p.opened s.comment.kind (text_of s.before) s.comment.text (text_of s.after) s.is_comment p.begins (subst IsUtf8 p.whole utf8)) in
    let b = both registered text other s in
    let forth : (t : Module Name ℕ) → Spells text t → Spells other t = (λ t h. record { tokens = h.tokens; significant = one_way registered text other b.here b.there b.tiles_here b.tiles_there b.same h.tokens h.significant; spelled = h.spelled }) in
    let back : (t : Module Name ℕ) → Spells other t → Spells text t = (λ t h. record { tokens = h.tokens; significant = one_way registered other text b.there b.here b.tiles_there b.tiles_here (sym b.same) h.tokens h.significant; spelled = h.spelled }) in
    record {
      failed = λ c. (fails_too text other shorter utf8_too forth back c short utf8, fails_too other text short utf8 back forth c shorter utf8_too);
      accepted = λ w. (accepts_too text other shorter utf8_too forth back w, accepts_too other text short utf8 back forth w);
      assembled = λ x. (assembles_too text other shorter utf8_too forth back x, assembles_too other text short utf8 back forth x);
    }
