-- The scan finds the token that begins at the front of a text, and no other begins there.
use Rattle.std.proofs.Common.{◌≡◌, ◌≢◌, ℕ, ◌-◌, ◌<◌, ◌≤◌, Bool, true, false, inl, inr, ◌&&◌, List, [], ◌∷◌, ◌++◌, Option, Some, None, length, take, drop, refl, sym, ◌∙◌, ap, subst, arith, append_assoc, length-append}
use Rattle.std.specs.Prelude.{option_map, slice_range}
use Rattle.std.specs.List.{list_all}
use Rattle.std.proofs.lemmas.Bool.{cases_Bool, or_cases, and_parts, eqb-true}
use Rattle.std.proofs.lemmas.Bool.Decides.{nat_tests}
use Rattle.std.proofs.Math.Seq.{take-append_seam}
use Rattle.std.proofs.lemmas.List.{length-drop}
use Rattle.wast_lexer_strings.specs.Strings.{is_quote}
use Rattle.wast_lexer_numbers.specs.declared.kind.NumberKind.{NumberKind}
use Rattle.wast_lexer_numbers.specs.declared.kind.NumberKind.TheVariants as kinds
use Rattle.wast_lexer_numbers.specs.Numbers.{IsNumber}
use Rattle.wast_lexer_numbers.specs.NumberScan.{number}
use Rattle.wast_lexer_numbers.proofs.NumberLaws.{number_scanned, scanned_number}
use Rattle.wast_lexer.specs.declared.token.TokenKind.{TokenKind}
use Rattle.wast_lexer.specs.declared.token.TokenKind.TheVariants.{LineComment, BlockComment, Whitespace, LParen, RParen, String, Id, Keyword, Annotation, Reserved, Integer, Float}
use Rattle.wast_lexer.specs.Kinds.{starts, is_space, is_open, is_close, is_semicolon, is_mark, is_idchar, is_at, is_lower, is_name, may_stand, Word}
use Rattle.wast_lexer.specs.Kinds.Word.{Ends, Char, Quoted}
use Rattle.wast_lexer.specs.Tiling.{Begins, goes_on}
use Rattle.wast_lexer.specs.Scan.{skip, is_neither, close, front, comment, next, after_word, word_token, kind_of, plain_kind, number_token, other_kind, is_string, is_id, is_annotated}
use Rattle.wast_lexer.proofs.Basics.{apart, cases_option}
use Rattle.wast_lexer.proofs.CommentLaws.{close_inside, close_split}
use Rattle.wast_lexer.proofs.WordLaws.{word_complete, word_sound, string_complete, string_sound}
use Rattle.wast_lexer.proofs.KindLaws.{name_word, name_all, names_stand, string_word, id_word, annotation_word, number_all, id_is, id_sound, id_kind, number_kind, keyword_kind, string_kind, annotation_is, annotation_sound, keyword_of, odd_kind}

skip_front : (p : ℕ → Bool) (w r : List ℕ) → list_all p w ≡ true → starts p r ≡ false → skip p (w ++ r) ≡ r
skip_front p [] [] all stops = refl
skip_front p [] (c ∷ r) all stops = rw stops refl
skip_front p (c ∷ w) r all stops = let both = and_parts (p c) (list_all p w) all in rw both.0 (skip_front p w r both.1 stops)

pub front_of : (w r : List ℕ) → front (w ++ r) r ≡ w
front_of w r = let n : length (w ++ r) - length r ≡ length w = omega (arith, length-append w r) in rw n (take-append_seam w r)

mark_is : (c : ℕ) → is_mark c ≡ true → (is_space c ≡ false) × (is_open c ≡ false) × (is_close c ≡ false) × (is_semicolon c ≡ false)
mark_is c h = (grind (arith, nat_tests), grind (arith, nat_tests), grind (arith, nat_tests), grind (arith, nat_tests))

comment_of : (allow : Bool) (kind : TokenKind) (w rest : List ℕ) → may_stand allow w ≡ true → comment allow kind (w ++ rest) (Some rest) ≡ Some (kind, rest)
comment_of allow kind w rest h = rw (front_of w rest) (rw h refl)

unmarked : (opened t : Bool) → t ≡ false → false ≡ (opened && t)
unmarked true t h = sym h
unmarked false t h = refl

space_is : (c : ℕ) → is_space c ≡ true → is_at c ≡ false
space_is c h = grind (arith, nat_tests)

mark_no_at : (c : ℕ) → is_mark c ≡ true → is_at c ≡ false
mark_no_at c h = grind (arith, nat_tests)

mark_ends : (c : ℕ) → is_mark c ≡ true → goes_on c ≡ false
mark_ends c h = grind (arith, nat_tests)

-- a byte of a word begins nothing else
on_apart : (c : ℕ) → goes_on c ≡ true → (is_space c ≡ false) × (is_open c ≡ false) × (is_close c ≡ false) × (is_semicolon c ≡ false) × (is_mark c ≡ false)
on_apart c h = elim (or_cases (is_idchar c) (is_quote c) h) [
  | inl i ↦ (grind (arith, nat_tests), grind (arith, nat_tests), grind (arith, nat_tests), grind (arith, nat_tests), grind (arith, nat_tests))
  | inr q ↦ (let e : c ≡ 34 = eqb-true c 34 q in rw e (refl, refl, refl, refl, refl))
]

word_starts : (w : List ℕ) → Word w → w ≢ [] → starts goes_on w ≡ true
word_starts w Ends some = absurd (some refl)
word_starts w (Char id more) some = rw id refl
word_starts w (Quoted es more) some = refl

semicolon_no_word : (w : List ℕ) → Word w → starts is_semicolon w ≡ true → ⊥
semicolon_no_word w Ends h = apart refl h
semicolon_no_word w (Char {c} id more) h = let e = eqb-true c 59 h in apart refl (rw e at id)
semicolon_no_word w (Quoted es more) h = apart refl h

pub next_word : (allow opened : Bool) (c : ℕ) (s : List ℕ) → goes_on c ≡ true → next allow opened (c ∷ s) ≡ word_token allow opened (c ∷ s) (after_word None (c ∷ s))
next_word allow opened c s on = let not = on_apart c on in rw (on, not.0, not.1, not.2, not.3, not.4) refl

word_token_of : (allow opened : Bool) (k : TokenKind) (w rest : List ℕ) → kind_of opened w ≡ Some k → may_stand allow w ≡ true → word_token allow opened (w ++ rest) (Some rest) ≡ Some (k, rest)
word_token_of allow opened k w rest kind clean = rw (front_of w rest) (rw (clean, kind) refl)

word_begins : (allow opened : Bool) (k : TokenKind) (w rest : List ℕ) → Word w → w ≢ [] → starts goes_on rest ≡ false → kind_of opened w ≡ Some k → may_stand allow w ≡ true → next allow opened (w ++ rest) ≡ Some (k, rest)
word_begins allow opened k [] rest r some follow kind clean = absurd (some refl)
word_begins allow opened k (c ∷ w) rest r some follow kind clean =
    next_word allow opened c (w ++ rest) (word_starts (c ∷ w) r some)
    ∙ ap (word_token allow opened (c ∷ (w ++ rest))) (word_complete r rest follow)
    ∙ word_token_of allow opened k (c ∷ w) rest kind clean

pub plain_marked : (opened : Bool) (w : List ℕ) (k : TokenKind) → false ≡ (opened && starts is_at w) → plain_kind w ≡ k → kind_of opened w ≡ Some k
plain_marked opened w k m e = rw (← m) (ap (λ (i : TokenKind). let o : Option TokenKind = Some i in o) e)

number_begins : (allow opened : Bool) (k : NumberKind) (w rest : List ℕ) → IsNumber k w → w ≢ [] → starts goes_on rest ≡ false → false ≡ (opened && starts is_at w) → next allow opened (w ++ rest) ≡ Some (number_token k, rest)
number_begins allow opened k w rest num some follow marked =
    let all = number_all k w num in
    word_begins allow opened (number_token k) w rest (name_word w all) some follow (plain_marked opened w (number_token k) marked (number_kind w k num)) (names_stand allow w all)

pub complete : (allow opened : Bool) (kind : TokenKind) (word rest : List ℕ) → Begins allow opened kind word rest → next allow opened (word ++ rest) ≡ Some (kind, rest)
complete allow opened Whitespace [] rest b = absurd (b.nonempty refl)
complete allow opened Whitespace (c ∷ w) rest b = let both = and_parts (is_space c) (list_all is_space w) b.lexeme in rw both.0 (ap (λ r. Some (Whitespace, r)) (skip_front is_space w rest both.1 b.follow))
complete allow opened LParen word rest b = rw b.lexeme (rw b.follow refl)
complete allow opened RParen word rest b = rw b.lexeme refl
complete allow opened LineComment word rest b =
    rw b.lexeme.0.2 (rw (skip_front (is_neither 10 13) b.lexeme.0.0 rest b.lexeme.0.1 b.follow) (comment_of allow LineComment (59 ∷ 59 ∷ b.lexeme.0.0) rest (rw b.lexeme.0.2 at b.lexeme.1)))
complete allow opened BlockComment word rest b =
    let inner = b.lexeme.0.0 in
    let closed : close 0 ((inner ++ 59 ∷ 41 ∷ []) ++ rest) ≡ Some rest = rw append_assoc (close_inside b.lexeme.0.1 0 rest) in
    rw b.lexeme.0.2 (rw closed (comment_of allow BlockComment (40 ∷ 59 ∷ (inner ++ 59 ∷ 41 ∷ [])) rest (rw b.lexeme.0.2 at b.lexeme.1)))
complete allow opened String word rest b =
    let s = b.lexeme.0 in
    word_begins allow opened String word rest (string_word word s.0 s.1) b.nonempty b.follow (plain_marked opened word String b.marked (string_kind word s.0 s.1)) b.lexeme.1
complete allow opened Id word rest b =
    word_begins allow opened Id word rest (id_word word b.lexeme.0) b.nonempty b.follow (plain_marked opened word Id b.marked (id_kind word b.lexeme.0)) b.lexeme.1
complete allow opened Keyword word rest b =
    let all = name_all word b.lexeme.name in
    word_begins allow opened Keyword word rest (name_word word all) b.nonempty b.follow (plain_marked opened word Keyword b.marked (keyword_kind word b.lexeme)) (names_stand allow word all)
complete allow opened Annotation word rest b =
    word_begins allow opened Annotation word rest (annotation_word word b.lexeme.0) b.nonempty b.follow (rw (← b.marked) (rw (annotation_is word b.lexeme.0) refl)) b.lexeme.1
complete allow opened (Integer kind) word rest b = number_begins allow opened (kinds.Integer kind) word rest b.lexeme b.nonempty b.follow b.marked
complete allow opened (Float kind) word rest b = number_begins allow opened (kinds.Float kind) word rest b.lexeme b.nonempty b.follow b.marked
complete allow opened Reserved word rest b = elim b.lexeme [
  | inl one ↦
      let c = one.0 in
      let follow = b.follow.0 in
      rw one.2 (elim (or_cases (is_mark c) (is_semicolon c) one.1) [
        | inl mark ↦ (let not = mark_is c mark in rw (not.0, not.1, not.2, not.3, mark) refl)
        | inr semicolon ↦ (let is = eqb-true c 59 semicolon in rw is (rw (follow (rw (one.2, is) refl)) refl))
      ])
  | inr odd ↦ word_begins allow opened Reserved word rest odd.0.is_word b.nonempty (b.follow.1 (word_starts word odd.0.is_word b.nonempty)) (plain_marked opened word Reserved b.marked (odd_kind word odd.0)) odd.1
]

pub pair_same : (j k : TokenKind) (r s : List ℕ) → ◌≡◌ {A = Option (TokenKind × List ℕ)} (Some (j, r)) (Some (k, s)) → (j ≡ k) × (r ≡ s)
pair_same j k r s e =
    let p : ◌≡◌ {A = TokenKind × List ℕ} (j, r) (k, s) = cc in
    (ap (λ (q : TokenKind × List ℕ). q.0) p, ap (λ (q : TokenKind × List ℕ). q.1) p)

-- what a text is split into by its first token
abbrev pub Splits : Bool → Bool → List ℕ → TokenKind → List ℕ → Type 0
Splits allow opened s k r = (w : List ℕ) × (s ≡ w ++ r) × Begins allow opened k w r

give : (allow opened : Bool) (s : List ℕ) (j k : TokenKind) (q r : List ℕ) → ◌≡◌ {A = Option (TokenKind × List ℕ)} (Some (j, q)) (Some (k, r)) → Splits allow opened s j q → Splits allow opened s k r
give allow opened s j k q r e x = let same = pair_same j k q r e in subst (λ i. Splits allow opened s i r) same.0 (subst (λ y. Splits allow opened s j y) same.1 x)

pub skip_split : (p : ℕ → Bool) (s : List ℕ) → (w : List ℕ) × (s ≡ w ++ skip p s) × (list_all p w ≡ true) × (starts p (skip p s) ≡ false)
skip_split p [] = ([], refl, refl, refl)
skip_split p (c ∷ s) = elim (cases_Bool (p c)) [
  | inl t ↦ (let r = skip_split p s in rw t (c ∷ r.0, ap (λ x. c ∷ x) r.1, rw t r.2, r.3))
  | inr f ↦ rw f ([], refl, refl, f)
]

comment_split : (allow : Bool) (kind k : TokenKind) (s : List ℕ) (m : Option (List ℕ)) (r : List ℕ) → comment allow kind s m ≡ Some (k, r) → (m ≡ Some r) × (kind ≡ k) × (may_stand allow (front s r) ≡ true)
comment_split allow kind k s None r h = absurd (cc)
comment_split allow kind k s (Some q) r h = elim (cases_Bool (may_stand allow (front s q))) [
  | inl clean ↦ (let same = pair_same kind k q r (rw clean at h) in (ap (λ (y : List ℕ). let o : Option (List ℕ) = Some y in o) same.1, same.0, subst (λ y. may_stand allow (front s y) ≡ true) same.1 clean))
  | inr dirty ↦ (let h' = rw dirty at h in absurd (cc))
]

-- the tokens that begin with `(;`, `;;`, and the rest
block_split : (allow opened : Bool) (s : List ℕ) (k : TokenKind) (r : List ℕ) → comment allow BlockComment (40 ∷ 59 ∷ s) (close 0 s) ≡ Some (k, r) → Splits allow opened (40 ∷ 59 ∷ s) k r
block_split allow opened s k r h =
    let parts = comment_split allow BlockComment k (40 ∷ 59 ∷ s) (close 0 s) r h in
    let closed = close_split s 0 r parts.0 in
    let inner = closed.2.0 in
    let word : List ℕ = 40 ∷ 59 ∷ (inner ++ 59 ∷ 41 ∷ []) in
    let split : s ≡ (inner ++ 59 ∷ 41 ∷ []) ++ r = closed.1 ∙ ap (λ y. y ++ r) closed.2.2 in
    let is : 40 ∷ 59 ∷ s ≡ word ++ r = ap (λ (y : List ℕ). 40 ∷ 59 ∷ y) split in
    let clean : may_stand allow word ≡ true = ap (may_stand allow) (sym (ap (λ y. front y r) is ∙ front_of word r)) ∙ parts.2 in
    subst (λ i. Splits allow opened (40 ∷ 59 ∷ s) i r) parts.1 (word, is, record { nonempty = λ e. cc; lexeme = ((inner, closed.2.1, refl), clean); follow = tt; marked = unmarked opened false refl })

line_split : (allow opened : Bool) (s : List ℕ) (k : TokenKind) (r : List ℕ) → comment allow LineComment (59 ∷ 59 ∷ s) (Some (skip (is_neither 10 13) s)) ≡ Some (k, r) → Splits allow opened (59 ∷ 59 ∷ s) k r
line_split allow opened s k r h =
    let parts = comment_split allow LineComment k (59 ∷ 59 ∷ s) (Some (skip (is_neither 10 13) s)) r h in
    let line = skip_split (is_neither 10 13) s in
    let ends : skip (is_neither 10 13) s ≡ r = cc in
    let word : List ℕ = 59 ∷ 59 ∷ line.0 in
    let is : 59 ∷ 59 ∷ s ≡ word ++ r = ap (λ (y : List ℕ). 59 ∷ 59 ∷ y) (line.1 ∙ ap (λ y. line.0 ++ y) ends) in
    let clean : may_stand allow word ≡ true = ap (may_stand allow) (sym (ap (λ y. front y r) is ∙ front_of word r)) ∙ parts.2 in
    subst (λ i. Splits allow opened (59 ∷ 59 ∷ s) i r) parts.1 (word, is, record { nonempty = λ e. cc; lexeme = ((line.0, line.2, refl), clean); follow = ap (starts (is_neither 10 13)) (sym ends) ∙ line.3; marked = unmarked opened false refl })

starts_semicolon : (s : List ℕ) → starts is_semicolon s ≡ true → (t : List ℕ) × (s ≡ 59 ∷ t)
starts_semicolon [] h = absurd (cc)
starts_semicolon (c ∷ s) h = (s, ap (λ (i : ℕ). i ∷ s) (eqb-true c 59 h))

-- the tokens that begin with `(`, and with `;`
sound_open : (allow opened : Bool) (s : List ℕ) (k : TokenKind) (r : List ℕ) → next allow opened (40 ∷ s) ≡ Some (k, r) → Splits allow opened (40 ∷ s) k r
sound_open allow opened s k r h = elim (cases_Bool (starts is_semicolon s)) [
  | inl more ↦
      let t = starts_semicolon s more in
      subst (λ y. next allow opened (40 ∷ y) ≡ Some (k, r) → Splits allow opened (40 ∷ y) k r) (sym t.1) (block_split allow opened t.0 k r) h
  | inr none ↦ give allow opened (40 ∷ s) LParen k s r (rw none at h) (40 ∷ [], refl, record { nonempty = λ e. cc; lexeme = refl; follow = none; marked = unmarked opened false refl })
]

sound_semicolon : (allow opened : Bool) (s : List ℕ) (k : TokenKind) (r : List ℕ) → next allow opened (59 ∷ s) ≡ Some (k, r) → Splits allow opened (59 ∷ s) k r
sound_semicolon allow opened s k r h = elim (cases_Bool (starts is_semicolon s)) [
  | inl more ↦
      let t = starts_semicolon s more in
      subst (λ y. next allow opened (59 ∷ y) ≡ Some (k, r) → Splits allow opened (59 ∷ y) k r) (sym t.1) (line_split allow opened t.0 k r) h
  | inr none ↦ give allow opened (59 ∷ s) Reserved k s r (rw none at h) (59 ∷ [], refl, record { nonempty = λ e. cc; lexeme = inl (59, refl, refl); follow = (λ _. none, λ i. absurd (apart refl i)); marked = unmarked opened false refl })
]

at_byte : (allow opened : Bool) (c n : ℕ) (s : List ℕ) (k : TokenKind) (r : List ℕ) → c ≡ n → (next allow opened (n ∷ s) ≡ Some (k, r) → Splits allow opened (n ∷ s) k r) → next allow opened (c ∷ s) ≡ Some (k, r) → Splits allow opened (c ∷ s) k r
at_byte allow opened c n s k r e f = subst (λ i. next allow opened (i ∷ s) ≡ Some (k, r) → Splits allow opened (i ∷ s) k r) (sym e) f

map_split : (o : Option TokenKind) (k : TokenKind) (q r : List ℕ) → ◌≡◌ {A = Option (TokenKind × List ℕ)} (option_map (λ i. (i, q)) o) (Some (k, r)) → (o ≡ Some k) × (q ≡ r)
map_split None k q r h = absurd (cc)
map_split (Some i) k q r h = let same = pair_same i k q r h in (ap (λ (x : TokenKind). let y : Option TokenKind = Some x in y) same.0, same.1)

word_token_split : (allow opened : Bool) (s : List ℕ) (m : Option (List ℕ)) (k : TokenKind) (r : List ℕ) → word_token allow opened s m ≡ Some (k, r) → (m ≡ Some r) × (may_stand allow (front s r) ≡ true) × (kind_of opened (front s r) ≡ Some k)
word_token_split allow opened s None k r h = absurd (cc)
word_token_split allow opened s (Some q) k r h = elim (cases_Bool (may_stand allow (front s q))) [
  | inl clean ↦
      let parts = map_split (kind_of opened (front s q)) k q r (rw clean at h) in
      (ap (λ (y : List ℕ). let o : Option (List ℕ) = Some y in o) parts.1, subst (λ y. may_stand allow (front s y) ≡ true) parts.1 clean, subst (λ y. kind_of opened (front s y) ≡ Some k) parts.1 parts.0)
  | inr dirty ↦ (let h' = rw dirty at h in absurd (cc))
]

module _ (allow opened : Bool) (w r : List ℕ) (is : Word w) (follow' : starts goes_on r ≡ false) (some' : w ≢ []) (stands : may_stand allow w ≡ true) (plain : (opened && starts is_at w) ≡ false) where
  other_begins : is_id w ≡ false → number w ≡ None → Begins allow opened (other_kind w) w r
  other_begins i none = elim (cases_Bool (starts is_lower w && is_name w)) [
    | inl k ↦ rw k (record { nonempty = some'; lexeme = keyword_of w none k; follow = follow'; marked = sym plain })
    | inr k ↦ elim (cases_Bool (is_string w)) [
      | inl q ↦ rw (k, q) (record { nonempty = some'; lexeme = (string_sound w q, stands); follow = follow'; marked = sym plain })
      | inr q ↦ rw (k, q) (record {
        nonempty = some';
        lexeme = inr (
          record {
            is_word = is;
            not_id = λ id. apart i (id_is w id);
            not_number = λ n num. (let no : None ≡ Some n = sym none ∙ number_scanned w n num in cc);
            not_keyword = λ word. apart k (rw (word.lower, word.name) refl);
            not_string = λ bytes text. apart q (string_complete w bytes text);
          },
          stands,
        );
        follow = (λ semicolon. absurd (semicolon_no_word w is semicolon), λ _. follow');
        marked = sym plain;
      })
    ]
  ]

  number_token_begins : (k : NumberKind) → IsNumber k w → Begins allow opened (number_token k) w r
  number_token_begins (kinds.Integer kind) num = record { nonempty = some'; lexeme = num; follow = follow'; marked = sym plain }
  number_token_begins (kinds.Float kind) num = record { nonempty = some'; lexeme = num; follow = follow'; marked = sym plain }

  plain_begins : Begins allow opened (plain_kind w) w r
  plain_begins = elim (cases_Bool (is_id w)) [
    | inl i ↦ rw i (record { nonempty = some'; lexeme = (id_sound w i, stands); follow = follow'; marked = sym plain })
    | inr i ↦ elim (cases_option (number w)) [
      | inl none ↦ rw (i, none) (other_begins i none)
      | inr some ↦ rw (i, some.1) (number_token_begins some.0 (scanned_number w some.0 some.1))
    ]
  ]

kind_begins : (allow opened : Bool) (w r : List ℕ) → Word w → starts goes_on r ≡ false → w ≢ [] → may_stand allow w ≡ true → (k : TokenKind) → kind_of opened w ≡ Some k → Begins allow opened k w r
kind_begins allow opened w r is follow' some' stands k h = elim (cases_Bool (opened && starts is_at w)) [
  | inl t ↦ elim (cases_Bool (is_annotated w)) [
    | inl a ↦ (let h' = rw (t, a) at h in let same : Annotation ≡ k = cc in
        subst (λ i. Begins allow opened i w r) same (record { nonempty = some'; lexeme = (annotation_sound w a, stands); follow = follow'; marked = sym t }))
    | inr a ↦ (let h' = rw (t, a) at h in absurd (cc))
  ]
  | inr f ↦ (let h' = rw f at h in let same : plain_kind w ≡ k = cc in
      subst (λ i. Begins allow opened i w r) same (plain_begins allow opened w r is follow' some' stands f))
]

word_split : (allow opened : Bool) (s : List ℕ) (k : TokenKind) (r : List ℕ) → starts goes_on s ≡ true → word_token allow opened s (after_word None s) ≡ Some (k, r) → Splits allow opened s k r
word_split allow opened s k r on h =
    let parts = word_token_split allow opened s (after_word None s) k r h in
    let found = word_sound (length s) s r (omega arith) parts.0 in
    let is : front s r ≡ found.0 = ap (λ y. front y r) found.1 ∙ front_of found.0 r in
    let some' : found.0 ≢ [] = λ none. apart found.3 (ap (starts goes_on) (sym (found.1 ∙ ap (λ y. y ++ r) none)) ∙ on) in
    (found.0, found.1, kind_begins allow opened found.0 r found.2 found.3 some' (ap (may_stand allow) (sym is) ∙ parts.1) k (ap (kind_of opened) (sym is) ∙ parts.2))

-- what the scan finds is a token that begins there
pub sound : (allow opened : Bool) (s : List ℕ) (k : TokenKind) (r : List ℕ) → next allow opened s ≡ Some (k, r) → Splits allow opened s k r
sound allow opened [] k r h = absurd (cc)
sound allow opened (c ∷ s) k r h = elim (cases_Bool (is_space c)) [
  | inl space ↦
      let spaces = skip_split is_space s in
      give allow opened (c ∷ s) Whitespace k (skip is_space s) r (rw space at h)
      (c ∷ spaces.0, ap (λ y. c ∷ y) spaces.1, record { nonempty = λ e. cc; lexeme = rw space spaces.2; follow = spaces.3; marked = unmarked opened (is_at c) (space_is c space) })
  | inr space ↦ elim (cases_Bool (is_open c)) [
    | inl o ↦ at_byte allow opened c 40 s k r (eqb-true c 40 o) (sound_open allow opened s k r) h
    | inr o ↦ elim (cases_Bool (is_close c)) [
      | inl e ↦ at_byte allow opened c 41 s k r (eqb-true c 41 e) (λ h'. give allow opened (41 ∷ s) RParen k s r h' (41 ∷ [], refl, record { nonempty = λ e. cc; lexeme = refl; follow = tt; marked = unmarked opened false refl })) h
      | inr e ↦ elim (cases_Bool (is_semicolon c)) [
        | inl m ↦ at_byte allow opened c 59 s k r (eqb-true c 59 m) (sound_semicolon allow opened s k r) h
        | inr m ↦ elim (cases_Bool (is_mark c)) [
          | inl mark ↦ give allow opened (c ∷ s) Reserved k s r (rw (space, o, e, m, mark) at h) (c ∷ [], refl, record { nonempty = λ e. cc; lexeme = inl (c, rw mark refl, refl); follow = (λ i. absurd (apart m i), λ i. absurd (apart (mark_ends c mark) i)); marked = unmarked opened (is_at c) (mark_no_at c mark) })
          | inr mark ↦ elim (cases_Bool (goes_on c)) [
            | inl on ↦ word_split allow opened (c ∷ s) k r on (sym (next_word allow opened c s on) ∙ h)
            | inr on ↦ (let h' = rw (on, space, o, e, m, mark) at h in absurd (cc))
          ]
        ]
      ]
    ]
  ]
]

-- a token that the scan of a text found, as a part of the text
pub token_at : (allow opened : Bool) (text : List ℕ) (from to : ℕ) (k : TokenKind) → from < to → to ≤ length text → next allow opened (drop from text) ≡ Some (k, drop to text) → Begins allow opened k (slice_range text from to) (drop to text)
token_at allow opened text from to k less within h =
    let found = sound allow opened (drop from text) k (drop to text) h in
    let size : to - from ≡ length found.0 = omega (arith, ap length found.1, length-append found.0 (drop to text), length-drop from text, length-drop to text) in
    let is : slice_range text from to ≡ found.0 = ap (λ n. take n (drop from text)) size ∙ ap (take (length found.0)) found.1 ∙ take-append_seam found.0 (drop to text) in
    subst (λ w. Begins allow opened k w (drop to text)) (sym is) found.2

pub no_token : (allow opened : Bool) (text : List ℕ) (from : ℕ) → next allow opened (drop from text) ≡ None → (k : TokenKind) (w r : List ℕ) → drop from text ≡ w ++ r → Begins allow opened k w r → ⊥
no_token allow opened text from h k w r e b =
    let found : ◌≡◌ {A = Option (TokenKind × List ℕ)} (Some (k, r)) None = sym (complete allow opened k w r b) ∙ ap (next allow opened) (sym e) ∙ h in cc
