-- Where a line of a text begins and ends.
use Rattle.std.proofs.Common.{◌≡◌, ◌≤◌, ◌<◌, ◌+◌, ◌-◌, ℕ, zero, suc, true, false, List, [], ◌∷◌, ◌++◌, ◌⊎◌, inl, inr, length, take, drop, get_or, refl, sym, ap, subst, ◌∙◌, arith, append-nil, take_all, nat_eq, None, Some, length-drop, length-take, drop_of_length-le}
use lib.Seq.{take-append_seam, drop-append_seam}
use Rattle.std.specs.List.{slice_range}
use Rattle.std.specs.Str.{IsUtf8, IsCharBoundary}
use Rattle.std.proofs.lemmas.Str.{IsUtf8-take, IsCharBoundary-start, IsCharBoundary-after_ascii}
use Rattle.memchr.specs.Find.{IsFirstByte, is_byte}
use Rattle.std.proofs.Math.Seq.{take-nil}
use Rattle.std.proofs.lemmas.Bool.{eq-eqb, eqb-true, ne_eqb}
use Rattle.std.proofs.lemmas.Bool.Decides.{eqb_tells}
use Rattle.std.proofs.lemmas.List.{nil_from_length}
use Rattle.wast_lexer.specs.Span.{column_of, line_feeds, line_of, since_line_feed}
use Rattle.wast_parser_base.specs.Snippet.{line_at, until_line_feed, without_return}

-- the first line feed, or the end where there is none, ends the line
pub line_ends_at : (text : List ℕ) (end : ℕ) → end ≤ length text
    → ((k : ℕ) → k < end → get_or text k 0 ≡ 10 → ⊥) → (end < length text → get_or text end 0 ≡ 10)
    → until_line_feed text ≡ take end text
line_ends_at [] end within before at = sym (take-nil end)
line_ends_at (b ∷ bs) zero within before at =
    let found : nat_eq b 10 ≡ true = eq-eqb b 10 (at (omega arith)) in
    rw found refl
line_ends_at (b ∷ bs) (suc end) within before at =
    let other : nat_eq b 10 ≡ false = ne_eqb b 10 (before 0 (omega arith)) in
    let rest : until_line_feed bs ≡ take end bs =
    line_ends_at bs end (omega arith) (λ k below. before (suc k) (omega arith)) (λ below. at (omega arith)) in
    rw other (ap (λ l. b ∷ l) rest)

pub line_ends_found : (text : List ℕ) (end : ℕ) → IsFirstByte (is_byte 10) text (Some end) → until_line_feed text ≡ take end text
line_ends_found text end (none_before, found) =
    line_ends_at text end (omega (arith, none_before.high)) (λ k below at. none_before.before k (omega arith) below (eq-eqb _ 10 at))
    (λ _. eqb-true _ 10 found)

pub line_ends_nowhere : (text : List ℕ) → IsFirstByte (is_byte 10) text None → until_line_feed text ≡ text
line_ends_nowhere text nowhere =
    line_ends_at text (length text) (omega arith) (λ k below at. nowhere k (omega arith) below (eq-eqb _ 10 at))
    (λ below. absurd (omega arith))
    ∙ take_all (length text) text (omega arith)

-- a last carriage return goes
pub return_dropped : (line : List ℕ) → 0 < length line → get_or line (length line - 1) 0 ≡ 13
    → without_return line ≡ take (length line - 1) line
return_dropped [] some last = absurd (omega arith)
return_dropped (b ∷ []) some last =
    let found : nat_eq b 13 ≡ true = eq-eqb b 13 last in
    rw found refl
return_dropped (b ∷ c ∷ bs) some last =
    let one_more : length (b ∷ c ∷ bs) - 1 ≡ suc (length (c ∷ bs) - 1) = omega arith in
    let rest : without_return (c ∷ bs) ≡ take (length (c ∷ bs) - 1) (c ∷ bs) =
    return_dropped (c ∷ bs) (omega arith) (subst (λ n. get_or (b ∷ c ∷ bs) n 0 ≡ 13) one_more last) in
    ap (λ l. b ∷ l) rest ∙ sym (ap (λ n. take n (b ∷ c ∷ bs)) one_more)

pub return_absent : (line : List ℕ) → (0 < length line → get_or line (length line - 1) 0 ≡ 13 → ⊥) → without_return line ≡ line
return_absent [] other = refl
return_absent (b ∷ []) other =
    let differs : nat_eq b 13 ≡ false = ne_eqb b 13 (other (omega arith)) in
    rw differs refl
return_absent (b ∷ c ∷ bs) other =
    let one_more : suc (length (c ∷ bs) - 1) ≡ length (b ∷ c ∷ bs) - 1 = omega arith in
    ap (λ l. b ∷ l) (return_absent (c ∷ bs) (λ some last. other (omega arith) (subst (λ n. get_or (b ∷ c ∷ bs) n 0 ≡ 13) one_more last)))

-- what isn't empty has its own last byte
pub without_return_behind : (front back : List ℕ) → 0 < length back → without_return (front ++ back) ≡ front ++ without_return back
without_return_behind [] back some = refl
without_return_behind (b ∷ []) [] some = absurd (omega arith)
without_return_behind (b ∷ []) (c ∷ bs) some = refl
without_return_behind (b ∷ c ∷ front) back some = ap (λ l. b ∷ l) (without_return_behind (c ∷ front) back some)

pub length-without_return-le : (line : List ℕ) → length (without_return line) ≤ length line
length-without_return-le [] = omega arith
length-without_return-le (b ∷ []) =
    elim (eqb_tells b 13) [
      | inl (found, same) ↦ rw found (omega arith)
      | inr (differs, other) ↦ rw differs (omega arith)
    ]
length-without_return-le (b ∷ c ∷ bs) = omega (arith, length-without_return-le (c ∷ bs))

since_behind : (b : ℕ) (bs : List ℕ) (s : ℕ) → s < length bs → get_or bs (length bs - s - 1) 0 ≡ 10
    → get_or (b ∷ bs) (length (b ∷ bs) - s - 1) 0 ≡ 10
since_behind b bs s less found =
    let one_more : suc (length bs - s - 1) ≡ length (b ∷ bs) - s - 1 = omega arith in
    subst (λ n. get_or (b ∷ bs) n 0 ≡ 10) one_more found

-- the bytes since the last line feed: all, or those behind one
pub since_cases : (n : ℕ) (text : List ℕ) → (since_line_feed n text ≡ n + length text)
    ⊎ ((since_line_feed n text < length text) × (get_or text (length text - since_line_feed n text - 1) 0 ≡ 10))
since_cases n [] = inl (omega arith)
since_cases n (b ∷ bs) =
    elim (eqb_tells b 10) [
      | inl (found, same) ↦ rw found (elim (since_cases 0 bs) [
        | inl all ↦
            let here : 0 ≡ length (b ∷ bs) - since_line_feed 0 bs - 1 = omega (arith, all) in
            inr (omega (arith, all), subst (λ k. get_or (b ∷ bs) k 0 ≡ 10) here same)
        | inr (less, at) ↦ inr (omega (arith, less), since_behind b bs _ less at)
      ])
      | inr (differs, other) ↦ rw differs (elim (since_cases (n + 1) bs) [
        | inl all ↦ inl (omega (arith, all))
        | inr (less, at) ↦ inr (omega (arith, less), since_behind b bs _ less at)
      ])
    ]

-- ---- the code's answers

some_of_test : (n : ℕ) → false ≡ nat_eq n 0 → 0 < n
some_of_test zero test = cc
some_of_test (suc n) test = omega arith

pub return_of : (line bytes : List ℕ) → bytes ≡ line → false ≡ nat_eq (length bytes) 0 → get_or bytes (length bytes - 1) 0 ≡ 13
    → slice_range line 0 (length line - 1) ≡ without_return line
return_of line bytes same some last =
    let whole : length bytes ≡ length line = ap length same in
    let here : get_or line (length line - 1) 0 ≡ 13 = subst (λ l. get_or l (length l - 1) 0 ≡ 13) same last in
    let start : length line - 1 - 0 ≡ length line - 1 = omega arith in
    ap (λ n. take n line) start ∙ sym (return_dropped line (omega (arith, some_of_test (length bytes) some)) here)

pub no_return_of : (line bytes : List ℕ) → bytes ≡ line → (get_or bytes (length bytes - 1) 0 ≡ 13 → ⊥) → line ≡ without_return line
no_return_of line bytes same other =
    sym (return_absent line (λ some last. other (subst (λ l. get_or l (length l - 1) 0 ≡ 13) (sym same) last)))

pub empty_of : (line bytes : List ℕ) → bytes ≡ line → true ≡ nat_eq (length bytes) 0 → line ≡ without_return line
empty_of line bytes same empty =
    let none : length bytes ≡ 0 = eqb-true (length bytes) 0 (sym empty) in
    sym (return_absent line (λ some last. absurd (omega (arith, ap length same))))

pub column_within : (source before : List ℕ) (offset column : ℕ)
    → column ≡ column_of source offset → before ≡ take offset source → column ≤ length before
column_within source before offset column counted front =
    elim (since_cases 0 (take offset source)) [
      | inl all ↦ omega (arith, all, counted, ap length front)
      | inr (less, at) ↦ omega (arith, less, counted, ap length front)
    ]

-- a character begins where the line does
pub line_starts : (source before : List ℕ) (offset column : ℕ)
    → IsUtf8 source → IsCharBoundary source offset → column ≡ column_of source offset → before ≡ take offset source
    → IsCharBoundary before (length before - column)
line_starts source before offset column text boundary counted front =
    let front_text : IsUtf8 before = subst IsUtf8 (sym front) (IsUtf8-take source offset text boundary) in
    let same : column ≡ since_line_feed 0 before = counted ∙ ap (since_line_feed 0) (sym front) in
    elim (since_cases 0 before) [
      | inl all ↦
          let start : 0 ≡ length before - column = omega (arith, all, same) in
          subst (IsCharBoundary before) start (IsCharBoundary-start before front_text)
      | inr (less, at) ↦
          let behind : length before - since_line_feed 0 before - 1 + 1 ≡ length before - column = omega (arith, less, same) in
          let ascii : get_or before (length before - since_line_feed 0 before - 1) 0 < 128 = omega (arith, at) in
          subst (IsCharBoundary before) behind
          (IsCharBoundary-after_ascii before (length before - since_line_feed 0 before - 1) front_text (omega (arith, less)) ascii)
    ]

-- the line, where the offset parts it
pub record Parts (source : List ℕ) (offset column : ℕ) (front back : List ℕ) : Type 0 where
  pub whole : line_at source offset ≡ without_return (front ++ back)
  pub front_len : length front ≡ column

pub line_parts : (source before after front back : List ℕ) (offset column : ℕ)
    → column ≡ column_of source offset → before ≡ take offset source → after ≡ drop offset source → length before ≡ offset
    → front ≡ drop (length before - column) before → back ≡ until_line_feed after
    → Parts source offset column front back
unfolding line_at
line_parts source before after front back offset column counted is_before is_after len is_front is_back = record {
  whole =
      let start : offset - column_of source offset ≡ length before - column = omega (arith, counted, len) in
      let one : drop (offset - column_of source offset) (take offset source) ≡ front =
      ap (drop (offset - column_of source offset)) (sym is_before) ∙ ap (λ n. drop n before) start ∙ sym is_front in
      let two : until_line_feed (drop offset source) ≡ back = ap until_line_feed (sym is_after) ∙ sym is_back in
      ap (λ l. without_return (l ++ until_line_feed (drop offset source))) one ∙ ap (λ l. without_return (front ++ l)) two;
  front_len =
      let within : column ≤ length before = column_within source before offset column counted is_before in
      omega (arith, ap length is_front, length-drop (length before - column) before);
}

module _ (source : List ℕ) (offset column : ℕ) (front back : List ℕ) (parts : Parts source offset column front back) where
  -- nothing is left of the line from the offset on
  ended : true ≡ nat_eq (length back) 0 → line_at source offset ≡ without_return front
  ended empty =
      parts.whole ∙ ap (λ l. without_return (front ++ l)) (nil_from_length back (eqb-true (length back) 0 (sym empty)))
      ∙ ap without_return (append-nil front)

  pub before_at_end : true ≡ nat_eq (length back) 0 → without_return front ≡ take column (line_at source offset)
  before_at_end empty =
      sym (ap (take column) (ended empty) ∙ take_all column (without_return front) (omega (arith, length-without_return-le front, parts.front_len)))

  pub after_at_end : true ≡ nat_eq (length back) 0 → back ≡ drop column (line_at source offset)
  after_at_end empty =
      nil_from_length back (eqb-true (length back) 0 (sym empty))
      ∙ sym (ap (drop column) (ended empty) ∙ drop_of_length-le (without_return front) (omega (arith, length-without_return-le front, parts.front_len)))

  -- something is
  going_on : false ≡ nat_eq (length back) 0 → line_at source offset ≡ front ++ without_return back
  going_on some = parts.whole ∙ without_return_behind front back (some_of_test (length back) some)

  pub before_within : false ≡ nat_eq (length back) 0 → front ≡ take column (line_at source offset)
  before_within some =
      sym (ap (take column) (going_on some) ∙ ap (λ n. take n (front ++ without_return back)) (sym parts.front_len)
      ∙ take-append_seam front (without_return back))

  pub after_within : false ≡ nat_eq (length back) 0 → without_return back ≡ drop column (line_at source offset)
  after_within some =
      sym (ap (drop column) (going_on some) ∙ ap (λ n. drop n (front ++ without_return back)) (sym parts.front_len)
      ∙ drop-append_seam front (without_return back))

pub line_feeds-le : (text : List ℕ) → line_feeds text ≤ length text
line_feeds-le [] = omega arith
line_feeds-le (b ∷ bs) =
    elim (eqb_tells b 10) [
      | inl (found, same) ↦ rw found (omega (arith, line_feeds-le bs))
      | inr (differs, other) ↦ rw differs (omega (arith, line_feeds-le bs))
    ]

-- a line's number is no more than the text's length, nor is a column
pub line_of-le : (text : List ℕ) (offset : ℕ) → line_of text offset ≤ length text
line_of-le text offset = omega (arith, line_feeds-le (take offset text), length-take offset text)

pub column_of-le : (text : List ℕ) (offset : ℕ) → column_of text offset ≤ length text
column_of-le text offset =
    elim (since_cases 0 (take offset text)) [
      | inl all ↦ omega (arith, all, length-take offset text)
      | inr (less, at) ↦ omega (arith, less, length-take offset text)
    ]
