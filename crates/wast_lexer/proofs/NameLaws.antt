-- Runs of identifier characters alone.
use Rattle.std.proofs.Common.{◌≡◌, ℕ, ◌-◌, ◌<◌, ◌≤◌, Bool, true, false, not, ◌||◌, List, [], ◌∷◌, Some, None, length, take, drop, get_or, refl, sym, ◌∙◌, ap, arith, length-append}
use Rattle.std.specs.Prelude.{if◌then◌else◌, nat_lt, slice_range}
use Rattle.std.specs.List.{list_all}
use Rattle.std.proofs.Math.Seq.{take-append_seam}
use Rattle.std.proofs.lemmas.Bool.Decides.{nat_tests}
use Rattle.std.proofs.lemmas.List.{length-drop}
use Rattle.wast_lexer_strings.specs.Strings.{is_quote}
use Rattle.wast_lexer_strings.specs.StringScan.{is_empty}
use Rattle.wast_lexer.specs.declared.token.TokenKind.TheVariants.{Id, Annotation, Reserved}
use Rattle.wast_lexer.specs.Kinds.{starts, is_idchar, is_name}
use Rattle.wast_lexer.specs.Scan.{skip, kind_of, plain_kind, is_string, is_text_string}
use Rattle.std.specs.Bool.{then_some}
use Rattle.std.specs.Prelude.{option_map}
use Rattle.std.proofs.lemmas.Bool.{and_parts}
use Rattle.wast_lexer.specs.Tiling.{goes_on}
use Rattle.wast_lexer.specs.Scan.{after_word, next}
use Rattle.wast_lexer.proofs.KindLaws.{names_stand}
use Rattle.wast_lexer.proofs.WordSteps.{part_ends, word_clean}
use Rattle.wast_lexer.proofs.ScanLaws.{skip_split}

-- what a search passed over
pub passed_all : (p : ℕ → Bool) (text : List ℕ) (at end : ℕ) → at ≤ end → end ≤ length text → drop end text ≡ skip p (drop at text) → list_all p (slice_range text at end) ≡ true
passed_all p text at end low high h =
    let s = skip_split p (drop at text) in
    let n : end - at ≡ length s.0 = omega (arith, ap length s.1, length-append s.0 (skip p (drop at text)), ap length h, length-drop at text, length-drop end text) in
    let is : slice_range text at end ≡ s.0 = ap (λ k. take k (drop at text)) n ∙ ap (take (length s.0)) s.1 ∙ take-append_seam s.0 (skip p (drop at text)) in
    ap (list_all p) is ∙ s.2

no_quote : (c : ℕ) → is_idchar c ≡ true → is_quote c ≡ false
no_quote c h = grind (arith, nat_tests)

all_name : (w : List ℕ) → list_all is_idchar w ≡ true → is_name w ≡ not (is_empty w)
all_name [] h = refl
all_name (c ∷ w) h = let both = and_parts (is_idchar c) (list_all is_idchar w) h in rw (both.0, both.1) refl

no_string : (w : List ℕ) → list_all is_idchar w ≡ true → (is_string w ≡ false) × (is_text_string w ≡ false)
no_string [] h = (refl, refl)
no_string (c ∷ w) h = let q = no_quote c (and_parts (is_idchar c) (list_all is_idchar w) h).0 in (rw q refl, rw q refl)

or_false : (a b : Bool) → b ≡ false → (a || b) ≡ a
or_false true b h = refl
or_false false b h = h

length_some : (c : ℕ) (w : List ℕ) → not (is_empty w) ≡ nat_lt 1 (length (c ∷ w))
length_some c [] = refl
length_some c (d ∷ w) = let l : nat_lt 1 (length (c ∷ d ∷ w)) ≡ true = grind (arith, nat_tests) in sym l

-- what follows a `$` or `@`
tail_name : (c : ℕ) (w : List ℕ) → list_all is_idchar (c ∷ w) ≡ true → ((is_name w || is_string w) ≡ nat_lt 1 (length (c ∷ w))) × ((is_name w || is_text_string w) ≡ nat_lt 1 (length (c ∷ w)))
tail_name c w h =
    let all = (and_parts (is_idchar c) (list_all is_idchar w) h).1 in
    let s = no_string w all in
    let n = all_name w all ∙ length_some c w in
    (or_false (is_name w) (is_string w) s.0 ∙ n, or_false (is_name w) (is_text_string w) s.1 ∙ n)

module _ (word : List ℕ) (all : list_all is_idchar word ≡ true) (some : 0 < length word) where
  pub annotation_kind : (opened : Bool) → opened ≡ true → get_or word 0 0 ≡ 64 → (if nat_lt 1 (length word) then Some Annotation else None) ≡ kind_of opened word
  annotation_kind opened o at = go word all some at
    where
      go : (w : List ℕ) → list_all is_idchar w ≡ true → 0 < length w → get_or w 0 0 ≡ 64 → (if nat_lt 1 (length w) then Some Annotation else None) ≡ kind_of opened w
      go [] a l e = absurd (omega (arith, l))
      go (c ∷ w) a l e = rw (o, e) (ap (λ b. if b then Some Annotation else None) (sym (tail_name c w a).1))

  pub dollar_kind : (opened : Bool) → get_or word 0 0 ≡ 36 → Some (if nat_lt 1 (length word) then Id else Reserved) ≡ kind_of opened word
  dollar_kind opened at = go word all some at
    where
      plain : (o : Bool) (w : List ℕ) → kind_of o (36 ∷ w) ≡ Some (plain_kind (36 ∷ w))
      plain true w = refl
      plain false w = refl

      go : (w : List ℕ) → list_all is_idchar w ≡ true → 0 < length w → get_or w 0 0 ≡ 36 → Some (if nat_lt 1 (length w) then Id else Reserved) ≡ kind_of opened w
      go [] a l e = absurd (omega (arith, l))
      go (c ∷ w) a l e = rw e (ap (λ b. Some (if b then Id else Reserved)) (sym (tail_name c w a).0) ∙ sym (plain opened w))

pub then_some_is : {A : Type 0} (b : Bool) (x : A) → then_some b x ≡ (if b then Some x else None)
then_some_is true x = refl
then_some_is false x = refl

-- what the scan makes of such a word
pub name_next : (allow opened : Bool) (text : List ℕ) (at end : ℕ) → at < end → end ≤ length text → goes_on (get_or text at 0) ≡ true → drop end text ≡ skip is_idchar (drop at text) → starts is_quote (drop end text) ≡ false
    → next allow opened (drop at text) ≡ option_map (λ k. (k, drop end text)) (kind_of opened (slice_range text at end))
name_next allow opened text at end some within on found behind =
    let ended = part_ends text (after_word None (drop at text)) at end refl found (sym behind) in
    word_clean allow opened text at end (omega (arith, some, within)) on (omega (arith, some)) within ended
    (sym (names_stand allow (slice_range text at end) (passed_all is_idchar text at end (omega (arith, some)) within found)))
