-- Steps of the scan of a word that begins with a string.
use Rattle.std.proofs.Common.{◌≡◌, ℕ, ◌+◌, ◌<◌, ◌≤◌, Bool, true, false, ◌&&◌, List, [], ◌∷◌, ◌++◌, length, drop, get_or, None, Some, refl, ap, sym, ◌∙◌, append_assoc}
use Rattle.std.specs.Prelude.{slice_range}
use Rattle.std.proofs.lemmas.List.{drop_more}
use Rattle.wast_lexer_strings.specs.Strings.{IsString}
use Rattle.wast_lexer_strings.specs.StringScan.{Read, read}
use Rattle.wast_lexer_strings.specs.StringScan.State.{Within}
use Rattle.wast_lexer_strings.proofs.Sound.{read_sound}
use Rattle.wast_lexer.specs.declared.token.TokenKind.TheVariants.{String}
use Rattle.wast_lexer.specs.Kinds.{starts, is_at}
use Rattle.wast_lexer.specs.Tiling.{goes_on}
use Rattle.wast_lexer.specs.Scan.{after_word, front, kind_of, next}
use Rattle.wast_lexer.proofs.WordLaws.{word_behind, word_read, word_stops}
use Rattle.wast_lexer.proofs.KindLaws.{string_kind}
use Rattle.wast_lexer.proofs.ScanLaws.{front_of, plain_marked}
use Rattle.wast_lexer.proofs.WordSteps.{front_range, word_fails}

and_no : (a : Bool) → false ≡ (a && false)
and_no true = refl
and_no false = refl

module _ (allow opened : Bool) (text : List ℕ) (at : ℕ) (inside : at < length text) (quote : get_or text at 0 ≡ 34) where
  pub string_on : goes_on (get_or text at 0) ≡ true
  string_on = ap goes_on quote

  string_here : drop at text ≡ 34 ∷ drop (at + 1) text
  string_here = drop_more text at 0 inside ∙ ap (λ (c : ℕ). c ∷ drop (at + 1) text) quote

  string_word : after_word None (drop at text) ≡ word_behind (read Within (drop (at + 1) text))
  string_word = ap (after_word None) string_here ∙ word_read (drop (at + 1) text) Within

  pub string_fails : read Within (drop (at + 1) text) ≡ None → next allow opened (drop at text) ≡ None
  string_fails h = word_fails allow opened text at inside string_on (string_word ∙ ap word_behind h)

  module _ (end : ℕ) (low : at ≤ end) (high : end ≤ length text) (r : Read) (e : read Within (drop (at + 1) text) ≡ Some r) (rest : r.rest ≡ drop end text) where
    -- nothing follows that the word goes on with
    pub string_ends : starts goes_on (drop end text) ≡ false → after_word None (drop at text) ≡ Some (drop end text)
    string_ends stops = string_word ∙ ap word_behind e ∙ ap (after_word None) rest ∙ word_stops (drop end text) stops

    string_cut : IsString (slice_range text at end) r.bytes
    string_cut =
        let i = read_sound (drop (at + 1) text) Within r e in
        let split : drop at text ≡ (34 ∷ (i.0 ++ 34 ∷ [])) ++ drop end text = string_here ∙ ap (λ (y : List ℕ). 34 ∷ y) (i.2 ∙ ap (λ (y : List ℕ). i.0 ++ 34 ∷ y) rest ∙ sym (append_assoc i.0 (34 ∷ []) (drop end text))) in
        (i.0, i.1, sym (front_range text at end low high) ∙ ap (λ y. front y (drop end text)) split ∙ front_of (34 ∷ (i.0 ++ 34 ∷ [])) (drop end text))

    pub string_kinds : kind_of opened (slice_range text at end) ≡ Some String
    string_kinds =
        let s = string_cut in
        plain_marked opened (slice_range text at end) String (and_no opened ∙ sym (ap (λ w. opened && starts is_at w) s.2)) (string_kind (slice_range text at end) r.bytes s)
