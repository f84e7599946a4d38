-- Tokens by their index, and one that is shown, where all before it, from a place on, is dropped.
use Rattle.std.proofs.Common.{◌≡◌, ℕ, ◌+◌, ◌≤◌, true, false, ◌&&◌, List, All, Some, None, refl, sym, ◌∙◌, subst, arith}
use Rattle.std.specs.Prelude.{Option, slice_get, option_map}
use Rattle.std.proofs.lemmas.List.Elements.{All-get_or}
use Rattle.std.proofs.lemmas.Option.{slice_get_within, get_or_from_slice_get}
use Rattle.wast_lexer.specs.declared.token.Token.{Token}
use Rattle.wast_lexer.specs.declared.token.TokenKind.{TokenKind}
use Rattle.wast_lexer.specs.TokenText.{IsOf}
use Rattle.wast_grammar.specs.Significant.{is_trivia, is_lparen, begins_unknown}
use Rattle.wast_parser_core.specs.Standing.{is_outside}
use Rattle.wast_parser_core.specs.State.{State, ahead, IsNext}
use Rattle.wast_parser_core.proofs.Ahead.{lexemes, ahead_seen}
use Rattle.wast_parser_core.proofs.Standing.{at_index, shown_tight}

abbrev pub kind_at : State → ℕ → Option TokenKind
kind_at s i = option_map (λ (t : Token). t.kind) (slice_get s.source.tokens i)

-- the token whose kind stands there
pub of_kind : (ts : List Token) (i : ℕ) (k : TokenKind) → option_map (λ (t : Token). t.kind) (slice_get ts i) ≡ Some k → (t : Token) × (slice_get ts i ≡ Some t) × (t.kind ≡ k)
of_kind ts i k e = go (slice_get ts i) e
  where
    go : (o : Option Token) → option_map (λ (t : Token). t.kind) o ≡ Some k → (t : Token) × (o ≡ Some t) × (t.kind ≡ k)
    go None e = cc
    go (Some t) e = (t, refl, cc)

-- no token where no kind stands
pub none_of_kind : (ts : List Token) (i : ℕ) → option_map (λ (t : Token). t.kind) (slice_get ts i) ≡ None → slice_get ts i ≡ None
none_of_kind ts i e = go (slice_get ts i) e
  where
    go : (o : Option Token) → option_map (λ (t : Token). t.kind) o ≡ None → o ≡ None
    go None e = refl
    go (Some t) e = cc

pub all_at : {X : Type 0} (P : X → Type 0) (xs : List X) (i : ℕ) (x : X) → All P xs → slice_get xs i ≡ Some x → P x
all_at P xs i x a h = subst P (get_or_from_slice_get xs i x x h) (All-get_or P xs i x (slice_get_within xs i x h) a)

pub shown_from : (s : State) (from i : ℕ) (t : Token) → ahead (record s { at = i }) ≡ ahead (record s { at = from }) → from ≤ i → (is_outside (at_index s from) ≡ true → is_outside (at_index s i) ≡ true) →
    slice_get s.source.tokens i ≡ Some t → is_lparen t.kind && begins_unknown s.names (lexemes s (i + 1)) ≡ false → is_trivia t.kind ≡ false → IsOf s.source.text t → IsNext (record s { at = from }) t (i + 1)
shown_from s from i t same low out got kept seen own = record {
  found = sym same ∙ ahead_seen s i t got kept;
  seen = seen;
  own = own;
  onward = omega (arith, low);
  tight = shown_tight s from i t got kept seen out;
}
