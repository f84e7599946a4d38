-- Words by how they begin.
use Rattle.std.proofs.Common.{◌≡◌, ℕ, true, false, List, [], ◌∷◌, ◌++◌, Option, Some, None, ◌+◌, length, take, drop, cond, ◌&&◌, refl, sym, ◌∙◌, ap}
use Rattle.std.specs.Prelude.{nat_eq, is_some, option_map, MatchOption}
use denote.Ref.{Bor}
use Rattle.wast_lexer.specs.declared.token.Token.{Token}
use Rattle.wast_lexer.specs.TokenText.{text_of}
use Rattle.wast_grammar.specs.Significant.{token_of}
use Rattle.wast_grammar.specs.Spelling.{same_text, after}
use Rattle.wast_grammar.specs.Look.{ask, On, AWord, Begun, starts_with}
use Rattle.wast_parser_core.specs.Kinds.{is_keyword}
use Rattle.wast_parser_core.specs.State.{State, ahead, IsNext}
use Rattle.wast_parser_core.proofs.Names.{same_sym}
use Rattle.wast_parser_core.proofs.Words.{keyword_kind, if_same}

-- what follows a front is what is left without it
after_front : (p w : List ℕ) → after p w ≡ cond (same_text p (take (length p) w)) (Some (drop (length p) w)) None
after_front [] w = refl
after_front (c ∷ p) [] = refl
after_front (c ∷ p) (d ∷ w) = elim (nat_eq c d) as (λ b. cond b (after p w) None ≡ cond (b && same_text p (take (length p) w)) (Some (drop (length p) w)) None) [ true ↦ after_front p w | false ↦ refl ]

pub stripped : (p w : List ℕ) (o : Option (Bor (List ℕ))) →
    MatchOption o (same_text (take (length p) w) p ≡ false) (λ x. (same_text (take (length p) w) p ≡ true) × (x.now ≡ drop (length p) w) × (length x.now + length p ≡ length w)) → option_map (λ b. b.now) o ≡ after p w
stripped p w None m = sym (after_front p w ∙ ap (λ b. cond b (Some (drop (length p) w)) None) (same_sym p (take (length p) w) ∙ m))
stripped p w (Some x) m = ap Some m.1 ∙ sym (after_front p w ∙ ap (λ b. cond b (Some (drop (length p) w)) None) (same_sym p (take (length p) w) ∙ m.0))

-- a word begins so exactly where something follows the front
begins : (p w : List ℕ) → starts_with p w ≡ is_some (after p w)
begins [] w = refl
begins (c ∷ p) [] = refl
begins (c ∷ p) (d ∷ w) = elim (nat_eq c d) as (λ b. (b && starts_with p w) ≡ is_some (cond b (after p w) None)) [ true ↦ begins p w | false ↦ refl ]

pub asked_begun : (p : List ℕ) (s : State) (t : Token) (i : ℕ) → IsNext s t i → is_keyword t.kind ≡ true → ask (On false AWord (Begun p) ∷ []) (ahead s) ≡ Some (is_some (after p (text_of s.source.text t)))
asked_begun p s t i n is =
    let w = text_of s.source.text t in
    let rest = ahead (record s { at = i }) in
    ap (ask (On false AWord (Begun p) ∷ [])) (n.found ∙ ap (λ k. token_of k w t.offset ++ rest) (keyword_kind t.kind is))
    ∙ if_same (starts_with p w)
    ∙ ap Some (begins p w)
