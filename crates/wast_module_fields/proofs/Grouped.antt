-- Groups of several words are looked for as one.
use Rattle.std.proofs.Common.{◌≡◌, ℕ, Bool, true, false, List, [], ◌∷◌, ◌++◌, map, Some, None, refl, sym, ap, ◌∙◌, ◌&&◌}
use Rattle.std.specs.Prelude.{if◌then◌else◌}
use Rattle.wast_parser.specs.Tokens.{SignificantToken}
use Rattle.wast_parser.specs.Look.{Test, Look, On, AWord, OneOf, look, ask, at, faults, fits, same, same_shape, this_group, any_fits}
use Rattle.wast_parser.specs.Spelling.{same_text, any_is}
use Rattle.wast_parser_core.proofs.Names.{same_sym}

-- a group of one of these words
abbrev pub groups : List (List ℕ) → Test
groups ws = On true AWord (OneOf ws [])

-- one test more
one_more : (deep shaped own others k : Bool)
    → (if deep && (shaped && own) then true else (if deep && (shaped && (others && true)) then true else k))
    ≡ (if deep && (shaped && ((if own then true else others) && true)) then true else k)
one_more false shaped own others k = refl
one_more true false own others k = refl
one_more true true true others k = refl
one_more true true false others k = refl

no_more : (deep shaped k : Bool) → k ≡ (if deep && (shaped && (false && true)) then true else k)
no_more false shaped k = refl
no_more true false k = refl
no_more true true k = refl

fits_one : (ws : List (List ℕ)) (us : List Test) (x : Look) → any_fits (map this_group ws ++ us) x ≡ any_fits (groups ws ∷ us) x
fits_one [] us x = no_more (same true x.deep) (same_shape AWord x.shape) (any_fits us x)
fits_one (w ∷ ws) us x =
    ap (λ b. if fits (this_group w) x then true else b) (fits_one ws us x)
    ∙ ap (λ own. if same true x.deep && (same_shape AWord x.shape && own) then true else any_fits (groups ws ∷ us) x) (same_sym w x.text)
    ∙ one_more (same true x.deep) (same_shape AWord x.shape) (same_text x.text w) (any_is x.text ws) (any_fits us x)

-- the answer is the same, and so are the faults that it meets, of a word at least
pub asked_as_one : {N P : Type 0} (w : List ℕ) (ws : List (List ℕ)) (us : List Test) (ts : List (SignificantToken N P))
    → ask (groups (w ∷ ws) ∷ us) ts ≡ ask (map this_group (w ∷ ws) ++ us) ts
asked_as_one w ws us ts = ap (λ b. if at (faults (groups (w ∷ ws) ∷ us)) ts then None else Some b) (sym (fits_one (w ∷ ws) us (look ts)))
