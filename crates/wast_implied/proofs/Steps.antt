-- Loops over lists of which each element changes what is known.
use Rattle.std.proofs.Common.{◌≡◌, ℕ, ◌+◌, ◌<◌, ◌≤◌, List, [], ◌∷◌, ◌++◌, length, map, take, get_or, refl, sym, ◌∙◌, ap}
use Rattle.std.specs.List.{flat_map}
use Rattle.std.proofs.lemmas.List.{map-append, take_all}
use Rattle.std.proofs.lemmas.List.Concat.{flat_map-append}
use Rattle.wast_grammar.specs.Tokens.{Name}
use Rattle.wast_signatures.specs.TypeTree.{Sig}
use Rattle.wast_names.specs.Walk.{reached}
use Rattle.wast_names.proofs.Walk.{reached_append, reached_more}
use Rattle.wast_meaning.specs.Mentions.{Mention}
use Rattle.wast_meaning.specs.Implied.{sig_of_mention}
use Rattle.wast_implied.specs.Known.{Known, after_use, after_sigs, after_mentions}

-- one more element
pub step : {S X : Type 0} (after : S → X → S) (s t u : S) (xs : List X) (i : ℕ) (x : X) → i < length xs → x ≡ get_or xs i x → t ≡ reached after s (take i xs) → u ≡ after t x
    → u ≡ reached after s (take (i + 1) xs)
step after s t u xs i x lt at before new = new ∙ ap (λ r. after r x) before ∙ sym (reached_more after s xs i x lt at)

-- signatures, and mentions, of two lists
pub both_sigs : (p : ℕ) (k : Known) (ss ts : List (Sig Name ℕ)) → after_sigs p (after_sigs p k ss) ts ≡ after_sigs p k (ss ++ ts)
both_sigs p k ss ts = sym (ap (reached after_use k) (map-append (λ s. (p, s)) ss ts) ∙ reached_append after_use k (map (λ s. (p, s)) ss) (map (λ s. (p, s)) ts))

pub both_mentions : (p : ℕ) (k : Known) (ms ns : List (Mention Name ℕ)) → after_mentions p (after_mentions p k ms) ns ≡ after_mentions p k (ms ++ ns)
both_mentions p k ms ns = both_sigs p k (flat_map sig_of_mention ms) (flat_map sig_of_mention ns) ∙ ap (after_sigs p k) (sym (flat_map-append sig_of_mention ms ns))

-- what each says
pub each_mention : {X Y : Type 0} (to : X → Y) (said : Y → List (Mention Name ℕ)) (p : ℕ) (k : Known) (xs : List X)
    → reached (λ t x. after_mentions p t (said (to x))) k xs ≡ after_mentions p k (flat_map said (map to xs))
each_mention to said p k [] = refl
each_mention to said p k (x ∷ xs) = each_mention to said p (after_mentions p k (said (to x))) xs ∙ both_mentions p k (said (to x)) (flat_map said (map to xs))

-- and at the end of the list
pub finish : {X Y : Type 0} (to : X → Y) (said : Y → List (Mention Name ℕ)) (p : ℕ) (k t : Known) (xs : List X) (i : ℕ) → length xs ≤ i
    → t ≡ reached (λ u x. after_mentions p u (said (to x))) k (take i xs) → t ≡ after_mentions p k (flat_map said (map to xs))
finish to said p k t xs i end h = h ∙ ap (reached (λ u x. after_mentions p u (said (to x))) k) (take_all i xs end) ∙ each_mention to said p k xs
