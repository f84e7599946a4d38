-- A name among others.
use Rattle.std.proofs.Common.{◌≡◌, ℕ, suc, ◌+◌, ◌<◌, true, List, ◌∷◌, ◌++◌, length, map, drop, take, get_or, Bor, sym, ◌∙◌, ap, add-one}
use Rattle.std.specs.Cmp.Lexicographic.{bytes_decides}
use Rattle.std.proofs.Math.Seq.{drop-cons}
use Rattle.std.proofs.lemmas.List.{drop-map, take-map, map-append}
use Rattle.wast_grammar.specs.Spelling.{same_text}

pub named : (names : List (Bor (List ℕ))) (i : ℕ) (d : Bor (List ℕ)) (name : List ℕ) → i < length names → same_text name (get_or names i d).now ≡ true →
    drop i (map (λ (n : Bor (List ℕ)). n.now) names) ≡ name ∷ drop (i + 1) (map (λ (n : Bor (List ℕ)). n.now) names)
named names i d name inside same =
    drop-map (λ (n : Bor (List ℕ)). n.now) i names
    ∙ ap (map (λ (n : Bor (List ℕ)). n.now)) (drop-cons names i d inside)
    ∙ ap (λ w. w ∷ map (λ (n : Bor (List ℕ)). n.now) (drop (suc i) names)) (sym ((bytes_decides name (get_or names i d).now).0 same))
    ∙ ap (λ y. name ∷ y) (sym (drop-map (λ (n : Bor (List ℕ)). n.now) (suc i) names) ∙ ap (λ k. drop k (map (λ (n : Bor (List ℕ)). n.now) names)) (sym (add-one i)))

pub without : (i : ℕ) (names : List (Bor (List ℕ))) → map (λ (n : Bor (List ℕ)). n.now) (take i names ++ drop (suc i) names) ≡ take i (map (λ (n : Bor (List ℕ)). n.now) names) ++ drop (i + 1) (map (λ (n : Bor (List ℕ)). n.now) names)
without i names =
    ap (λ k. map (λ (n : Bor (List ℕ)). n.now) (take i names ++ drop k names)) (sym (add-one i))
    ∙ map-append (λ (n : Bor (List ℕ)). n.now) (take i names) (drop (i + 1) names)
    ∙ ap (λ y. y ++ map (λ (n : Bor (List ℕ)). n.now) (drop (i + 1) names)) (sym (take-map (λ (n : Bor (List ℕ)). n.now) i names))
    ∙ ap (λ y. take i (map (λ (n : Bor (List ℕ)). n.now) names) ++ y) (sym (drop-map (λ (n : Bor (List ℕ)). n.now) (i + 1) names))
