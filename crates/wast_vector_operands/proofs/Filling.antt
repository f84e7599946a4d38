-- Places that are filled one after the other.
use Rattle.std.proofs.Common.{◌≡◌, ℕ, suc, ◌+◌, ◌-◌, ◌<◌, List, [], ◌∷◌, ◌++◌, map, take, length, Some, ◌∙◌, ap, arith}
use Rattle.std.proofs.lemmas.List.{map-append, take_more_set, length-set}
use Rattle.std.specs.Prelude.{slice_set}
use Rattle.wast_parser.specs.Tokens.{SignificantToken}
use Rattle.wast_parser.specs.Grammar.{Reader, times_reads}
use Rattle.wast_parser.proofs.Repeats.{with_front, times_next}

-- what is read by then, and one more
pub one_more : {N P A B : Type 0} (f : A → B) (r : Reader N P B) (vs : List A) (i : ℕ) (v : A) (ts rest : List (SignificantToken N P)) → i < length vs → r ts ≡ Some (f v, rest) →
    with_front (map f (take (i + 1) (slice_set vs i v))) (times_reads (length (slice_set vs i v) - (i + 1)) r rest) ≡ with_front (map f (take i vs)) (times_reads (length vs - i) r ts)
one_more f r vs i v ts rest h e =
    let left : suc (length vs - (i + 1)) ≡ length vs - i = omega (arith, h) in
    ap (λ ys. with_front (map f ys) (times_reads (length (slice_set vs i v) - (i + 1)) r rest)) (take_more_set vs i v h)
    ∙ ap (λ ys. with_front ys (times_reads (length (slice_set vs i v) - (i + 1)) r rest)) (map-append f (take i vs) (v ∷ []))
    ∙ ap (λ n. with_front (map f (take i vs) ++ f v ∷ []) (times_reads (n - (i + 1)) r rest)) (length-set vs i v)
    ∙ times_next r (map f (take i vs)) (length vs - (i + 1)) ts (f v, rest) e
    ∙ ap (λ n. with_front (map f (take i vs)) (times_reads n r ts)) left
