-- What reads in turn gave, where the reader's bytes are known.
use Rattle.std.proofs.Common.{◌≡◌, ◌≤◌, ◌+◌, ◌-◌, ℕ, List, ◌++◌, Option, None, Some, IfSome, length, take, drop, sym, ap, subst, ◌∙◌, append-nil, arith, take_all, length-drop, length-append, length-take}
use lib.Seq.{take-append_seam}
use Rattle.std.proofs.Math.Seq.{take-add}
use Rattle.std.proofs.KnownBytes.{Appends-trans, Consumes-trans}
use Rattle.std.specs.Io.KnownBytes.{Appends, Consumes, IsAtEnd}

-- as many bytes as the bound lets in are the front of what was left
pub whole_at_bound : (left left_after : Option (List ℕ)) (bytes : List ℕ) (bound : ℕ)
    → Consumes left left_after bytes → length bytes ≡ bound → IfSome left (λ all. bytes ≡ take bound all)
whole_at_bound None left_after bytes bound consumed full = tt
whole_at_bound (Some all) None bytes bound consumed full = absurd consumed
whole_at_bound (Some all) (Some rest) bytes bound consumed full =
    sym (ap (take bound) consumed ∙ ap (λ n. take n (bytes ++ rest)) (sym full) ∙ take-append_seam bytes rest)

-- at the end they are all of it
pub whole_at_end : (left left_after : Option (List ℕ)) (bytes : List ℕ) (bound : ℕ)
    → Consumes left left_after bytes → IsAtEnd left_after → length bytes ≤ bound → IfSome left (λ all. bytes ≡ take bound all)
whole_at_end None left_after bytes bound consumed ended within = tt
whole_at_end (Some all) None bytes bound consumed ended within = absurd consumed
whole_at_end (Some all) (Some rest) bytes bound consumed ended within =
    let same : all ≡ bytes = consumed ∙ ap (λ l. bytes ++ l) ended ∙ append-nil bytes in
    sym (ap (take bound) same ∙ take_all bound bytes within)

-- two reads in turn, the second of which stands behind the first
pub consumed_more : (left between left_after : Option (List ℕ)) (front back whole : List ℕ)
    → Consumes left between front → Consumes between left_after back → whole ≡ front ++ back → Consumes left left_after whole
consumed_more left between left_after front back whole first second both =
    subst (Consumes left left_after) (sym both) (Consumes-trans left between left_after front back first second)

-- two writes in turn, the second of a front of what the first left
pub appended_more : (held between held_after : Option (List ℕ)) (bytes : List ℕ) (first second : ℕ)
    → Appends held between (take first bytes)
    → Appends between held_after (take second (take (length bytes - first) (drop first bytes)))
    → Appends held held_after (take (first + second) bytes)
appended_more held between held_after bytes first second before after =
    let rest : take (length bytes - first) (drop first bytes) ≡ drop first bytes =
    take_all (length bytes - first) (drop first bytes) (omega (arith, length-drop first bytes)) in
    let both : take first bytes ++ take second (take (length bytes - first) (drop first bytes)) ≡ take (first + second) bytes =
    ap (λ l. take first bytes ++ take second l) rest ∙ sym (take-add first second bytes) in
    subst (Appends held held_after) both (Appends-trans held between held_after _ _ before after)

-- a read into a piece no longer than the room that is left stays within the bound
pub within_more : (input given piece : List ℕ) (room bound : ℕ)
    → length input ≤ bound → room ≤ bound - length input → length given ≤ length (take room piece) → length (input ++ given) ≤ bound
within_more input given piece room bound within small fits =
    omega (arith, length-append input given, length-take room piece)

-- two reads in turn, the second of which came to the end
pub whole_after_last : (left between left_after : Option (List ℕ)) (front back whole : List ℕ) (bound : ℕ)
    → Consumes left between front → Consumes between left_after back → whole ≡ front ++ back → IsAtEnd left_after
    → length (front ++ back) ≤ bound → IfSome left (λ all. whole ≡ take bound all)
whole_after_last left between left_after front back whole bound first second both ended within =
    whole_at_end left left_after whole bound (consumed_more left between left_after front back whole first second both) ended
    (subst (λ l. length l ≤ bound) (sym both) within)
