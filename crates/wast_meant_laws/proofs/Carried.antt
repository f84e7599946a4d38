-- Names that are read, and places, in pairs that match are carried by a renaming.
use Rattle.std.proofs.Common.{◌≡◌, ◌↔◌, ℕ, zero, suc, ◌<◌, true, nat_eq, List, [], ◌∷◌, map, refl, sym, ◌∙◌, ap, arith}
use Rattle.std.specs.Cmp.Lexicographic.{bytes_decides}
use Rattle.std.proofs.lemmas.Bool.Decides.{Decides-eqb}
use std.Equiv.{Iso}
use Rattle.wast_grammar.specs.Tokens.{Name}
use Rattle.wast_grammar.specs.Spelling.{same_text}
use Rattle.wast_grammar.specs.Alike.{Fits, Matched, Carries}
use Rattle.wast_grammar.proofs.Extend.{extend}
use Rattle.wast_meaning.specs.Made.{made}
use Rattle.wast_meant_laws.specs.Renamed.{Renaming, MadeStay, AreRead}
use Rattle.wast_meant_laws.specs.Laws.{RenamingsCarry}

-- A RENAMING by the bytes of the names that are read
abbrev bytes_renamed : (List ℕ → List ℕ) → List ℕ → ℕ → List ℕ
bytes_renamed f bytes zero = f bytes
bytes_renamed f bytes (suc generation) = bytes

abbrev name_renamed : (List ℕ → List ℕ) → Name → Name
name_renamed f n = (bytes_renamed f n.0 n.1, n.1)

bytes_back : (f g : List ℕ → List ℕ) → ((bytes : List ℕ) → f (g bytes) ≡ bytes) → (bytes : List ℕ) (generation : ℕ) → bytes_renamed f (bytes_renamed g bytes generation) generation ≡ bytes
bytes_back f g back bytes zero = back bytes
bytes_back f g back bytes (suc generation) = refl

bytes_stay : (f : List ℕ → List ℕ) (bytes : List ℕ) (generation : ℕ) → 0 < generation → bytes_renamed f bytes generation ≡ bytes
bytes_stay f bytes zero h = absurd (omega arith)
bytes_stay f bytes (suc generation) h = refl

abbrev read_renamed : Iso (List ℕ) (List ℕ) → Iso ℕ ℕ → Renaming
read_renamed spellings places = record {
  names = record {
    fun = λ n. name_renamed spellings.fun n;
    inv = λ n. name_renamed spellings.inv n;
    rinv = λ n. λ i. (bytes_back spellings.fun spellings.inv spellings.rinv n.0 n.1 i, n.1);
    linv = λ n. λ i. (bytes_back spellings.inv spellings.fun spellings.linv n.0 n.1 i, n.1);
  };
  places = places;
  keeps_made = λ n. refl;
}

made_stay : (spellings : Iso (List ℕ) (List ℕ)) (places : Iso ℕ ℕ) → MadeStay (read_renamed spellings places)
made_stay spellings places n = λ i. (bytes_stay spellings.fun (made n).0 (made n).1 (omega arith) i, (made n).1)

-- PAIRS of names that are read match where their bytes do
abbrev spelled : Name × Name → List ℕ × List ℕ
spelled p = (p.0.0, p.1.0)

fits_spelled : (p : Name × Name) (ps : List (Name × Name)) → p.0.1 ≡ 0 → p.1.1 ≡ 0 → AreRead ps → Fits p ps → Fits (spelled p) (map spelled ps)
fits_spelled p [] z w reads fits = tt
fits_spelled p (q ∷ qs) z w reads fits = (
  (
    λ e. ap (λ n. n.0) (fits.0.0 (λ i. (e i, (z ∙ sym reads.0) i))),
    λ e. ap (λ n. n.0) (fits.0.1 (λ i. (e i, (w ∙ sym reads.1) i))),
  ),
  fits_spelled p qs z w reads.2 fits.1,
)

matched_spelled : (ps : List (Name × Name)) → AreRead ps → Matched ps → Matched (map spelled ps)
matched_spelled [] reads matched = tt
matched_spelled (p ∷ ps) reads matched = (fits_spelled p ps reads.0 reads.1 reads.2 matched.0, matched_spelled ps reads.2 matched.1)

carries_names : (f : List ℕ → List ℕ) (ps : List (Name × Name)) → AreRead ps → Carries f (map spelled ps) → Carries (name_renamed f) ps
carries_names f [] reads c = tt
carries_names f (p ∷ ps) reads c =
    (λ i. ((ap (bytes_renamed f p.0.0) reads.0 ∙ c.0) i, (reads.0 ∙ sym reads.1) i), carries_names f ps reads.2 c.1)

numbers_decide : (m n : ℕ) → (nat_eq m n ≡ true) ↔ (m ≡ n)
numbers_decide m n = Decides-eqb m n

pub renamings_carry : RenamingsCarry
renamings_carry names places reads matched rows =
    let spellings = extend same_text bytes_decides (map spelled names) (matched_spelled names reads matched) in
    let moving = extend nat_eq numbers_decide places rows in
    (read_renamed spellings.0 moving.0, made_stay spellings.0 moving.0, carries_names spellings.0.fun names reads spellings.1, moving.1)
