-- Productions that would go on with what may stand behind them, as the clauses of try_table do before the instructions of
-- its block (WebAssembly 3.0, 6.5, labels): own a is what would go on with a, beyond the stops of all. What stands behind a may
-- not begin so: here alone a spelling speaks of how tokens begin.
use Rattle.std.specs.Prelude.{◌≡◌, true, false, if◌then◌else◌, List, [], ◌∷◌, ◌++◌, length, Some, None}
use Rattle.wast_grammar.specs.Tokens.{SignificantToken}
use Rattle.wast_grammar.specs.Spelling.{Spells, ◌>>=◌}
use Rattle.wast_grammar.specs.Twins.{Pairs}
use Rattle.wast_grammar.specs.Look.{Test, NotEnd, at}
use Rattle.wast_grammar.specs.Grammar.{Syntax, Reader, seq_reads, many_reads}

-- ONE AFTER THE OTHER, where what comes second does not begin as the first goes on
module _ {N P A B : Type 0} where
  abbrev pub next_but_spells : Spells N P A → (A → List Test) → (A → Spells N P B) → Spells N P (A × B)
  next_but_spells s own r p ts = (us vs : List (SignificantToken N P)) × (ts ≡ us ++ vs) × s p.0 us × r p.0 p.1 vs × (at (own p.0) vs ≡ false)

  abbrev pub next_but_twins : Pairs N P A → (A → List Test) → (A → Pairs N P B) → Pairs N P (A × B)
  next_but_twins s own r p ts us =
      (a b c d : List (SignificantToken N P)) × (ts ≡ a ++ b) × (us ≡ c ++ d) × s p.0 a c × r p.0 p.1 b d × (at (own p.0) b ≡ false) × (at (own p.0) d ≡ false)

  -- behind both is an end
  abbrev pub next_but : Syntax N P A → (A → List Test) → (A → Syntax N P B) → List Test → Syntax N P (A × B)
  next_but g own h starts = record {
    spells = next_but_spells g.spells own (λ a. (h a).spells);
    twins = next_but_twins g.twins own (λ a. (h a).twins);
    reads = seq_reads g.reads (λ a. (h a).reads);
    starts = g.starts;
    empty = false;
    stops = NotEnd ∷ [];
  }

-- ANY NUMBER OF THEM, up to an end, where what comes after one does not begin as it goes on
module _ {N P A : Type 0} where
  abbrev pub row_spells : Spells N P A → (A → List Test) → Spells N P (List A)
  row_spells s own [] ts = ts ≡ []
  row_spells s own (a ∷ more) ts = (us vs : List (SignificantToken N P)) × (ts ≡ us ++ vs) × s a us × row_spells s own more vs × (at (own a) vs ≡ false)

  abbrev pub row_twins : Pairs N P A → (A → List Test) → Pairs N P (List A)
  row_twins s own [] ts us = (ts ≡ []) × (us ≡ [])
  row_twins s own (x ∷ more) ts us =
      (a b c d : List (SignificantToken N P)) × (ts ≡ a ++ b) × (us ≡ c ++ d) × s x a c × row_twins s own more b d × (at (own x) b ≡ false) × (at (own x) d ≡ false)

  -- what is read, where an end is behind it
  abbrev pub ended : Reader N P A → Reader N P A
  ended r ts = r ts >>= λ x. if at (NotEnd ∷ []) x.1 then None else Some x

abbrev pub row : {N P A : Type 0} → List Test → Syntax N P A → (A → List Test) → Syntax N P (List A)
row starts g own = record {
  spells = row_spells g.spells own;
  twins = row_twins g.twins own;
  reads = ended (λ ts. many_reads starts g.reads (length ts) ts);
  starts = starts;
  empty = true;
  stops = NotEnd ∷ [];
}
