-- Identifiers: what they are, and which are the same.
use Rattle.std.specs.Prelude.{ℕ, ◌++◌, Bool, not, ◌==◌, nat_eq, List, codes}
use Rattle.std.specs.declared.cmp.Ordering.{Ordering}
use Rattle.std.specs.Ordering.{on, eq_of_both, then_cmp, nat_cmp}
use Rattle.std.specs.Cmp.Lexicographic.{pointwise, slice_cmp}
use Rattle.std.specs.Hash as fed

-- The decoded name; the generation, 0 of an identifier that was read and a number of its own of one that was made; and the
-- byte offset of the place.
pub record Identifier : Type 0 where
  pub name : List ℕ
  pub generation : ℕ
  pub place : ℕ

-- the same name and generation, whatever the places
abbrev pub is_same : Identifier → Identifier → Bool
is_same = eq_of_both (on (λ x. x.generation) ◌==◌) (on (λ x. x.name) (pointwise ◌==◌))

-- the order of generations, and where they are the same that of names
abbrev pub compare : Identifier → Identifier → Ordering
compare = then_cmp (on (λ x. x.generation) nat_cmp) (on (λ x. x.name) (slice_cmp nat_cmp))

-- what is hashed of one
abbrev pub hash_input : Identifier → fed.HashWrites
hash_input x = fed.u32 x.generation ++ fed.str x.name

-- it was made
abbrev pub is_made : Identifier → Bool
is_made x = not (nat_eq x.generation 0)

-- one that was read
abbrev pub read_name : List ℕ → ℕ → Identifier
read_name name place = record { name = name; generation = 0; place = place }

-- what each that is made is called
abbrev pub made_text : List ℕ
made_text = codes "gensym"

-- the one that is made with this number
abbrev pub made_name : ℕ → ℕ → Identifier
made_name generation place = record { name = made_text; generation = generation; place = place }
