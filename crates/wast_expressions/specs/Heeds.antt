-- What is asked of a syntax of instructions, beside its law (`LawfulBut` of `Lawful`, for `one_ins` and `own`). Each is computed
-- where the instructions are known.
use Rattle.std.specs.Prelude.{◌≡◌, true, false, [], ◌∷◌, codes}
use Rattle.wast_grammar.specs.Tokens.{Word}
use Rattle.wast_grammar.specs.Look.{OneOf, holds, apart, any_end, join}
use Rattle.wast_grammar.specs.Grammar.{Syntax}
use Rattle.wast_expressions.specs.Items.{Made}
use Rattle.wast_expressions.specs.Expressions.{Heads, hint_tests, ins_tests, inside_tests}

pub record Heeds {I : Type 0} (heads : Heads I) : Type 0 where
  -- what may follow no instruction begins no item and no arm
  pub behind : apart heads.stops (inside_tests heads) ≡ true
  -- an end may follow each
  pub stops_ended : any_end heads.stops ≡ false
  pub own_ended : (i : I) → any_end (heads.own i) ≡ false
  -- an instruction and a hint may follow each
  pub own_flat : (i : I) → apart (heads.own i) (join hint_tests (ins_tests heads)) ≡ true
  -- no instruction has a word that leads an arm, an offset or the item of an element
  pub no_then : holds (OneOf heads.words heads.but) (codes "then") ≡ false
  pub no_offset : holds (OneOf heads.words heads.but) (codes "offset") ≡ false
  pub no_item : holds (OneOf heads.words heads.but) (codes "item") ≡ false

-- What groups make is spelled by its word alone.
pub record Spelled {N P I : Type 0} (ins : Syntax N P I) (m : Made P I) : Type 0 where
  pub end_is : (p : P) → ins.spells (m.end_at p) (Word (codes "end") p ∷ [])
  pub else_is : (p : P) → ins.spells (m.else_at p) (Word (codes "else") p ∷ [])
