-- How many parameters types have.
use Rattle.std.specs.Prelude.{ℕ, Bool, length}
use Rattle.wast_grammar.specs.Tokens.{Name}
use Rattle.wast_signatures.specs.TypeTree.{InnerType, FuncType, TypeItem}

-- one that is no function type has none
abbrev pub inner_count : InnerType Name ℕ → ℕ
inner_count (FuncType s) = length s.params
inner_count _ = 0

abbrev pub param_count : TypeItem Name ℕ × Bool → ℕ
param_count t = inner_count t.0.definition.comp.inner
