-- What is read from where a loop over plain groups stands.
use Rattle.std.proofs.Common.{◌≡◌, ℕ, List, [], ◌∷◌, ◌++◌, map, Option, Some, None}
use Rattle.wast_grammar.specs.Tokens.{SignificantToken}
use Rattle.wast_grammar.specs.Spelling.{◌>>=◌, that_close}
use Rattle.wast_grammar.specs.Grammar.{Syntax, Reader, one_of}
use Rattle.wast_grammar.specs.Behind.{row}
use Rattle.wast_expressions.specs.Expressions.{Heads, group_tests, all_of, plain}
use Rattle.wast_expressions.specs.Machine.{Level, EndWith, State, state}

module _ {N P I : Type 0} (ins : Syntax N P I) (heads : Heads I) where
  abbrev Toks : Type 0
  Toks = List (SignificantToken N P)

  abbrev Cont : Type 0
  Cont = List I → Toks → Option (List I × Toks)

  abbrev operands : Reader N P (List (List I))
  operands = (row (group_tests heads) (plain ins heads) (λ _. [])).reads

  -- operands, the parenthesis that closes, their instruction, and then k
  abbrev pub operands_then : I → Cont → Cont
  operands_then i k out ts = operands ts >>= λ x. one_of that_close x.1 >>= λ c. k ((out ++ all_of ins heads x.0) ++ i ∷ []) c.1

  -- a stack of instructions, the innermost first
  abbrev pub finish : List I → Cont
  finish [] = λ out ts. Some (out, ts)
  finish (i ∷ st) = operands_then i (finish st)

-- the same with levels and hints
abbrev pub levels : {I : Type 0} → List I → List (Level I)
levels st = map (λ i. EndWith None i) st

abbrev pub outs : {I : Type 0} → List I → List (Option ℕ × I)
outs out = map (λ i. (None, i)) out

-- what was read is the outcome of where the loop is
pub record Standing {N P I : Type 0} (ins : Syntax N P I) (heads : Heads I) (ts : List (SignificantToken N P)) (here : State N P I) : Type 0 where
  pub stack : List I
  pub out : List I
  pub same : here ≡ state (levels stack) (outs out) here.rest
  pub outcome_is : (plain ins heads).reads ts ≡ finish ins heads stack out here.rest
