-- What is read of a composite type where so many groups `(shared ..)` are open.
use Rattle.std.specs.Prelude.{ℕ, zero, suc, List, Option, Some}
use Rattle.wast_grammar.specs.Tokens.{Name}
use Rattle.wast_parser.specs.Spelling.{◌>>=◌, that_open, that_close}
use Rattle.wast_parser.specs.Significant.{TextToken}
use Rattle.wast_parser.specs.Grammar.{Reader, one_of, word}
use Rattle.wast_signatures.specs.TypeTree.{CompType}
use Rattle.wast_signatures.specs.TypeSyntax.{as_shared, comp_type}

-- so many parentheses close behind it; what stands in one group at least is shared
abbrev pub closed : ℕ → CompType Name ℕ × List TextToken → Option (CompType Name ℕ × List TextToken)
closed zero x = Some x
closed (suc n) x = one_of that_close x.1 >>= λ c. closed n (as_shared x.0, c.1)

-- one, of which so many are open
abbrev pub within : ℕ → List TextToken → Option (CompType Name ℕ × List TextToken)
within n ts = comp_type.reads ts >>= closed n

-- a parenthesis opens, and the word stands behind it
abbrev pub opened : List ℕ → Reader Name ℕ (Unit {0})
opened w ts = one_of that_open ts >>= λ o. (word w).reads o.1 >>= λ k. Some (tt, k.1)
