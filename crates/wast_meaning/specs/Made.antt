-- The names that are made for fields that are referred to and have none.
use Rattle.std.specs.Prelude.{ℕ, ◌+◌, Bool, not, nat_eq}
use Rattle.wast_grammar.specs.Tokens.{Name}
use Rattle.wast_parser.specs.Identifier.{made_name}
use Rattle.wast_parser.specs.Identifiers.{identifier_tree}

-- the one that `Gensym::generate` makes behind so many, wherever it stands
abbrev pub made : ℕ → Name
made n = (identifier_tree (made_name (n + 1) 0)).0

-- a name is made up where its generation isn't that of names that are read
abbrev pub is_made : Name → Bool
is_made n = not (nat_eq n.1 0)
