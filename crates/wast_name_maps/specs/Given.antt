-- Names as the bytes that stand in maps.
use Rattle.std.specs.Prelude.{ℕ, List, map, Option, option_map, unwrap_or}
use Rattle.wast_grammar.specs.Tokens.{Name}
use Rattle.wast_parser.specs.Identifiers.{Named}
use Rattle.wast_signatures.specs.TypeTree.{Local, Sig}
use Rattle.wast_meaning.specs.Implied.{no_sig}
use Rattle.wast_meant.specs.Binary.{bytes_of}
use Rattle.wast_meaning.specs.Made.{is_made}
use Rattle.wast_meant.specs.NamesMeant.{given_name, identifier}

-- what `@name` says, else the identifier, unless that is made up
abbrev pub given : Option (List ℕ) → Option (Named Name ℕ) → Option (List ℕ)
given bytes id = option_map bytes_of (given_name is_made bytes id)

abbrev pub identified : Option (Named Name ℕ) → Option (List ℕ)
identified id = option_map bytes_of (identifier is_made id)

abbrev pub local_names : List (Local Name ℕ) → List (Option (List ℕ))
local_names ls = map (λ l. given l.given l.id) ls

-- those of the parameters of a signature, where there is one
abbrev pub sig_names : Option (Sig Name ℕ) → List (Option (List ℕ))
sig_names s = local_names (unwrap_or s no_sig).params
