-- What contracts see of a name space.
use Rattle.std.specs.BTreeMap.{get_by}
use Rattle.wast_parser.specs.Tokens.{Name}
use Rattle.wast_parser.specs.Identifier.{compare, Identifier}
use Rattle.wast_names.specs.Space.{Space}
use Rattle.wast_names.specs.declared.namespace.Namespace.{Namespace}

-- an identifier that bears the name
abbrev pub borne : Name → Identifier
borne n = record { name = n.0; generation = n.1; place = 0 }

abbrev pub space : Namespace → Space Name
space names = record { count = names.count; look = λ n. get_by (compare (borne n)) names.names }
