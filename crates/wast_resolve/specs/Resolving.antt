-- What names mean in a module that is resolved.
use Rattle.std.specs.Prelude.{◌≡◌, ℕ, List, None}
use Rattle.wasm_encoder_base.specs.Table as table
use Rattle.wasm_encoder_base.specs.Table.{Space}
use Rattle.wast_grammar.specs.Tokens.{Name}
use Rattle.wast_grammar.specs.Spelling.{same_name}
use Rattle.wast_names.specs.Space as names
use Rattle.wast_names.specs.Walk.{first_unmet}
use Rattle.wast_names.specs.Demand.{is_met}
use Rattle.wast_field_syntax.specs.FieldTree.{Field}
use Rattle.wast_meaning.specs.Demands.{demands}
use Rattle.wast_meaning.specs.Numbered.{numbered}
use Rattle.wast_meaning.specs.Spaces.{denotes}
use Rattle.wast_spaces.specs.Views.{spaces_of}
use Rattle.wast_resolve.specs.declared.names.Ns.{Ns}
use Rattle.wast_resolve.specs.declared.names.Ns.TheVariants as kinds
use Rattle.wast_resolve.specs.declared.names.Resolver.{Resolver}

-- the index space of each kind
abbrev pub ns_space : Ns → Space
ns_space kinds.Func = table.Functions
ns_space kinds.Table = table.Tables
ns_space kinds.Global = table.Globals
ns_space kinds.Memory = table.Memories
ns_space kinds.Tag = table.Tags
ns_space kinds.TypeItem = table.Types

-- the index spaces that it looks into
abbrev pub resolver_spaces : Resolver → Space → names.Space Name
resolver_spaces r = spaces_of r.spaces

-- In each of these spaces a name means the item of the fields that bears it, by how many stand before that (6.1.3).
abbrev pub Means : (Space → names.Space Name) → List (Field Name ℕ) → Type 0
Means spaces fs = (space : Space) (name : Name) → (spaces space).look name ≡ denotes same_name fs space name

-- Fields that meet all demands, what they become, and what their names mean.
abbrev pub AreNumbered : List (Field Name ℕ) → List (Field Name ℕ) → Resolver → Type 0
AreNumbered old new r = (first_unmet is_met (demands same_name old) ≡ None) × (new ≡ numbered same_name old) × Means (resolver_spaces r) old
