-- The statements of the crate's law functions.
use Rattle.std.specs.Prelude.{◌≡◌, ℕ, List, ◌++◌, map, option_map}
use Rattle.std.specs.List.{flat_map}
use Rattle.wasm_encoder_base.specs.Table as table
use Rattle.wast_grammar.specs.Tokens.{Name}
use Rattle.wast_grammar.specs.Spelling.{same_name}
use Rattle.wast_names.specs.Space as names
use Rattle.wast_names.specs.Views.{space}
use Rattle.wast_module_fields.specs.FieldTree.{Field}
use Rattle.wast_meaning.specs.Mentions.{Mention, Part}
use Rattle.wast_meaning.specs.Spaces.{items}
use Rattle.wast_meaning.specs.Implied.{written_types, implied_sigs}
use Rattle.wast_meaning.specs.Scope as scopes
use Rattle.wast_meaning.specs.Scope.{scope_of}
use Rattle.wast_meaning.specs.Demands.{mention_demands, part_demands}
use Rattle.wast_spaces.specs.Joins.{spaces_behind, type_fields}
use Rattle.wast_spaces.specs.Views.{spaces_of, fields_of_types}
use Rattle.wast_scopes.specs.declared.scope.Scope.{Scope}
use Rattle.wast_scopes.specs.Numbered.{numbered_sig}
use Rattle.wast_scopes.specs.Signatures.{func_type, signatures}
use Rattle.wast_scopes.specs.Known.{known_in, mention_by, part_by}
use Rattle.wast_scopes.specs.Views.{known}

-- What is demanded by what a scope tells is what is demanded in the scope.
pub record IsTold : Type 0 where
  pub mention : (s : scopes.Scope Name ℕ) (m : Mention Name ℕ) → mention_by (known_in s) m ≡ mention_demands same_name s m
  pub part : (s : scopes.Scope Name ℕ) (p : Part Name ℕ) → part_by (known_in s) p ≡ part_demands same_name s p

-- What is known outside functions is what the scope of a module tells, where the spaces are those of its items, and the function types
-- those that are written and implied.
abbrev pub IsModule : Type 0
IsModule = (fs : List (Field Name ℕ)) (c : Scope) → spaces_of c.spaces.now ≡ spaces_behind (λ t. names.empty) (flat_map items fs)
    → fields_of_types c.spaces.now ≡ type_fields (flat_map items fs)
    → signatures c.signatures.now ≡ map (option_map (numbered_sig (spaces_of c.spaces.now table.Types).look)) (map func_type (flat_map written_types fs) ++ implied_sigs same_name fs)
    → space c.locals ≡ names.empty → known c ≡ known_in (scope_of same_name fs)
