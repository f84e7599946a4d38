-- The parameters of a type have no names.
use Rattle.std.proofs.Common.{◌≡◌, ℕ, false, List, [], ◌∷◌, Option, Some, None, map, refl}
use Rattle.std.specs.Prelude.{option_and_then, unwrap_or}
use Rattle.std.specs.List.{list_any}
use Rattle.wasm_encoder_base.specs.Table.{Types}
use Rattle.wast_grammar.specs.Tokens.{Name}
use Rattle.wast_grammar.specs.Spelling.{same_name}
use Rattle.wast_parser.specs.Identifiers.{Reference}
use Rattle.wast_names.specs.Position.{bears}
use Rattle.wast_names.specs.Space.{name_in, number_of}
use Rattle.wast_signatures.specs.TypeTree.{Local}
use Rattle.wast_meaning.specs.Implied.{no_sig}
use Rattle.wast_meaning.specs.Scope.{Scope, params_of_index}

none_borne : {X : Type 0} (n : Name) (xs : List X) → list_any (bears same_name n) (map (name_in {N = Name} {P = ℕ}) (map (λ x. None) xs)) ≡ false
none_borne n [] = refl
none_borne n (x ∷ xs) = none_borne n xs

pub unnamed : (s : Scope Name ℕ) (n : Name) (i : Option (Reference Name ℕ)) → list_any (bears same_name n) (map name_in (params_of_index s i)) ≡ false
unnamed s n None = refl
unnamed s n (Some i) = none_borne {X = Local Name ℕ} n (unwrap_or (option_and_then s.sig_of (number_of (s.spaces Types) i)) no_sig).params
