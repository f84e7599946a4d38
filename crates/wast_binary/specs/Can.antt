-- What is known of fields that are resolved, where the fields are well formed, meet their demands of names and are covered.
use Rattle.std.specs.Prelude.{◌≡◌, ℕ, true, List, ◌++◌, map, replicate, All, Option, Some, None, option_map}
use Rattle.std.specs.List.{flat_map, sum_by, AllByRecursion}
use Rattle.wast_grammar.specs.Tokens.{Name}
use Rattle.wast_grammar.specs.Spelling.{same_name}
use Rattle.wast_module_fields.specs.FieldTree.{Field}
use Rattle.wast_meaning.specs.Settled.{are_settled}
use Rattle.wasm_layout.specs.IsModule.{AreHints}
use Rattle.wasm_layout.specs.Layout.{functions_in}
use Rattle.wast_meant.specs.FieldsMeant.{imports_of, defined_in, function_of, functions_of}
use Rattle.wast_meant.specs.NamesMeant.{GivenName, bodies_in}
use Rattle.wast_meant.specs.Meaning.{meant}
use Rattle.wast_meaning.specs.Made.{is_made}
use Rattle.wast_encode_laws.specs.Bounds.{BodiesFit}
use Rattle.wast_section_items.specs.Ready.{FieldReady}

pub record CanEncode (fs : List (Field Name ℕ)) : Type 0 where
  -- each can be encoded by itself,
  pub ready : All FieldReady fs
  -- each use has its type, and each index is a number,
  pub settled : are_settled fs ≡ true
  -- the functions that are imported have the first numbers,
  pub placed : map (option_map function_of) (flat_map bodies_in fs)
      ≡ replicate (sum_by functions_in (flat_map imports_of fs)) None ++ map (λ f. Some f) (flat_map functions_of (flat_map defined_in fs))
  -- and branch hints stand on instructions of functions.
  pub hints : (name : Option (GivenName Name)) → BodiesFit fs
      → AllByRecursion (AreHints (meant same_name is_made name fs)) (meant same_name is_made name fs).hints
