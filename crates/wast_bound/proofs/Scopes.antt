-- What is known in functions and at instructions beside locals and labels is what is known outside.
use Rattle.std.proofs.Common.{◌≡◌, ℕ, List, refl, sym, ◌∙◌, ap}
use Rattle.std.specs.Prelude.{is_some, map}
use Rattle.std.specs.List.{flat_map, list_any}
use Rattle.wasm_encoder_base.specs.Table as table
use Rattle.wast_grammar.specs.Tokens.{Name}
use Rattle.wast_grammar.specs.Spelling.{same_name}
use Rattle.wast_names.specs.Space as names
use Rattle.wast_names.specs.Space.{name_in}
use Rattle.wast_fields.specs.FieldTree.{Field}
use Rattle.wast_meaning.specs.Scope.{scope_of, labels_or, locals_or}
use Rattle.wast_meaning.specs.Spaces.{space_word, items, ids_in, denotes}
use Rattle.wast_meaning.specs.Views.{space_view}
use Rattle.wast_meaning.specs.declared.space.Space.{Space}
use Rattle.wast_meaning.specs.declared.space.Space.TheVariants as spaces
use Rattle.wast_bound.specs.Bound.{joins}
use Rattle.wast_bound.proofs.Looks.{some_denoted, some_joins}

pub beside_locals : {A : Type 0} (a : A) (others : table.Space → A) (k : Space) → (k ≡ spaces.Locals → ⊥) → locals_or a others (space_view k) ≡ others (space_view k)
beside_locals a others spaces.Locals other = absurd (other refl)
beside_locals a others spaces.Labels other = refl
beside_locals a others spaces.Functions other = refl
beside_locals a others spaces.Types other = refl
beside_locals a others spaces.Tables other = refl
beside_locals a others spaces.Memories other = refl
beside_locals a others spaces.Globals other = refl
beside_locals a others spaces.Tags other = refl
beside_locals a others spaces.Datas other = refl
beside_locals a others spaces.Elems other = refl
beside_locals a others spaces.Fields other = refl

pub beside_labels : {A : Type 0} (a : A) (others : table.Space → A) (k : Space) → (k ≡ spaces.Labels → ⊥) → labels_or a others (space_view k) ≡ others (space_view k)
beside_labels a others spaces.Labels other = absurd (other refl)
beside_labels a others spaces.Locals other = refl
beside_labels a others spaces.Functions other = refl
beside_labels a others spaces.Types other = refl
beside_labels a others spaces.Tables other = refl
beside_labels a others spaces.Memories other = refl
beside_labels a others spaces.Globals other = refl
beside_labels a others spaces.Tags other = refl
beside_labels a others spaces.Datas other = refl
beside_labels a others spaces.Elems other = refl
beside_labels a others spaces.Fields other = refl

-- ITEMS of the spaces of a module
item_in : (fs : List (Field Name ℕ)) (n : Name) (t : table.Space) → denotes same_name fs t n ≡ names.denoted same_name (space_word t) n (map name_in (ids_in t fs))
    → list_any (joins t n) (flat_map items fs) ≡ is_some (((scope_of same_name fs).spaces t).look n)
item_in fs n t meant = sym (ap is_some meant ∙ some_denoted (space_word t) n (map name_in (ids_in t fs)) ∙ some_joins t n (flat_map items fs))

pub item_known : (fs : List (Field Name ℕ)) (n : Name) (k : Space) → (k ≡ spaces.Labels → ⊥) → (k ≡ spaces.Locals → ⊥) → (k ≡ spaces.Fields → ⊥)
    → list_any (joins (space_view k) n) (flat_map items fs) ≡ is_some (((scope_of same_name fs).spaces (space_view k)).look n)
item_known fs n spaces.Labels a b c = absurd (a refl)
item_known fs n spaces.Locals a b c = absurd (b refl)
item_known fs n spaces.Fields a b c = absurd (c refl)
item_known fs n spaces.Functions a b c = item_in fs n table.Functions refl
item_known fs n spaces.Types a b c = item_in fs n table.Types refl
item_known fs n spaces.Tables a b c = item_in fs n table.Tables refl
item_known fs n spaces.Memories a b c = item_in fs n table.Memories refl
item_known fs n spaces.Globals a b c = item_in fs n table.Globals refl
item_known fs n spaces.Tags a b c = item_in fs n table.Tags refl
item_known fs n spaces.Datas a b c = item_in fs n table.Datas refl
item_known fs n spaces.Elems a b c = item_in fs n table.Elems refl
