-- The walk over fields as code has them.
use Rattle.std.proofs.Common.{◌≡◌, ℕ, List, Option, Some, None, true, refl, ap}
use Rattle.std.specs.Prelude.{is_some, option_map}
use Rattle.std.specs.Option.{option_or}
use Rattle.wasm_encoder_base.specs.Table.{Space}
use Rattle.wast_grammar.specs.Tokens.{Name}
use Rattle.wast_module_fields.specs.ModuleFieldViews.{field_tree}
use Rattle.wast_module_fields.specs.declared.field.ModuleField.{ModuleField}
use Rattle.wast_names.specs.Demand.{Demand}
use Rattle.wast_meaning.specs.Demands.{nearest, order_demand}

abbrev pub asks : Option Space → ModuleField → List (Demand Name ℕ)
asks before f = order_demand before (field_tree f)

abbrev pub after : Option Space → ModuleField → Option Space
after before f = nearest before (field_tree f)

-- the first of two, as it is seen
pub or_map : {A B : Type 0} (view : A → B) (o p : Option A) → option_map view (option_or o p) ≡ option_or (option_map view o) (option_map view p)
or_map view None p = refl
or_map view (Some x) p = refl

-- what is found by itself is found by all
pub found_too : {D : Type 0} (own all : Option D) → ((d : D) → own ≡ Some d → all ≡ Some d) → is_some own ≡ true → is_some all ≡ true
found_too None all stops h = absurd (cc)
found_too (Some d) all stops h = ap is_some (stops d refl)
