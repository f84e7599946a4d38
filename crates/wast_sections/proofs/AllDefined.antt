-- Sections of what fields define.
use Rattle.std.proofs.Common.{◌≡◌, ℕ, List, [], ◌∷◌, ◌++◌, refl, ap, subst}
use Rattle.std.specs.Prelude.{Result, Ok, Err}
use Rattle.std.specs.List.{flat_map}
use Rattle.wasm_encoder_base.specs.EncodeError.{EncodeError}
use Rattle.wasm_encoder_base.specs.Lists.{Listed}
use Rattle.wast_module_fields.specs.FieldTree.{Defined, Field, Define}
use Rattle.wast_meant.specs.FieldsMeant.{defined_in}
use Rattle.wast_sections.specs.Holds.{Holds, map_ok}
use Rattle.wast_sections.specs.Parts.{items_defined}

module _ {N P A : Type 0} (items : Defined N P → List A) where
  all_defined : (fs : List (Field N P)) → flat_map (items_defined items) fs ≡ flat_map items (flat_map defined_in fs)
  all_defined [] = refl
  all_defined (Define d ∷ fs) = ap (λ xs. items d.defined ++ xs) (all_defined fs)
  all_defined (f ∷ fs) = all_defined fs

  pub holds_defined : (spell : A → List ℕ) (Fits Sound : A → Type 0) (fs : List (Field N P)) (r : Result Listed EncodeError)
      → Holds spell Fits Sound (flat_map (items_defined items) fs) (map_ok (λ section. section) r) → Holds spell Fits Sound (flat_map items (flat_map defined_in fs)) r
  holds_defined spell Fits Sound fs (Ok section) h = subst (λ xs. Holds spell Fits Sound xs (Ok section)) (all_defined fs) h
  holds_defined spell Fits Sound fs (Err e) h = subst (λ xs. Holds spell Fits Sound xs (Err e)) (all_defined fs) h
