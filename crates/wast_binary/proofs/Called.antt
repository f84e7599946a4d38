-- Custom fields by their names.
use Rattle.std.proofs.Common.{◌≡◌, ℕ, Bool, true, false, ◌||◌, List, [], ◌∷◌, map, refl, sym, ap, ◌∙◌}
use Rattle.wasm_encoder_base.specs.Table.{same_text}
use Rattle.wast_parser_core.proofs.Names.{same_sym}
use Rattle.wast_customs.specs.CustomTree.{Custom, Raw, ProducersField, DylinkField, name_of}
use Rattle.wast_customs.specs.CustomViews.{custom_tree}
use Rattle.wast_module_fields.specs.ModuleFieldViews.{field_tree}
use Rattle.wast_module_fields.specs.declared.field.ModuleField.{ModuleField}
use Rattle.wast_module_fields.specs.declared.field.ModuleField.TheVariants as fields
use Rattle.wasm_layout.specs.Present.{is_called}
use Rattle.wast_meant.specs.CustomsMeant.{custom_of, customs_in}

-- the section of a field is called as the field says
same_name : {P : Type 0} (c : Custom P) → (custom_of c).name ≡ name_of c
same_name (Raw s) = refl
same_name (ProducersField p) = refl
same_name (DylinkField d) = refl

or_false : (b : Bool) → b ≡ ((b || false) || false)
or_false true = refl
or_false false = refl

pub one_called : (name : List ℕ) (f : ModuleField) (x : _) (own : List ℕ) → f ≡ fields.Custom x → own ≡ name_of (custom_tree x)
    → same_text own name ≡ is_called name (map custom_of (customs_in (field_tree f)) ∷ [])
one_called name f x own is e =
    same_sym own name ∙ ap (same_text name) (e ∙ sym (same_name (custom_tree x))) ∙ or_false (same_text name (custom_of (custom_tree x)).name)
    ∙ ap (λ f. is_called name (map custom_of (customs_in (field_tree f)) ∷ [])) (sym is)

pub none_called : (name : List ℕ) (f : ModuleField) → ((x : _) → f ≡ fields.Custom x → ⊥) → false ≡ is_called name (map custom_of (customs_in (field_tree f)) ∷ [])
none_called name (fields.Custom x) h = absurd (h x refl)
none_called name f h = refl
