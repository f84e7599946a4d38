-- Fields that use no type, and those that write none.
use Rattle.std.proofs.Common.{◌≡◌, [], refl, ap}
use Rattle.std.specs.List.{flat_map}
use Rattle.wast_core_types.specs.TypeViews.{item_tree, rec_tree}
use Rattle.wast_module_fields.specs.ModuleFieldViews.{field_tree}
use Rattle.wast_module_fields.specs.declared.field.ModuleField.{ModuleField}
use Rattle.wast_module_fields.specs.declared.field.ModuleField.TheVariants as fields
use Rattle.wast_module_fields.specs.FieldTree.{field_place}
use Rattle.wast_meaning.specs.Mentions.{type_mentions, field_mentions}
use Rattle.wast_implied.specs.Known.{Known, after_field, after_written_field}
use Rattle.wast_implied.proofs.Quiet.{used, quiet_type, quiet_types, quiet_said}
use Rattle.wast_implied.proofs.Instructions.{unchanged, memory_says}

quiet_field : (f : ModuleField)
    → ((x : _) → f ≡ fields.Import x → ⊥) → ((x : _) → f ≡ fields.Func x → ⊥) → ((x : _) → f ≡ fields.Table x → ⊥) → ((x : _) → f ≡ fields.Global x → ⊥)
    → ((x : _) → f ≡ fields.Elem x → ⊥) → ((x : _) → f ≡ fields.Data x → ⊥) → ((x : _) → f ≡ fields.Tag x → ⊥) → used (field_mentions (field_tree f)) ≡ []
quiet_field (fields.Import x) a b c d e g h = absurd (a x refl)
quiet_field (fields.Func x) a b c d e g h = absurd (b x refl)
quiet_field (fields.Table x) a b c d e g h = absurd (c x refl)
quiet_field (fields.Global x) a b c d e g h = absurd (d x refl)
quiet_field (fields.Elem x) a b c d e g h = absurd (e x refl)
quiet_field (fields.Data x) a b c d e g h = absurd (g x refl)
quiet_field (fields.Tag x) a b c d e g h = absurd (h x refl)
quiet_field (fields.TypeItem t) a b c d e g h = quiet_said (type_mentions (item_tree t)) (quiet_type (item_tree t))
quiet_field (fields.Rec r) a b c d e g h = quiet_said (flat_map type_mentions (rec_tree r).types) (quiet_types (rec_tree r).types)
quiet_field (fields.Memory m) a b c d e g h = ap used (memory_says m.kind)
quiet_field f a b c d e g h = refl

pub other_field : (k : Known) (f : ModuleField)
    → ((x : _) → f ≡ fields.Import x → ⊥) → ((x : _) → f ≡ fields.Func x → ⊥) → ((x : _) → f ≡ fields.Table x → ⊥) → ((x : _) → f ≡ fields.Global x → ⊥)
    → ((x : _) → f ≡ fields.Elem x → ⊥) → ((x : _) → f ≡ fields.Data x → ⊥) → ((x : _) → f ≡ fields.Tag x → ⊥) → k ≡ after_field k (field_tree f)
other_field k f a b c d e g h = unchanged (field_place (field_tree f)) k (field_mentions (field_tree f)) (quiet_field f a b c d e g h)

pub no_type : (k : Known) (f : ModuleField) → ((x : _) → f ≡ fields.TypeItem x → ⊥) → ((x : _) → f ≡ fields.Rec x → ⊥) → k ≡ after_written_field k (field_tree f)
no_type k (fields.TypeItem x) a b = absurd (a x refl)
no_type k (fields.Rec x) a b = absurd (b x refl)
no_type k f a b = refl
