-- Types whose counts fit, as the encoder has them and as they are meant.
use Rattle.std.proofs.Common.{◌≡◌, ◌<◌, ◌^◌, List, [], ◌∷◌, map, length, All, refl, sym, subst, arith}
use Rattle.std.specs.Prelude.{Result}
use Rattle.std.specs.List.{AllByRecursion}
use Rattle.std.proofs.lemmas.List.{length-map}
use Rattle.wasm_encoder_base.specs.EncodeError.{EncodeError}
use Rattle.wasm_encoder_base.specs.Lists.{Listed}
use Rattle.wasm_encoder_base.specs.Types as types
use Rattle.wasm_encoder_base.specs.Types.{IsSubType}
use Rattle.wasm_encoder_base.specs.Views.{val_view, field_view, func_params, func_results, composite_view, sub_view, composite_fits}
use Rattle.wasm_encoder_base.specs.declared.types.CompositeType.{CompositeType}
use Rattle.wasm_encoder_base.specs.declared.types.CompositeType.TheVariants.{Func, Array, Struct}
use Rattle.wasm_encoder_base.specs.declared.types.SubType.{SubType}
use Rattle.wasm_encoder_items.specs.TypeEntries.{OneType, TypeGroup, entry_bytes}
use Rattle.wasm_encoder_sections.specs.Writes.{Writes}
use Rattle.wasm_layout.specs.IsModule.{IsEntry}
use Rattle.wast_section_items.specs.Appends.{Appends}
use Rattle.wast_section_items.specs.Fits.{Counted, CompositeFits, EntryFits}
use Rattle.wast_section_items.proofs.Appending.{appends_one, each_seen, each_again}

same_count : {A B : Type 0} (f : A → B) (xs : List A) → length xs < 2 ^ 32 → Counted (map f xs)
same_count f xs h = omega (arith, h, length-map xs f)

count_again : {A B : Type 0} (f : A → B) (xs : List A) → Counted (map f xs) → length xs < 2 ^ 32
count_again f xs h = omega (arith, h, length-map xs f)

composite_seen : (c : CompositeType) → composite_fits c → CompositeFits (composite_view c)
composite_seen (Func f) h = (same_count val_view (func_params f) h.0, same_count val_view (func_results f) h.1)
composite_seen (Array a) h = tt
composite_seen (Struct s) h = same_count field_view s.fields h

composite_again : (c : CompositeType) → CompositeFits (composite_view c) → composite_fits c
composite_again (Func f) h = (count_again val_view (func_params f) h.0, count_again val_view (func_results f) h.1)
composite_again (Array a) h = tt
composite_again (Struct s) h = count_again field_view s.fields h

-- a type, and a group
pub adds_type : (d : SubType) (s : types.SubType) (before after : Listed) (r : Result (Unit {0}) EncodeError) → sub_view d ≡ s → IsSubType s
    → Writes (entry_bytes (OneType (sub_view d))) (composite_fits d.composite_type) before after r → Appends entry_bytes EntryFits IsEntry (OneType s ∷ []) before after r
adds_type d s before after r e ranges w =
    subst (λ t. Appends entry_bytes EntryFits IsEntry (OneType t ∷ []) before after r) e
    (appends_one entry_bytes EntryFits IsEntry (OneType (sub_view d)) _ _ before after r refl (composite_seen d.composite_type) (composite_again d.composite_type) (subst IsSubType (sym e) ranges) w)

abbrev SubFits : types.SubType → Type 0
SubFits t = CompositeFits t.composite_type

each_composite : (ds : List SubType) → All (λ t. composite_fits t.composite_type) ds → AllByRecursion SubFits (map sub_view ds)
each_composite ds h = each_seen SubFits sub_view ds (λ k d l. composite_seen _ (h k d l))

composites_again : (ds : List SubType) → AllByRecursion SubFits (map sub_view ds) → All (λ t. composite_fits t.composite_type) ds
composites_again ds h = λ k d l. composite_again _ (each_again SubFits sub_view ds h k d l)

pub adds_group : (ds : List SubType) (ss : List types.SubType) (before after : Listed) (r : Result (Unit {0}) EncodeError) → map sub_view ds ≡ ss → AllByRecursion IsSubType ss
    → Writes (entry_bytes (TypeGroup (map sub_view ds))) ((length ds < 2 ^ 32) × All (λ t. composite_fits t.composite_type) ds) before after r → Appends entry_bytes EntryFits IsEntry (TypeGroup ss ∷ []) before after r
adds_group ds ss before after r e ranges w =
    subst (λ ts. Appends entry_bytes EntryFits IsEntry (TypeGroup ts ∷ []) before after r) e
    (appends_one entry_bytes EntryFits IsEntry (TypeGroup (map sub_view ds)) _ _ before after r refl
    (λ h. (same_count sub_view ds h.0, each_composite ds h.1)) (λ h. (count_again sub_view ds h.0, composites_again ds h.1)) (subst (AllByRecursion IsSubType) (sym e) ranges) w)
