-- The custom sections of a place, field by field.
use Rattle.std.proofs.Common.{◌≡◌, true, false, List, [], ◌∷◌, ◌++◌, map, refl, sym, ap, ◌∙◌, Result, Ok, flat_map}
use Rattle.std.specs.Prelude.{ℕ, All}
use Rattle.std.specs.List.{filter}
use Rattle.std.proofs.lemmas.List.{map-append, append-nil}
use Rattle.std.proofs.lemmas.List.Concat.{flat_map-append}
use Rattle.std.proofs.lemmas.List.Elements.{filter-append, All-nil, All-cons, All-head, All-tail}
use Rattle.wasm_encoder_base.specs.Encodes.{Encodes}
use Rattle.wasm_encoder_base.specs.EncodeError.{EncodeError}
use Rattle.wasm_encoder_custom.specs.Custom as binary
use Rattle.wasm_encoder_custom.specs.Custom.{CustomFits}
use Rattle.wasm_layout.specs.Layout.{Free}
use Rattle.wasm_layout.specs.Lays.{PiecesFit}
use Rattle.wast_customs.specs.CustomTree.{Custom, CustomPlace, place_of}
use Rattle.wast_customs.proofs.Encodings.{encodes_as}
use Rattle.wast_module_fields.specs.FieldTree.{Field}
use Rattle.wast_module_fields.specs.ModuleFieldViews.{field_tree}
use Rattle.wast_module_fields.specs.declared.field.ModuleField.{ModuleField}
use Rattle.wast_module_fields.specs.declared.field.ModuleField.TheVariants as fields
use Rattle.wast_meant.specs.CustomsMeant.{custom_of, customs_in, same_place, at_place}
use Rattle.wast_custom_sections.specs.Parts.{section_bytes, sections_at, AreCustom}

pub places_append : {N P : Type 0} (place : CustomPlace) (fs gs : List (Field N P)) → sections_at (fs ++ gs) place ≡ sections_at fs place ++ sections_at gs place
places_append {N} {P} place fs gs =
    let stands = λ (c : Custom P). same_place place (place_of c) in
    ap (λ cs. map custom_of (filter stands cs)) (flat_map-append customs_in fs gs)
    ∙ ap (map custom_of) (filter-append stands (flat_map customs_in fs) (flat_map customs_in gs))
    ∙ map-append custom_of (filter stands (flat_map customs_in fs)) (filter stands (flat_map customs_in gs))

pub stands_there : {P : Type 0} (place : CustomPlace) (c : Custom P) → same_place place (place_of c) ≡ true → at_place (c ∷ []) place ≡ custom_of c ∷ []
stands_there place c h = rw h refl

pub stands_elsewhere : {P : Type 0} (place : CustomPlace) (c : Custom P) → same_place place (place_of c) ≡ false → at_place (c ∷ []) place ≡ []
stands_elsewhere place c h = rw h refl

-- one section, and none
pub one_encodes : (x : binary.Custom) {b a : List ℕ} {r : Result (Unit {0}) EncodeError} →
    Encodes (section_bytes x) (CustomFits x) b a r → Encodes (flat_map section_bytes (x ∷ [])) (All CustomFits (x ∷ [])) b a r
one_encodes x h = encodes_as (sym (append-nil (section_bytes x))) (λ f. All-cons CustomFits x [] f (All-nil CustomFits)) (λ f. All-head CustomFits x [] f) h

pub none_encodes : (b : List ℕ) → Encodes (flat_map section_bytes []) (All CustomFits []) b b (Ok tt)
none_encodes b = record { spelled = sym (append-nil b); fit = All-nil CustomFits; unchanged = tt; too_large = λ e f. cc }

-- sections fit as pieces do
pub pieces_fit : (cs : List binary.Custom) → All CustomFits cs → PiecesFit (map Free cs)
pieces_fit [] h = tt
pieces_fit (c ∷ cs) h = (All-head CustomFits c cs h, pieces_fit cs (All-tail CustomFits c cs h))

pub customs_fit : (cs : List binary.Custom) → PiecesFit (map Free cs) → All CustomFits cs
customs_fit [] h = All-nil CustomFits
customs_fit (c ∷ cs) h = All-cons CustomFits c cs h.0 (customs_fit cs h.1)

-- what custom sections are in bytes begins with the number of one
pub are_custom : (cs : List binary.Custom) → AreCustom (flat_map section_bytes cs)
are_custom [] = tt
are_custom (c ∷ cs) = refl

-- a field of another kind has no section
pub no_custom : (f : ModuleField) → ((x : _) → f ≡ fields.Custom x → ⊥) → (place : CustomPlace) → sections_at (field_tree f ∷ []) place ≡ []
no_custom (fields.Custom x) h place = absurd (h x refl)
no_custom f h place = refl
