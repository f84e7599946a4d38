-- Whether an element passes a test, by those that are left.
use Rattle.std.proofs.Common.{◌≡◌, ℕ, ◌+◌, ◌<◌, ◌≤◌, Bool, true, false, ◌||◌, List, [], ◌∷◌, ◌++◌, map, length, drop, get_or, refl, sym, ap, ◌∙◌}
use Rattle.std.specs.List.{flat_map, list_any}
use Rattle.std.proofs.lemmas.List.{drop_more, drop_all, map-append}
use Rattle.std.proofs.lemmas.List.Folds.{list_any-append}
use Rattle.wasm_encoder_base.specs.Table.{same_text}
use Rattle.wasm_encoder_custom.specs.Custom.{Custom}
use Rattle.wast_module_fields.specs.ModuleFieldViews.{field_tree}
use Rattle.wast_module_fields.specs.declared.field.ModuleField.{ModuleField}
use Rattle.wasm_layout.specs.Present.{is_called}
use Rattle.wast_meant.specs.CustomsMeant.{custom_of, customs_in}

module _ {X : Type 0} (test : X → Bool) where
  abbrev pub Left : List X → ℕ → Type 0
  Left xs i = list_any test (drop i xs) ≡ list_any test xs

  here : (xs : List X) (i : ℕ) (x : X) → i < length xs → x ≡ get_or xs i x → list_any test (drop i xs) ≡ (test x || list_any test (drop (i + 1) xs))
  here xs i x l e = ap (list_any test) (drop_more xs i x l) ∙ ap (λ y. test y || list_any test (drop (i + 1) xs)) (sym e)

  pub goes : (xs : List X) (i : ℕ) (x : X) → i < length xs → x ≡ get_or xs i x → test x ≡ false → Left xs i → Left xs (i + 1)
  goes xs i x l e fails left = sym (here xs i x l e ∙ ap (λ b. b || list_any test (drop (i + 1) xs)) fails) ∙ left

  pub ends : (xs : List X) (i : ℕ) → length xs ≤ i → Left xs i → false ≡ list_any test xs
  ends xs i l left = sym (ap (list_any test) (drop_all i xs l)) ∙ left

  pub passes : (xs : List X) (i : ℕ) (x : X) → i < length xs → x ≡ get_or xs i x → test x ≡ true → Left xs i → true ≡ list_any test xs
  passes xs i x l e holds left = sym (here xs i x l e ∙ ap (λ b. b || list_any test (drop (i + 1) xs)) holds) ∙ left

-- seen as something else
pub any_seen : {X T : Type 0} (test : T → Bool) (tree : X → T) (xs : List X) → list_any (λ x. test (tree x)) xs ≡ list_any test (map tree xs)
any_seen test tree [] = refl
any_seen test tree (x ∷ xs) = ap (λ b. test (tree x) || b) (any_seen test tree xs)

-- custom fields by their names
or_false : (b : Bool) → (b || false) ≡ b
or_false true = refl
or_false false = refl

abbrev pub takes : List ℕ → ModuleField → Bool
takes name f = is_called name (map custom_of (customs_in (field_tree f)) ∷ [])

pub any_takes : (name : List ℕ) (fs : List ModuleField) → list_any (takes name) fs ≡ is_called name (map custom_of (flat_map customs_in (map field_tree fs)) ∷ [])
any_takes name [] = refl
any_takes name (f ∷ fs) =
    let p = λ (c : Custom). same_text name c.name in
    let own = map custom_of (customs_in (field_tree f)) in
    let rest = map custom_of (flat_map customs_in (map field_tree fs)) in
    (λ i. or_false (list_any p own) i || (any_takes name fs ∙ or_false (list_any p rest)) i)
    ∙ sym (list_any-append p own rest) ∙ ap (list_any p) (sym (map-append custom_of (customs_in (field_tree f)) (flat_map customs_in (map field_tree fs))))
    ∙ sym (or_false (list_any p (map custom_of (customs_in (field_tree f) ++ flat_map customs_in (map field_tree fs)))))
