-- A loop over fields: the first form of those that are left is the first of all.
use Rattle.std.proofs.Common.{◌≡◌, ℕ, ◌+◌, ◌<◌, ◌≤◌, List, [], ◌∷◌, Option, Some, None, map, length, drop, get_or, refl, sym, ◌∙◌, ap}
use Rattle.std.specs.Prelude.{option_map}
use Rattle.std.proofs.lemmas.List.{drop_more, drop_all}
use Rattle.wast_fields.specs.FieldTree.{Field, field_place}
use Rattle.wast_conversions.specs.Covered.{Form, use_forms}
use Rattle.wast_imports.specs.ImportViews.{tag_tree}
use Rattle.wast_imports.specs.declared.item.TagType.{TagType}
use Rattle.wast_fields.specs.FuncViews.{defined_tag}
use Rattle.wast_fields.specs.TagKind.{TagKind}
use Rattle.wast_fields.specs.TagKind.TheVariants as tags
use Rattle.wast_meant.specs.Covered.{first_of, defined_forms, field_forms, first_form}
use Rattle.wast_uncovered.specs.First.{first}

none_of : {P : Type 0} (p : P) (fs : List Form) (rest : Option (P × Form)) → first fs ≡ None → first_of p fs rest ≡ rest
none_of p [] rest e = refl
none_of p (f ∷ fs) rest e = cc

some_of : {P : Type 0} (p : P) (fs : List Form) (rest : Option (P × Form)) (f : Form) → first fs ≡ Some f → first_of p fs rest ≡ Some (p, f)
some_of p [] rest f e = cc
some_of p (g ∷ fs) rest f e = ap (λ o. option_map (λ form. (p, form)) o) e

module _ {X N P : Type 0} (tree : X → Field N P) where
  abbrev all : List X → Option (P × Form)
  all xs = first_form (map tree xs)

  at_place : (xs : List X) (i : ℕ) (x : X) → i < length xs → x ≡ get_or xs i x → all (drop i xs) ≡ first_of (field_place (tree x)) (field_forms (tree x)) (all (drop (i + 1) xs))
  at_place xs i x h e = ap all (drop_more xs i x h ∙ ap (λ y. y ∷ drop (i + 1) xs) (sym e))

  abbrev pub Left : List X → ℕ → Type 0
  Left xs i = all (drop i xs) ≡ all xs

  pub each_goes : (xs : List X) (i : ℕ) (x : X) → i < length xs → x ≡ get_or xs i x → first (field_forms (tree x)) ≡ None → Left xs i → Left xs (i + 1)
  each_goes xs i x h e none l = sym (none_of (field_place (tree x)) (field_forms (tree x)) (all (drop (i + 1) xs)) none) ∙ sym (at_place xs i x h e) ∙ l

  pub each_ends : (xs : List X) (i : ℕ) → length xs ≤ i → Left xs i → None ≡ all xs
  each_ends xs i end l = ap all (sym (drop_all i xs end)) ∙ l

  pub each_stops : (xs : List X) (i : ℕ) (x : X) (f : Form) → i < length xs → x ≡ get_or xs i x → first (field_forms (tree x)) ≡ Some f → Left xs i → Some (field_place (tree x), f) ≡ all xs
  each_stops xs i x f h e some l = sym (some_of (field_place (tree x)) (field_forms (tree x)) (all (drop (i + 1) xs)) f some) ∙ sym (at_place xs i x h e) ∙ l

-- a tag has the forms of its type, imported or not
pub tag_forms : (kind : TagKind) (ty : TagType) → defined_forms (defined_tag kind ty) ≡ use_forms (tag_tree ty)
tag_forms (tags.Import i) ty = refl
tag_forms tags.Inline ty = refl
