-- Identifiers of parameters and locals.
use Rattle.std.proofs.Common.{◌≡◌, ℕ, ◌+◌, ◌<◌, List, [], ◌∷◌, ◌++◌, Option, None, map, take, length, refl, sym, ◌∙◌, ap}
use Rattle.std.specs.Prelude.{option_map}
use Rattle.std.proofs.lemmas.List.{map-append, take_more}
use Rattle.wast_parser.specs.Identifier.{Identifier}
use Rattle.wast_parser.specs.Identifiers.{identifier_tree}
use Rattle.wast_parser_base.specs.declared.index.NameAnnotation.{NameAnnotation}
use Rattle.wast_value_types.specs.declared.val_type.ValType.{ValType}
use Rattle.wast_signatures.specs.SignatureViews.{param_tree}
use Rattle.wast_module_fields.specs.FuncViews.{local_tree}
use Rattle.wast_module_fields.specs.Local.{Local}
use Rattle.wast_scopes.specs.declared.numbered.NumberedType.{NumberedType}
use Rattle.wast_scopes.specs.declared.numbered.NumberedType.TheVariants as numbered
use Rattle.wast_scopes.specs.NumberedViews.{value_of_numbered}

pub none_more : (ids new : List (Option Identifier)) (xs : List NumberedType) (i : ℕ) → i < length xs
    → map (option_map identifier_tree) ids ≡ map (λ p. None) (map value_of_numbered (take i xs)) → new ≡ ids ++ None ∷ []
    → map (option_map identifier_tree) new ≡ map (λ p. None) (map value_of_numbered (take (i + 1) xs))
none_more ids new xs i lt h e =
    ap (map (option_map identifier_tree)) e ∙ map-append (option_map identifier_tree) ids (None ∷ []) ∙ ap (λ l. l ++ None ∷ []) h
    ∙ sym (ap (λ l. map (λ p. None) (map value_of_numbered l)) (take_more xs i numbered.I32 lt) ∙ ap (map (λ p. None)) (map-append value_of_numbered (take i xs) _) ∙ map-append (λ p. None) (map value_of_numbered (take i xs)) _)

pub param_ids : (xs : List (Option Identifier × Option NameAnnotation × ValType)) → map (option_map identifier_tree) (map (λ p. p.0) xs) ≡ map (λ p. p.id) (map param_tree xs)
param_ids [] = refl
param_ids (x ∷ xs) = ap (λ l. option_map identifier_tree x.0 ∷ l) (param_ids xs)

pub local_ids : (xs : List Local) → map (option_map identifier_tree) (map (λ l. l.id) xs) ≡ map (λ l. l.id) (map local_tree xs)
local_ids [] = refl
local_ids (x ∷ xs) = ap (λ l. option_map identifier_tree x.id ∷ l) (local_ids xs)
