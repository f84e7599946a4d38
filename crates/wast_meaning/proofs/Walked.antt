-- The index spaces that are reached behind all items: they tell the places of names.
use Rattle.std.proofs.Common.{◌≡◌, Bool, true, false, List, [], ◌∷◌, map, Option, refl, ◌∙◌, ap}
use Rattle.std.specs.List.{flat_map}
use Rattle.std.specs.Prelude.{if◌then◌else◌, filter}
use Rattle.wasm_encoder_base.specs.Table.{Space}
use Rattle.wast_parser.specs.Identifiers.{Named}
use Rattle.wast_names.specs.Walk.{reached}
use Rattle.wast_names.specs.Space as names
use Rattle.wast_names.proofs.Positions.{numbers_of}
use Rattle.wast_field_syntax.specs.FieldTree.{Field}
use Rattle.wast_meaning.specs.Spaces.{Bound, same_space, space_word, items, ids_in}
use Rattle.wast_meaning.specs.Demands.{spaces_after}

module _ {N P : Type 0} (eq : N → N → Bool) where
  abbrev joined : Space → names.Space N → Option (Named N P) → names.Space N
  joined s space id = names.after_item eq (space_word s) space id

  -- each is that of its own items
  pub reached_so : (bs : List (Bound N P)) (spaces : Space → names.Space N) (s : Space)
      → reached (spaces_after eq) spaces bs s ≡ reached (names.after_item eq (space_word s)) (spaces s) (map (λ b. b.id) (filter (λ b. same_space s b.space) bs))
  reached_so [] spaces s = refl
  reached_so (b ∷ bs) spaces s = reached_so bs (spaces_after eq spaces b) s ∙ by_case (same_space s b.space)
    where
      rest : List (Bound N P)
      rest = filter (λ o. same_space s o.space) bs

      by_case : (t : Bool) → reached (joined s) (if t then joined s (spaces s) b.id else spaces s) (map (λ o. o.id) rest) ≡ reached (joined s) (spaces s) (map (λ o. o.id) (if t then b ∷ rest else rest))
      by_case true = refl
      by_case false = refl

  -- so it tells the numbers of names, and how many items there are
  pub tells_so : (fs : List (Field N P)) (s : Space) (n : N) → (reached (spaces_after eq) (λ t. names.empty) (flat_map items fs) s).look n ≡ names.denoted eq (space_word s) n (map names.name_in (ids_in s fs))
  tells_so fs s n = ap (λ (t : names.Space N). t.look n) (reached_so (flat_map items fs) (λ t. names.empty) s) ∙ numbers_of eq (space_word s) (ids_in s fs) n
