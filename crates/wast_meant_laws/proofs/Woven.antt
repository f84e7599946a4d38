-- Sections between the gaps of stops are the pieces of these, stop by stop.
use Rattle.std.proofs.Common.{◌≡◌, Bool, true, false, List, [], ◌∷◌, ◌++◌, map, refl, sym, ap, ◌∙◌, append_assoc, append-nil}
use Rattle.std.specs.List.{flat_map}
use Rattle.std.proofs.lemmas.List.{map-append}
use Rattle.wasm_encoder_custom.specs.Custom.{Custom}
use Rattle.wast_customs.specs.CustomTree.{CustomPlace}
use Rattle.wasm_layout.specs.Section.{SectionKind}
use Rattle.wasm_layout.specs.Layout.{if_there, Section, Piece, Known, Free, weave}
use Rattle.wasm_layout.proofs.HintPlaces.{no_gaps}
use Rattle.wast_meant.specs.CustomsMeant.{Stop, At, Of, precede, gaps_from}
use Rattle.wast_meant_laws.specs.Stops.{stop_pieces}

-- the section that a stop is of
abbrev pub kind_in : Stop → List SectionKind
kind_in (At place) = []
kind_in (Of kind) = kind ∷ []

-- what precedes the first gap stands in front
woven_behind : (ss : List Section) (xs : List Custom) (gaps : List (List Custom)) → weave ss (precede xs gaps) ≡ map Free xs ++ weave ss gaps
woven_behind [] xs [] = sym (append-nil (map Free xs))
woven_behind [] xs (gap ∷ gaps) = map-append Free xs gap
woven_behind (s ∷ ss) xs [] = ap (λ ps. map Free xs ++ (Known s ∷ ps)) (no_gaps ss)
woven_behind (s ∷ ss) xs (gap ∷ gaps) =
    ap (λ ps. ps ++ (Known s ∷ weave ss gaps)) (map-append Free xs gap) ∙ append_assoc (map Free xs) (map Free gap) (Known s ∷ weave ss gaps)

module _ (at : CustomPlace → List Custom) (is_there : SectionKind → Bool) (section : SectionKind → Section) where
  abbrev sections_in : List Stop → List Section
  sections_in ss = flat_map (λ k. if_there (is_there k) (section k)) (flat_map kind_in ss)

  -- a section that is there ends a gap
  woven_kind : (b : Bool) (s : Section) (ss : List Section) (gaps : List (List Custom)) (ps : List Piece) → weave ss gaps ≡ ps
      → weave (if_there b s ++ ss) (elim b [ true ↦ [] ∷ gaps | false ↦ gaps ]) ≡ map Known (if_there b s) ++ ps
  woven_kind true s ss gaps ps e = ap (λ v. Known s ∷ v) e
  woven_kind false s ss gaps ps e = e

  pub woven : (ss : List Stop) → weave (sections_in ss) (gaps_from at is_there ss) ≡ flat_map (stop_pieces at is_there section) ss
  woven [] = refl
  woven (At place ∷ ss) = woven_behind (sections_in ss) (at place) (gaps_from at is_there ss) ∙ ap (λ ps. map Free (at place) ++ ps) (woven ss)
  woven (Of kind ∷ ss) = woven_kind (is_there kind) (section kind) (sections_in ss) (gaps_from at is_there ss) (flat_map (stop_pieces at is_there section) ss) (woven ss)
