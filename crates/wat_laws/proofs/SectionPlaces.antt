-- A section that is there stands among the pieces of its module, and so in its bytes.
use Rattle.std.proofs.Common.{◌≡◌, ℕ, true, List, [], ◌∷◌, ◌++◌, refl, sym, ap, ◌∙◌, append_assoc, flat_map}
use Rattle.std.proofs.lemmas.Grind.{flat_map-append}
use Rattle.wasm_encoder.specs.Module.{header}
use Rattle.wasm_layout.specs.Section.{SectionKind, Hints, Codes, order}
use Rattle.wasm_layout.specs.AbstractModule.{AbstractModule}
use Rattle.wasm_layout.specs.Present.{has_any, is_present}
use Rattle.wasm_layout.specs.Layout.{if_there, section, sections, Known, weave, piece_bytes, pieces, layout}
use Rattle.wasm_layout.proofs.HintPlaces.{split, before_hints, behind_codes, slot}
use Rattle.wat_laws.specs.HintPlaces.{SectionStands}

-- a list with an item has one
pub any_around : {A : Type 0} (xs : List A) (y : A) (ys : List A) → has_any (xs ++ (y ∷ ys)) ≡ true
any_around [] y ys = refl
any_around (x ∷ xs) y ys = refl

-- the kinds before that of codes, and behind that of hints
abbrev pub before_codes : List SectionKind
before_codes = before_hints ++ (Hints ∷ [])

abbrev pub behind_hints : List SectionKind
behind_hints = Codes ∷ behind_codes

module _ (b : List ℕ) (m : AbstractModule (List ℕ)) (before : List SectionKind) (kind : SectionKind) (behind : List SectionKind) (is_order : order ≡ before ++ (kind ∷ behind)) (there : is_present m kind ≡ true) where
  sections_are : sections m ≡ flat_map (slot m) before ++ (section m kind ∷ flat_map (slot m) behind)
  sections_are =
      ap (flat_map (slot m)) is_order
      ∙ flat_map-append (slot m) before (kind ∷ behind)
      ∙ ap (λ t. flat_map (slot m) before ++ (if_there t (section m kind) ++ flat_map (slot m) behind)) there

  pub section_stands : b ≡ layout m → SectionStands b m kind
  section_stands laid =
      let s = section m kind in
      let parts = split (flat_map (slot m) before) s (flat_map (slot m) behind) m.customs in
      let after = weave (flat_map (slot m) behind) parts.gaps in
      let are : pieces m ≡ parts.front ++ (Known s ∷ after) = ap (λ v. weave v m.customs) sections_are ∙ parts.is in
      record {
        before = parts.front;
        after = after;
        of_module = are;
        front = header ++ flat_map piece_bytes parts.front;
        is_front = refl;
        bytes = laid
            ∙ ap (λ v. header ++ flat_map piece_bytes v) are
            ∙ ap (λ v. header ++ v) (flat_map-append piece_bytes parts.front (Known s ∷ after))
            ∙ sym (append_assoc header (flat_map piece_bytes parts.front) (piece_bytes (Known s) ++ flat_map piece_bytes after));
      }
