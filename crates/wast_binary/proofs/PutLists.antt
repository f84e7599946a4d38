-- Sections that are lists, appended unless they are empty.
use Rattle.std.proofs.Common.{◌≡◌, ℕ, suc, ◌<◌, ◌^◌, Bool, false, nat_eq, inl, inr, List, [], ◌∷◌, ◌++◌, map, length, Result, Ok, Err, refl, sym, ap, ◌∙◌, arith, subst, append-nil}
use Rattle.std.specs.List.{flat_map, AllByRecursion}
use Rattle.std.proofs.lemmas.Bool.{cases_Bool, eqb-true}
use Rattle.std.proofs.lemmas.List.{length-append}
use Rattle.wasm_encoder_base.specs.Bytes.{counted, sized}
use Rattle.wasm_encoder_base.specs.EncodeError.{EncodeError}
use Rattle.wasm_encoder_base.specs.EncodeError.TheVariants.{TooLarge}
use Rattle.wasm_encoder_base.specs.Encodes.{Encodes}
use Rattle.wasm_encoder_base.specs.Leb.{uleb}
use Rattle.wasm_encoder_base.specs.Lists.{Listed, listed, list_section}
use Rattle.wasm_encoder_base.specs.Lists as lists
use Rattle.wasm_encoder.specs.Module.{numbered}
use Rattle.wasm_encoder_bytes.proofs.LebSteps.{length-uleb-last}
use Rattle.wasm_layout.specs.AbstractModule.{AbstractModule}
use Rattle.wasm_layout.specs.IsModule.{IsU32}
use Rattle.wasm_layout.specs.Layout.{Piece, Known, piece_bytes, if_there}
use Rattle.wasm_layout.specs.Lays.{PiecesFit, Fits}
use Rattle.wasm_layout.specs.Present.{has_any}
use Rattle.wasm_layout.specs.Section.{SectionKind, section_number}
use Rattle.wast_sections.specs.Holds.{Holds}
use Rattle.wast_binary.specs.Puts.{Puts, list_bytes, PutsList, unless, FitsUnless}

-- a list without items takes a byte
pub empty_size : {A : Type 0} (spell : A → List ℕ) → IsU32 (length (counted spell []))
empty_size spell = omega (arith, length-append (uleb 0) [], length-uleb-last 0 (omega arith))

not_zero : (n : ℕ) → nat_eq (suc n) 0 ≡ false
not_zero n = elim (cases_Bool (nat_eq (suc n) 0)) [
  | inl y ↦ (let e : suc n ≡ 0 = eqb-true (suc n) 0 y in absurd (omega (arith, e)))
  | inr z ↦ z
]

module _ {A : Type 0} (number : ℕ) (spell : A → List ℕ) (Fit Sound : A → Type 0) where
  -- what is appended of the section of these items
  put_some : (x : A) (xs : List A) (before after : List ℕ) (r : Result (Unit {0}) EncodeError) → AllByRecursion Fit (x ∷ xs) → AllByRecursion Sound (x ∷ xs)
      → Encodes (numbered number (list_section (listed spell (x ∷ xs)))) (length (lists.list_bytes (listed spell (x ∷ xs))) < 2 ^ 32) before after r
      → PutsList number spell Fit Sound (x ∷ xs) before after r
  put_some x xs before after (Ok v) fit sound h = record { put = h.spelled; size = h.fit; fit = fit; sound = sound; too_large = λ t n f s. h.too_large t s }
  put_some x xs before after (Err e) fit sound h = record { put = tt; size = tt; fit = tt; sound = tt; too_large = λ t n f s. h.too_large t s }

  put_bytes : (items : List A) (before after : List ℕ) (r : Result (Unit {0}) EncodeError) → AllByRecursion Fit items → AllByRecursion Sound items
      → Encodes (unless (nat_eq (length items) 0) (numbered number (list_section (listed spell items)))) (FitsUnless (nat_eq (length items) 0) (length (lists.list_bytes (listed spell items)) < 2 ^ 32)) before after r
      → PutsList number spell Fit Sound items before after r
  put_bytes [] before after (Ok v) fit sound h = record { put = h.spelled; size = empty_size spell; fit = tt; sound = tt; too_large = λ t n f s. h.too_large t tt }
  put_bytes [] before after (Err e) fit sound h = record { put = tt; size = tt; fit = tt; sound = tt; too_large = λ t n f s. h.too_large t tt }
  put_bytes (x ∷ xs) before after r fit sound h =
      put_some x xs before after r fit sound
      (subst (λ b. Encodes (unless b (numbered number (list_section (listed spell (x ∷ xs))))) (FitsUnless b (length (lists.list_bytes (listed spell (x ∷ xs))) < 2 ^ 32)) before after r) (not_zero (length xs)) h)

  module _ (items : List A) where
    -- a section that is had
    pub list_put : (section : Listed) (is_empty : Bool) (before after : List ℕ) (r : Result (Unit {0}) EncodeError)
        → Holds spell Fit Sound items (Ok section) → is_empty ≡ nat_eq section.count 0
        → Encodes (unless is_empty (numbered number (list_section section))) (FitsUnless is_empty (length (lists.list_bytes section) < 2 ^ 32)) before after r
        → PutsList number spell Fit Sound items before after r
    list_put section is_empty before after r held empty h =
        let flag : is_empty ≡ nat_eq (length items) 0 = empty ∙ ap (λ s. nat_eq s.count 0) held.ok in
        put_bytes items before after r held.fit held.sound
        (subst (λ b. Encodes (unless b (numbered number (list_section (listed spell items)))) (FitsUnless b (length (lists.list_bytes (listed spell items)) < 2 ^ 32)) before after r) flag
        (subst (λ s. Encodes (unless is_empty (numbered number (list_section s))) (FitsUnless is_empty (length (lists.list_bytes s) < 2 ^ 32)) before after r) held.ok h))

    -- one that isn't
    pub none_put : (e : EncodeError) (before : List ℕ) → Holds spell Fit Sound items (Err e) → PutsList number spell Fit Sound items before before (Err e)
    none_put e before held = record { put = tt; size = tt; fit = tt; sound = tt; too_large = λ t n f s. (let large : e ≡ TooLarge = cc in held.too_large (ap Err large) n f) }

-- AS PIECES of a module
module _ {A : Type 0} (kind : SectionKind) (spell : A → List ℕ) (Fit Sound : A → Type 0) where
  abbrev pieces_of : List ℕ → List A → List Piece
  pieces_of held items = map Known (if_there (has_any items) (record { kind = kind; contents = held }))

  same_bytes : (items : List A) → list_bytes (section_number kind) spell items ≡ flat_map piece_bytes (pieces_of (counted spell items) items)
  same_bytes [] = refl
  same_bytes (x ∷ xs) = sym (append-nil (numbered (section_number kind) (sized (counted spell (x ∷ xs)))))

  sizes_fit : (items : List A) → IsU32 (length (counted spell items)) → PiecesFit (pieces_of (counted spell items) items)
  sizes_fit [] h = tt
  sizes_fit (x ∷ xs) h = (h, tt)

  pub size_fits : (items : List A) → PiecesFit (pieces_of (counted spell items) items) → IsU32 (length (counted spell items))
  size_fits [] h = empty_size spell
  size_fits (x ∷ xs) h = h.0

  module _ (m : AbstractModule (List ℕ)) (S : Type 0) (items : List A)
      (fits : Fits m → IsU32 (length (counted spell items)) → (length items < 2 ^ 32) × AllByRecursion Fit items)
      (so : AllByRecursion Sound items → AllByRecursion Fit items → S) where
    as_counted : (before after : List ℕ) (r : Result (Unit {0}) EncodeError) → PutsList (section_number kind) spell Fit Sound items before after r
        → Puts m (pieces_of (counted spell items) items) S before after r
    as_counted before after (Ok v) h = record {
      put = h.put ∙ ap (λ b. before ++ b) (same_bytes items);
      sizes = sizes_fit items h.size;
      sound = so h.sound h.fit;
      too_large = λ t whole sizes. let size = size_fits items sizes in let all = fits whole size in h.too_large t all.0 all.1 size;
    }
    as_counted before after (Err e) h = record {
      put = tt;
      sizes = tt;
      sound = tt;
      too_large = λ t whole sizes. let size = size_fits items sizes in let all = fits whole size in h.too_large t all.0 all.1 size;
    }

    pub as_pieces : (held : List ℕ) → counted spell items ≡ held → (before after : List ℕ) (r : Result (Unit {0}) EncodeError)
        → PutsList (section_number kind) spell Fit Sound items before after r → Puts m (pieces_of held items) S before after r
    as_pieces held e before after r h = subst (λ c. Puts m (pieces_of c items) S before after r) e (as_counted before after r h)
