-- Sections that are built item by item.
use Rattle.std.proofs.Common.{◌≡◌, ℕ, ◌+◌, List, [], ◌∷◌, ◌++◌, map, All, refl, sym, ap, ◌∙◌}
use Rattle.std.specs.Prelude.{Result, Ok, Err}
use Rattle.std.specs.List.{flat_map, AllByRecursion}
use Rattle.std.proofs.lemmas.List.{append-nil}
use Rattle.std.proofs.lemmas.List.Elements.{All-nil, All-cons, All-head, All-tail}
use Rattle.wasm_encoder_base.specs.EncodeError.{EncodeError}
use Rattle.wasm_encoder_base.specs.EncodeError.TheVariants.{TooLarge}
use Rattle.wasm_encoder_base.specs.Lists.{Listed}
use Rattle.wasm_encoder_sections.specs.Writes.{Writes}
use Rattle.wast_section_items.specs.Appends.{Appends}

module _ {A : Type 0} (spell : A → List ℕ) (Fits Sound : A → Type 0) where
  -- ONE ITEM, that is written by its bytes
  pub appends_one : (x : A) (entry : List ℕ) (fits : Type 0) (before after : Listed) (r : Result (Unit {0}) EncodeError)
      → entry ≡ spell x → (fits → Fits x) → (Fits x → fits) → Sound x → Writes entry fits before after r → Appends spell Fits Sound (x ∷ []) before after r
  appends_one x entry fits before after (Ok v) e to from ranges w =
      let last : before.bytes ++ entry ≡ before.bytes ++ flat_map spell (x ∷ []) = ap (λ b. before.bytes ++ b) (e ∙ sym (append-nil (spell x))) in
      record {
        appended = w.written ∙ (λ i. record { count = before.count + 1; bytes = last i });
        room = λ n. w.fit.0;
        fit = (to w.fit.1, tt);
        sound = (ranges, tt);
        unchanged = tt;
        too_large = λ t room fit. w.too_large t room (from fit.0);
      }
  appends_one x entry fits before after (Err error) e to from ranges w =
      record { appended = tt; room = tt; fit = tt; sound = tt; unchanged = w.unchanged; too_large = λ t room fit. w.too_large t room (from fit.0) }

  -- items that were refused before anything was written
  pub unappended : (items : List A) (section : Listed) (e : EncodeError) → (e ≡ TooLarge → AllByRecursion Fits items → ⊥) → Appends spell Fits Sound items section section (Err e)
  unappended items section e h = record { appended = tt; room = tt; fit = tt; sound = tt; unchanged = refl; too_large = λ t room fit. let large : e ≡ TooLarge = cc in h large fit }

-- of each value that items are seen as
module _ {A B : Type 0} (P : B → Type 0) (f : A → B) where
  pub each_seen : (xs : List A) → All (λ x. P (f x)) xs → AllByRecursion P (map f xs)
  each_seen [] h = tt
  each_seen (x ∷ xs) h = (All-head (λ x. P (f x)) x xs h, each_seen xs (All-tail (λ x. P (f x)) x xs h))

  pub each_again : (xs : List A) → AllByRecursion P (map f xs) → All (λ x. P (f x)) xs
  each_again [] h = All-nil (λ x. P (f x))
  each_again (x ∷ xs) h = All-cons (λ x. P (f x)) x xs h.0 (each_again xs h.1)
