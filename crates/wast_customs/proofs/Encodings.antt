-- Encodings of lists, by what is seen of their items.
use Rattle.std.proofs.Common.{◌≡◌, ◌<◌, ◌^◌, ℕ, List, [], ◌∷◌, ◌++◌, map, length, subst, sym, ◌∙◌, ap, Result}
use Rattle.std.specs.Prelude.{All, OnOk}
use Rattle.std.proofs.lemmas.List.{length-map}
use Rattle.std.proofs.lemmas.List.Folds.{flat_map-map}
use Rattle.std.proofs.lemmas.List.Elements.{All-map, All-weaker, All-nil, All-cons, All-head, All-tail}
use Rattle.std.specs.List.{flat_map}
use Rattle.std.proofs.lemmas.Result.{on_ok_weaker}
use Rattle.wasm_encoder_base.specs.Leb.{uleb}
use Rattle.wasm_encoder_base.specs.Bytes.{counted}
use Rattle.wasm_encoder_base.specs.Encodes.{Encodes}
use Rattle.wasm_encoder_base.specs.EncodeError.{EncodeError}

-- the same bytes, where the same fits
pub encodes_as : {s t : List ℕ} {F G : Type 0} {b a : List ℕ} {r : Result (Unit {0}) EncodeError} → s ≡ t → (F → G) → (G → F) → Encodes s F b a r → Encodes t G b a r
encodes_as {b = b} {a = a} {r = r} e f g h = record {
  spelled = subst (λ z. OnOk r (a ≡ b ++ z)) e h.spelled;
  fit = on_ok_weaker r f h.fit;
  unchanged = h.unchanged;
  too_large = λ x y. h.too_large x (g y);
}

counted_map : {A B : Type 0} (spell : B → List ℕ) (view : A → B) (xs : List A) → counted (λ x. spell (view x)) xs ≡ counted spell (map view xs)
counted_map spell view xs = sym (ap (λ n. uleb n ++ flat_map spell (map view xs)) (length-map xs view) ∙ ap (λ z. uleb (length xs) ++ z) (flat_map-map spell view xs))

all_back : {A B : Type 0} (P : B → Type 0) (view : A → B) (xs : List A) → All P (map view xs) → All (λ x. P (view x)) xs
all_back P view [] h = All-nil (λ x. P (view x))
all_back P view (x ∷ xs) h = All-cons (λ y. P (view y)) x xs (All-head P (view x) (map view xs) h) (all_back P view xs (All-tail P (view x) (map view xs) h))

-- a list, by what is seen of its items, where an item fits exactly if what is seen of it does
pub list_encodes : {A B : Type 0} (xs : List A) (spell : B → List ℕ) (P : B → Type 0) (Q : A → Type 0) (view : A → B) {b a : List ℕ} {r : Result (Unit {0}) EncodeError} → ((x : A) → Q x → P (view x)) → ((x : A) → P (view x) → Q x) →
    Encodes (counted (λ x. spell (view x)) xs) ((length xs < 2 ^ 32) × All Q xs) b a r → Encodes (counted spell (map view xs)) ((length (map view xs) < 2 ^ 32) × All P (map view xs)) b a r
list_encodes xs spell P Q view to from h =
    encodes_as (counted_map spell view xs)
    (λ f. (subst (λ n. n < 2 ^ 32) (sym (length-map xs view)) f.0, All-map P view xs (All-weaker Q (λ x. P (view x)) to xs f.1)))
    (λ f. (subst (λ n. n < 2 ^ 32) (length-map xs view) f.0, All-weaker (λ x. P (view x)) Q from xs (all_back P view xs f.1)))
    h
