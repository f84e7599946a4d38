-- The producers of a kind.
use Rattle.std.proofs.Common.{ℕ, zero, suc, ◌≡◌, ◌+◌, ◌<◌, ◌≤◌, ◌^◌, Bool, true, false, cond, List, [], ◌∷◌, ◌++◌, length, map, get_or, refl, sym, ap, ◌∙◌, arith, flat_map}
use Rattle.std.specs.List.{filter}
use Rattle.std.proofs.lemmas.List.{map-append}
use Rattle.std.proofs.lemmas.List.Elements.{filter-append}
use Rattle.wasm_encoder_base.specs.Table.{same_text}
use Rattle.wasm_encoder_custom.specs.Producers as binary
use Rattle.wasm_encoder_custom.specs.Producers.{producer_bytes}
use Rattle.wasm_layout.specs.Present.{has_any}
use Rattle.wast_customs.specs.CustomTree.{Producer, ProducerKind}
use Rattle.wast_customs.specs.CustomSyntax.{producer_word}
use Rattle.wast_meant.specs.CustomsMeant.{of_kind, producers_field}
use Rattle.wast_custom_sections.proofs.Sizes.{producer_size, cons_size}

pub values_append : (k : ProducerKind) (ps qs : List Producer) → (producers_field (ps ++ qs) k).values ≡ (producers_field ps k).values ++ (producers_field qs k).values
values_append k ps qs =
    let shown : Producer → binary.Producer = λ p. record { name = p.name; version = p.version } in
    ap (map shown) (filter-append (λ (p : Producer). same_text (producer_word k) (producer_word p.kind)) ps qs)
    ∙ map-append shown (of_kind ps k) (of_kind qs k)

-- a producer has a byte at the least
pub producer_some : (p : binary.Producer) → 1 ≤ length (producer_bytes p)
producer_some p = omega (arith, producer_size p)

-- the value of a producer of the kind
pub one_value : (k : ProducerKind) (p : Producer) → same_text (producer_word k) (producer_word p.kind) ≡ true → (producers_field (p ∷ []) k).values ≡ record { name = p.name; version = p.version } ∷ []
one_value k p h = rw h refl

-- it has room, and fits, where all has fewer than 2^32 bytes
pub value_fits : (k : ProducerKind) (p : Producer) (n : ℕ) → same_text (producer_word k) (producer_word p.kind) ≡ true → n + length (flat_map producer_bytes (producers_field (p ∷ []) k).values) < 2 ^ 32 →
    (n + 1 < 2 ^ 32) × (length p.name < 2 ^ 32) × (length p.version < 2 ^ 32)
value_fits k p n h l =
    let q : binary.Producer = record { name = p.name; version = p.version } in
    let e = ap (λ vs. length (flat_map producer_bytes vs)) (one_value k p h) in
    let size = producer_size q in
    let all = cons_size producer_bytes q [] in
    (omega arith, omega arith, omega arith)

-- a producer of the kind that stands among producers
has_more : {A : Type 0} (b : Bool) (x : A) (xs : List A) → has_any xs ≡ true → has_any (cond b (x ∷ xs) xs) ≡ true
has_more true x xs h = refl
has_more false x xs h = h

pub has_item : {A : Type 0} (p : A → Bool) (xs : List A) (i : ℕ) (x : A) → i < length xs → x ≡ get_or xs i x → p x ≡ true → has_any (filter p xs) ≡ true
has_item p [] i x l e h = absurd (omega arith)
has_item p (y ∷ ys) zero x l e h = let q : p y ≡ true = ap p (sym e) ∙ h in rw q refl
has_item p (y ∷ ys) (suc i) x l e h = has_more (p y) y (filter p ys) (has_item p ys i x (omega arith) e h)
