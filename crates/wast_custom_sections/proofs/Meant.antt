-- The hints that fields mean are those of the functions that have hints, by their numbers.
use Rattle.std.proofs.Common.{ℕ, suc, ◌≡◌, ◌+◌, ◌<◌, ◌^◌, Bool, true, false, List, [], ◌∷◌, ◌++◌, length, map, refl, ap, sym, subst, ◌∙◌, arith, append-nil, flat_map, length-append, Option, Some, None, Result, Ok}
use Rattle.std.specs.Prelude.{All, option_map, codes}
use Rattle.std.specs.List.{slice_get}
use Rattle.std.specs.Option.{option_flatten}
use Rattle.std.proofs.lemmas.List.{map-append, length-map}
use Rattle.std.proofs.lemmas.List.Elements.{All-nil, All-cons, All-head, All-tail, All-append}
use Rattle.std.proofs.lemmas.List.Folds.{flat_map-map}
use Rattle.std.proofs.lemmas.Simd.{map-map}
use Rattle.wasm_encoder_base.specs.Bytes.{sized}
use Rattle.wasm_encoder_base.specs.Leb.{uleb}
use Rattle.wasm_encoder_base.specs.Encodes.{Encodes}
use Rattle.wasm_encoder_base.specs.EncodeError.{EncodeError}
use Rattle.wasm_encoder_base.specs.Lists.{Listed, listed, list_bytes}
use Rattle.wasm_encoder_custom.specs.BranchHints.{function_hints_bytes, hints_section}
use Rattle.wasm_encoder_custom.specs.Custom.{CustomFits, custom_body, custom_bytes}
use Rattle.wasm_encoder.specs.Module.{numbered}
use Rattle.wasm_layout.specs.AbstractModule as abstract
use Rattle.wasm_layout.specs.IsModule.{IfThere}
use Rattle.wasm_layout.specs.Layout.{Known, if_there, piece_bytes, placed as place_hint, placed_in, placed_hints}
use Rattle.wasm_layout.specs.Lays.{PiecesFit}
use Rattle.wasm_layout.specs.Present.{has_any}
use Rattle.wasm_layout.specs.Section.{Hints}
use Rattle.wast_customs.proofs.Encodings.{encodes_as}
use Rattle.wast_expressions.specs.Items.{Hint}
use Rattle.wast_module_fields.specs.FieldTree.{Function, Field}
use Rattle.wast_meant.specs.FieldsMeant.{function_of}
use Rattle.wast_meant.specs.NamesMeant.{bodies_in, function_hints, hints_from}
use Rattle.wast_meant.proofs.Renamed.{any_of_map}
use Rattle.wast_custom_sections.specs.Hints.{PlacesFit, FunctionFits, function_in, hints_in, hint_list, hint_section, hint_pieces, HintsFit}
use Rattle.wast_custom_sections.specs.Hinted.{Hinted, HintedFits, placed, placed_at, hinted_bytes, with_hints, hinted, hinted_from}

abbrev hint_shown : Hint → abstract.Hint
hint_shown h = record { index = h.index; value = h.value }

abbrev shown : Hinted → abstract.FunctionHints
shown h = record { function = h.number; hints = map hint_shown h.hints }

if_all : {A : Type 0} (P : A → Type 0) (b : Bool) (x : A) → P x → All P (if_there b x)
if_all P true x h = All-cons P x [] h (All-nil P)
if_all P false x h = All-nil P

-- the body of a function that has hints is that of the function with its number
abbrev IsAt : (ℕ → Option abstract.Function) → Hinted → Type 0
IsAt at h = (f : abstract.Function) × (at h.number ≡ Some f) × (f.body ≡ h.body)

module _ {N P : Type 0} where
  shown_here : (n : ℕ) (f : Function N P) (hs : List Hint) → function_hints n (map hint_shown hs) ≡ map shown (if_there (has_any hs) (record (with_hints n f.locals f.body) { hints = hs }))
  shown_here n f [] = refl
  shown_here n f (h ∷ hs) = refl

  are_shown : (n : ℕ) (os : List (Option (Function N P))) → hints_from n os ≡ map shown (hinted_from n os)
  are_shown n [] = refl
  are_shown n (None ∷ os) = are_shown (suc n) os
  are_shown n (Some f ∷ os) =
      (λ i. shown_here n f f.body.hints i ++ are_shown (suc n) os i) ∙ sym (map-append shown (hinted n (Some f)) (hinted_from (suc n) os))

  are_at : (at : ℕ → Option abstract.Function) (n : ℕ) (os : List (Option (Function N P))) → ((k : ℕ) → at (n + k) ≡ option_flatten (slice_get (map (option_map function_of) os) k)) → All (IsAt at) (hinted_from n os)
  are_at at n [] h = All-nil (IsAt at)
  are_at at n (None ∷ os) h = are_at at (suc n) os (λ k. (let e : suc n + k ≡ n + suc k = omega arith in ap at e) ∙ h (suc k))
  are_at at n (Some f ∷ os) h =
      let here : at n ≡ Some (function_of f) = (let e : n ≡ n + 0 = omega arith in ap at e) ∙ h 0 in
      All-append (IsAt at) (hinted n (Some f)) (hinted_from (suc n) os)
      (if_all (IsAt at) (has_any f.body.hints) (with_hints n f.locals f.body) (function_of f, here, refl))
      (are_at at (suc n) os (λ k. (let e : suc n + k ≡ n + suc k = omega arith in ap at e) ∙ h (suc k)))

module _ (at : ℕ → Option abstract.Function) where
  placed_one : (h : Hinted) → IsAt at h → placed_hints at (shown h) ≡ placed h
  placed_one h a =
      let there : placed_in (at h.number) (map hint_shown h.hints) ≡ map (place_hint a.0.body) (map hint_shown h.hints) = ap (λ o. placed_in o (map hint_shown h.hints)) a.1 in
      let same : map (place_hint a.0.body) (map hint_shown h.hints) ≡ map (placed_at h.body) h.hints = map-map (place_hint a.0.body) hint_shown h.hints ∙ ap (λ b. map (placed_at b) h.hints) a.2 in
      (λ i. record { function_index = h.number; hints = (there ∙ same) i })

  placed_all : (hs : List Hinted) → All (IsAt at) hs → map (placed_hints at) (map shown hs) ≡ map placed hs
  placed_all [] a = refl
  placed_all (h ∷ hs) a = (λ i. placed_one h (All-head (IsAt at) h hs a) i ∷ placed_all hs (All-tail (IsAt at) h hs a) i)

  fit_to : (hs : List Hinted) → All (IsAt at) hs → All HintedFits hs → All (FunctionFits at) (map shown hs)
  fit_to [] a f = All-nil (FunctionFits at)
  fit_to (h ∷ hs) a f =
      let here = All-head (IsAt at) h hs a in
      let fits = All-head HintedFits h hs f in
      All-cons (FunctionFits at) (shown h) (map shown hs)
      (record { number = fits.number; body = subst (IfThere (λ g. PlacesFit g.body)) (sym here.1) (subst PlacesFit (sym here.2) fits.body) })
      (fit_to hs (All-tail (IsAt at) h hs a) (All-tail HintedFits h hs f))

  fit_from : (hs : List Hinted) → All (IsAt at) hs → All (FunctionFits at) (map shown hs) → All HintedFits hs
  fit_from [] a f = All-nil HintedFits
  fit_from (h ∷ hs) a f =
      let here = All-head (IsAt at) h hs a in
      let fits = All-head (FunctionFits at) (shown h) (map shown hs) f in
      All-cons HintedFits h hs
      (record { number = fits.number; body = subst PlacesFit here.2 (subst (IfThere (λ g. PlacesFit g.body)) here.1 fits.body) })
      (fit_from hs (All-tail (IsAt at) h hs a) (All-tail (FunctionFits at) (shown h) (map shown hs) f))

-- a list by what its items are
listed_map : {A B : Type 0} (spell : B → List ℕ) (f : A → B) (xs : List A) → listed spell (map f xs) ≡ listed (λ x. spell (f x)) xs
listed_map spell f xs = (λ i. record { count = length-map xs f i; bytes = flat_map-map spell f xs i })

-- the bytes of a list are no more than its section has
bytes_fit : (hs : List Hinted) (list : Listed) → list ≡ listed hinted_bytes hs → PiecesFit (map Known (if_there (has_any hs) (record { kind = Hints; contents = custom_body (hints_section list) }))) → length (flat_map hinted_bytes hs) < 2 ^ 32
bytes_fit [] list e f = omega arith
bytes_fit (h ∷ hs) list e f =
    let bytes = ap (λ l. length l.bytes) e in
    let fits : length (custom_body (hints_section list)) < 2 ^ 32 = f.0 in
    omega (arith, length-append (sized (codes "metadata.code.branch_hint")) (list_bytes list), length-append (uleb list.count) list.bytes)

module _ {N P : Type 0} (fs : List (Field N P)) where
  abbrev pub all_hinted : List Hinted
  all_hinted = hinted_from 0 (flat_map bodies_in fs)

  all_at : All (IsAt (function_in fs)) all_hinted
  all_at = are_at (function_in fs) 0 (flat_map bodies_in fs) (λ k. let e : 0 + k ≡ k = omega arith in ap (function_in fs) e)

  all_shown : hints_in fs ≡ map shown all_hinted
  all_shown = are_shown 0 (flat_map bodies_in fs)

  any_is : has_any (hints_in fs) ≡ has_any all_hinted
  any_is = ap has_any all_shown ∙ any_of_map shown all_hinted

  list_is : hint_list fs ≡ listed hinted_bytes all_hinted
  list_is =
      ap (λ gs. listed function_hints_bytes (map (placed_hints (function_in fs)) gs)) all_shown
      ∙ ap (listed function_hints_bytes) (placed_all (function_in fs) all_hinted all_at)
      ∙ listed_map function_hints_bytes placed all_hinted

  functions_fit : All HintedFits all_hinted → All (FunctionFits (function_in fs)) (hints_in fs)
  functions_fit f = subst (All (FunctionFits (function_in fs))) (sym all_shown) (fit_to (function_in fs) all_hinted all_at f)

  pub hinted_fit : HintsFit fs → All HintedFits all_hinted
  hinted_fit f = fit_from (function_in fs) all_hinted all_at (subst (All (FunctionFits (function_in fs))) all_shown f.functions)

  pub bytes_of_fit : HintsFit fs → length (flat_map hinted_bytes all_hinted) < 2 ^ 32
  bytes_of_fit f = bytes_fit all_hinted (hint_list fs) list_is (subst (λ b. PiecesFit (map Known (if_there b (hint_section fs)))) any_is f.section)

  -- the section is absent where no function has hints
  pub absent : has_any all_hinted ≡ false → All HintedFits all_hinted → (b : List ℕ) → Encodes (flat_map piece_bytes (hint_pieces fs)) (HintsFit fs) b b (Ok tt)
  absent none f b =
      let pieces : hint_pieces fs ≡ [] = ap (λ t. map Known (if_there t (hint_section fs))) (any_is ∙ none) in
      record {
        spelled = sym (ap (λ ps. b ++ flat_map piece_bytes ps) pieces ∙ append-nil b);
        fit = record { functions = functions_fit f; section = subst PiecesFit (sym pieces) tt };
        unchanged = tt;
        too_large = λ e g. cc;
      }

  -- else it is that of the list
  pub present : {list : Listed} {b a : List ℕ} {r : Result (Unit {0}) EncodeError} → has_any all_hinted ≡ true → All HintedFits all_hinted → list ≡ listed hinted_bytes all_hinted
      → Encodes (numbered 0 (custom_bytes (hints_section list))) (CustomFits (hints_section list)) b a r → Encodes (flat_map piece_bytes (hint_pieces fs)) (HintsFit fs) b a r
  present {list = list} some f e h =
      let pieces : hint_pieces fs ≡ Known (hint_section fs) ∷ [] = ap (λ t. map Known (if_there t (hint_section fs))) (any_is ∙ some) in
      let same : list ≡ hint_list fs = e ∙ sym list_is in
      encodes_as
      (ap (λ l. numbered 0 (custom_bytes (hints_section l))) same ∙ sym (append-nil (piece_bytes (Known (hint_section fs)))) ∙ ap (flat_map piece_bytes) (sym pieces))
      (λ g. record { functions = functions_fit f; section = subst PiecesFit (sym pieces) (subst (λ l. CustomFits (hints_section l)) same g, tt) })
      (λ g. subst (λ l. CustomFits (hints_section l)) (sym same) (subst PiecesFit pieces g.section).0)
      h
