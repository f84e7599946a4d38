-- A hint stands with the place of its instruction.
use Rattle.std.proofs.Common.{ℕ, zero, suc, ◌≡◌, ◌<◌, ◌+◌, List, [], ◌∷◌, ◌++◌, map, length, take, drop, slice_get, Some, refl, sym, ap, ◌∙◌, subst, append_assoc, flat_map, length-append}
use Rattle.std.proofs.lemmas.Option.{same_Some}
use Rattle.std.proofs.lemmas.List.{map-append}
use Rattle.std.proofs.Math.Seq.{drop-append-add}
use Rattle.std.specs.List.{AllByRecursion}
use Rattle.wasm_encoder_base.specs.Bytes.{sized}
use Rattle.wasm_encoder_base.specs.Instr.{instr_bytes, expr_bytes}
use Rattle.wasm_encoder_base.specs.Leb.{uleb}
use Rattle.wasm_encoder_base.specs.Lists.{listed}
use Rattle.wasm_encoder_base.proofs.LebSteps.{uleb-last}
use Rattle.wasm_encoder_code.proofs.Places.{past_items}
use Rattle.wasm_encoder_code.specs.Body.{Body, locals_bytes, body_bytes, place_of}
use Rattle.wasm_encoder_custom.specs.Custom.{custom_body}
use Rattle.wasm_encoder_custom.specs.BranchHints as binary
use Rattle.wasm_encoder_custom.specs.BranchHints.{function_hints_bytes, hints_section}
use Rattle.wasm_encoder_custom.specs.declared.branch_hints.BranchHint.{BranchHint}
use Rattle.wasm_layout.specs.Section.{Hints, Codes}
use Rattle.wasm_layout.specs.AbstractModule.{AbstractModule, Hint, FunctionHints}
use Rattle.wasm_layout.specs.Present.{has_any}
use Rattle.wasm_layout.specs.Layout.{Known, section, piece_bytes, contents_of, function_at, placed, placed_hints}
use Rattle.wasm_layout.specs.IsModule.{IsHint, AreHints}
use Rattle.wasm_layout.specs.Laws.{HintStands, bodies_bytes}
use Rattle.wasm_layout.specs.Lays.{Lays}
use Rattle.wasm_layout.proofs.HintPlaces as layouts
use Rattle.wasm_layout.proofs.HintPlaces.{before_hints, behind_codes}
use Rattle.wat_laws.specs.HintPlaces.{HasHint, SectionStands, ListsHint, BodyStarts, HintPlaces, HintPlaced}
use Rattle.wat_laws.proofs.SectionPlaces.{behind_hints, before_codes, any_around, section_stands}

-- LISTS: an item behind others
item_behind : {A : Type 0} (xs : List A) (x : A) (ys : List A) → slice_get (xs ++ (x ∷ ys)) (length xs) ≡ Some x
item_behind [] x ys = refl
item_behind (z ∷ xs) x ys = item_behind xs x ys

of_item_behind : {A : Type 0} (P : A → Type 0) (xs : List A) (x : A) (ys : List A) → AllByRecursion P (xs ++ (x ∷ ys)) → P x
of_item_behind P [] x ys h = h.0
of_item_behind P (z ∷ xs) x ys h = of_item_behind P xs x ys h.1

from_item : {A : Type 0} (xs : List A) (k : ℕ) (x : A) → slice_get xs k ≡ Some x → (rest : List A) × (drop k xs ≡ x ∷ rest)
from_item [] k x e = absurd (cc)
from_item (y ∷ ys) zero x e = (ys, ap (λ z. z ∷ ys) (same_Some y x e))
from_item (y ∷ ys) (suc k) x e = from_item ys k x e

-- BYTES: the instructions of a body from one on, and the end, with what stands behind it
at_place : (body : Body) (k : ℕ) (after : List ℕ) → drop (place_of body k) (body_bytes body ++ after) ≡ flat_map instr_bytes (drop k body.instructions) ++ (0x0B ∷ after)
at_place body k after =
    ap (drop (place_of body k)) (append_assoc (locals_bytes body.locals) (expr_bytes body.instructions) after)
    ∙ drop-append-add (locals_bytes body.locals) (expr_bytes body.instructions ++ after) (length (flat_map instr_bytes (take k body.instructions)))
    ∙ ap (drop (length (flat_map instr_bytes (take k body.instructions)))) (append_assoc (flat_map instr_bytes body.instructions) (0x0B ∷ []) after)
    ∙ past_items instr_bytes body.instructions k (0x0B ∷ after)

lead_is : (l n e s y z : List ℕ) (c : ℕ) → (c ∷ (l ++ (n ++ (e ++ s)))) ++ (y ++ z) ≡ c ∷ (l ++ (n ++ (e ++ ((s ++ y) ++ z))))
lead_is l n e s y z c = simp append_assoc

regrouped : (f l y z t : List ℕ) → f ++ ((l ++ (y ++ z)) ++ t) ≡ (f ++ l) ++ (y ++ (z ++ t))
regrouped f l y z t = simp append_assoc

module _ (b : List ℕ) (m : AbstractModule (List ℕ)) (f k v : ℕ) (x : Lays b m) (h : HasHint m f k v) where
  abbrev this : Hint
  this = record { index = k; value = v }

  abbrev these : FunctionHints
  these = record { function = f; hints = h.front ++ (this ∷ h.back) }

  stands : HintStands b m these this
  stands = layouts.hint_places b m (length h.before) (length h.front) these this x (ap (λ hs. slice_get hs (length h.before)) h.is ∙ item_behind h.before these h.after) (item_behind h.front this h.back)

  are : AreHints m these
  are = of_item_behind (AreHints m) h.before these h.after (subst (AllByRecursion (AreHints m)) h.is x.is_module.hints)

  small : v < 128
  small = (of_item_behind (IsHint are.function) h.front this h.back are.each).value

  abbrev body : Body
  body = stands.function.body

  -- THE SECTION OF HINTS
  hints_stand : SectionStands b m Hints
  hints_stand = section_stands b m before_hints Hints behind_hints refl (ap has_any h.is ∙ any_around h.before these h.after) x.bytes

  abbrev entry : List BranchHint → binary.FunctionHints
  entry hints = record { function_index = f; hints = hints }

  -- what it lists
  abbrev of_all : FunctionHints → binary.FunctionHints
  of_all g = placed_hints (function_at m) g

  listing : map of_all m.hints ≡ map of_all h.before ++ (entry (map (placed body) h.front ++ (placed body this ∷ map (placed body) h.back)) ∷ map of_all h.after)
  listing =
      ap (map of_all) h.is
      ∙ map-append of_all h.before (these ∷ h.after)
      ∙ ap (λ z. map of_all h.before ++ (z ∷ map of_all h.after)) (stands.lists ∙ ap entry (map-append (placed body) h.front (this ∷ h.back)))

  abbrev hints_piece : List binary.FunctionHints → List ℕ
  hints_piece all = 0x00 ∷ sized (custom_body (hints_section (listed function_hints_bytes all)))

  lists : ListsHint b m f (place_of body k) v
  lists = record {
    stands = hints_stand;
    others = map of_all h.before;
    more = map of_all h.after;
    earlier = map (placed body) h.front;
    later = map (placed body) h.back;
    is_section = ap hints_piece (sym listing);
    in_bytes = append_assoc (uleb (place_of body k)) (0x01 ∷ []) (uleb v) ∙ ap (λ z. uleb (place_of body k) ++ (0x01 ∷ z)) (uleb-last v small);
  }

  -- THE SECTION OF CODES
  codes_stand : SectionStands b m Codes
  codes_stand = section_stands b m before_codes Codes behind_codes refl (ap has_any stands.functions ∙ any_around stands.earlier stands.function stands.later) x.bytes

  abbrev lead : List ℕ
  lead = 0x0A ∷ (uleb (length (contents_of m Codes)) ++ (uleb (length m.functions) ++ (bodies_bytes stands.earlier ++ uleb (length (body_bytes body)))))

  codes_are : lead ++ (body_bytes body ++ bodies_bytes stands.later) ≡ piece_bytes (Known (section m Codes))
  codes_are =
      lead_is (uleb (length (contents_of m Codes))) (uleb (length m.functions)) (bodies_bytes stands.earlier) (uleb (length (body_bytes body))) (body_bytes body) (bodies_bytes stands.later) 0x0A
      ∙ ap (λ z. 0x0A ∷ (uleb (length (contents_of m Codes)) ++ z)) (sym stands.bodies)

  abbrev front : List ℕ
  front = codes_stand.front

  abbrev behind : List ℕ
  behind = bodies_bytes stands.later ++ flat_map piece_bytes codes_stand.after

  body_starts : b ≡ (front ++ lead) ++ (body_bytes body ++ behind)
  body_starts =
      codes_stand.bytes
      ∙ ap (λ z. front ++ (z ++ flat_map piece_bytes codes_stand.after)) (sym codes_are)
      ∙ regrouped front lead (body_bytes body) (bodies_bytes stands.later) (flat_map piece_bytes codes_stand.after)

  starts : BodyStarts b m f stands.function (length front + length lead)
  starts = record {
    earlier = stands.earlier;
    later = stands.later;
    functions = stands.functions;
    is_numbered = stands.is_numbered;
    lead = lead;
    is_lead = refl;
    is_section = codes_are;
    stands = codes_stand;
    is_start = refl;
  }

  placed_hint : HintPlaced b m f k v
  placed_hint =
      let from = from_item body.instructions k stands.instruction stands.is_instruction in
      record {
        function = stands.function;
        instruction = stands.instruction;
        is_instruction = stands.is_instruction;
        lists = lists;
        start = length front + length lead;
        starts = starts;
        rest = flat_map instr_bytes from.0 ++ (0x0B ∷ behind);
        begins = ap (λ n. drop (n + place_of body k) b) (sym (length-append front lead))
            ∙ ap (drop (length (front ++ lead) + place_of body k)) body_starts
            ∙ drop-append-add (front ++ lead) (body_bytes body ++ behind) (place_of body k)
            ∙ at_place body k behind
            ∙ ap (λ is. flat_map instr_bytes is ++ (0x0B ∷ behind)) from.1
            ∙ append_assoc (instr_bytes stands.instruction) (flat_map instr_bytes from.0) (0x0B ∷ behind);
      }

pub hint_places : HintPlaces
hint_places b m f k v x h = placed_hint b m f k v x h
