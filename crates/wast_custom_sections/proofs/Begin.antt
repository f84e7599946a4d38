-- Where the instructions of bodies begin, in bytes.
use Rattle.std.proofs.Common.{ℕ, ◌≡◌, ◌+◌, ◌-◌, ◌<◌, ◌≤◌, ◌^◌, min, List, [], ◌∷◌, ◌++◌, length, map, take, drop, get_or, ap, sym, ◌∙◌, arith, add-one, append_assoc, take-append-drop, flat_map, length-append}
use Rattle.std.specs.List.{range_with_len}
use Rattle.std.proofs.lemmas.List.{take_more, take_all, take-map, length-map, flat_map_more, take_min}
use Rattle.std.proofs.lemmas.List.Folds.{flat_map-map}
use Rattle.std.proofs.lemmas.List.FromFn.{map-range_with_len_more, get_or-map-range_with_len, length-map-range_with_len}
use Rattle.wasm_encoder_base.specs.Types.{ValType}
use Rattle.wasm_encoder_base.specs.Instr.{instr_bytes}
use Rattle.wasm_encoder_code.specs.Body.{Body, place_of, locals_bytes}
use Rattle.wast_expressions.specs.Items.{Hint}
use Rattle.wast_core_instr.specs.InstructionViews.{instruction_tree}
use Rattle.wast_core_instr.specs.declared.instruction.Instruction as tree
use Rattle.wast_conversions.specs.Instructions.{instr_meant, instrs_meant}
use Rattle.wast_conversions.specs.Rows.{bytes_meant}
use Rattle.wast_custom_sections.specs.Hinted.{places_of, placed_at, among}
use Rattle.wast_custom_sections.proofs.Sizes.{cons_size, append_size}

-- ONE MORE ITEM of a list that is appended item by item
module _ {A : Type 0} (spell : A → List ℕ) (xs : List A) (i : ℕ) (x : A) (l : i < length xs) (e : x ≡ get_or xs i x) where
  pub bytes_then : (start : List ℕ) {before after : List ℕ} → before ≡ start ++ flat_map spell (take i xs) → after ≡ before ++ spell x → after ≡ start ++ flat_map spell (take (i + 1) xs)
  bytes_then start p q =
      q
      ∙ ap (λ v. v ++ spell x) p
      ∙ flat_map_more spell start (take i xs) x
      ∙ ap (λ ys. start ++ flat_map spell ys) (ap (λ y. take i xs ++ y ∷ []) e ∙ sym (take_more xs i x l))

  -- no more bytes than all
  pub item_size : length (flat_map spell (take i xs)) + length (spell x) ≤ length (flat_map spell xs)
  item_size =
      let y = get_or xs i x in
      let more = ap (λ ys. length (flat_map spell ys)) (take_more xs i x l) in
      let whole = ap (λ ys. length (flat_map spell ys)) (take-append-drop (i + 1) xs) in
      let same = ap (λ z. length (spell z)) e in
      omega (arith, append_size spell (take (i + 1) xs) (drop (i + 1) xs), append_size spell (take i xs) (y ∷ []), cons_size spell y [])

-- as many bytes as stand before
pub length_then : (start more : List ℕ) {after : List ℕ} → after ≡ start ++ more → length after ≡ length start + length more
length_then start more e = ap length e ∙ length-append start more

-- one more end
pub ends_then : (end : ℕ → ℕ) (i n : ℕ) (start : List ℕ) {before after : List ℕ} → before ≡ start ++ map end (range_with_len 1 i) → n ≡ end (i + 1) → after ≡ before ++ n ∷ [] → after ≡ start ++ map end (range_with_len 1 (i + 1))
ends_then end i n start p e q =
    q
    ∙ ap (λ v. v ++ n ∷ []) p
    ∙ append_assoc start (map end (range_with_len 1 i)) (n ∷ [])
    ∙ ap (λ v. start ++ v) (ap (λ k. map end (range_with_len 1 i) ++ k ∷ []) e ∙ sym (map-range_with_len_more end 1 i (i + 1) (omega arith)))

-- PLACES of a body's instructions, by what stands before them
from_zero : (f : ℕ → ℕ) (n : ℕ) → map f (range_with_len 0 (n + 1)) ≡ f 0 ∷ map f (range_with_len 1 n)
from_zero f n = ap (λ k. map f (range_with_len 0 k)) (add-one n)

bytes_of : (is : List tree.Instruction) → flat_map instr_bytes (instrs_meant (map instruction_tree is)) ≡ flat_map bytes_meant is
unfolding bytes_meant
bytes_of is = flat_map-map instr_bytes instr_meant (map instruction_tree is) ∙ flat_map-map (λ i. instr_bytes (instr_meant i)) instruction_tree is

module _ (ts : List ValType) (is : List tree.Instruction) where
  abbrev pub body_of : Body
  body_of = record { locals = ts; instructions = instrs_meant (map instruction_tree is) }

  place_is : (k : ℕ) → place_of body_of k ≡ length (locals_bytes ts) + length (flat_map bytes_meant (take k is))
  place_is k =
      let front : take k (instrs_meant (map instruction_tree is)) ≡ instrs_meant (map instruction_tree (take k is)) = take-map instr_meant k (map instruction_tree is) ∙ ap instrs_meant (take-map instruction_tree k is) in
      ap (λ v. length (locals_bytes ts) + length (flat_map instr_bytes v)) front ∙ ap (λ v. length (locals_bytes ts) + length v) (bytes_of (take k is))

  count : length (instrs_meant (map instruction_tree is)) ≡ length is
  count = length-map (map instruction_tree is) instr_meant ∙ length-map is instruction_tree

  pub places_are : {start us : List ℕ} → start ≡ locals_bytes ts → us ≡ length start ∷ map (λ k. length start + length (flat_map bytes_meant (take k is))) (range_with_len 1 (length is)) → us ≡ places_of body_of
  places_are {start = start} {us = us} e p =
      let f : ℕ → ℕ = λ k. length start + length (flat_map bytes_meant (take k is)) in
      let first : length start ≡ f 0 = omega arith in
      p
      ∙ ap (λ n. n ∷ map f (range_with_len 1 (length is))) first
      ∙ sym (from_zero f (length is))
      ∙ ap (λ v. map (λ k. length v + length (flat_map bytes_meant (take k is))) (range_with_len 0 (length is + 1))) e
      ∙ (λ j. map (λ k. sym (place_is k) j) (range_with_len 0 (sym count j + 1)))

  -- that of the end is behind all of them
  pub end_is : place_of body_of (length body_of.instructions) ≡ length (locals_bytes ts) + length (flat_map bytes_meant is)
  end_is = place_is (length body_of.instructions) ∙ ap (λ ys. length (locals_bytes ts) + length (flat_map bytes_meant ys)) (take_all (length body_of.instructions) is (omega (arith, count)))

  -- what a body is made of: js, the instructions behind start
  module _ {start : List ℕ} {js : List tree.Instruction} (e : start ≡ locals_bytes ts) (same : js ≡ is) where
    pub all_places : {us vs : List ℕ} → us ≡ length start ∷ [] → vs ≡ us ++ map (λ k. length start + length (flat_map bytes_meant (take k js))) (range_with_len 1 (length js)) → vs ≡ places_of body_of
    all_places p q =
        let ends : List tree.Instruction → List ℕ = λ ks. map (λ k. length start + length (flat_map bytes_meant (take k ks))) (range_with_len 1 (length ks)) in
        places_are e (q ∙ ap (λ u. u ++ ends js) p ∙ ap (λ ks. length start ∷ ends ks) same)

    size : place_of body_of (length body_of.instructions) ≡ length start + length (flat_map bytes_meant js)
    size = end_is ∙ ap (λ v. length v + length (flat_map bytes_meant is)) (sym e) ∙ ap (λ ks. length start + length (flat_map bytes_meant ks)) (sym same)

    pub end_fits : length start + length (flat_map bytes_meant js) < 2 ^ 32 → place_of body_of (length body_of.instructions) < 2 ^ 32
    end_fits l = omega (arith, size)

    pub end_room : place_of body_of (length body_of.instructions) < 2 ^ 32 → length start + length (flat_map bytes_meant js) < 2 ^ 32
    end_room l = omega (arith, size)

-- A HINT by the places of all instructions is at the place of its own.
pub places_count : (b : Body) → length (places_of b) ≡ length b.instructions + 1
places_count b = length-map-range_with_len (place_of b) 0 (length b.instructions + 1)

one_among : (b : Body) (h : Hint) → among (places_of b) h ≡ placed_at b h
one_among b h =
    let n = length b.instructions in
    let m = min h.index (length (places_of b) - 1) in
    let last : m ≡ min h.index n = omega (arith, places_count b) in
    let less : m < n + 1 = omega arith in
    let place : get_or (places_of b) m 0 ≡ place_of b h.index =
    get_or-map-range_with_len (place_of b) 0 (n + 1) m m 0 less (omega arith)
    ∙ ap (place_of b) last
    ∙ ap (λ is. length (locals_bytes b.locals) + length (flat_map instr_bytes is)) (take_min h.index b.instructions) in
    (λ i. record { branch_func_offset = place i; branch_hint_value = h.value })

pub all_among : (b : Body) (hs : List Hint) → map (among (places_of b)) hs ≡ map (placed_at b) hs
all_among b hs = (λ i. map (λ h. one_among b h i) hs)
