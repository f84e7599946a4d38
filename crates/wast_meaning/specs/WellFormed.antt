-- What trees must keep to beside names (WebAssembly 3.0, 3.4.13, 6.5 and 6.6, modules, and the proposal on branch hints): the places of
-- the fields that don't. Names that are made up must be bound, since no complaint can tell them.
use Rattle.std.specs.Prelude.{ℕ, zero, suc, ◌+◌, ◌^◌, Bool, true, false, ◌&&◌, ◌||◌, not, nat_eq, nat_lt, if◌then◌else◌, unwrap_or, List, [], ◌∷◌, length, map, slice_get, Option}
use Rattle.std.specs.List.{list_any, list_all}
use Rattle.wasm_encoder_base.specs.Balanced.{Turn, Opens, Closes, Stays}
use Rattle.wast_names.specs.Walk.{walked}
use Rattle.wast_names.specs.Demand.{Complaint, Unknown, Demand}
use Rattle.wast_expressions.specs.Items.{Hint}
use Rattle.wast_field_syntax.specs.InstructionTree.{Operands, Memory, MemoryLane, Instruction}
use Rattle.wast_field_syntax.specs.FieldTree.{Expr, Defined, MemoryOf, Field, Define, is_start, field_place}
use Rattle.wast_meaning.specs.Mentions.{Part, Says, Constant, Body, parts}
use Rattle.wast_meaning.specs.Scope.{Scope, turn_of_head, scope_of}
use Rattle.wast_meaning.specs.Demands.{field_demands}

-- the powers of two below 65536
abbrev pub powers : List ℕ
powers = map (λ k. 2 ^ k) (0 ∷ 1 ∷ 2 ∷ 3 ∷ 4 ∷ 5 ∷ 6 ∷ 7 ∷ 8 ∷ 9 ∷ 10 ∷ 11 ∷ 12 ∷ 13 ∷ 14 ∷ 15 ∷ [])

abbrev pub is_power : ℕ → Bool
is_power n = list_any (nat_eq n) powers

-- each is below the one behind it
abbrev pub is_rising : List ℕ → Bool
is_rising [] = true
is_rising (n ∷ []) = true
is_rising (n ∷ m ∷ ns) = nat_lt n m && is_rising (m ∷ ns)

-- hints rise, each stands on one of so many instructions, and their values are below 128
abbrev pub are_hints : ℕ → List Hint → Bool
are_hints len hs = is_rising (map (λ h. h.index) hs) && list_all (λ h. nat_lt h.index len && nat_lt h.value 128) hs

abbrev pub closed_then : (ℕ → Bool) → ℕ → Bool
closed_then rest zero = false
closed_then rest (suc open_blocks) = rest open_blocks

abbrev pub turned_then : Turn → (ℕ → Bool) → ℕ → Bool
turned_then Opens rest open_blocks = rest (open_blocks + 1)
turned_then Closes rest open_blocks = closed_then rest open_blocks
turned_then Stays rest open_blocks = rest open_blocks

module _ {N P : Type 0} where
  -- alignments, in bytes
  abbrev pub is_aligned : Operands N P → Bool
  is_aligned (Memory m) = is_power m.align
  is_aligned (MemoryLane m n) = is_power m.align
  is_aligned _ = true

  -- with so many blocks open before them, instructions close these and each that they open, and no other
  abbrev pub is_balanced : List (Instruction N P) → ℕ → Bool
  is_balanced [] open_blocks = nat_eq open_blocks 0
  is_balanced (i ∷ is) open_blocks = turned_then (turn_of_head i.head) (is_balanced is) open_blocks

  abbrev pub is_formed : Expr N P → Bool
  is_formed e = list_all (λ i. is_aligned i.operands) e.instrs && are_hints (length e.instrs) e.hints

  abbrev pub part_formed : Part N P → Bool
  part_formed (Says m) = true
  part_formed (Constant e) = is_formed e && is_balanced e.instrs 0
  part_formed (Body f) = is_formed f.body

  -- the size of pages of a memory whose segment stands inline
  abbrev pub page_formed : Defined N P → Bool
  page_formed (MemoryOf wide page vs) = nat_lt (unwrap_or page 16) 64
  page_formed _ = true

  abbrev pub pages_formed : Field N P → Bool
  pages_formed (Define d) = page_formed d.defined
  pages_formed _ = true

-- a name that is made up is bound
abbrev pub is_bound : {N : Type 0} → (N → Bool) → Complaint N → Bool → Bool
is_bound is_made (Unknown kind n) holds = not (is_made n) || holds
is_bound is_made _ holds = true

module _ {N P : Type 0} (eq : N → N → Bool) (is_made : N → Bool) where
  abbrev pub are_bound : List (Demand N P) → Bool
  are_bound ds = list_all (λ d. is_bound is_made d.complaint d.holds) ds

  -- a field, where it stands behind a start or not
  abbrev pub field_formed : Scope N P → Bool → Field N P → Bool
  field_formed s started f = list_all part_formed (parts f) && pages_formed f && not (started && is_start f) && are_bound (field_demands eq s f)

  abbrev pub breach : Scope N P → Bool → Field N P → List P
  breach s started f = if field_formed s started f then [] else field_place f ∷ []

  -- the places of the fields with a breach, in order
  abbrev pub breaches : List (Field N P) → List P
  breaches fs = walked (breach (scope_of eq fs)) (λ started f. started || is_start f) false fs

-- the place of the first breach
abbrev pub first_breach : {N P : Type 0} → (N → N → Bool) → (N → Bool) → List (Field N P) → Option P
first_breach eq is_made fs = slice_get (breaches eq is_made fs) 0
