-- The syntax of operands in which no type stands (WebAssembly 3.0, 6.5).
use Rattle.std.specs.Prelude.{ℕ, ◌-◌, ◌^◌, ◌==◌, ◌&&◌, nat_lt, Bool, true, false, if◌then◌else◌, List, [], ◌∷◌, map, Option, Some, None, is_none, unwrap_or, codes}
use Rattle.std.specs.Int.{is_power_of_two}
use Rattle.wast_vector_operands.specs.Numbers.{is_base}
use Rattle.wast_vector_operands.specs.Tokens.{number, base_of}
use Rattle.wast_vector_operands.specs.Spelling.{◌>>=◌, after}
use Rattle.wast_vector_operands.specs.Look.{Test, On, OneOf, Begun, AWord, this_group, join, faults, id_starts, index_starts, integer_starts, type_starts}
use Rattle.wast_vector_operands.specs.Grammar.{Syntax, among, begun, word, nothing, next, seq, respelled, seen, only, maybe, many, either, group}
use Rattle.wast_vector_operands.specs.Integers.{number_in, unsigned, u32}
use Rattle.wast_vector_operands.specs.Identifiers.{Reference, ByNumber, ByName, identifier, index, item_ref}
use Rattle.wast_vector_operands.specs.VectorSyntax.{lane}
use Rattle.wast_operands.specs.OperandTree.{Ordering, AcqRel, SeqCst, MemArgTarget, Memory, Array, Modifiers, MemArg, Handle, OnLabel, OnSwitch}

-- NUMBERS IN WORDS, as in `offset=8`
-- whether a text is digits of a base, with single `_` between them (6.3.1)
abbrev pub are_digits : Bool → List ℕ → Bool
are_digits hex [] = false
are_digits hex (c ∷ []) = is_base hex c
are_digits hex (c ∷ d ∷ text) = is_base hex c && (if d == 95 then are_digits hex text else are_digits hex (d ∷ text))

-- the number that digits of a base say, where they are so and it has 64 bits
abbrev pub digits_number : Bool → List ℕ → Option ℕ
digits_number hex text = if are_digits hex text && nat_lt (number (base_of hex) text) (2 ^ 64) then Some (number (base_of hex) text) else None

-- the number that the text of a u64 says: decimal digits, or hexadecimal ones behind `0x` (6.3.1)
abbrev pub u64_number : List ℕ → Option ℕ
u64_number text = elim (after (codes "0x") text) [ Some digits ↦ digits_number true digits | None ↦ digits_number false text ]

-- the same of an alignment, which is a power of two (6.5, memory instructions)
abbrev pub alignment : List ℕ → Option ℕ
alignment text = u64_number text >>= λ n. if is_power_of_two n then Some n else None

-- WORDS
abbrev pub ordering_word : Ordering → List ℕ
ordering_word AcqRel = codes "acq_rel"
ordering_word SeqCst = codes "seq_cst"

abbrev pub orderings : List Ordering
orderings = AcqRel ∷ SeqCst ∷ []

-- WHAT THEY BEGIN WITH
abbrev pub ordering_starts : List Test
ordering_starts = On false AWord (OneOf (map ordering_word orderings) []) ∷ []

abbrev pub offset_starts : List Test
offset_starts = On false AWord (Begun (codes "offset=")) ∷ []

abbrev pub align_starts : List Test
align_starts = On false AWord (Begun (codes "align=")) ∷ []

abbrev pub modifier_starts : List Test
modifier_starts = join ordering_starts (join offset_starts align_starts)

abbrev pub handle_starts : List Test
handle_starts = this_group (codes "on") ∷ []

-- the modifiers that stand in front of a lane, and the lane
abbrev pub lane_starts : List Test
lane_starts = join modifier_starts integer_starts

-- WHAT PARTS STAND FOR
-- the labels of br_table: all but the last, and the last
abbrev pub but_last : {A : Type 0} → A → List A → List A × A
but_last a [] = ([], a)
but_last a (b ∷ more) = (a ∷ (but_last b more).0, (but_last b more).1)

-- one index or two, of which the last must be there
abbrev pub first_if_two : {A : Type 0} → A × Option A → Option A × A
first_if_two (a, None) = (None, a)
first_if_two (a, Some b) = (Some a, b)

-- no modifiers
abbrev pub bare : Modifiers
bare = record { ordering = None; offset = None; align = None }

abbrev pub is_bare : Modifiers → Bool
is_bare m = is_none m.ordering && (is_none m.offset && is_none m.align)

abbrev pub as_modifiers : Option (Ordering × Option Ordering) × (Option ℕ × Option ℕ) → Modifiers
as_modifiers m = record { ordering = m.0; offset = m.1.0; align = m.1.1 }

module _ {N P : Type 0} where
  -- INDICES
  -- index index
  abbrev pub two_indices : Syntax N P (Reference N P × Reference N P)
  two_indices = seq index index

  -- index u32
  abbrev pub index_count : Syntax N P (Reference N P × ℕ)
  index_count = seq index u32

  -- index index*, the last of which is the default of br_table
  abbrev pub label_table : Syntax N P (List (Reference N P) × Reference N P)
  label_table = seen (λ x. but_last x.0 x.1) (seq index (many index_starts index))

  -- index?
  abbrev pub optional_index : Syntax N P (Option (Reference N P))
  optional_index = maybe index_starts index

  -- (index index)?
  abbrev pub optional_indices : Syntax N P (Option (Reference N P × Reference N P))
  optional_indices = maybe index_starts two_indices

  -- index? index
  abbrev pub one_or_two : Syntax N P (Option (Reference N P) × Reference N P)
  one_or_two = seen first_if_two (seq index optional_index)

  -- ORDERINGS
  abbrev pub ordering : Syntax N P Ordering
  ordering = seen (λ x. x.0) (among ordering_word orderings [])

  abbrev pub optional_ordering : Syntax N P (Option Ordering)
  optional_ordering = maybe ordering_starts ordering

  -- ordering? and what follows it; where none is written it is seq_cst
  abbrev pub ordered : {A : Type 0} → Syntax N P A → Syntax N P (Ordering × A)
  ordered g = seen (λ x. (unwrap_or x.0 SeqCst, x.1)) (seq optional_ordering g)

  -- MEMORY ARGUMENTS (6.5, memory instructions): index? offset=u64? align=u64?; beside that (type index) for the index, and orderings
  -- behind it
  abbrev pub array_target : Syntax N P (MemArgTarget N P)
  array_target = seen (λ x. Array x.1) (item_ref (codes "type"))

  abbrev pub target : Syntax N P (Option (MemArgTarget N P))
  target = either index_starts (seen (λ i. Some (Memory i)) index) (maybe type_starts array_target)

  abbrev pub one_or_two_orderings : Syntax N P (Option (Ordering × Option Ordering))
  one_or_two_orderings = maybe ordering_starts (seq ordering optional_ordering)

  abbrev pub offset : Syntax N P (Option ℕ)
  offset = maybe offset_starts (seen (λ x. x.0) (begun (codes "offset=") u64_number))

  abbrev pub align : Syntax N P (Option ℕ)
  align = maybe align_starts (seen (λ x. x.0) (begun (codes "align=") alignment))

  abbrev pub modifiers : Syntax N P Modifiers
  modifiers = seen as_modifiers (seq one_or_two_orderings (seq offset align))

  -- the offset is 0 and the alignment the natural one where they aren't written
  abbrev pub as_mem_arg : (natural : ℕ) → Option (MemArgTarget N P) → Modifiers → MemArg N P
  as_mem_arg natural t m = record { target = t; ordering = m.ordering; offset = unwrap_or m.offset 0; align = unwrap_or m.align natural }

  abbrev pub mem_arg : (natural : ℕ) → Syntax N P (MemArg N P)
  mem_arg natural = seen (λ x. as_mem_arg natural x.0 x.1) (seq target modifiers)

  -- A MEMORY ARGUMENT AND A LANE, as a reader decides: of an integer in front the rest says whether it is the memory or the lane
  -- modifiers and a lane, behind the target where there is one
  abbrev pub modified_lane : (natural : ℕ) → Option (MemArgTarget N P) → Syntax N P (MemArg N P × ℕ)
  modified_lane natural t = seen (λ x. (as_mem_arg natural t x.0, x.1)) (seq modifiers lane)

  abbrev pub targeted_lane : (natural : ℕ) → Syntax N P (MemArgTarget N P) → Syntax N P (MemArg N P × ℕ)
  targeted_lane natural g = seen (λ x. (as_mem_arg natural (Some x.0) x.1.0, x.1.1)) (seq g (seq modifiers lane))

  -- behind an integer: modifiers and a lane, and it is the memory; or nothing, and it is the lane
  abbrev pub behind_integer : (natural : ℕ) → ℕ × P → Syntax N P (MemArg N P × ℕ)
  behind_integer natural n =
      either lane_starts (modified_lane natural (Some (Memory (ByNumber n.0 n.1)))) (only (λ x. nat_lt x.1 (2 ^ 8)) (seen (λ _. (as_mem_arg natural None bare, n.0)) nothing))

  abbrev pub integer_first : (natural : ℕ) → Syntax N P (MemArg N P × ℕ)
  integer_first natural = seen (λ x. x.1) (next (number_in (2 ^ 32 - 1) None unsigned) (behind_integer natural) lane_starts true (join (faults lane_starts) lane_starts))

  -- behind modifiers, which may be none
  abbrev pub behind_modifiers : (natural : ℕ) → Modifiers → (bare : Bool) → Syntax N P (MemArg N P × ℕ)
  behind_modifiers natural m true = integer_first natural
  behind_modifiers natural m false = seen (λ n. (as_mem_arg natural None m, n)) lane

  abbrev pub untargeted_lane : (natural : ℕ) → Syntax N P (MemArg N P × ℕ)
  untargeted_lane natural = seen (λ x. x.1) (next modifiers (λ m. behind_modifiers natural m (is_bare m)) integer_starts false (join (faults lane_starts) lane_starts))

  -- by an identifier, by (type index), or by an integer or nothing
  abbrev pub by_target : (natural : ℕ) → Syntax N P (MemArg N P × ℕ)
  by_target natural =
      either id_starts (targeted_lane natural (seen (λ i. Memory (ByName i)) identifier))
      (either type_starts (targeted_lane natural array_target) (untargeted_lane natural))

  -- a memory argument and a lane
  abbrev pub mem_arg_lane : (natural : ℕ) → Syntax N P (MemArg N P × ℕ)
  mem_arg_lane natural = respelled (seq (mem_arg natural) lane).spells (by_target natural)

  -- CONTINUATIONS
  -- (on index index), (on index switch)
  abbrev pub as_handle : Reference N P × Option (Reference N P) → Handle N P
  as_handle (tag, Some label) = OnLabel tag label
  as_handle (tag, None) = OnSwitch tag

  abbrev pub handled : Syntax N P (Option (Reference N P))
  handled = either index_starts (seen Some index) (seen (λ _. None) (word (codes "switch")))

  abbrev pub handle_body : Syntax N P (Handle N P)
  handle_body = seen as_handle (seq index handled)

  abbrev pub handle : Syntax N P (Handle N P)
  handle = group (codes "on") handle_body

  abbrev pub handlers : Syntax N P (List (Handle N P))
  handlers = many handle_starts handle

  -- index handle*
  abbrev pub resume : Syntax N P (Reference N P × List (Handle N P))
  resume = seq index handlers

  -- index index handle*
  abbrev pub resume_throw : Syntax N P (Reference N P × (Reference N P × List (Handle N P)))
  resume_throw = seq index resume
