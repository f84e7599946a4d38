-- The syntax of what stands in `(@dylink.0 ..)` (tool conventions, dynamic linking).
use Rattle.std.specs.Prelude.{ℕ, true, false, List, [], ◌∷◌, Option, map, codes, unwrap_or, bit_or}
use Rattle.wast_parser.specs.Look.{Test, On, OneOf, Any, AWord, AnInteger, this_group, join, faults, string_starts, integer_starts}
use Rattle.wast_parser.specs.Grammar.{Syntax, among, next, seq, seen, maybe, many, either, led, paren}
use Rattle.wast_parser.specs.Integers.{u32}
use Rattle.wast_parser.specs.Productions.{name}
use Rattle.wast_customs.specs.CustomTree.{Subsection, MemInfo, Needed, ExportInfo, ImportInfo, RuntimePath}

-- FLAGS of symbols
pub data SymbolFlag : Type 0 where
  BindingWeak : SymbolFlag
  BindingLocal : SymbolFlag
  VisibilityHidden : SymbolFlag
  Undefined : SymbolFlag
  Exported : SymbolFlag
  ExplicitName : SymbolFlag
  NoStrip : SymbolFlag

abbrev pub flag_word : SymbolFlag → List ℕ
flag_word BindingWeak = codes "binding-weak"
flag_word BindingLocal = codes "binding-local"
flag_word VisibilityHidden = codes "visibility-hidden"
flag_word Undefined = codes "undefined"
flag_word Exported = codes "exported"
flag_word ExplicitName = codes "explicit-name"
flag_word NoStrip = codes "no-strip"

abbrev pub symbol_flags : List SymbolFlag
symbol_flags = BindingWeak ∷ BindingLocal ∷ VisibilityHidden ∷ Undefined ∷ Exported ∷ ExplicitName ∷ NoStrip ∷ []

abbrev pub flag_bit : SymbolFlag → ℕ
flag_bit BindingWeak = 1
flag_bit BindingLocal = 2
flag_bit VisibilityHidden = 4
flag_bit Undefined = 16
flag_bit Exported = 32
flag_bit ExplicitName = 64
flag_bit NoStrip = 128

-- flags in one number
abbrev pub all_flags : List ℕ → ℕ
all_flags [] = 0
all_flags (f ∷ fs) = bit_or f (all_flags fs)

-- KINDS of groups
pub data GroupKind : Type 0 where
  MemInfoGroup : GroupKind
  NeededGroup : GroupKind
  ExportInfoGroup : GroupKind
  ImportInfoGroup : GroupKind
  RuntimePathGroup : GroupKind

abbrev pub group_word : GroupKind → List ℕ
group_word MemInfoGroup = codes "mem-info"
group_word NeededGroup = codes "needed"
group_word ExportInfoGroup = codes "export-info"
group_word ImportInfoGroup = codes "import-info"
group_word RuntimePathGroup = codes "runtime-path"

abbrev pub group_kinds : List GroupKind
group_kinds = MemInfoGroup ∷ NeededGroup ∷ ExportInfoGroup ∷ ImportInfoGroup ∷ RuntimePathGroup ∷ []

abbrev pub group_starts : List Test
group_starts = On true AWord (OneOf (map group_word group_kinds) []) ∷ []

abbrev pub flag_starts : List Test
flag_starts = On false AnInteger Any ∷ On false AWord (OneOf (map flag_word symbol_flags) []) ∷ []

abbrev pub extent_starts : List Test
extent_starts = this_group (codes "memory") ∷ this_group (codes "table") ∷ []

-- what any of them begins with behind its word, and what may not follow it
abbrev pub within_starts : List Test
within_starts = join extent_starts string_starts

abbrev pub within_stops : List Test
within_stops = join (faults extent_starts) (join extent_starts (join string_starts flag_starts))

-- sizes and alignments of memory and table: 0 where they aren't written
abbrev pub as_mem_info : Option (ℕ × ℕ) × Option (ℕ × ℕ) → Subsection
as_mem_info m = MemInfo (unwrap_or m.0 (0, 0)).0 (unwrap_or m.0 (0, 0)).1 (unwrap_or m.1 (0, 0)).0 (unwrap_or m.1 (0, 0)).1

module _ {N P : Type 0} where
  -- a u32 or a word
  abbrev pub flag : Syntax N P ℕ
  flag = either integer_starts u32 (seen (λ f. flag_bit f.0) (among flag_word symbol_flags []))

  abbrev pub flags : Syntax N P ℕ
  flags = seen all_flags (many flag_starts flag)

  -- (memory size align), (table size align)
  abbrev pub extent_body : List ℕ → Syntax N P (ℕ × ℕ)
  extent_body w = led w (seq u32 u32)

  abbrev pub extent : List ℕ → Syntax N P (ℕ × ℕ)
  extent w = paren (extent_body w)

  -- what stands behind each word
  abbrev pub within : GroupKind → Syntax N P Subsection
  within MemInfoGroup = seen as_mem_info (seq (maybe (this_group (codes "memory") ∷ []) (extent (codes "memory"))) (maybe (this_group (codes "table") ∷ []) (extent (codes "table"))))
  within NeededGroup = seen Needed (many string_starts name)
  within ExportInfoGroup = seen (λ e. ExportInfo (e ∷ [])) (seq name flags)
  within ImportInfoGroup = seen (λ i. ImportInfo (i ∷ [])) (seq name (seq name flags))
  within RuntimePathGroup = seen RuntimePath (many string_starts name)

  abbrev pub group_body : Syntax N P Subsection
  group_body = seen (λ g. g.1) (next (among group_word group_kinds []) (λ k. within k.0) within_starts true within_stops)

  abbrev pub dylink_group : Syntax N P Subsection
  dylink_group = paren group_body
