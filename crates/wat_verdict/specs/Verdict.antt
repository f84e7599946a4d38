-- What an input is worth: the first condition that it fails, or what it is accepted as; and which bytes are its binary.
use Rattle.std.specs.Prelude.{ℕ, ◌≡◌, ◌<◌, ◌≤◌, ◌^◌, false, List, Option, Some, None, length}
use Rattle.std.specs.Str.{IsUtf8, IsValidUpTo}
use Rattle.wast_grammar.specs.Tokens.{Name}
use Rattle.wast_grammar.specs.Spelling.{same_name}
use Rattle.wast_names.specs.Demand.{Complaint, Demand}
use Rattle.wast_field_syntax.specs.FieldTree.{Module}
use Rattle.wast_meaning.specs.Modules.{content_fields}
use Rattle.wast_meaning.specs.WellFormed.{first_breach}
use Rattle.wasm_layout.specs.AbstractModule.{AbstractModule}
use Rattle.wasm_layout.specs.Lays.{Fits, Lays, Reads}
use Rattle.wast_conversions.specs.Covered.{Form}
use Rattle.wast_meant.specs.Covered.{uncovered}
use Rattle.wast_meaning.specs.Made.{is_made}
use Rattle.wast_meant.specs.Means.{naming_of, Worth, Stands, Pieces, IsWorth}
use Rattle.wast_meant.specs.Plain.{IsPlain}
use Rattle.wat_verdict.specs.Spells.{Spells}
use Rattle.wat_verdict.specs.Naming.{unmet_demand}

-- The conditions, in the order in which they are tested.
pub data Condition : Type 0 where
  -- at most 4294967295 bytes
  TooLong : Condition
  -- UTF-8; with the length of the longest front that is
  NotUtf8 : ℕ → Condition
  -- spells a tree
  Misspelled : Condition
  -- spells a tree that is well formed; with the place of its first field that isn't, which is the field's keyword
  NotWellFormed : ℕ → Condition
  -- spells a tree all of whose demands of names are met; with the place of the first that isn't, and what is wrong there
  Unmet : (place : ℕ) → Complaint Name → Condition
  -- spells a tree that is covered; with the place of the first field that has a form without bytes, and what that form is called
  Uncovered : (place : ℕ) → Form → Condition

-- the demand at this place that isn't met, with this complaint
abbrev pub unmet_at : ℕ → Complaint Name → Demand Name ℕ
unmet_at place complaint = record { place = place; complaint = complaint; holds = false }

-- where the first field stands that isn't well formed
abbrev pub tree_breach : Module Name ℕ → Option ℕ
tree_breach tree = first_breach same_name is_made (content_fields tree.content)

-- the first form without bytes, and the place of its field
abbrev pub tree_uncovered : Module Name ℕ → Option (ℕ × Form)
tree_uncovered tree = uncovered (naming_of tree) (content_fields tree.content)

-- Of all conditions this is the first that the bytes fail.
abbrev pub Fails : List ℕ → Condition → Type 0
Fails bytes TooLong = 2 ^ 32 ≤ length bytes
Fails bytes (NotUtf8 n) = (length bytes < 2 ^ 32) × ¬ (IsUtf8 bytes) × IsValidUpTo bytes n
Fails bytes Misspelled = (length bytes < 2 ^ 32) × IsUtf8 bytes × ((tree : Module Name ℕ) → ¬ (Spells bytes tree))
Fails bytes (NotWellFormed place) =
    (length bytes < 2 ^ 32) × IsUtf8 bytes × ((tree : Module Name ℕ) × Spells bytes tree × (tree_breach tree ≡ Some place))
Fails bytes (Unmet place complaint) =
    (length bytes < 2 ^ 32) × IsUtf8 bytes
    × ((tree : Module Name ℕ) × Spells bytes tree × (tree_breach tree ≡ None) × (unmet_demand tree ≡ Some (unmet_at place complaint)))
Fails bytes (Uncovered place form) =
    (length bytes < 2 ^ 32) × IsUtf8 bytes
    × ((tree : Module Name ℕ) × Spells bytes tree × (tree_breach tree ≡ None) × (unmet_demand tree ≡ None) × (tree_uncovered tree ≡ Some (place, form)))

-- The bytes meet every condition, and are worth this: the module that they mean, or the pieces of a binary that they spell.
pub record Accepts (bytes : List ℕ) (w : Worth) : Type 0 where
  pub short : length bytes < 2 ^ 32
  pub utf8 : IsUtf8 bytes
  pub worth : IsWorth Spells bytes w

-- a count or a length of the binary meant is past 4294967295
abbrev pub IsTooLarge : AbstractModule (List ℕ) → Type 0
IsTooLarge m = ¬ (Fits m)

-- The text spells no binary in pieces, and no custom field with the name of a section that is written by itself.
abbrev pub IsPlainText : List ℕ → Type 0
IsPlainText bytes = (tree : Module Name ℕ) → Spells bytes tree → IsPlain tree

-- The binary of what a text is worth: the layout of the module, which of a plain text is read as that module, or the pieces, joined.
abbrev pub IsBinary : (text : List ℕ) → Worth → (binary : List ℕ) → Type 0
IsBinary text (Stands m) binary = Lays binary m × (IsPlainText text → Reads binary m)
IsBinary text (Pieces bytes) binary = binary ≡ bytes

-- The binary is that of what the bytes are worth.
abbrev pub Assembles : List ℕ → List ℕ → Type 0
Assembles bytes binary = (w : Worth) × Accepts bytes w × IsBinary bytes w binary
