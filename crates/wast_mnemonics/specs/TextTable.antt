-- The instructions of the text format, one entry a mnemonic, and what stands after each (WebAssembly 3.0, 6.5, and proposals): made
-- of the table and of the instructions that are refused as uncovered.
use Rattle.std.specs.Prelude.{ℕ, List, [], ◌∷◌, ◌++◌, map, if◌then◌else◌}
use Rattle.wasm_encoder_base.specs.Table.{Entry, OperandSyntax, Plain, Results, Ref, RefNull, table, same_text}
use Rattle.wasm_encoder_base.specs.Uncovered.{Uncovered, UncoveredSyntax, uncovered}
use Rattle.wasm_encoder_base.specs.Uncovered as refused

-- what stands after a mnemonic
pub data TextOperands : Type 0 where
  -- what the table says
  Listed : OperandSyntax → TextOperands
  -- the same, behind an ordering where given
  Ordered : OperandSyntax → TextOperands
  -- result types, in any number of groups, none too
  SelectTypes : TextOperands
  -- a reference type, nullable or not
  AnyRef : TextOperands
  -- a type's index, and handlers: `(on tag label)` or `(on tag switch)`, any number of them
  Resume : TextOperands
  -- a type's index and a tag's, and handlers
  ResumeThrow : TextOperands

-- The entries of the table are those among which the operands choose; none where the instruction is refused as uncovered.
pub record TextEntry : Type 0 where
  pub mnemonic : List ℕ
  pub operands : TextOperands
  pub entries : List Entry

abbrev pub text_entry : List ℕ → TextOperands → List Entry → TextEntry
text_entry mnemonic operands entries = record { mnemonic = mnemonic; operands = operands; entries = entries }

-- what stands after a mnemonic with two entries: what either of them has
abbrev pub either_operands : OperandSyntax → OperandSyntax → TextOperands
either_operands Plain Results = SelectTypes
either_operands Ref RefNull = AnyRef
either_operands o _ = Listed o

abbrev pub operands_of : List Entry → TextOperands
operands_of [] = Listed Plain
operands_of (e ∷ []) = Listed e.operands
operands_of (e ∷ f ∷ es) = either_operands e.operands f.operands

-- the entries of a mnemonic stand side by side in the table
abbrev add_entry : Entry → List TextEntry → List TextEntry
add_entry e [] = text_entry e.mnemonic (operands_of (e ∷ [])) (e ∷ []) ∷ []
add_entry e (t ∷ ts) =
    if same_text e.mnemonic t.mnemonic
    then text_entry e.mnemonic (operands_of (e ∷ t.entries)) (e ∷ t.entries) ∷ ts
    else text_entry e.mnemonic (operands_of (e ∷ [])) (e ∷ []) ∷ t ∷ ts

abbrev pub listed_entries : List Entry → List TextEntry
listed_entries [] = []
listed_entries (e ∷ es) = add_entry e (listed_entries es)

abbrev pub uncovered_operands : UncoveredSyntax → TextOperands
uncovered_operands (refused.Listed o) = Listed o
uncovered_operands (refused.Ordered o) = Ordered o
uncovered_operands refused.AnyRef = AnyRef
uncovered_operands refused.Resume = Resume
uncovered_operands refused.ResumeThrow = ResumeThrow

abbrev pub uncovered_entry : Uncovered → TextEntry
uncovered_entry u = text_entry u.mnemonic (uncovered_operands u.operands) []

-- all of them
unfoldable pub text_table : List TextEntry
text_table = listed_entries table ++ map uncovered_entry uncovered
