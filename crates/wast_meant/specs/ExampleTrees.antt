-- Short words for trees of examples, at place 0 where no place is said.
use Rattle.std.specs.Prelude.{ℕ, ℤ, ◌≡◌, true, false, List, [], ◌∷◌, ◌++◌, map, Option, Some, None, codes}
use Prim.Native.String.{String}
use Rattle.wasm_encoder_base.specs.Types as binary
use Rattle.wasm_encoder_base.specs.OperandSyntax.{OperandSyntax}
use Rattle.wasm_encoder_base.specs.OperandSyntax as rows
use Rattle.wasm_encoder_base.specs.Table.{entry}
use Rattle.wasm_encoder.specs.Module.{header}
use Rattle.wast_grammar.specs.Tokens.{Name}
use Rattle.wast_grammar.specs.Spelling.{same_name}
use Rattle.wast_parser.specs.Identifiers.{Named, Reference, ByNumber, ByName}
use Rattle.wast_value_types.specs.ValueTree.{Known, Abstract, Concrete, RefType, I32, I64, ValType, Number, Ref, MemoryType, TableType}
use Rattle.wast_signatures.specs.TypeTree.{Local, Sig, InnerType, TypeDef, TypeItem, TypeUse}
use Rattle.wast_expressions.specs.Items.{Hint}
use Rattle.wast_mnemonics.specs.Heads.{Listed}
use Rattle.wast_core_instr.specs.InstructionTree.{Operands, NoOperands, Label, Block, Integer, Instruction}
use Rattle.wast_customs.specs.CustomTree.{CustomPlace, Raw}
use Rattle.wast_imports.specs.ImportTree.{ExternType, Item, Single}
use Rattle.wast_field_syntax.specs.FieldTree.{Expr, Defined, Func, Field, ImportField, Define, CustomField}
use Rattle.wast_names.specs.Walk.{first_unmet}
use Rattle.wast_names.specs.Demand.{is_met}
use Rattle.wast_meaning.specs.Demands.{all_demands}
use Rattle.wast_meaning.specs.Numbered.{resolved}
use Rattle.wast_meaning.specs.WellFormed.{breaches}
use Rattle.wast_meaning.specs.Written.{by_counter}
use Rattle.wast_meaning.specs.Made.{made, is_made}
use Rattle.wasm_layout.specs.Layout.{layout}
use Rattle.wast_meant.specs.Meaning.{meant}
use Rattle.wast_meant.specs.Covered.{uncovered}
use Rattle.wast_meant.specs.Binary.{in_bytes}

abbrev pub Tree : Type 0
Tree = Field Name ℕ

-- identifiers and indices
abbrev pub id : String → Option (Named Name ℕ)
id s = Some ((codes s, 0), 0)

abbrev pub says : String → Reference Name ℕ
says s = ByName ((codes s, 0), 0)

abbrev pub num : ℕ → Reference Name ℕ
num n = ByNumber n 0

-- types
abbrev pub i32 : ValType Name ℕ
i32 = Number I32

abbrev pub i64 : ValType Name ℕ
i64 = Number I64

abbrev pub ref : Reference Name ℕ → ValType Name ℕ
ref i = Ref (record { nullable = false; heap_type = Concrete i })

abbrev pub funcref : RefType Name ℕ
funcref = record { nullable = true; heap_type = Abstract false (Known binary.FuncHeap) }

abbrev pub local : Option (Named Name ℕ) → ValType Name ℕ → Local Name ℕ
local i t = record { id = i; given = None; val_type = t }

abbrev pub unnamed : List (ValType Name ℕ) → List (Local Name ℕ)
unnamed ts = map (local None) ts

abbrev pub sig : List (ValType Name ℕ) → List (ValType Name ℕ) → Sig Name ℕ
sig ps rs = record { params = unnamed ps; results = rs }

abbrev pub no_use : TypeUse Name ℕ
no_use = record { index = None; inline = None }

abbrev pub with_sig : List (ValType Name ℕ) → List (ValType Name ℕ) → TypeUse Name ℕ
with_sig ps rs = record { index = None; inline = Some (sig ps rs) }

abbrev pub definition : InnerType Name ℕ → TypeDef Name ℕ
definition t = record { is_final = true; supertype = None; describes = None; descriptor = None; comp = record { shared = false; inner = t } }

abbrev pub type_item : Option (Named Name ℕ) → InnerType Name ℕ → TypeItem Name ℕ
type_item i t = record { place = 0; id = i; given = None; definition = definition t }

abbrev pub one_page : MemoryType
one_page = record { limits = record { is_wide = false; minimum = 1; maximum = None }; shared = false; page = None }

abbrev pub one_funcref : TableType Name ℕ
one_funcref = record { limits = record { is_wide = false; minimum = 1; maximum = None }; shared = false; element = funcref }

-- instructions
abbrev pub ins : OperandSyntax → List ℕ → String → Operands Name ℕ → Instruction Name ℕ
ins row opcode w o = record { head = Listed (entry (codes w) row opcode); operands = o }

abbrev pub plain : ℕ → String → Instruction Name ℕ
plain n w = ins rows.Plain (n ∷ []) w NoOperands

abbrev pub const : ℤ → Instruction Name ℕ
const z = ins rows.I32 (0x41 ∷ []) "i32.const" (Integer z)

abbrev pub end : Instruction Name ℕ
end = ins rows.Name (0x0B ∷ []) "end" (Label None)

abbrev pub block : ℕ → String → Option (Named Name ℕ) → TypeUse Name ℕ → Instruction Name ℕ
block n w i u = ins rows.Block (n ∷ []) w (Block (record { label = i; type_use = u }))

abbrev pub expr : List (Instruction Name ℕ) → Expr Name ℕ
expr is = record { instrs = is; hints = [] }

-- fields
abbrev pub define : Option (Named Name ℕ) → Defined Name ℕ → Tree
define i d = Define (record { place = 0; id = i; given = None; exports = []; defined = d })

abbrev pub func_of : TypeUse Name ℕ → List (Local Name ℕ) → List (Instruction Name ℕ) → List Hint → Defined Name ℕ
func_of u ls is hs = Func (record { type_use = u; locals = ls; body = record { instrs = is; hints = hs } })

abbrev pub func : Option (Named Name ℕ) → List (Instruction Name ℕ) → Tree
func i is = define i (func_of no_use [] is [])

abbrev pub typed : TypeUse Name ℕ → Tree
typed u = define None (func_of u [] [] [])

abbrev pub item : ExternType Name ℕ → Item Name ℕ
item t = record { place = 0; id = None; given = None; extern_type = t }

abbrev pub import : ExternType Name ℕ → Tree
import t = ImportField (record { place = 0; from = []; items = Single [] (item t) })

abbrev pub custom : String → CustomPlace → List ℕ → Tree
custom name place bytes = CustomField (Raw (record { place = 0; name = codes name; section = place; strings = bytes ∷ [] }))

-- the names that a new counter makes
abbrev pub fresh : List Tree → ℕ → Name
fresh fs = by_counter made 0 fs

-- all that is asked before a meaning, and the binary behind its header
pub record Assembles (fs : List Tree) (bytes : List ℕ) : Type 0 where
  pub is_formed : breaches same_name is_made fs ≡ []
  pub are_met : first_unmet is_met (all_demands same_name (fresh fs) fs) ≡ None
  pub is_covered : uncovered (fresh fs) fs ≡ None
  pub binary : layout (in_bytes (meant same_name is_made None (resolved same_name (fresh fs) fs))) ≡ header ++ bytes

abbrev pub IsUncovered : List Tree → ℕ → String → Type 0
IsUncovered fs place form = uncovered (fresh fs) fs ≡ Some (place, codes form)
