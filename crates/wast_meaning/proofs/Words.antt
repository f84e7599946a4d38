-- Short words for trees of examples, at place 0 where no place is said.
use Rattle.std.specs.Prelude.{ℕ, suc, ℤ, ◌≡◌, Bool, true, false, not, nat_eq, List, [], ◌∷◌, map, Option, Some, None, codes}
use Prim.Native.String.{String}
use Rattle.wasm_encoder_base.specs.Types as binary
use Rattle.wasm_encoder_base.specs.Table as table
use Rattle.wasm_encoder_base.specs.Table.{entry, OperandSyntax}
use Rattle.wast_grammar.specs.Tokens.{Name}
use Rattle.wast_grammar.specs.Spelling.{same_name}
use Rattle.wast_parser.specs.Identifiers.{Named, Reference, ByNumber, ByName}
use Rattle.wast_names.specs.Walk.{first_unmet}
use Rattle.wast_names.specs.Demand.{Complaint, Demand, is_met}
use Rattle.wast_field_syntax.specs.ValueTree.{I32, I64, ValType, Number, Ref, RefType, Abstract, Known, Concrete, Value, Limits, TableType, MemoryType}
use Rattle.wast_field_syntax.specs.TypeTree.{Local, Sig, StructField, InnerType, FuncType, TypeItem, TypeUse}
use Rattle.wast_field_syntax.specs.TypedTree.{Catch}
use Rattle.wast_mnemonics.specs.Heads.{Listed, Unlisted}
use Rattle.wast_field_syntax.specs.InstructionTree.{Operands, NoOperands, Label, Block, TryTable, One, Two, Indirect, Integer, Memory, Instruction}
use Rattle.wast_exports.specs.Exports.{ExportKind}
use Rattle.wast_imports.specs.ImportTree.{ExternType, OfFunc, Item, ImportItems, Single}
use Rattle.wast_field_syntax.specs.DataTree.{DataVal}
use Rattle.wast_field_syntax.specs.FieldTree.{Expr, Elements, Indices, Defined, Func, Global, PassiveData, ActiveData, PassiveElem, ActiveElem, Field, TypeField, RecField, ImportField, Define, ExportField, StartField, ElemField, DataField}
use Rattle.wast_meaning.specs.Written.{written_out}
use Rattle.wast_meaning.specs.Implied.{implied}
use Rattle.wast_meaning.specs.Demands.{demands, all_demands}
use Rattle.wast_meaning.specs.WellFormed.{breaches}
use Rattle.wast_meaning.specs.Numbered.{numbered}

-- NAMES
abbrev pub W : Type 0
W = Name

abbrev pub is_made : W → Bool
is_made n = not (nat_eq n.1 0)

abbrev pub made : ℕ → W
made k = (codes "gensym", suc k)

abbrev pub name : String → W
name s = (codes s, 0)

abbrev pub id : ℕ → String → Option (Named W ℕ)
id p s = Some (name s, p)

abbrev pub says : ℕ → String → Reference W ℕ
says p s = ByName (name s, p)

abbrev pub num : ℕ → Reference W ℕ
num n = ByNumber n 0

-- TYPES
abbrev pub i32 : ValType W ℕ
i32 = Number I32

abbrev pub i64 : ValType W ℕ
i64 = Number I64

abbrev pub ref : Reference W ℕ → ValType W ℕ
ref i = Ref (record { nullable = false; heap_type = Concrete i })

abbrev pub funcref : RefType W ℕ
funcref = record { nullable = true; heap_type = Abstract false (Known binary.FuncHeap) }

abbrev pub local : Option (Named W ℕ) → ValType W ℕ → Local W ℕ
local i t = record { id = i; given = None; val_type = t }

abbrev pub sig : List (ValType W ℕ) → List (ValType W ℕ) → Sig W ℕ
sig ps rs = record { params = map (local None) ps; results = rs }

abbrev pub no_use : TypeUse W ℕ
no_use = record { index = None; inline = None }

abbrev pub written : List (ValType W ℕ) → List (ValType W ℕ) → TypeUse W ℕ
written ps rs = record { index = None; inline = Some (sig ps rs) }

-- one parameter that has a name
abbrev pub param : ℕ → String → TypeUse W ℕ
param p s = record { index = None; inline = Some (record { params = local (id p s) i32 ∷ []; results = [] }) }

abbrev pub typed : Reference W ℕ → Option (Sig W ℕ) → TypeUse W ℕ
typed i s = record { index = Some i; inline = s }

-- with whether it is final, and its supertype
abbrev pub sub : Bool → Option (Reference W ℕ) → Option (Named W ℕ) → InnerType W ℕ → TypeItem W ℕ
sub final super i t = record {
  place = 0;
  id = i;
  given = None;
  definition = record { is_final = final; supertype = super; describes = None; descriptor = None; comp = record { shared = false; inner = t } };
}

abbrev pub item : Option (Named W ℕ) → InnerType W ℕ → TypeItem W ℕ
item i t = sub true None i t

abbrev pub shared_type : InnerType W ℕ → Field W ℕ
shared_type t = TypeField (record {
  place = 0;
  id = None;
  given = None;
  definition = record { is_final = true; supertype = None; describes = None; descriptor = None; comp = record { shared = true; inner = t } };
})

abbrev pub type : Option (Named W ℕ) → InnerType W ℕ → Field W ℕ
type i t = TypeField (item i t)

abbrev pub func_type : List (ValType W ℕ) → List (ValType W ℕ) → InnerType W ℕ
func_type ps rs = FuncType (sig ps rs)

abbrev pub group : List (TypeItem W ℕ) → Field W ℕ
group ts = RecField (record { place = 0; types = ts })

abbrev pub struct_field : ℕ → String → StructField W ℕ
struct_field p s = record { id = id p s; field_type = record { mutable = false; storage = Value i32 } }

abbrev pub from_1 : Limits
from_1 = record { is_wide = false; minimum = 1; maximum = None }

abbrev pub table_1 : TableType W ℕ
table_1 = record { limits = from_1; shared = false; element = funcref }

abbrev pub memory_1 : MemoryType
memory_1 = record { limits = from_1; shared = false; page = None }

abbrev pub global_1 : Defined W ℕ
global_1 = Global (record { val_type = i32; mutable = false; shared = false }) (record { instrs = []; hints = [] })

-- INSTRUCTIONS
abbrev pub ins : OperandSyntax → List ℕ → String → Operands W ℕ → Instruction W ℕ
ins row opcode w o = record { head = Listed (entry (codes w) row opcode); operands = o }

abbrev pub nop : Instruction W ℕ
nop = ins table.Plain (0x01 ∷ []) "nop" NoOperands

abbrev pub drop : Instruction W ℕ
drop = ins table.Plain (0x1A ∷ []) "drop" NoOperands

abbrev pub const : ℤ → Instruction W ℕ
const z = ins table.I32 (0x41 ∷ []) "i32.const" (Integer z)

abbrev pub call : Reference W ℕ → Instruction W ℕ
call i = ins (table.Index table.Functions) (0x10 ∷ []) "call" (One i)

abbrev pub br : Reference W ℕ → Instruction W ℕ
br i = ins (table.Index table.Labels) (0x0C ∷ []) "br" (One i)

abbrev pub local_get : Reference W ℕ → Instruction W ℕ
local_get i = ins (table.Index table.Locals) (0x20 ∷ []) "local.get" (One i)

abbrev pub elem_drop : Reference W ℕ → Instruction W ℕ
elem_drop i = ins (table.Index table.Elems) (0xFC ∷ 0x0D ∷ []) "elem.drop" (One i)

abbrev pub data_drop : Reference W ℕ → Instruction W ℕ
data_drop i = ins (table.Index table.Datas) (0xFC ∷ 0x09 ∷ []) "data.drop" (One i)

abbrev pub struct_get : Reference W ℕ → Reference W ℕ → Instruction W ℕ
struct_get t i = ins (table.Indices table.Types table.Fields) (0xFB ∷ 0x02 ∷ []) "struct.get" (Two t i)

abbrev pub call_indirect : Option (Reference W ℕ) → TypeUse W ℕ → Instruction W ℕ
call_indirect t u = ins table.Indirect (0x11 ∷ []) "call_indirect" (Indirect (record { table = t; type_use = u }))

abbrev pub block_of : TypeUse W ℕ → Instruction W ℕ
block_of u = ins table.Block (0x02 ∷ []) "block" (Block (record { label = None; type_use = u }))

abbrev pub block : Option (Named W ℕ) → Instruction W ℕ
block i = ins table.Block (0x02 ∷ []) "block" (Block (record { label = i; type_use = no_use }))

abbrev pub try : Option (Named W ℕ) → Instruction W ℕ
try i = ins table.Block (0x06 ∷ []) "try" (Block (record { label = i; type_use = no_use }))

abbrev pub delegate : Reference W ℕ → Instruction W ℕ
delegate i = ins (table.Index table.Labels) (0x18 ∷ []) "delegate" (One i)

abbrev pub try_table : Option (Named W ℕ) → List (Catch W ℕ) → Instruction W ℕ
try_table i cs = ins table.TryTable (0x1F ∷ []) "try_table" (TryTable (record { block = record { label = i; type_use = no_use }; catches = cs }))

abbrev pub else_of : Option (Named W ℕ) → Instruction W ℕ
else_of i = ins table.Name (0x05 ∷ []) "else" (Label i)

abbrev pub end_of : Option (Named W ℕ) → Instruction W ℕ
end_of i = ins table.Name (0x0B ∷ []) "end" (Label i)

abbrev pub end : Instruction W ℕ
end = end_of None

abbrev pub load : ℕ → Instruction W ℕ
load align = ins (table.Mem 4) (0x28 ∷ []) "i32.load" (Memory (record { target = None; ordering = None; offset = 0; align = align }))

abbrev pub unlisted : String → Operands W ℕ → Instruction W ℕ
unlisted w o = record { head = Unlisted (codes w); operands = o }

abbrev pub expr : List (Instruction W ℕ) → Expr W ℕ
expr is = record { instrs = is; hints = [] }

abbrev pub hinted : List (Instruction W ℕ) → List (ℕ × ℕ) → Expr W ℕ
hinted is hs = record { instrs = is; hints = map (λ h. record { index = h.0; value = h.1 }) hs }

-- FIELDS
abbrev pub at : ℕ → Option (Named W ℕ) → List (List ℕ) → Defined W ℕ → Field W ℕ
at p i es d = Define (record { place = p; id = i; given = None; exports = es; defined = d })

abbrev pub define : Option (Named W ℕ) → Defined W ℕ → Field W ℕ
define i d = at 0 i [] d

abbrev pub function : TypeUse W ℕ → List (Local W ℕ) → List (Instruction W ℕ) → Field W ℕ
function u ls is = define None (Func (record { type_use = u; locals = ls; body = expr is }))

abbrev pub func : Option (Named W ℕ) → List (Instruction W ℕ) → Field W ℕ
func i is = define i (Func (record { type_use = no_use; locals = []; body = expr is }))

abbrev pub body : List (Instruction W ℕ) → Field W ℕ
body is = func None is

abbrev pub of_type : TypeUse W ℕ → Field W ℕ
of_type u = function u [] []

abbrev pub import : ℕ → ExternType W ℕ → Field W ℕ
import p t = ImportField (record { place = p; from = []; items = Single [] (record { place = p; id = None; given = None; extern_type = t }) })

abbrev pub import_func : ℕ → Field W ℕ
import_func p = import p (OfFunc no_use)

abbrev pub imports : ImportItems W ℕ → Field W ℕ
imports is = ImportField (record { place = 0; from = []; items = is })

abbrev pub a_func : Option (Named W ℕ) → Item W ℕ
a_func i = record { place = 0; id = i; given = None; extern_type = OfFunc no_use }

abbrev pub export : ℕ → String → ExportKind → Reference W ℕ → Field W ℕ
export p s k i = ExportField (record { place = p; name = codes s; kind = k; item = i })

abbrev pub start : ℕ → Reference W ℕ → Field W ℕ
start p i = StartField (record { place = p; func = i })

abbrev pub segment : Option (Named W ℕ) → Field W ℕ
segment i = DataField (record { place = 0; id = i; given = None; mode = PassiveData; values = [] })

abbrev pub elems : Option (Named W ℕ) → Field W ℕ
elems i = ElemField (record { place = 0; id = i; given = None; mode = PassiveElem; elements = Indices [] })

-- at the place, active in the memory or table
abbrev pub data_of : ℕ → Reference W ℕ → Expr W ℕ → List DataVal → Field W ℕ
data_of p m offset vs = DataField (record { place = p; id = None; given = None; mode = ActiveData (Some m) offset; values = vs })

abbrev pub elem_of : ℕ → Reference W ℕ → Expr W ℕ → Elements W ℕ → Field W ℕ
elem_of p t offset es = ElemField (record { place = p; id = None; given = None; mode = ActiveElem (Some t) offset; elements = es })

abbrev pub data_at : ℕ → Expr W ℕ → Field W ℕ
data_at p offset = DataField (record { place = p; id = None; given = None; mode = ActiveData None offset; values = [] })

abbrev pub elem_at : ℕ → Expr W ℕ → Elements W ℕ → Field W ℕ
elem_at p offset es = ElemField (record { place = p; id = None; given = None; mode = ActiveElem None offset; elements = es })

-- WHAT IS SHOWN
abbrev pub IsUnmet : List (Field W ℕ) → ℕ → Complaint W → Type 0
IsUnmet fs place complaint = first_unmet is_met (all_demands same_name made fs) ≡ Some (record { place = place; complaint = complaint; holds = false })

abbrev pub IsMet : List (Field W ℕ) → Type 0
IsMet fs = first_unmet is_met (all_demands same_name made fs) ≡ None

-- the first demand that isn't met, of fields as they are and of what they are written out as
abbrev pub BothUnmet : List (Field W ℕ) → Option (Demand W ℕ) → Type 0
BothUnmet fs d = map (first_unmet is_met) (demands same_name fs ∷ all_demands same_name made fs ∷ []) ≡ d ∷ d ∷ []

-- fields that are numbered and then written out have the numbers of what they are written out as
abbrev pub SameNumbers : List (Field W ℕ) → Type 0
SameNumbers fs = numbered same_name (written_out made (numbered same_name fs)) ≡ numbered same_name (written_out made fs)

abbrev pub Breaks : List (Field W ℕ) → List ℕ → Type 0
Breaks fs places = breaches same_name is_made fs ≡ places

-- the implied types, places aside
abbrev pub Implies : List (Field W ℕ) → List (Sig W ℕ) → Type 0
Implies fs sigs = map (λ s. s.1) (implied same_name (written_out made fs)) ≡ sigs
