-- Worked examples of operands, computed: for each kind of row of the table in which indices stand, one with names for them.
use Rattle.std.specs.Prelude.{ℕ, ◌≡◌, false, List, [], ◌∷◌, ◌++◌, map, Option, Some, None, option_map}
use Rattle.std.proofs.Common.{refl}
use Rattle.wasm_encoder_base.specs.Table as table
use Rattle.wasm_encoder_base.specs.Table.{OperandSyntax, Space, Labels, Locals, Functions, Types, Tables, Memories, Globals, Tags, Datas, Elems, Fields}
use Rattle.wasm_encoder_base.specs.Uncovered as uncovered
use Rattle.wast_grammar.specs.Spelling.{same_name}
use Rattle.wast_parser.specs.Identifiers.{Reference}
use Rattle.wast_names.specs.Walk.{first_unmet}
use Rattle.wast_names.specs.Demand.{Demand, Unknown, is_met}
use Rattle.wast_field_syntax.specs.ValueTree.{RefType, Concrete}
use Rattle.wast_field_syntax.specs.TypeTree.{StructType, TypeUse}
use Rattle.wast_field_syntax.specs.OperandTree.{Array, OnLabel, OnSwitch, SeqCst}
use Rattle.wast_field_syntax.specs.OperandTree as operand
use Rattle.wast_field_syntax.specs.TypedTree.{CatchTag, CatchTagRef, CatchAll, CatchAllRef}
use Rattle.wast_field_syntax.specs.InstructionTree as instr
use Rattle.wast_field_syntax.specs.InstructionTree.{Operands, Instruction}
use Rattle.wast_field_syntax.specs.FieldTree.{Func, Table, Memory, Tag, Field}
use Rattle.wast_meaning.specs.Spaces.{space_word}
use Rattle.wast_meaning.specs.Demands.{all_demands}
use Rattle.wast_meaning.proofs.Words.{W, made, name, id, says, i32, ref, local, typed, type, struct_field, func_type, table_1, memory_1, global_1, ins, unlisted, block, end, try_table, call_indirect, define, of_type, body, segment, elems, expr}

-- the opcode makes no difference to operands
abbrev row : OperandSyntax → Operands W ℕ → Instruction W ℕ
row syntax o = ins syntax [] "" o

abbrev some_ref : Reference W ℕ → RefType W ℕ
some_ref t = record { nullable = false; heap_type = Concrete t }

abbrev at_memory : operand.MemArgTarget W ℕ → operand.MemArg W ℕ
at_memory t = record { target = Some t; ordering = None; offset = 0; align = 1 }

-- instructions that name a type, a field, a function, a table, a memory, a global, a tag, a data segment, an element segment, a local and a label
abbrev rows : (t a f u m g e d x l b : Reference W ℕ) → List (Instruction W ℕ)
rows t a f u m g e d x l b =
    row (table.Index Locals) (instr.One l)
    ∷ row (table.Index Globals) (instr.One g)
    ∷ row (table.Index Functions) (instr.One f)
    ∷ row (table.Index Labels) (instr.One b)
    ∷ row (table.Index Tags) (instr.One e)
    ∷ row (table.Index Datas) (instr.One d)
    ∷ row (table.Index Elems) (instr.One x)
    ∷ row table.BrTable (instr.LabelTable (b ∷ b ∷ []) b)
    ∷ row (table.IndexCount Types) (instr.Counted t 7)
    ∷ row (table.Indices Types Fields) (instr.Two t a)
    ∷ row (table.Indices Types Datas) (instr.Two t d)
    ∷ row (table.Indices Types Elems) (instr.Two t x)
    ∷ row (table.Indices Types Types) (instr.Two t t)
    ∷ row (table.OptionalIndex Tables) (instr.Optional (Some u))
    ∷ row (table.Copy Tables) (instr.OptionalTwo (Some (u, u)))
    ∷ row (table.Copy Memories) (instr.OptionalTwo (Some (m, m)))
    ∷ row (table.Init Tables Elems) (instr.OptionalThen (Some u) x)
    ∷ row (table.Init Memories Datas) (instr.OptionalThen None d)
    ∷ row table.Heap (instr.Heap (Concrete t))
    ∷ row table.Ref (instr.Ref (some_ref t))
    ∷ row table.Cast (instr.Cast (record { label = b; source = some_ref t; target = some_ref t }))
    ∷ row table.Results (instr.Types (Some (ref t ∷ i32 ∷ [])))
    ∷ row (table.Mem 4) (instr.Memory (at_memory (operand.Memory m)))
    ∷ row (table.Mem 4) (instr.Memory (at_memory (Array t)))
    ∷ row (table.MemLane 4) (instr.MemoryLane (at_memory (operand.Memory m)) 3)
    ∷ try_table None (CatchTag e b ∷ CatchTagRef e b ∷ CatchAll b ∷ CatchAllRef b ∷ [])
    ∷ end
    ∷ call_indirect (Some u) (typed t None)
    ∷ unlisted "suspend" (instr.One e)
    ∷ unlisted "cont.bind" (instr.Two t t)
    ∷ unlisted "switch" (instr.Two t e)
    ∷ unlisted "memory.discard" (instr.Optional (Some m))
    ∷ unlisted "global.atomic.set" (instr.Ordered SeqCst (instr.One g))
    ∷ unlisted "table.atomic.get" (instr.Ordered SeqCst (instr.Optional (Some u)))
    ∷ unlisted "struct.atomic.set" (instr.Ordered SeqCst (instr.Two t a))
    ∷ unlisted "resume" (instr.Resume t (OnLabel e b ∷ OnSwitch e ∷ []))
    ∷ unlisted "resume_throw" (instr.ResumeThrow t e (OnSwitch e ∷ []))
    ∷ []

-- one of each, called `n`, and a struct type whose second field is
abbrev fields : TypeUse W ℕ → List (Instruction W ℕ) → List (Field W ℕ)
fields u is =
    type (id 0 "n") (StructType (struct_field 0 "k" ∷ struct_field 0 "n" ∷ []))
    ∷ type None (func_type [] [])
    ∷ define (id 0 "n") (Table table_1 None)
    ∷ define (id 0 "n") (Memory memory_1)
    ∷ define (id 0 "n") global_1
    ∷ define (id 0 "n") (Tag u)
    ∷ segment (id 0 "n")
    ∷ elems (id 0 "n")
    ∷ of_type u
    ∷ define (id 0 "n") (Func (record { type_use = u; locals = local None i32 ∷ local (id 0 "n") i32 ∷ []; body = expr (block (id 0 "n") ∷ block None ∷ is ++ end ∷ end ∷ []) }))
    ∷ []

n : Reference W ℕ
n = says 0 "n"

-- alone in a module, each tells which space it looks in first
unmet : Instruction W ℕ → Option (Demand W ℕ)
unmet i = first_unmet is_met (all_demands same_name made (body (i ∷ []) ∷ []))

looked_in : List (Option Space)
looked_in = map (λ s. Some s) (
    Locals ∷ Globals ∷ Functions ∷ Labels ∷ Tags ∷ Datas ∷ Elems ∷ Labels ∷ Types ∷ Types ∷ Types ∷ Types ∷ Types ∷ Tables ∷ Tables ∷ Memories ∷ Tables ∷ Datas
    ∷ Types ∷ Types ∷ Labels ∷ Types ∷ Memories ∷ Types ∷ Memories ∷ Tags ∷ []) ++ None ∷ map (λ s. Some s) (
    Tables ∷ Tags ∷ Types ∷ Types ∷ Memories ∷ Globals ∷ Tables ∷ Types ∷ Types ∷ Types ∷ [])

told : map unmet (rows n n n n n n n n n n n) ≡ map (option_map (λ s. record { place = 0; complaint = Unknown (space_word s) (name "n"); holds = false })) looked_in
unfolding n unmet looked_in uncovered.uncovered
told = refl
