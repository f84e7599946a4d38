-- Entries of the text's table, by hand: those of a mnemonic with two entries, and of each form that the table hasn't.
use Rattle.std.specs.Prelude.{◌≡◌, List, [], ◌∷◌, codes, map, Some}
use Prim.Native.String.{String}
use Rattle.wasm_encoder_base.specs.Table.{Entry, entry, Plain, Results, Ref, RefNull, Mem, Index, Indices, OptionalIndex, Globals, Tables, Memories, Types, Fields}
use Rattle.wast_grammar.specs.Spelling.{find_by}
use Rattle.wast_mnemonics.specs.TextTable.{TextOperands, Listed, Ordered, SelectTypes, AnyRef, Resume, ResumeThrow, TextEntry, text_entry, text_table}

abbrev sample : String → TextOperands → List Entry → TextEntry
sample text operands entries = text_entry (codes text) operands entries

abbrev pub samples : List TextEntry
samples =
    sample "i32.load16_u" (Listed (Mem 2)) (entry (codes "i32.load16_u") (Mem 2) (0x2F ∷ []) ∷ [])
    ∷ sample "select" SelectTypes (entry (codes "select") Plain (0x1B ∷ []) ∷ entry (codes "select") Results (0x1C ∷ []) ∷ [])
    ∷ sample "ref.test" AnyRef (entry (codes "ref.test") Ref (0xFB ∷ 0x14 ∷ []) ∷ entry (codes "ref.test") RefNull (0xFB ∷ 0x15 ∷ []) ∷ [])
    ∷ sample "ref.cast" AnyRef (entry (codes "ref.cast") Ref (0xFB ∷ 0x16 ∷ []) ∷ entry (codes "ref.cast") RefNull (0xFB ∷ 0x17 ∷ []) ∷ [])
    ∷ sample "memory.discard" (Listed (OptionalIndex Memories)) []
    ∷ sample "global.atomic.rmw.cmpxchg" (Ordered (Index Globals)) []
    ∷ sample "table.atomic.get" (Ordered (OptionalIndex Tables)) []
    ∷ sample "struct.atomic.get_s" (Ordered (Indices Types Fields)) []
    ∷ sample "ref.cast_desc_eq" AnyRef []
    ∷ sample "resume_throw_ref" Resume []
    ∷ sample "resume_throw" ResumeThrow []
    ∷ []

-- Each of these is found by its mnemonic.
abbrev pub SamplesFound : Type 0
SamplesFound = map (λ t. find_by (λ u. u.mnemonic) t.mnemonic text_table) samples ≡ map Some samples
