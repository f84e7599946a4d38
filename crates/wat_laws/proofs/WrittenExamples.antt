-- The texts by hand spell fields and what these are written out as.
use Rattle.std.proofs.Common.{◌≡◌, ℕ, true, false, List, [], ◌∷◌, map, Some, None, inl, inr, refl, sym, ◌∙◌, ap, arith, tests, nat_eq}
use Rattle.std.specs.Prelude.{codes, if◌then◌else◌}
use Rattle.std.proofs.lemmas.Bool.{cases_Bool}
use std.Equiv.{Iso}
use Rattle.std.specs.Str.{is_utf8, chars}
use lib.Utf8
use Rattle.wasm_encoder_base.specs.Table.{table}
use Rattle.wast_grammar.specs.Tokens.{Name, Open, Close, Text}
use Rattle.wast_grammar.specs.Significant.{TextToken}
use Rattle.wast_grammar.specs.Alike.{move}
use Rattle.wast_grammar.proofs.GrammarLaws.{all_spelled}
use Rattle.wast_parser.specs.Identifiers.{ByName}
use Rattle.wast_mnemonics.specs.TextTable.{text_table}
use Rattle.wast_core_instr.specs.InstructionSyntax.{instruction}
use Rattle.wast_exports.specs.Exports as exports
use Rattle.wast_data.specs.DataTree as values
use Rattle.wast_field_syntax.specs.FieldTree.{Func, Memory, MemoryOf, ActiveData, Field, Define, ExportField, DataField}
use Rattle.wast_core.specs.ModuleSyntax.{wat}
use Rattle.wast_core.proofs.ModuleLaws.{wat_laws}
use Rattle.wast_meaning.specs.Written.{zero_offset, exactly}
use Rattle.wat_laws.specs.Written.{Places, WrittenTokens, WrittenTexts}
use Rattle.wat_laws.specs.WrittenExamples.{WrittenExamples}
use Rattle.wat_laws.proofs.LexedTexts.{text_tokens, within_bounds, id, word, integer, of_fields}

-- TOKENS
abbrev memory_inline : List TextToken
memory_inline =
    Open 0 ∷ word "module" 1 ∷ Open 8 ∷ word "memory" 9 ∷ id "m" 16 ∷ Open 19 ∷ word "data" 20 ∷ Text (codes "ab") 25 ∷ Close 29 ∷ Close 30 ∷ Close 31 ∷ []

abbrev memory_written : List TextToken
memory_written =
    Open 0 ∷ word "module" 1 ∷ Open 8 ∷ word "memory" 9 ∷ id "m" 16 ∷ integer 1 "1" 19 ∷ integer 1 "1" 21 ∷ Close 22
    ∷ Open 24 ∷ word "data" 25 ∷ Open 30 ∷ word "memory" 31 ∷ id "m" 38 ∷ Close 40 ∷ Open 42 ∷ word "i32.const" 43 ∷ integer 0 "0" 53 ∷ Close 54 ∷ Text (codes "ab") 56 ∷ Close 60 ∷ Close 61 ∷ []

abbrev export_inline : List TextToken
export_inline = Open 0 ∷ word "module" 1 ∷ Open 8 ∷ word "func" 9 ∷ Open 14 ∷ word "export" 15 ∷ Text (codes "a") 22 ∷ Close 25 ∷ Close 26 ∷ Close 27 ∷ []

abbrev export_written : List TextToken
export_written =
    Open 0 ∷ word "module" 1 ∷ Open 8 ∷ word "func" 9 ∷ id "f" 14 ∷ Close 16
    ∷ Open 18 ∷ word "export" 19 ∷ Text (codes "a") 26 ∷ Open 30 ∷ word "func" 31 ∷ id "f" 36 ∷ Close 38 ∷ Close 39 ∷ Close 40 ∷ []

-- PLACES: two that change places
abbrev swapped : ℕ → ℕ → ℕ → ℕ
swapped a b p = if nat_eq p a then b else if nat_eq p b then a else p

equal : (a b : ℕ) → nat_eq a b ≡ true → a ≡ b
equal a b e = grind (arith, tests)

itself : (a : ℕ) → nat_eq a a ≡ true
itself a = grind (arith, tests)

swapped_first : (a b : ℕ) → swapped a b a ≡ b
swapped_first a b = ap (λ t. if t then b else if nat_eq a b then a else a) (itself a)

swapped_second : (a b : ℕ) → nat_eq b a ≡ false → swapped a b b ≡ a
swapped_second a b apart = ap (λ t. if t then b else if nat_eq b b then a else b) apart ∙ ap (λ t. if t then a else b) (itself b)

swapped_other : (a b p : ℕ) → nat_eq p a ≡ false → nat_eq p b ≡ false → swapped a b p ≡ p
swapped_other a b p one two = ap (λ t. if t then b else if nat_eq p b then a else p) one ∙ ap (λ t. if t then a else p) two

swapped_twice : (a b : ℕ) → nat_eq b a ≡ false → (p : ℕ) → swapped a b (swapped a b p) ≡ p
swapped_twice a b apart p = elim (cases_Bool (nat_eq p a)) [
  | inl y ↦ (let e = equal p a y in ap (λ q. swapped a b (swapped a b q)) e ∙ ap (swapped a b) (swapped_first a b) ∙ swapped_second a b apart ∙ sym e)
  | inr n ↦ elim (cases_Bool (nat_eq p b)) [
    | inl y ↦ (let e = equal p b y in ap (λ q. swapped a b (swapped a b q)) e ∙ ap (swapped a b) (swapped_second a b apart) ∙ swapped_first a b ∙ sym e)
    | inr m ↦ ap (swapped a b) (swapped_other a b p n m) ∙ swapped_other a b p n m
  ]
]

abbrev swap : (a b : ℕ) → nat_eq b a ≡ false → Iso ℕ ℕ
swap a b apart = record { fun = swapped a b; inv = swapped a b; rinv = swapped_twice a b apart; linv = swapped_twice a b apart }

abbrev no_move : Iso ℕ ℕ
no_move = record { fun = λ p. p; inv = λ p. p; rinv = λ p. refl; linv = λ p. refl }

-- TREES
abbrev at_places : ℕ → ℕ → ℕ → Places ℕ
at_places field name reference = record { field = field; item = 0; name = name; reference = reference; heap = 0 }

abbrev ab : List values.DataVal
ab = values.Text (codes "ab") ∷ []

-- the memory, and its segment
abbrev memory_field : ℕ → Field Name ℕ
memory_field place = Define (record { place = place; id = Some ((codes "m", 0), 16); given = None; exports = []; defined = Memory (record { limits = exactly false 1; shared = false; page = None }) })

abbrev segment_field : ℕ → Field Name ℕ
segment_field reference = DataField (record { place = 9; id = None; given = None; mode = ActiveData (Some (ByName ((codes "m", 0), reference))) (zero_offset false); values = ab })

-- the word `data` is put where the word `memory` stands, and that elsewhere
abbrev memory_moved : List TextToken
memory_moved = map (move (λ n. n) (swapped 9 25)) memory_written

abbrev filled_field : Field Name ℕ
filled_field = Define (record { place = 9; id = Some ((codes "m", 0), 16); given = None; exports = []; defined = MemoryOf false None ab })

memory : WrittenTokens memory_inline memory_written
unfolding instruction text_table table
memory = record {
  tree = of_fields (filled_field ∷ []);
  fields = filled_field ∷ [];
  content = refl;
  spelled = all_spelled wat wat_laws memory_inline (of_fields (filled_field ∷ [])) refl;
  naming = λ n. (codes "f", 0);
  fresh = refl;
  unsaid = refl;
  moving = swap 9 25 refl;
  parts = (at_places 25 16 0, memory_field 9) ∷ (at_places 0 0 38, segment_field 16) ∷ [];
  are_written = refl;
  out = of_fields (memory_field 25 ∷ segment_field 38 ∷ []);
  out_content = refl;
  out_spelled = all_spelled wat wat_laws memory_moved (of_fields (memory_field 25 ∷ segment_field 38 ∷ [])) refl;
}

-- the function and its export, with a fresh name
abbrev func_field : ℕ → Field Name ℕ
func_field name = Define (record { place = 9; id = Some ((codes "f", 0), name); given = None; exports = []; defined = Func (record { type_use = record { index = None; inline = None }; locals = []; body = record { instrs = []; hints = [] } }) })

abbrev export_field : ℕ → ℕ → Field Name ℕ
export_field place reference = ExportField (record { place = place; name = codes "a"; kind = exports.Func; item = ByName ((codes "f", 0), reference) })

abbrev exported_field : Field Name ℕ
exported_field = Define (record { place = 9; id = None; given = None; exports = codes "a" ∷ []; defined = Func (record { type_use = record { index = None; inline = None }; locals = []; body = record { instrs = []; hints = [] } }) })

export : WrittenTokens export_inline export_written
unfolding is_utf8 chars lib.Utf8.encode
export = record {
  tree = of_fields (exported_field ∷ []);
  fields = exported_field ∷ [];
  content = refl;
  spelled = all_spelled wat wat_laws export_inline (of_fields (exported_field ∷ [])) refl;
  naming = λ n. (codes "f", 0);
  fresh = refl;
  unsaid = refl;
  moving = no_move;
  parts = (at_places 0 14 0, func_field 9) ∷ (at_places 19 0 36, export_field 9 9) ∷ [];
  are_written = refl;
  out = of_fields (func_field 14 ∷ export_field 19 36 ∷ []);
  out_content = refl;
  out_spelled = all_spelled wat wat_laws export_written (of_fields (func_field 14 ∷ export_field 19 36 ∷ [])) refl;
}

-- TEXTS
memory_texts : WrittenTexts (codes "(module (memory $m (data \"ab\")))") (codes "(module (memory $m 1 1) (data (memory $m) (i32.const 0) \"ab\"))")
unfolding is_utf8 chars lib.Utf8.encode
memory_texts = record {
  tokens = memory_inline;
  others = memory_written;
  significant = (text_tokens _ memory_inline refl refl, text_tokens _ memory_written refl refl);
  written = memory;
}

export_texts : WrittenTexts (codes "(module (func (export \"a\")))") (codes "(module (func $f) (export \"a\" (func $f)))")
unfolding is_utf8 chars lib.Utf8.encode
export_texts = record {
  tokens = export_inline;
  others = export_written;
  significant = (text_tokens _ export_inline refl refl, text_tokens _ export_written refl refl);
  written = export;
}

pub examples : WrittenExamples
unfolding is_utf8 chars lib.Utf8.encode
examples = record {
  memory = (memory_texts, within_bounds _ _ (omega arith) (omega arith) refl refl);
  export = (export_texts, within_bounds _ _ (omega arith) (omega arith) refl refl);
}
