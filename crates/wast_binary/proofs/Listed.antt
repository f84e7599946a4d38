-- The sections that are lists, as pieces of a module of resolved fields.
use Rattle.std.proofs.Common.{◌≡◌, ℕ, ◌<◌, ◌≤◌, ◌^◌, List, [], ◌∷◌, ◌++◌, map, length, Option, Result, refl, sym, arith}
use Rattle.std.specs.List.{flat_map, AllByRecursion}
use Rattle.std.proofs.lemmas.List.{length-map}
use Rattle.std.proofs.lemmas.List.Folds.{flat_map-map}
use Rattle.wasm_encoder_base.specs.Bytes.{counted}
use Rattle.wasm_encoder_base.specs.EncodeError.{EncodeError}
use Rattle.wasm_encoder_base.specs.Instr.{expr_bytes}
use Rattle.wasm_encoder_base.specs.Leb.{uleb}
use Rattle.wasm_encoder_code.specs.Body.{body_bytes}
use Rattle.wasm_encoder_items.specs.EntityTypes.{Limits, limits_bytes, tag_bytes}
use Rattle.wasm_encoder_items.specs.Imports.{imports_bytes, export_bytes}
use Rattle.wasm_encoder_items.specs.Segments.{table_item, global_item, element_bytes, data_bytes}
use Rattle.wasm_encoder_items.specs.TypeEntries.{entry_bytes}
use Rattle.wasm_encoder_sections.specs.Codes.{function_item}
use Rattle.wast_grammar.specs.Tokens.{Name}
use Rattle.wast_parser.specs.Identifiers.{Named}
use Rattle.wast_module_fields.specs.FieldTree.{Field}
use Rattle.wasm_layout.specs.AbstractModule.{AbstractModule, Function}
use Rattle.wasm_layout.specs.IsModule.{IsU32, IsEntry, IsImport, IsTable, IsGlobal, IsExport, IsElement, IsData, IsLimits}
use Rattle.wasm_layout.specs.Layout.{contents_of}
use Rattle.wasm_layout.specs.Lays.{RunsFit, Fits}
use Rattle.wasm_layout.specs.Section.{SectionKind, Types, Imports, Functions, Tables, Memories, Tags, Globals, Exports, Elements, Codes, Datas}
use Rattle.wast_meant.specs.CustomsMeant.{Of}
use Rattle.wast_section_items.specs.Fits.{EntryFits, ImportsFit, ExportFits, TableFits, GlobalFits, ElementFits, DataFits, BodyFits, NoCounts}
use Rattle.wast_section_items.specs.Sound.{TypeSound, BodySound}
use Rattle.wast_custom_sections.proofs.Sizes.{uleb_some, counted_size}
use Rattle.wast_binary.specs.Parts.{module_of, pieces_of, KindSound}
use Rattle.wast_binary.specs.Puts.{Puts, PutsList}
use Rattle.wast_custom_sections.proofs.Counts.{counted_count}
use Rattle.wast_binary.proofs.SectionSizes.{list_fits, entry_some, entry_fits, imports_some, imports_fit, export_some, export_fits, table_item_some, table_item_fits, global_item_some, global_item_fits, element_some, element_fits, data_some, data_fits, code_some, codes_fit}
use Rattle.wast_binary.proofs.PutLists.{as_pieces}

pub counted_map : {A B : Type 0} (spell : B → List ℕ) (g : A → B) (xs : List A) → counted (λ x. spell (g x)) xs ≡ counted spell (map g xs)
counted_map spell g xs = λ i. uleb (sym (length-map xs g) i) ++ sym (flat_map-map spell g xs) i

limits_some : (l : Limits) → 1 ≤ length (limits_bytes l)
limits_some l = omega arith

tag_some : (n : ℕ) → 1 ≤ length (tag_bytes n)
tag_some n = omega arith

no_counts : {A : Type 0} (f : A → List ℕ) (x : A) → length (f x) < 2 ^ 32 → NoCounts x
no_counts f x h = tt

body_some : (f : Function) → 1 ≤ length (uleb f.type_index)
body_some f = uleb_some f.type_index

all_runs : (fs : List Function) → AllByRecursion BodyFits fs → AllByRecursion RunsFit fs
all_runs [] h = tt
all_runs (f ∷ fs) h = (h.0.locals.counts, all_runs fs h.1)

module _ (given : Option (List ℕ)) (id : Option (Named Name ℕ)) (fs : List (Field Name ℕ)) where
  abbrev that : AbstractModule (List ℕ)
  that = module_of given id fs

  -- what appending the section of a kind leaves
  abbrev pub PutsKind : SectionKind → List ℕ → List ℕ → Result (Unit {0}) EncodeError → Type 0
  PutsKind kind before after r = Puts that (pieces_of fs that (Of kind)) (KindSound that kind) before after r

  module _ (before after : List ℕ) (r : Result (Unit {0}) EncodeError) where
    pub put_types : PutsList 1 entry_bytes EntryFits IsEntry that.types before after r → PutsKind Types before after r
    put_types h = as_pieces Types entry_bytes EntryFits IsEntry that (KindSound that Types) that.types (λ whole size. list_fits entry_bytes EntryFits entry_fits entry_some that.types size) (λ s f. s) (contents_of that Types) refl before after r h

    pub put_imports : PutsList 2 imports_bytes ImportsFit IsImport that.imports before after r → PutsKind Imports before after r
    put_imports h = as_pieces Imports imports_bytes ImportsFit IsImport that (KindSound that Imports) that.imports (λ whole size. list_fits imports_bytes ImportsFit imports_fit imports_some that.imports size) (λ s f. s) (contents_of that Imports) refl before after r h

    pub put_functions : PutsList 3 (λ f. uleb f.type_index) NoCounts TypeSound that.functions before after r → PutsKind Functions before after r
    put_functions h =
        as_pieces Functions (λ (f : Function). uleb f.type_index) NoCounts TypeSound that (KindSound that Functions) that.functions
        (λ whole size. list_fits (λ (f : Function). uleb f.type_index) NoCounts (no_counts (λ (f : Function). uleb f.type_index)) body_some that.functions size) (λ s f. s)
        (contents_of that Functions) (counted_map uleb (λ (f : Function). f.type_index) that.functions) before after r h

    pub put_tables : PutsList 4 (table_item expr_bytes) TableFits IsTable that.tables before after r → PutsKind Tables before after r
    put_tables h = as_pieces Tables (table_item expr_bytes) TableFits IsTable that (KindSound that Tables) that.tables (λ whole size. list_fits (table_item expr_bytes) TableFits table_item_fits table_item_some that.tables size) (λ s f. s) (contents_of that Tables) refl before after r h

    pub put_memories : PutsList 5 limits_bytes NoCounts IsLimits that.memories before after r → PutsKind Memories before after r
    put_memories h = as_pieces Memories limits_bytes NoCounts IsLimits that (KindSound that Memories) that.memories (λ whole size. list_fits limits_bytes NoCounts (no_counts limits_bytes) limits_some that.memories size) (λ s f. s) (contents_of that Memories) refl before after r h

    pub put_tags : PutsList 13 tag_bytes NoCounts IsU32 that.tags before after r → PutsKind Tags before after r
    put_tags h = as_pieces Tags tag_bytes NoCounts IsU32 that (KindSound that Tags) that.tags (λ whole size. list_fits tag_bytes NoCounts (no_counts tag_bytes) tag_some that.tags size) (λ s f. s) (contents_of that Tags) refl before after r h

    pub put_globals : PutsList 6 (global_item expr_bytes) GlobalFits IsGlobal that.globals before after r → PutsKind Globals before after r
    put_globals h = as_pieces Globals (global_item expr_bytes) GlobalFits IsGlobal that (KindSound that Globals) that.globals (λ whole size. list_fits (global_item expr_bytes) GlobalFits global_item_fits global_item_some that.globals size) (λ s f. s) (contents_of that Globals) refl before after r h

    pub put_exports : PutsList 7 export_bytes ExportFits IsExport that.exports before after r → PutsKind Exports before after r
    put_exports h = as_pieces Exports export_bytes ExportFits IsExport that (KindSound that Exports) that.exports (λ whole size. list_fits export_bytes ExportFits export_fits export_some that.exports size) (λ s f. s) (contents_of that Exports) refl before after r h

    pub put_elements : PutsList 9 (element_bytes expr_bytes) ElementFits IsElement that.elements before after r → PutsKind Elements before after r
    put_elements h = as_pieces Elements (element_bytes expr_bytes) ElementFits IsElement that (KindSound that Elements) that.elements (λ whole size. list_fits (element_bytes expr_bytes) ElementFits element_fits element_some that.elements size) (λ s f. s) (contents_of that Elements) refl before after r h

    -- bodies fit where the section does and the counts of locals do
    pub code_counts : Fits that → IsU32 (length (counted (λ (f : Function). function_item (body_bytes f.body)) that.functions)) → (length that.functions < 2 ^ 32) × AllByRecursion BodyFits that.functions
    code_counts whole size =
        let spell : Function → List ℕ = λ f. function_item (body_bytes f.body) in
        let count = counted_count spell code_some that.functions in
        let less = counted_size spell that.functions in
        let rest : length (flat_map spell that.functions) < 2 ^ 32 = omega (arith, size, less) in
        (omega (arith, size, count), codes_fit that.functions whole.locals rest)

    pub put_codes : PutsList 10 (λ f. function_item (body_bytes f.body)) BodyFits BodySound that.functions before after r → PutsKind Codes before after r
    put_codes h =
        as_pieces Codes (λ (f : Function). function_item (body_bytes f.body)) BodyFits BodySound that (KindSound that Codes) that.functions code_counts (λ s f. (s, all_runs that.functions f))
        (contents_of that Codes) (counted_map function_item (λ (f : Function). body_bytes f.body) that.functions) before after r h

    pub put_datas : PutsList 11 (data_bytes expr_bytes) DataFits IsData that.datas before after r → PutsKind Datas before after r
    put_datas h = as_pieces Datas (data_bytes expr_bytes) DataFits IsData that (KindSound that Datas) that.datas (λ whole size. list_fits (data_bytes expr_bytes) DataFits data_fits data_some that.datas size) (λ s f. s) (contents_of that Datas) refl before after r h
