-- What is no list, as pieces of a module: custom sections, the start function, the count of data segments, branch hints and names.
use Rattle.std.proofs.Common.{◌≡◌, ℕ, zero, suc, Bool, true, false, not, ◌&&◌, ◌||◌, List, [], ◌∷◌, ◌++◌, map, length, replicate, codes, All, Option, Some, None, Result, Ok, Err, refl, sym, ap, ◌∙◌, arith, subst, append-nil}
use Rattle.std.specs.Prelude.{is_some, slice_get, OnOk, IsErrOf}
use Rattle.std.specs.List.{flat_map, sum_by, AllByRecursion, list_any}
use Rattle.std.specs.Option.{option_flatten}
use Rattle.std.proofs.lemmas.Bool.{false≢true}
use Rattle.std.proofs.lemmas.List.{length-append, take_all}
use Rattle.std.proofs.lemmas.List.Elements.{All-nil, All-cons}
use Rattle.wasm_encoder_base.specs.Bytes.{counted, sized, optional}
use Rattle.wasm_encoder_base.specs.EncodeError.{EncodeError}
use Rattle.wasm_encoder_base.specs.EncodeError.TheVariants.{TooLarge}
use Rattle.wasm_encoder_base.specs.Encodes.{Encodes}
use Rattle.wasm_encoder_base.specs.Lists.{listed}
use Rattle.wasm_encoder_base.specs.Instr.{expr_bytes, instr_bytes}
use Rattle.wasm_encoder_base.specs.Leb.{uleb}
use Rattle.wasm_encoder_code.specs.Body.{body_bytes, locals_bytes}
use Rattle.wasm_encoder_custom.specs.Custom.{custom_body}
use Rattle.wasm_encoder_custom.specs.BranchHints.{function_hints_bytes, hints_section}
use Rattle.wasm_encoder_custom.specs.Names.{name_section}
use Rattle.wasm_encoder_items.specs.Segments.{data_bytes}
use Rattle.wasm_encoder_sections.specs.Codes.{function_item}
use Rattle.wasm_encoder_sections.proofs.Short.{short}
use Rattle.wasm_encoder.specs.Module.{numbered}
use Rattle.wast_grammar.specs.Tokens.{Name}
use Rattle.wast_grammar.specs.Spelling.{same_name}
use Rattle.wast_parser.specs.Identifiers.{Named}
use Rattle.wast_customs.specs.CustomTree.{CustomPlace}
use Rattle.wast_module_fields.specs.FieldTree.{Field}
use Rattle.wasm_layout.specs.AbstractModule.{Function, FunctionHints, NameMaps, AbstractModule}
use Rattle.wasm_layout.specs.IsModule.{IsU32, IfThere, Rise, AreNames}
use Rattle.wasm_layout.specs.Layout.{Piece, Known, Free, piece_bytes, if_there, section, functions_in, function_at, placed_hints, name_bytes}
use Rattle.wasm_layout.specs.Lays.{PiecesFit, Fits}
use Rattle.wasm_layout.specs.Present.{has_any, has_names, is_called, is_present}
use Rattle.wasm_layout.specs.Section.{Starts, DataCount, Hints, Codes, Datas, Names}
use Rattle.wast_meant.specs.CustomsMeant.{custom_of, customs_in, At, Of}
use Rattle.wast_meant.specs.FieldsMeant.{datas_of}
use Rattle.wast_meant.specs.NamesMeant.{given_name}
use Rattle.wast_meant.specs.Binary.{bytes_of}
use Rattle.wast_meaning.specs.Made.{is_made}
use Rattle.wast_meant.specs.Meaning.{without_customs}
use Rattle.wast_meant.proofs.Renamed.{named}
use Rattle.wast_meant_laws.proofs.AtStops.{in_one_gap}
use Rattle.wast_meant_laws.proofs.Gaps.{called_same}
use Rattle.wast_encode_laws.proofs.Hints.{hint_functions}
use Rattle.wast_encode_laws.proofs.NameMaps.{are_names}
use Rattle.wast_section_items.specs.Fits.{DataFits, BodyFits}
use Rattle.wast_custom_sections.specs.Parts.{sections_at}
use Rattle.wast_custom_sections.specs.Hints.{PlacesFit, FunctionFits, function_in, hints_in, hint_pieces, HintsFit}
use Rattle.wast_name_maps.specs.Maps.{maps_in}
use Rattle.wast_binary.specs.Can.{CanEncode}
use Rattle.wast_binary.specs.DataCount.{field_says_data}
use Rattle.wast_binary.specs.Parts.{module_of, pieces_of, KindSound}
use Rattle.wast_binary.specs.Puts.{Puts, PutsCount, start_bytes, PutsNames, unless, FitsUnless}
use Rattle.wast_binary.specs.Weight.{AreFew}
use Rattle.wast_binary.proofs.DataCount.{fields_say}
use Rattle.wast_binary.proofs.FewNames.{names_fit, bodies_fit}
use Rattle.wast_binary.proofs.Listed.{PutsKind, counted_map, code_counts}
use Rattle.wast_binary.proofs.Laid.{size_at}
use Rattle.wast_binary.proofs.PutLists.{size_fits}
use Rattle.wast_binary.proofs.SectionSizes.{list_fits, data_some, data_fits}

-- what is encoded by pieces
pub encodes_puts : (m : AbstractModule (List ℕ)) (ps : List Piece) (Sound : Type 0) (bytes : List ℕ) (fits : Type 0) (before after : List ℕ) (r : Result (Unit {0}) EncodeError)
    → bytes ≡ flat_map piece_bytes ps → (fits → PiecesFit ps) → (Fits m → PiecesFit ps → fits) → Sound → Encodes bytes fits before after r → Puts m ps Sound before after r
encodes_puts m ps Sound bytes fits before after (Ok v) e to from s h = record {
  put = h.spelled ∙ ap (λ b. before ++ b) e;
  sizes = to h.fit;
  sound = s;
  too_large = λ t whole sizes. h.too_large t (from whole sizes);
}
encodes_puts m ps Sound bytes fits before after (Err error) e to from s h = record { put = tt; sizes = tt; sound = tt; too_large = λ t whole sizes. h.too_large t (from whole sizes) }

-- THE START FUNCTION
start_pieces : (o : Option ℕ) → start_bytes o ≡ flat_map piece_bytes (map Known (if_there (is_some o) (record { kind = Starts; contents = optional uleb o })))
start_pieces None = refl
start_pieces (Some n) = sym (append-nil (numbered 8 (sized (uleb n))))

start_sizes : (o : Option ℕ) → IfThere IsU32 o → PiecesFit (map Known (if_there (is_some o) (record { kind = Starts; contents = optional uleb o })))
start_sizes None h = tt
start_sizes (Some n) h = (short n h, tt)

-- THE COUNT of data segments
module _ (m : AbstractModule (List ℕ)) (count : ℕ) (fits : Fits m → IsU32 count) (before after : List ℕ) where
  count_puts : (needed : Bool) (r : Result (Unit {0}) EncodeError) → PutsCount needed count before after r
      → Puts m (map Known (if_there needed (record { kind = DataCount; contents = uleb count }))) (Unit {0}) before after r
  count_puts true (Ok v) h = record {
    put = h.put ∙ ap (λ b. before ++ b) (sym (append-nil (numbered 12 (sized (uleb count)))));
    sizes = (short count h.size, tt);
    sound = tt;
    too_large = λ t whole sizes. h.too_large t (fits whole);
  }
  count_puts true (Err e) h = record { put = tt; sizes = tt; sound = tt; too_large = λ t whole sizes. h.too_large t (fits whole) }
  count_puts false (Ok v) h = record { put = h.put; sizes = tt; sound = tt; too_large = λ t whole sizes. h.too_large t tt }
  count_puts false (Err e) h = record { put = tt; sizes = tt; sound = tt; too_large = λ t whole sizes. h.too_large t tt }

-- BRANCH HINTS
abbrev hint_contents : (ℕ → Option Function) → List FunctionHints → List ℕ
hint_contents at gs = custom_body (hints_section (listed function_hints_bytes (map (placed_hints at) gs)))

-- of functions that are imported, and then of these
placed_fit : (P : Function → Type 0) (k : ℕ) (fns : List Function) → AllByRecursion P fns → (n : ℕ) → IfThere P (option_flatten (slice_get (replicate k None ++ map (λ f. Some f) fns) n))
placed_fit P zero [] h n = tt
placed_fit P zero (f ∷ fns) h zero = h.0
placed_fit P zero (f ∷ fns) h (suc n) = placed_fit P zero fns h.1 n
placed_fit P (suc k) fns h zero = tt
placed_fit P (suc k) fns h (suc n) = placed_fit P k fns h n

body_places : (f : Function) → BodyFits f → PlacesFit f.body
body_places f h =
    let is = f.body.instructions in
    let whole = length-append (locals_bytes f.body.locals) (expr_bytes is) in
    let end = length-append (flat_map instr_bytes is) (0x0B ∷ []) in
    let all = ap (λ is. length (flat_map instr_bytes is)) (take_all (length is) is (omega arith)) in
    record { locals = h.locals; places = omega (arith, h.size, whole, end, all) }

all_places : (fns : List Function) → AllByRecursion BodyFits fns → AllByRecursion (λ f. PlacesFit f.body) fns
all_places [] h = tt
all_places (f ∷ fns) h = (body_places f h.0, all_places fns h.1)

risen : (least : ℕ) (gs : List FunctionHints) → Rise least (map (λ g. g.function) gs) → (at : ℕ → Option Function) → ((n : ℕ) → IfThere (λ f. PlacesFit f.body) (at n)) → All (FunctionFits at) gs
risen least [] h at fits = All-nil (FunctionFits at)
risen least (g ∷ gs) h at fits = All-cons (FunctionFits at) g gs (record { number = h.1; body = fits g.function }) (risen (suc g.function) gs h.2 at fits)

-- NAMES
not_either : (taken has : Bool) → not (taken || not has) ≡ (has && not taken)
not_either true true = refl
not_either true false = refl
not_either false true = refl
not_either false false = refl

-- the section, kept away or not
module _ (m : AbstractModule (List ℕ)) (names : NameMaps (List ℕ)) (are : AreNames names) (before after : List ℕ) where
  abbrev name_contents : List ℕ
  name_contents = custom_body (name_section (name_bytes names))

  names_puts : (away there : Bool) (r : Result (Unit {0}) EncodeError) → not away ≡ there
      → OnOk r (after ≡ before ++ unless away (numbered 0 (sized name_contents))) → OnOk r (FitsUnless away (IsU32 (length name_contents)))
      → (IsErrOf r TooLarge → AreNames names → FitsUnless away (IsU32 (length name_contents)) → ⊥)
      → Puts m (map Known (if_there there (record { kind = Names; contents = name_contents }))) (Unit {0}) before after r
  names_puts true true r e put size large = absurd (false≢true e)
  names_puts true false (Ok v) e put size large = record { put = put; sizes = tt; sound = tt; too_large = λ t whole sizes. large t are tt }
  names_puts true false (Err error) e put size large = record { put = tt; sizes = tt; sound = tt; too_large = λ t whole sizes. large t are tt }
  names_puts false true (Ok v) e put size large = record {
    put = put ∙ ap (λ b. before ++ b) (sym (append-nil (numbered 0 (sized name_contents))));
    sizes = (size, tt);
    sound = tt;
    too_large = λ t whole sizes. large t are sizes.0;
  }
  names_puts false true (Err error) e put size large = record { put = tt; sizes = tt; sound = tt; too_large = λ t whole sizes. large t are sizes.0 }
  names_puts false false r e put size large = absurd (false≢true (sym e))

-- OF A MODULE of resolved fields
module _ (given : Option (List ℕ)) (id : Option (Named Name ℕ)) (fs : List (Field Name ℕ)) where
  abbrev that : AbstractModule (List ℕ)
  that = module_of given id fs

  module _ (before after : List ℕ) (r : Result (Unit {0}) EncodeError) where
    pub put_customs : (place : CustomPlace) → Encodes (flat_map piece_bytes (map Free (sections_at fs place))) (PiecesFit (map Free (sections_at fs place))) before after r
        → Puts that (pieces_of fs that (At place)) (Unit {0}) before after r
    put_customs place h =
        encodes_puts that (pieces_of fs that (At place)) (Unit {0}) (flat_map piece_bytes (map Free (sections_at fs place))) (PiecesFit (map Free (sections_at fs place))) before after r
        refl (λ fit. fit) (λ whole sizes. sizes) tt h

    pub put_start : IfThere IsU32 that.start → Encodes (start_bytes that.start) (Unit {0}) before after r → PutsKind given id fs Starts before after r
    put_start sound h =
        encodes_puts that (pieces_of fs that (Of Starts)) (KindSound that Starts) (start_bytes that.start) (Unit {0}) before after r
        (start_pieces that.start) (λ u. start_sizes that.start sound) (λ whole sizes. tt) sound h

    -- where data segments fit, their count does
    data_count_fits : Fits that → IsU32 (length that.datas)
    data_count_fits whole = (list_fits (data_bytes expr_bytes) DataFits data_fits data_some that.datas (size_fits Datas (data_bytes expr_bytes) DataFits DataFits that.datas (size_at given id fs whole 37 (omega arith)))).0

    pub put_data_count : PutsCount (list_any field_says_data fs) (length (flat_map datas_of fs)) before after r → PutsKind given id fs DataCount before after r
    put_data_count h =
        subst (λ b. Puts that (map Known (if_there b (section that DataCount))) (Unit {0}) before after r) (fields_say fs)
        (count_puts that (length that.datas) data_count_fits before after (list_any field_says_data fs) r h)

    module _ (can : CanEncode fs) (few : AreFew fs) where
      same_functions : function_in fs ≡ function_at that
      same_functions = ap {B = ℕ → Option Function} (λ (os : List (Option Function)) n. option_flatten (slice_get os n)) can.placed

      same_hints : hint_pieces fs ≡ pieces_of fs that (Of Hints)
      same_hints = ap (λ (at : ℕ → Option Function). map Known (if_there (has_any (hints_in fs)) (record { kind = Hints; contents = hint_contents at (hints_in fs) }))) same_functions

      code_sizes : PiecesFit (pieces_of fs that (Of Codes)) → PiecesFit (map Known (if_there (has_any that.functions) (record { kind = Codes; contents = counted (λ (f : Function). function_item (body_bytes f.body)) that.functions })))
      code_sizes h =
          subst (λ c. PiecesFit (map Known (if_there (has_any that.functions) (record { kind = Codes; contents = c }))))
          (sym (counted_map function_item (λ (f : Function). body_bytes f.body) that.functions)) h

      function_places : Fits that → (n : ℕ) → IfThere (λ f. PlacesFit f.body) (function_in fs n)
      function_places whole n =
          let size = size_fits Codes (λ (f : Function). function_item (body_bytes f.body)) BodyFits BodyFits that.functions (code_sizes (size_at given id fs whole 34 (omega arith))) in
          let bodies = (code_counts given id fs before after r whole size).1 in
          subst (λ at. IfThere (λ f. PlacesFit f.body) (at n)) (sym same_functions) (placed_fit (λ f. PlacesFit f.body) (sum_by functions_in that.imports) that.functions (all_places that.functions bodies) n)

      hints_fit : Fits that → PiecesFit (pieces_of fs that (Of Hints)) → HintsFit fs
      hints_fit whole sizes = record {
        functions = risen 0 (hints_in fs) (hint_functions fs (bodies_fit fs few)) (function_in fs) (function_places whole);
        section = subst PiecesFit (sym same_hints) sizes;
      }

      pub put_hints : Encodes (flat_map piece_bytes (hint_pieces fs)) (HintsFit fs) before after r → PutsKind given id fs Hints before after r
      put_hints h =
          encodes_puts that (pieces_of fs that (Of Hints)) (Unit {0}) (flat_map piece_bytes (hint_pieces fs)) (HintsFit fs) before after r
          (ap (flat_map piece_bytes) same_hints) (λ fit. subst PiecesFit same_hints fit.section) hints_fit tt h

      -- names
      names_are : AreNames (maps_in given id fs)
      names_are = named bytes_of _ (are_names same_name is_made fs (given_name is_made given id) (names_fit same_name is_made fs few can.settled))

      same_called : is_called (codes "name") that.customs ≡ is_called (codes "name") (map custom_of (flat_map customs_in fs) ∷ [])
      same_called = called_same (codes "name") (flat_map customs_in fs) (is_present (in_one_gap (flat_map customs_in fs) (without_customs same_name is_made (given_name is_made given id) fs)))

      pub put_names : PutsNames (is_called (codes "name") (map custom_of (flat_map customs_in fs) ∷ [])) (maps_in given id fs) before after r → PutsKind given id fs Names before after r
      put_names h =
          let taken = is_called (codes "name") (map custom_of (flat_map customs_in fs) ∷ []) in
          let has = has_names that.names in
          let there : not (taken || not has) ≡ is_present that Names = not_either taken has ∙ ap (λ b. has && not b) (sym same_called) in
          names_puts that that.names names_are before after (taken || not has) (is_present that Names) r there h.put h.size h.too_large
