-- Bodies of functions as they are meant.
use Rattle.std.proofs.Common.{◌≡◌, ℕ, ◌+◌, ◌<◌, ◌^◌, List, [], ◌∷◌, ◌++◌, map, take, length, All, slice_index_or, append-nil, append_assoc, sym, ap, ◌∙◌, subst}
use Rattle.std.specs.Prelude.{Result, Err, OnOk}
use Rattle.std.specs.List.{flat_map, AllByRecursion}
use Rattle.std.proofs.lemmas.Grind.{flat_map-append}
use Rattle.std.proofs.lemmas.List.{take_more}
use Rattle.std.proofs.lemmas.List.Elements.{All-map}
use Rattle.std.proofs.lemmas.List.Folds.{flat_map-map}
use Rattle.wasm_encoder_base.specs.Encodes.{Puts}
use Rattle.wasm_encoder_base.specs.EncodeError.{EncodeError}
use Rattle.wasm_encoder_base.specs.EncodeError.TheVariants.{Memory}
use Rattle.wasm_encoder_base.specs.Instr.{Instr, IsInstr, instr_bytes, counts_fit}
use Rattle.wasm_encoder_base.specs.Lists.{Listed}
use Rattle.wasm_encoder_base.specs.Types.{ValType, IsValType}
use Rattle.wasm_encoder_code.specs.Body.{body_bytes, locals_bytes}
use Rattle.wasm_encoder_code.specs.Locals.{LocalsFit}
use Rattle.wasm_encoder_code.specs.Sink.{IsMade}
use Rattle.wasm_encoder_instr.specs.declared.instruction.Instruction.{Instruction}
use Rattle.wasm_encoder_sections.specs.Codes.{function_item}
use Rattle.wasm_encoder_sections.specs.Writes.{Writes}
use Rattle.wasm_layout.specs.AbstractModule as abstract
use Rattle.wast_core_instr.specs.InstructionViews.{instruction_tree}
use Rattle.wast_core_instr.specs.declared.instruction.Instruction as tree
use Rattle.wast_fields.specs.FuncViews.{local_tree}
use Rattle.wast_fields.specs.Local.{Local}
use Rattle.wast_conversions.specs.Types.{val_meant}
use Rattle.wast_conversions.specs.Instructions.{instr_meant, instrs_meant}
use Rattle.wast_conversions.specs.Rows.{bytes_meant, FitsMeant}
use Rattle.wast_conversions.proofs.Each.{each_of}
use Rattle.wast_section_items.specs.Appends.{Appends}
use Rattle.wast_section_items.specs.Fits.{ExprFits, BodyFits}
use Rattle.wast_section_items.specs.Sound.{BodySound}
use Rattle.wast_section_items.proofs.Appending.{appends_one, unappended}

-- the bytes of one more
pub more_behind : (is : List tree.Instruction) (k : ℕ) (i : tree.Instruction) (start before after : List ℕ) → k < length is → i ≡ slice_index_or is k i
    → before ≡ start ++ flat_map bytes_meant (take k is) → after ≡ before ++ bytes_meant i → after ≡ start ++ flat_map bytes_meant (take (k + 1) is)
more_behind is k i start before after l e h p =
    let j = slice_index_or is k i in
    let front = flat_map bytes_meant (take k is) in
    let more = ap (flat_map bytes_meant) (take_more is k i l) ∙ flat_map-append bytes_meant (take k is) (j ∷ []) ∙ ap (λ b. front ++ b) (append-nil (bytes_meant j)) in
    p ∙ ap (λ b. b ++ bytes_meant i) h ∙ append_assoc start front (bytes_meant i) ∙ ap (λ b. start ++ b) (ap (λ x. front ++ bytes_meant x) e ∙ sym more)

-- instructions
abbrev all_meant : List tree.Instruction → List Instr
all_meant is = instrs_meant (map instruction_tree is)

bytes_of : (is : List tree.Instruction) → flat_map instr_bytes (all_meant is) ≡ flat_map bytes_meant is
unfolding bytes_meant
bytes_of is = flat_map-map instr_bytes instr_meant (map instruction_tree is) ∙ flat_map-map (λ i. instr_bytes (instr_meant i)) instruction_tree is

fit_of : (is : List tree.Instruction) → ExprFits (all_meant is) → All FitsMeant is
unfolding FitsMeant
fit_of is h = each_of (λ i. counts_fit (instr_meant i).operands) instruction_tree is (each_of (λ i. counts_fit i.operands) instr_meant (map instruction_tree is) h)

fit_again : (is : List tree.Instruction) → All FitsMeant is → ExprFits (all_meant is)
unfolding FitsMeant
fit_again is h =
    All-map (λ i. counts_fit i.operands) instr_meant (map instruction_tree is) (All-map (λ i. counts_fit (instr_meant i).operands) instruction_tree is h)

-- the same of instructions that are those of another list
pub puts_of : (js is : List tree.Instruction) (before after : List ℕ) (r : Result (Unit {0}) EncodeError) → js ≡ is
    → Puts (flat_map bytes_meant js) (All FitsMeant js) before after r → Puts (flat_map bytes_meant is) (All FitsMeant is) before after r
puts_of js is before after r e h = subst (λ ks. Puts (flat_map bytes_meant ks) (All FitsMeant ks) before after r) e h

pub sound_of : (js is : List tree.Instruction) (r : Result (Unit {0}) EncodeError) → js ≡ is → OnOk r (AllByRecursion IsInstr (all_meant js)) → OnOk r (AllByRecursion IsInstr (all_meant is))
sound_of js is r e h = subst (λ ks. OnOk r (AllByRecursion IsInstr (all_meant ks))) e h

-- BODIES
abbrev spell : abstract.Function → List ℕ
spell f = function_item (body_bytes f.body)

module _ (n : ℕ) (ts : List ValType) (is : List tree.Instruction) where
  abbrev of_meant : abstract.Function
  of_meant = record { type_index = n; body = record { locals = ts; instructions = all_meant is } }

  abbrev made_bytes : List ℕ
  made_bytes = locals_bytes ts ++ (flat_map bytes_meant is ++ 0x0B ∷ [])

  same_bytes : made_bytes ≡ body_bytes of_meant.body
  same_bytes = ap (λ v. locals_bytes ts ++ (v ++ 0x0B ∷ [])) (sym (bytes_of is))

  abbrev InRange : Type 0
  InRange = AllByRecursion IsValType ts × AllByRecursion IsInstr (all_meant is)

  pub adds_body : (bytes : List ℕ) (before after : Listed) (r : Result (Unit {0}) EncodeError) → bytes ≡ made_bytes → LocalsFit ts × All FitsMeant is → InRange
      → Writes (function_item bytes) (length bytes < 2 ^ 32) before after r → Appends spell BodyFits BodySound (of_meant ∷ []) before after r
  adds_body bytes before after r e fit ranges w =
      let same : bytes ≡ body_bytes of_meant.body = e ∙ same_bytes in
      appends_one spell BodyFits BodySound of_meant _ _ before after r (ap function_item same)
      (λ h. record { locals = fit.0; instructions = fit_again is fit.1; size = subst (λ b. length b < 2 ^ 32) same h })
      (λ h. subst (λ b. length b < 2 ^ 32) (sym same) h.size) (ranges.0, record { instructions = ranges.1 }) w

  pub no_body : (section : Listed) (e : EncodeError) → IsMade made_bytes (LocalsFit ts × All FitsMeant is) (Err e) → Appends spell BodyFits BodySound (of_meant ∷ []) section section (Err e)
  no_body section e h = unappended spell BodyFits BodySound (of_meant ∷ []) section e (λ t fit. h.too_large (ap Err t) (fit.0.locals, fit_of is fit.0.instructions))

-- the same of types that are those of other locals, and where these were refused
module _ (n : ℕ) (is : List Instr) where
  abbrev of_types : List ValType → abstract.Function
  of_types ts = record { type_index = n; body = record { locals = ts; instructions = is } }

  pub adds_types_of : (ts us : List ValType) (before after : Listed) (r : Result (Unit {0}) EncodeError) → ts ≡ us
      → Appends spell BodyFits BodySound (of_types ts ∷ []) before after r → Appends spell BodyFits BodySound (of_types us ∷ []) before after r
  adds_types_of ts us before after r e h = subst (λ vs. Appends spell BodyFits BodySound (of_types vs ∷ []) before after r) e h

  pub no_memory : (ts : List ValType) (section : Listed) → Appends spell BodyFits BodySound (of_types ts ∷ []) section section (Err Memory)
  no_memory ts section = unappended spell BodyFits BodySound (of_types ts ∷ []) section Memory (λ t fit. cc)

-- the same of locals that are those of another list
module _ (n : ℕ) (is : List Instr) where
  abbrev of_locals : List Local → abstract.Function
  of_locals ls = record { type_index = n; body = record { locals = map (λ l. val_meant l.val_type) (map local_tree ls); instructions = is } }

  pub adds_locals_of : (ls ks : List Local) (before after : Listed) (r : Result (Unit {0}) EncodeError) → ls ≡ ks
      → Appends spell BodyFits BodySound (of_locals ls ∷ []) before after r → Appends spell BodyFits BodySound (of_locals ks ∷ []) before after r
  adds_locals_of ls ks before after r e h = subst (λ js. Appends spell BodyFits BodySound (of_locals js ∷ []) before after r) e h
