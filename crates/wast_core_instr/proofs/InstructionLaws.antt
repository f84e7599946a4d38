-- The laws of the syntax of instructions: each mirrors its production.
use Rattle.std.proofs.Common.{◌≡◌, refl, sym, ap, subst, ◌∙◌, List, [], ◌++◌, Some, inl, inr, false, true, cond}
use Rattle.std.proofs.lemmas.Bool.{cases_Bool}
use Rattle.std.proofs.lemmas.Option.{same_Some}
use Rattle.wasm_encoder_base.specs.OperandSyntax.{OperandSyntax}
use Rattle.wasm_encoder_base.specs.OperandSyntax as rows
use Rattle.wast_typed_operands.specs.Tokens.{SignificantToken}
use Rattle.wast_typed_operands.specs.Look.{Test, look, at, join, id_starts}
use Rattle.wast_typed_operands.proofs.Looks.{bind_ok, absurd_of, in_join, within, sub_law}
use Rattle.wast_typed_operands.specs.Lawful.{LawfulBut, Settles}
use Rattle.wast_typed_operands.specs.Grammar.{Syntax, wide, nothing, next}
use Rattle.wast_typed_operands.specs.Identifiers.{identifier, index}
use Rattle.wast_typed_operands.proofs.GrammarLaws.{Lawful, among_laws, nothing_laws, seen_laws, next_laws, next_own, maybe_laws, bound_laws, seen_settles}
use Rattle.wast_typed_operands.proofs.IdentifierLaws.{identifier_laws, index_laws}
use Rattle.wast_typed_operands.proofs.ValueLaws.{heap_type_laws, ref_type_laws}
use Rattle.wast_operands.specs.OperandSyntax.{two_indices, optional_index}
use Rattle.wast_vector_operands.proofs.VectorLaws.{signed_literal_laws, float_literal_laws, lane_laws, shuffle_laws, vector_laws}
use Rattle.wast_operands.proofs.OperandLaws.{two_indices_laws, index_count_laws, label_table_laws, optional_index_laws, optional_indices_laws, one_or_two_laws, optional_ordering_laws, ordered_laws as behind_laws, mem_arg_laws, mem_arg_lane_laws, resume_laws, resume_throw_laws}
use Rattle.wast_typed_operands.specs.TypedSyntax.{catch_starts}
use Rattle.wast_typed_operands.proofs.TypedLaws.{block_laws, try_table_laws, try_table_settles, indirect_laws, select_types_laws, cast_laws}
use Rattle.wast_mnemonics.specs.TextTable.{TextOperands, TextEntry, text_table}
use Rattle.wast_mnemonics.specs.TextTable as text
use Rattle.wast_core_instr.specs.InstructionTree.{Operands, Instruction}
use Rattle.wast_core_instr.specs.InstructionSyntax.{instruction_starts, listed, ordered, operands, row_starts, row_stops, own_operands, own, mnemonic, as_instruction, instruction}

-- what would go on with the operands of a row
abbrev row_own : TextOperands → List Test
row_own (text.Listed rows.TryTable) = catch_starts
row_own _ = []

-- the stops of each row are among those of all and what goes on with it
listed_within : (N P : Type 0) (o : OperandSyntax) → within (listed {N = N} {P = P} o).stops (join row_stops (row_own (text.Listed o)))
listed_within N P rows.Plain = sub_law (listed {N = N} {P = P} rows.Plain).stops (join row_stops (row_own (text.Listed rows.Plain))) refl
listed_within N P o = sub_law (listed {N = N} {P = P} o).stops (join row_stops (row_own (text.Listed o))) refl

ordered_within : (N P : Type 0) (o : OperandSyntax) → within (ordered {N = N} {P = P} o).stops (join row_stops [])
ordered_within N P rows.Plain = sub_law (ordered {N = N} {P = P} rows.Plain).stops (join row_stops []) refl
ordered_within N P o = sub_law (ordered {N = N} {P = P} o).stops (join row_stops []) refl

row_within : (N P : Type 0) (o : TextOperands) → within (operands {N = N} {P = P} o).stops (join row_stops (row_own o))
row_within N P (text.Listed o) = listed_within N P o
row_within N P (text.Ordered o) = ordered_within N P o
row_within N P o = sub_law (operands {N = N} {P = P} o).stops (join row_stops (row_own o)) refl

module _ {N P : Type 0} where
  listed_laws : (o : OperandSyntax) → Lawful (listed {N = N} {P = P} o)
  listed_laws rows.Plain = seen_laws _ _ nothing_laws
  listed_laws rows.Name = seen_laws _ _ (maybe_laws id_starts identifier identifier_laws refl refl refl)
  listed_laws rows.Block = seen_laws _ _ block_laws
  listed_laws rows.TryTable = seen_laws _ _ try_table_laws
  listed_laws (rows.Index s) = seen_laws _ _ index_laws
  listed_laws (rows.Indices s t) = seen_laws _ _ two_indices_laws
  listed_laws (rows.IndexCount s) = seen_laws _ _ index_count_laws
  listed_laws rows.BrTable = seen_laws _ _ label_table_laws
  listed_laws rows.Indirect = seen_laws _ _ indirect_laws
  listed_laws (rows.OptionalIndex s) = seen_laws _ _ optional_index_laws
  listed_laws (rows.Copy s) = seen_laws _ _ optional_indices_laws
  listed_laws (rows.Init s t) = seen_laws _ _ one_or_two_laws
  listed_laws rows.Heap = seen_laws _ _ heap_type_laws
  listed_laws rows.Ref = seen_laws _ _ ref_type_laws
  listed_laws rows.RefNull = seen_laws _ _ ref_type_laws
  listed_laws rows.Cast = seen_laws _ _ cast_laws
  listed_laws rows.I32 = seen_laws _ _ (signed_literal_laws 32)
  listed_laws rows.I64 = seen_laws _ _ (signed_literal_laws 64)
  listed_laws rows.F32 = seen_laws _ _ float_literal_laws
  listed_laws rows.F64 = seen_laws _ _ float_literal_laws
  listed_laws rows.V128 = seen_laws _ _ vector_laws
  listed_laws rows.Results = seen_laws _ _ select_types_laws
  listed_laws rows.Lane = seen_laws _ _ lane_laws
  listed_laws rows.Shuffle = seen_laws _ _ shuffle_laws
  listed_laws (rows.Mem n) = seen_laws _ _ (mem_arg_laws n)
  listed_laws (rows.MemLane n) = seen_laws _ _ (mem_arg_lane_laws n)
  listed_laws rows.Fence = seen_laws _ _ optional_ordering_laws

  pub ordered_laws : (o : OperandSyntax) → Lawful (ordered {N = N} {P = P} o)
  ordered_laws (rows.Index s) = seen_laws _ _ (behind_laws index index_laws refl)
  ordered_laws (rows.Indices s t) = seen_laws _ _ (behind_laws two_indices two_indices_laws refl)
  ordered_laws (rows.OptionalIndex s) = seen_laws _ _ (behind_laws optional_index optional_index_laws refl)
  ordered_laws _ = seen_laws _ _ (behind_laws nothing nothing_laws refl)

  pub operands_laws : (o : TextOperands) → Lawful (operands {N = N} {P = P} o)
  operands_laws (text.Listed o) = listed_laws o
  operands_laws (text.Ordered o) = ordered_laws o
  operands_laws text.SelectTypes = seen_laws _ _ select_types_laws
  operands_laws text.AnyRef = seen_laws _ _ ref_type_laws
  operands_laws text.Resume = seen_laws _ _ resume_laws
  operands_laws text.ResumeThrow = seen_laws _ _ resume_throw_laws

  -- IN THE BOUNDS OF ALL ROWS
  abbrev bounded : TextOperands → Syntax N P (Operands N P)
  bounded o = wide row_starts true (join row_stops catch_starts) (operands o)

  listed_bounded : (o : OperandSyntax) → Lawful (bounded (text.Listed o))
  listed_bounded rows.Plain = bound_laws _ _ _ (listed_laws rows.Plain) refl refl
  listed_bounded o = bound_laws _ _ _ (listed_laws o) refl refl

  ordered_bounded : (o : OperandSyntax) → Lawful (bounded (text.Ordered o))
  ordered_bounded rows.Plain = bound_laws _ _ _ (ordered_laws rows.Plain) refl refl
  ordered_bounded o = bound_laws _ _ _ (ordered_laws o) refl refl

  bounded_laws : (o : TextOperands) → Lawful (bounded o)
  bounded_laws (text.Listed o) = listed_bounded o
  bounded_laws (text.Ordered o) = ordered_bounded o
  bounded_laws o = bound_laws _ _ _ (operands_laws o) refl refl

  -- WHAT GOES ON WITH THEM
  listed_own : (o : OperandSyntax) (a : Operands N P) (us : List (SignificantToken N P)) → (listed o).spells a us → own_operands a ≡ row_own (text.Listed o)
  listed_own rows.Plain a us s = sym (ap own_operands s.1)
  listed_own o a us s = sym (ap own_operands s.1)

  ordered_own : (o : OperandSyntax) (a : Operands N P) (us : List (SignificantToken N P)) → (ordered o).spells a us → own_operands a ≡ []
  ordered_own rows.Plain a us s = sym (ap own_operands s.1)
  ordered_own o a us s = sym (ap own_operands s.1)

  own_is : (o : TextOperands) (a : Operands N P) (us : List (SignificantToken N P)) → (operands o).spells a us → own_operands a ≡ row_own o
  own_is (text.Listed o) a us s = listed_own o a us s
  own_is (text.Ordered o) a us s = ordered_own o a us s
  own_is o a us s = sym (ap own_operands s.1)

  row_settles : (o : TextOperands) → Settles (operands {N = N} {P = P} o) (row_own o)
  row_settles (text.Listed rows.TryTable) = seen_settles _ _ catch_starts try_table_settles
  row_settles o = record { settled = λ ts x e. refl }

  free : (o : TextOperands) (rest : List (SignificantToken N P)) → at row_stops rest ≡ false → at (row_own o) rest ≡ false → at (operands {N = N} {P = P} o).stops rest ≡ false
  free o rest n m = elim (cases_Bool (at (operands {N = N} {P = P} o).stops rest)) [
    | inl y ↦ absurd_of _ (row_within N P o (look rest) y) (in_join (look rest) row_stops (row_own o) ∙ ap (λ b. cond b true (at (row_own o) rest)) n ∙ m)
    | inr z ↦ z
  ]

  -- INSTRUCTIONS
  mnemonic_laws : Lawful (mnemonic {N = N} {P = P})
  mnemonic_laws = among_laws (λ t. t.mnemonic) text_table []

  abbrev parts : Syntax N P ((TextEntry × P) × Operands N P)
  parts = next mnemonic (λ t. operands t.0.operands) row_starts true (join row_stops catch_starts)

  parts_laws : Lawful parts
  parts_laws = next_laws mnemonic (λ t. operands t.0.operands) row_starts true (join row_stops catch_starts) mnemonic_laws (λ t. bounded_laws t.0.operands) refl

  pub instruction_laws : Lawful (instruction {N = N} {P = P})
  unfolding instruction
  instruction_laws = seen_laws as_instruction parts parts_laws

  settled : (ts : List (SignificantToken N P)) (x : Instruction N P × List (SignificantToken N P)) → instruction.reads ts ≡ Some x → at (own x.0) x.1 ≡ false
  unfolding instruction
  settled ts x e =
      let b = bind_ok (parts.reads ts) _ x e in
      let c = bind_ok (mnemonic.reads ts) _ b.0 b.1 in
      let o = c.0.0.0.operands in
      let d = bind_ok ((operands o).reads c.0.1) _ b.0 c.2 in
      let s = (operands_laws o).sound c.0.1 d.0 d.1 in
      let q : at (own_operands d.0.0) d.0.1 ≡ false = rw (own_is o d.0.0 s.taken s.spelled) ((row_settles o).settled c.0.1 d.0 d.1) in
      let r = subst (λ (z : ((TextEntry × P) × Operands N P) × List (SignificantToken N P)). at (own_operands z.0.1) z.1 ≡ false) (same_Some _ _ d.2) q in
      subst (λ (z : Instruction N P × List (SignificantToken N P)). at (own z.0) z.1 ≡ false) (same_Some _ _ b.2) r

  complete : (a : Instruction N P) (us rest : List (SignificantToken N P)) → instruction.spells a us → at row_stops rest ≡ false → at (own a) rest ≡ false → instruction.reads (us ++ rest) ≡ Some (a, rest)
  unfolding instruction
  complete a us rest s n m =
      let o = s.0.0.0.operands in
      let k : at (own_operands s.0.1) rest ≡ false = subst (λ (z : Instruction N P). at (own z) rest ≡ false) (sym s.1) m in
      let j : at (row_own o) rest ≡ false = subst (λ ts. at ts rest ≡ false) (own_is o s.0.1 s.2.1 s.2.4) k in
      rw (next_own mnemonic (λ t. operands t.0.operands) row_starts true (join row_stops catch_starts) mnemonic_laws (λ t. operands_laws t.0.operands) refl s.0 us rest s.2 (free o rest n j)) (ap (λ v. Some (v, rest)) s.1)

  -- where nothing goes on with an instruction's own operands, its stops are those of all
  pub instruction_but : LawfulBut (wide instruction_starts false row_stops (instruction {N = N} {P = P})) own
  unfolding instruction
  instruction_but = record {
    sound = λ ts x e. (let s = instruction_laws.sound ts x e in record { taken = s.taken; parts = s.parts; spelled = s.spelled });
    settled = settled;
    complete = complete;
    leads = instruction_laws.leads;
    whole = instruction_laws.whole;
  }
