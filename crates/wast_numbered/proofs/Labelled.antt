-- Labels, and instructions one after the other.
use Rattle.std.proofs.Common.{◌≡◌, ℕ, List, [], ◌∷◌, ◌++◌, map, Option, None, refl, sym, ◌∙◌, ap}
use Rattle.std.proofs.lemmas.List.{map-append}
use Rattle.wasm_encoder_base.specs.Balanced.{Turn, Opens, Closes, Stays}
use Rattle.wast_grammar.specs.Tokens.{Name}
use Rattle.wast_grammar.specs.Spelling.{same_name}
use Rattle.wast_parser.specs.Identifiers.{Named}
use Rattle.wast_names.specs.Walk.{reached}
use Rattle.wast_names.specs.Space as names
use Rattle.wast_names.proofs.Walk.{reached_append, threaded_append}
use Rattle.wast_core_instr.specs.InstructionTree as spec
use Rattle.wast_core_instr.specs.InstructionViews.{instruction_operands, instruction_tree, bulk_operands, gc_operands, vector_arg_operands, proposal_operands}
use Rattle.wast_core_instr.specs.declared.instruction.Instruction.{Instruction}
use Rattle.wast_core_instr.specs.declared.instruction.Instruction.TheVariants as instructions
use Rattle.wast_core_instr.specs.declared.bulk.BulkOp.{BulkOp}
use Rattle.wast_core_instr.specs.declared.bulk.BulkOp.TheVariants as bulks
use Rattle.wast_core_instr.specs.declared.gc.GcOp.{GcOp}
use Rattle.wast_core_instr.specs.declared.gc.GcOp.TheVariants as gcs
use Rattle.wast_core_instr.specs.declared.vector_arg.VectorArgOp.{VectorArgOp}
use Rattle.wast_core_instr.specs.declared.vector_arg.VectorArgOp.TheVariants as vector_args
use Rattle.wast_core_instr.specs.declared.proposal.ProposalOp.{ProposalOp}
use Rattle.wast_core_instr.specs.declared.proposal.ProposalOp.TheVariants as proposals
use Rattle.wast_meaning.specs.Changed.{instr_changed, instrs_changed}
use Rattle.wast_meaning.specs.Numbered.{numbering}
use Rattle.wast_meaning.specs.Scope.{turn_of_head, own_label, labels_left, labels_found, labels_seen, open_labels}
use Rattle.wast_meaning.specs.Spaces.{listed}
use Rattle.wast_meaning.proofs.Labels.{stacked, found_so}
use Rattle.wast_spaces.specs.declared.spaces.Spaces.{Spaces}
use Rattle.wast_numbered.specs.Place.{by_place, here}
use Rattle.wast_numbered.specs.Steps.{behind, step_of}

-- INSTRUCTIONS WITHOUT A LABEL of their own
bulk_unlabelled : (op : BulkOp) → None ≡ own_label (bulk_operands op)
bulk_unlabelled (bulks.DataDrop index) = refl
bulk_unlabelled op = refl

gc_unlabelled : (op : GcOp) → None ≡ own_label (gc_operands op)
gc_unlabelled gcs.RefIsNull = refl
gc_unlabelled op = refl

vector_arg_unlabelled : (op : VectorArgOp) → None ≡ own_label (vector_arg_operands op)
vector_arg_unlabelled (vector_args.V128Const value) = refl
vector_arg_unlabelled op = refl

proposal_unlabelled : (op : ProposalOp) → None ≡ own_label (proposal_operands op)
proposal_unlabelled proposals.Pause = refl
proposal_unlabelled op = refl

pub unlabelled : (i : Instruction)
    → ((x : _) → i ≡ instructions.Block x → ⊥) → ((x : _) → i ≡ instructions.Loop x → ⊥) → ((x : _) → i ≡ instructions.If x → ⊥) → ((x : _) → i ≡ instructions.Try x → ⊥)
    → ((x : _) → i ≡ instructions.TryTable x → ⊥) → None ≡ own_label (instruction_operands i)
unlabelled (instructions.Block x) b l c t u = absurd (b x refl)
unlabelled (instructions.Loop x) b l c t u = absurd (l x refl)
unlabelled (instructions.If x) b l c t u = absurd (c x refl)
unlabelled (instructions.Try x) b l c t u = absurd (t x refl)
unlabelled (instructions.TryTable x) b l c t u = absurd (u x refl)
unlabelled (instructions.Bulk op) b l c t u = bulk_unlabelled op
unlabelled (instructions.Gc op) b l c t u = gc_unlabelled op
unlabelled (instructions.VectorArg op) b l c t u = vector_arg_unlabelled op
unlabelled (instructions.Proposal op) b l c t u = proposal_unlabelled op.value
unlabelled i b l c t u = refl

-- WHAT IS SEEN AND LEFT
abbrev Blocks : Type 0
Blocks = List (Option (Named Name ℕ))

behind_so : {A : Type 0} (t : Turn) (label : A) (labels : List A) → behind t label (labels_found t labels) ≡ labels_left t label labels
behind_so Opens label labels = refl
behind_so Closes label labels = refl
behind_so Stays label labels = refl

-- ONE MORE INSTRUCTION in a loop
abbrev backward : List (spec.Instruction Name ℕ) → spec.Instruction Name ℕ → List (spec.Instruction Name ℕ)
backward before i = i ∷ before

abbrev before_now : List Instruction → List (spec.Instruction Name ℕ)
before_now xs = reached (λ before i. i ∷ before) [] (map instruction_tree xs)

before_more : (xs : List Instruction) (x : Instruction) → before_now (xs ++ x ∷ []) ≡ instruction_tree x ∷ before_now xs
before_more xs x = ap (reached backward []) (map-append instruction_tree xs (x ∷ [])) ∙ reached_append backward [] (map instruction_tree xs) (instruction_tree x ∷ [])

-- what an instruction does to labels
abbrev pub Does : Type 0
Does = Turn × Option (Named Name ℕ)

pub labels_more : (xs : List Instruction) (x : Instruction) (step : Does) (labels new : Blocks) → step ≡ step_of (instruction_tree x) → labels ≡ open_labels (before_now xs)
    → new ≡ behind step.0 step.1 (labels_found step.0 labels) → new ≡ open_labels (before_now (xs ++ x ∷ []))
labels_more xs x step labels new is before next =
    let i = instruction_tree x in
    next
    ∙ ap (λ l. behind step.0 step.1 (labels_found step.0 l)) before
    ∙ ap (λ (s : Does). behind s.0 s.1 (labels_found s.0 (open_labels (before_now xs)))) is
    ∙ behind_so (turn_of_head i.head) (own_label i.operands) (open_labels (before_now xs))
    ∙ sym (stacked i (before_now xs))
    ∙ ap open_labels (sym (before_more xs x))

module _ (s : Spaces) (locals : names.Space Name) where
  abbrev at_labels : Blocks → spec.Instruction Name ℕ → spec.Instruction Name ℕ
  at_labels labels i = instr_changed (numbering (here s locals (listed same_name labels))) i

  pub made_more : (xs : List Instruction) (x y : Instruction) (made new : List Instruction) (step : Does) (labels : Blocks) → step ≡ step_of (instruction_tree x) → labels ≡ open_labels (before_now xs)
      → map instruction_tree made ≡ instrs_changed (by_place s locals) [] (map instruction_tree xs)
      → instruction_tree y ≡ instr_changed (numbering (here s locals (listed same_name (labels_found step.0 labels)))) (instruction_tree x)
      → new ≡ made ++ y ∷ []
      → map instruction_tree new ≡ instrs_changed (by_place s locals) [] (map instruction_tree (xs ++ x ∷ []))
  made_more xs x y made new step labels is before made_so y_so push =
      let i = instruction_tree x in
      let seen_here : labels_found step.0 labels ≡ labels_seen (turn_of_head i.head) (before_now xs)
      = ap (labels_found step.0) before ∙ ap (λ (s : Does). labels_found s.0 (open_labels (before_now xs))) is ∙ sym (found_so (turn_of_head i.head) (before_now xs)) in
      let tree : instruction_tree y ≡ instr_changed (by_place s locals (before_now xs) i) i = y_so ∙ ap (λ l. at_labels l i) seen_here in
      ap (map instruction_tree) push ∙ map-append instruction_tree made (y ∷ [])
      ∙ ap (λ l. l ++ instruction_tree y ∷ []) made_so
      ∙ ap (λ j. instrs_changed (by_place s locals) [] (map instruction_tree xs) ++ j ∷ []) tree
      ∙ sym (ap (instrs_changed (by_place s locals) []) (map-append instruction_tree xs (x ∷ []))
      ∙ threaded_append backward (λ earlier j. instr_changed (by_place s locals earlier j) j) [] (map instruction_tree xs) (i ∷ []))
