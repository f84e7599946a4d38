-- What is known at a place of a module (WebAssembly 3.0, 6.1.3: identifier contexts), and labels (6.5).
use Rattle.std.specs.Prelude.{ℕ, zero, suc, Bool, List, [], ◌∷◌, ◌++◌, drop, length, map, Option, Some, None, option_and_then, unwrap_or}
use Rattle.wasm_encoder_base.specs.Table.{Space, Labels, Locals, Types}
use Rattle.wasm_encoder_base.specs.Balanced.{Turn, Opens, Closes, Stays, turn_of}
use Rattle.wast_parser.specs.Identifiers.{Named, Reference}
use Rattle.wast_names.specs.Space as names
use Rattle.wast_names.specs.Space.{number_of}
use Rattle.wast_field_syntax.specs.TypeTree.{Sig, TypeUse}
use Rattle.wast_mnemonics.specs.Heads.{Head, Listed, Unlisted}
use Rattle.wast_field_syntax.specs.InstructionTree.{Operands, Instruction, Block, TryTable}
use Rattle.wast_field_syntax.specs.FieldTree.{Function, Field}
use Rattle.wast_meaning.specs.Spaces.{items_in, fields_at, denotes, listed}
use Rattle.wast_meaning.specs.Implied.{no_sig, sig_at, type_count}

-- LABELS
abbrev pub turn_of_head : Head → Turn
turn_of_head (Listed e) = turn_of e.opcode
turn_of_head (Unlisted mnemonic) = Stays

abbrev pub opened : {A : Type 0} → A → ℕ → (ℕ → List A) → List A
opened label zero outside = label ∷ outside zero
opened label (suc closed) outside = outside closed

abbrev pub turned : {A : Type 0} → Turn → A → ℕ → (ℕ → List A) → List A
turned Opens label closed outside = opened label closed outside
turned Closes label closed outside = outside (suc closed)
turned Stays label closed outside = outside closed

-- the labels of the open blocks, the innermost first, after what opens or closes one
abbrev pub labels_left : {A : Type 0} → Turn → A → List A → List A
labels_left Opens label labels = label ∷ labels
labels_left Closes label labels = drop 1 labels
labels_left Stays label labels = labels

-- and those among which it looks labels up: what closes a block, as `delegate`, looks outside it
abbrev pub labels_found : {A : Type 0} → Turn → List A → List A
labels_found Closes labels = drop 1 labels
labels_found _ labels = labels

module _ {N P : Type 0} where
  abbrev pub own_label : Operands N P → Option (Named N P)
  own_label (Block b) = b.label
  own_label (TryTable t) = t.block.label
  own_label _ = None

  abbrev pub labels_after : List (Option (Named N P)) → Instruction N P → List (Option (Named N P))
  labels_after labels i = labels_left (turn_of_head i.head) (own_label i.operands) labels

  -- The labels of the openers that are still open, the innermost first, counting backward over the instructions before a place,
  -- the nearest first: so many openers to come are closed again.
  abbrev pub labels_from : List (Instruction N P) → ℕ → List (Option (Named N P))
  labels_from [] closed = []
  labels_from (i ∷ before) closed = turned (turn_of_head i.head) (own_label i.operands) closed (labels_from before)

  abbrev pub open_labels : List (Instruction N P) → List (Option (Named N P))
  open_labels before = labels_from before 0

  -- those among which an instruction looks labels up: one that closes a block, as `delegate`, after that; one that opens a
  -- block, as `try_table`, before that
  abbrev pub labels_seen : Turn → List (Instruction N P) → List (Option (Named N P))
  labels_seen Closes before = labels_from before 1
  labels_seen _ before = labels_from before 0

-- a name means the nearest opener still open that bears it; its number is how many blocks are open inside that
abbrev pub label_space : {N P : Type 0} → (N → N → Bool) → List (Instruction N P) → Instruction N P → names.Space N
label_space eq before i = listed eq (labels_seen (turn_of_head i.head) before)

-- SCOPES: the index spaces, and those of the fields of each type; the signatures of function types; the labels of the open blocks
pub record Scope (N P : Type 0) : Type 0 where
  pub spaces : Space → names.Space N
  pub fields : ℕ → names.Space N
  pub sig_of : ℕ → Option (Sig N P)
  pub blocks : List (Option (Named N P))

-- the same with other labels, or other locals
abbrev pub labels_or : {A : Type 0} → A → (Space → A) → Space → A
labels_or a others Labels = a
labels_or a others s = others s

abbrev pub locals_or : {A : Type 0} → A → (Space → A) → Space → A
locals_or a others Locals = a
locals_or a others s = others s

module _ {N P : Type 0} (eq : N → N → Bool) where
  -- the index spaces of a module
  abbrev pub space_count : List (Field N P) → Space → ℕ
  space_count fs Types = type_count eq fs
  space_count fs s = length (items_in s fs)

  abbrev pub index_space : List (Field N P) → Space → names.Space N
  index_space fs s = record { count = space_count fs s; look = denotes eq fs s }

  -- outside bodies
  abbrev pub scope_of : List (Field N P) → Scope N P
  scope_of fs = record { spaces = index_space fs; fields = λ t. listed eq (fields_at fs t); sig_of = sig_at eq fs; blocks = [] }

  -- in a body with these parameters and locals
  abbrev pub with_locals : Scope N P → List (Option (Named N P)) → Scope N P
  with_locals s ids = record s { spaces = locals_or (listed eq ids) s.spaces }

  -- for an instruction after these, the nearest first
  abbrev pub scope_at : Scope N P → List (Instruction N P) → Instruction N P → Scope N P
  scope_at s before i = record s { spaces = labels_or (label_space eq before i) s.spaces; blocks = open_labels before }

module _ {N P : Type 0} where
  -- the space of the fields of the struct type that an index names
  abbrev pub members : Scope N P → Reference N P → names.Space N
  members s t = elim (number_of (s.spaces Types) t) [ Some k ↦ s.fields k | None ↦ names.empty ]

  -- the parameters of a use: those written, else, unnamed, those of the function type that its index names
  abbrev pub params_of_index : Scope N P → Option (Reference N P) → List (Option (Named N P))
  params_of_index s None = []
  params_of_index s (Some i) = map (λ p. None) (unwrap_or (option_and_then s.sig_of (number_of (s.spaces Types) i)) no_sig).params

  abbrev pub params_of : Scope N P → TypeUse N P → List (Option (Named N P))
  params_of s u = elim u.inline [ Some sig ↦ map (λ p. p.id) sig.params | None ↦ params_of_index s u.index ]

  -- the space of locals: parameters, then locals (6.6, functions)
  abbrev pub locals_of : Scope N P → Function N P → List (Option (Named N P))
  locals_of s f = params_of s f.type_use ++ map (λ l. l.id) f.locals
