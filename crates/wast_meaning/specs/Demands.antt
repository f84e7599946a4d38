-- What names of a module must keep to, each demand at its place, in the order in which they are tested (WebAssembly 3.0, 6.1.3,
-- 6.5, and 6.6, type uses and modules). The first that is not met is the complaint.
use Rattle.std.specs.Prelude.{ℕ, nat_eq, Bool, true, false, if◌then◌else◌, List, [], ◌∷◌, ◌++◌, map, Option, Some, None, option_and_then, option_map, option_to_list, codes}
use Rattle.std.specs.List.{flat_map}
use Rattle.wasm_encoder_base.specs.Table.{Space, Locals, Functions, Types, Fields}
use Rattle.wast_parser.specs.Identifiers.{Named, Reference, ByNumber, ByName}
use Rattle.wast_names.specs.Position.{bears}
use Rattle.wast_names.specs.Walk.{walked}
use Rattle.wast_names.specs.Demand.{Demand, ImportAfter, TypeMismatch, LabelMismatch}
use Rattle.wast_names.specs.Space as names
use Rattle.wast_names.specs.Space.{name_in, number_of, known}
use Rattle.wast_field_syntax.specs.TypeTree.{Sig, TypeUse}
use Rattle.wast_field_syntax.specs.InstructionTree.{Instruction}
use Rattle.wast_field_syntax.specs.FieldTree.{Function, Defined, Imported, Field, ImportField, Define}
use Rattle.wast_meaning.specs.Written.{space_of_kind, kind_of, written_out}
use Rattle.wast_meaning.specs.Mentions.{Mention, Refers, Member, Uses, UsesInBlock, Repeats, Part, Says, Constant, Body, use_mentions, local_mentions, instr_mentions, parts}
use Rattle.wast_meaning.specs.Spaces.{Bound, same_space, space_word, items}
use Rattle.wast_meaning.specs.Implied.{same_option, same_sig}
use Rattle.wast_meaning.specs.Scope.{Scope, scope_of, with_locals, scope_at, members, locals_of}

-- what a definition is called in complaints
abbrev pub definition_word : Space → List ℕ
definition_word Functions = codes "function"
definition_word s = space_word s

module _ {N P : Type 0} where
  -- FIRST: imports, inline ones too, stand before definitions, of which the nearest is told (6.6, modules)
  abbrev pub space_defined : Defined N P → Option Space
  space_defined (Imported from name t) = None
  space_defined d = Some (space_of_kind (kind_of d))

  abbrev pub nearest : Option Space → Field N P → Option Space
  nearest before (Define d) = elim (space_defined d.defined) [ Some s ↦ Some s | None ↦ before ]
  nearest before f = before

  -- where an import stands
  abbrev pub import_place : Field N P → Option P
  import_place (ImportField i) = Some i.place
  import_place (Define d) = elim (space_defined d.defined) [ Some s ↦ None | None ↦ Some d.place ]
  import_place f = None

  abbrev pub import_after : P → Space → Demand N P
  import_after p s = record { place = p; complaint = ImportAfter (definition_word s); holds = false }

  abbrev pub order_demand : Option Space → Field N P → List (Demand N P)
  order_demand before f = option_to_list (option_and_then (λ p. option_map (import_after p) before) (import_place f))

  abbrev pub order_demands : List (Field N P) → List (Demand N P)
  order_demands fs = walked order_demand nearest None fs

module _ {N P : Type 0} (eq : N → N → Bool) where
  -- SECOND: no item bears the identifier of an earlier one of its space (6.1.3); a type, then its fields. Of segments the last counts.
  abbrev pub item_demand : (Space → names.Space N) → Bound N P → List (Demand N P)
  item_demand spaces b = names.fresh (space_word b.space) (spaces b.space) b.id ++ names.distinct eq (space_word Fields) b.fields

  -- the index spaces, where an item joins its own
  abbrev pub spaces_after : (Space → names.Space N) → Bound N P → Space → names.Space N
  spaces_after spaces b s = if same_space s b.space then names.after_item eq (space_word s) (spaces s) b.id else spaces s

  abbrev pub item_demands : List (Bound N P) → List (Demand N P)
  item_demands bs = walked item_demand spaces_after (λ s. names.empty) bs

module _ {N P : Type 0} where
  -- THIRD: what is mentioned. An index that is a number may be any; a name means something.
  abbrev pub place_of : Reference N P → P
  place_of (ByNumber n p) = p
  place_of (ByName id) = id.1

  -- a signature is that of the type, as numbered, where that is a function type of the module (6.6, type uses)
  abbrev pub same_numbered : Scope N P → Reference N P → Reference N P → Bool
  same_numbered s i j = same_option nat_eq (number_of (s.spaces Types) i) (number_of (s.spaces Types) j)

  abbrev pub agrees : Scope N P → Sig N P → Option (Sig N P) → Bool
  agrees s sig None = true
  agrees s sig (Some other) = same_sig (same_numbered s) sig other

  abbrev pub agreement : Scope N P → Reference N P → Sig N P → Demand N P
  agreement s i sig = record { place = place_of i; complaint = TypeMismatch; holds = agrees s sig (option_and_then s.sig_of (number_of (s.spaces Types) i)) }

  abbrev pub agreements : Scope N P → TypeUse N P → List (Demand N P)
  agreements s u = flat_map (λ i. map (agreement s i) (option_to_list u.inline)) (option_to_list u.index)

module _ {N P : Type 0} (eq : N → N → Bool) where
  -- a name that is repeated is that of the block that it stands in; outside all blocks it is ignored (6.5, control instructions)
  abbrev pub is_own : N → List (Option (Named N P)) → Bool
  is_own n [] = true
  is_own n (block ∷ blocks) = bears eq n (name_in block)

  -- what a type use says itself is told below
  abbrev pub says_demands : Scope N P → Mention N P → List (Demand N P)
  says_demands s (Refers space i) = known (space_word space) (s.spaces space) i
  says_demands s (Member t i) = known (space_word Fields) (members s t) i
  says_demands s (Repeats id) = record { place = id.1; complaint = LabelMismatch; holds = is_own id.0 s.blocks } ∷ []
  says_demands s _ = []

  -- the index of a use, then the types of its signature, then that the two agree
  abbrev pub use_demands : Scope N P → TypeUse N P → List (Demand N P)
  use_demands s u = flat_map (says_demands s) (use_mentions u) ++ agreements s u

  abbrev pub mention_demands : Scope N P → Mention N P → List (Demand N P)
  mention_demands s (Uses u) = use_demands s u
  mention_demands s (UsesInBlock u) = use_demands s u
  mention_demands s m = says_demands s m

  -- an instruction where it stands, after those before it, the nearest first
  abbrev pub instr_demands : Scope N P → List (Instruction N P) → Instruction N P → List (Demand N P)
  instr_demands s before i = flat_map (mention_demands (scope_at eq s before i)) (instr_mentions i)

  abbrev pub instrs_demands : Scope N P → List (Instruction N P) → List (Instruction N P) → List (Demand N P)
  instrs_demands s before is = walked (instr_demands s) (λ earlier i. i ∷ earlier) before is

  -- a function: its use, the types of locals, the names of parameters and locals, the instructions
  abbrev pub func_demands : Scope N P → Function N P → List (Demand N P)
  func_demands s f =
      use_demands s f.type_use
      ++ flat_map (mention_demands s) (local_mentions f.locals)
      ++ names.distinct eq (space_word Locals) (locals_of s f)
      ++ instrs_demands (with_locals eq s (locals_of s f)) [] f.body.instrs

  abbrev pub part_demands : Scope N P → Part N P → List (Demand N P)
  part_demands s (Says m) = mention_demands s m
  part_demands s (Constant e) = instrs_demands s [] e.instrs
  part_demands s (Body f) = func_demands s f

  abbrev pub field_demands : Scope N P → Field N P → List (Demand N P)
  field_demands s f = flat_map (part_demands s) (parts f)

  -- of fields as they are; of what they are written out as the same are met, fresh names aside
  abbrev pub demands : List (Field N P) → List (Demand N P)
  demands fs = order_demands fs ++ item_demands eq (flat_map items fs) ++ flat_map (field_demands (scope_of eq fs)) fs

  -- of fields, where writing them out takes these fresh names
  abbrev pub all_demands : (ℕ → N) → List (Field N P) → List (Demand N P)
  all_demands naming fs = demands (written_out naming fs)
