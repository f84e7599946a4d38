-- What is known at a place of a module, as code knows it, and what is demanded of mentions by it: a scope of the definitions is seen
-- by which number names mean, by its function types as numbered, and by its labels.
use Rattle.std.specs.Prelude.{ℕ, is_some, List, [], ◌∷◌, ◌++◌, map, Option, Some, None, option_and_then, option_map, option_to_list}
use Rattle.std.specs.List.{flat_map}
use Rattle.wasm_encoder_base.specs.Table.{Space, Locals, Types, Fields}
use Rattle.wast_grammar.specs.Tokens.{Name}
use Rattle.wast_grammar.specs.Spelling.{same_name}
use Rattle.wast_parser.specs.Identifiers.{Named, Reference, ByNumber, ByName}
use Rattle.wast_names.specs.Position.{position}
use Rattle.wast_names.specs.Walk.{walked}
use Rattle.wast_names.specs.Demand.{Demand, Unknown, TypeMismatch, LabelMismatch}
use Rattle.wast_names.specs.Space as names
use Rattle.wast_names.specs.Space.{name_in}
use Rattle.wast_signatures.specs.TypeTree.{Sig, TypeUse}
use Rattle.wast_core_instr.specs.InstructionTree.{Instruction}
use Rattle.wast_module_fields.specs.FieldTree.{Function}
use Rattle.wast_meaning.specs.Spaces.{space_word}
use Rattle.wast_meaning.specs.Mentions.{Mention, Refers, Member, Uses, UsesInBlock, Repeats, Part, Says, Constant, Body, use_mentions, local_mentions, instr_mentions}
use Rattle.wast_meaning.specs.Scope.{Scope, labels_or, locals_or, turn_of_head, labels_found, labels_after}
use Rattle.wast_meaning.specs.Demands.{place_of, is_own}
use Rattle.wast_scopes.specs.Numbered.{Look, number_by, NumberedSig, numbered_sig, same_sig_by, params_in}

abbrev pub Labelled : Type 0
Labelled = List (Option (Named Name ℕ))

pub record Known : Type 0 where
  pub look : Space → Look
  pub fields : ℕ → Look
  pub sig_of : ℕ → Option NumberedSig
  pub blocks : Labelled

-- WHAT A SCOPE TELLS
abbrev pub known_in : Scope Name ℕ → Known
known_in s = record {
  look = λ t. (s.spaces t).look;
  fields = λ n. (s.fields n).look;
  sig_of = λ n. option_map (numbered_sig (s.spaces Types).look) (s.sig_of n);
  blocks = s.blocks;
}

-- by the place in a list
abbrev pub look_among : Labelled → Look
look_among ids n = position same_name n (map name_in ids)

-- the same with locals; and with labels, of blocks that are open and of those that are looked into
abbrev pub with_locals : Known → Labelled → Known
with_locals k ids = record { look = locals_or (look_among ids) k.look; fields = k.fields; sig_of = k.sig_of; blocks = k.blocks }

abbrev pub with_labels : Known → (seen blocks : Labelled) → Known
with_labels k seen blocks = record { look = labels_or (look_among seen) k.look; fields = k.fields; sig_of = k.sig_of; blocks = blocks }

-- at an instruction, in the blocks that are open there
abbrev pub known_at : Known → Labelled → Instruction Name ℕ → Known
known_at k blocks i = with_labels k (labels_found (turn_of_head i.head) blocks) blocks

-- WHAT IS DEMANDED
abbrev pub known_by : List ℕ → Look → Reference Name ℕ → List (Demand Name ℕ)
known_by kind look (ByNumber n p) = []
known_by kind look (ByName id) = record { place = id.1; complaint = Unknown kind id.0; holds = is_some (look id.0) } ∷ []

abbrev pub members_by : Known → Reference Name ℕ → Look
members_by k t n = option_and_then (λ i. k.fields i n) (number_by (k.look Types) t)

abbrev pub repeats_by : Labelled → Named Name ℕ → Demand Name ℕ
repeats_by blocks id = record { place = id.1; complaint = LabelMismatch; holds = is_own same_name id.0 blocks }

abbrev pub says_by : Known → Mention Name ℕ → List (Demand Name ℕ)
says_by k (Refers space i) = known_by (space_word space) (k.look space) i
says_by k (Member t i) = known_by (space_word Fields) (members_by k t) i
says_by k (Repeats id) = repeats_by k.blocks id ∷ []
says_by k _ = []

abbrev pub sig_by : Known → Reference Name ℕ → Option NumberedSig
sig_by k i = option_and_then k.sig_of (number_by (k.look Types) i)

abbrev pub agreement_by : Known → Reference Name ℕ → Sig Name ℕ → Demand Name ℕ
agreement_by k i sig = record { place = place_of i; complaint = TypeMismatch; holds = same_sig_by (k.look Types) sig (sig_by k i) }

abbrev pub agreements_by : Known → TypeUse Name ℕ → List (Demand Name ℕ)
agreements_by k u = flat_map (λ i. map (agreement_by k i) (option_to_list u.inline)) (option_to_list u.index)

abbrev pub use_by : Known → TypeUse Name ℕ → List (Demand Name ℕ)
use_by k u = flat_map (says_by k) (use_mentions u) ++ agreements_by k u

abbrev pub mention_by : Known → Mention Name ℕ → List (Demand Name ℕ)
mention_by k (Uses u) = use_by k u
mention_by k (UsesInBlock u) = use_by k u
mention_by k m = says_by k m

abbrev pub instr_by : Known → Labelled → Instruction Name ℕ → List (Demand Name ℕ)
instr_by k blocks i = flat_map (mention_by (known_at k blocks i)) (instr_mentions i)

abbrev pub instrs_by : Known → Labelled → List (Instruction Name ℕ) → List (Demand Name ℕ)
instrs_by k blocks is = walked (instr_by k) labels_after blocks is

-- the parameters of the function type that an index names
abbrev pub params_of_index_by : Known → Option (Reference Name ℕ) → Labelled
params_of_index_by k i = params_in (option_and_then (sig_by k) i)

abbrev pub params_by : Known → TypeUse Name ℕ → Labelled
params_by k u = elim u.inline [ Some sig ↦ map (λ p. p.id) sig.params | None ↦ params_of_index_by k u.index ]

abbrev pub locals_by : Known → Function Name ℕ → Labelled
locals_by k f = params_by k f.type_use ++ map (λ l. l.id) f.locals

abbrev pub func_by : Known → Function Name ℕ → List (Demand Name ℕ)
func_by k f =
    use_by k f.type_use
    ++ flat_map (mention_by k) (local_mentions f.locals)
    ++ names.distinct same_name (space_word Locals) (locals_by k f)
    ++ instrs_by (with_locals k (locals_by k f)) [] f.body.instrs

abbrev pub part_by : Known → Part Name ℕ → List (Demand Name ℕ)
part_by k (Says m) = mention_by k m
part_by k (Constant e) = instrs_by k [] e.instrs
part_by k (Body f) = func_by k f
