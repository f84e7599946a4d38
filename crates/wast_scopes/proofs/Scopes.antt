-- What is known with and without labels and locals, and what an instruction makes of labels.
use Rattle.std.proofs.Common.{◌≡◌, ℕ, [], ◌∷◌, drop, refl, subst, ◌∙◌, ap, Result}
use Rattle.std.specs.Prelude.{OnOk}
use Rattle.std.specs.List.{flat_map}
use Rattle.wasm_encoder_base.specs.Table.{Labels, Locals, Functions, Types, Tables, Memories, Globals, Tags, Datas, Elems, Fields}
use Rattle.wasm_encoder_base.specs.Table as table
use Rattle.wasm_encoder_base.specs.Balanced.{Turn, Opens, Closes, Stays}
use Rattle.wast_grammar.specs.Tokens.{Name}
use Rattle.wast_grammar.specs.Spelling.{same_name}
use Rattle.wast_parser.specs.Problem.{Problem}
use Rattle.wast_names.specs.Space as names
use Rattle.wast_names.specs.Demand.{Answers}
use Rattle.wast_names.specs.Views.{space}
use Rattle.wast_names.proofs.Positions.{numbers_of}
use Rattle.wast_core_instr.specs.InstructionTree.{Instruction}
use Rattle.wast_meaning.specs.Mentions.{instr_mentions}
use Rattle.wast_meaning.specs.Spaces.{space_word}
use Rattle.wast_meaning.specs.Scope.{turn_of_head, own_label, labels_left, labels_found, labels_after, locals_or, labels_or}
use Rattle.wast_scopes.specs.declared.scope.Scope.{Scope}
use Rattle.wast_scopes.specs.Known.{Known, Labelled, look_among, with_labels, with_locals, mention_by, instr_by}
use Rattle.wast_scopes.specs.Views.{known, module_look}

-- outside blocks no label is known
pub no_labels : (c : Scope) → with_labels (known c) [] [] ≡ known c
no_labels c = λ i. record { look = λ t. of t i; fields = (known c).fields; sig_of = (known c).sig_of; blocks = [] }
  where
    of : (t : table.Space) → labels_or (look_among []) (known c).look t ≡ (known c).look t
    of Labels = refl
    of Locals = refl
    of Functions = refl
    of Types = refl
    of Tables = refl
    of Memories = refl
    of Globals = refl
    of Tags = refl
    of Datas = refl
    of Elems = refl
    of Fields = refl

pub outside : (c : Scope) (labels : Labelled) → labels ≡ [] → with_labels (known c) labels labels ≡ known c
outside c labels e = ap (λ l. with_labels (known c) l l) e ∙ no_labels c

-- the same with locals
pub known_with : (c d : Scope) (ids : Labelled) → d.spaces ≡ c.spaces → d.signatures ≡ c.signatures → space d.locals ≡ names.space_of same_name (space_word Locals) ids
    → known d ≡ with_locals (known c) ids
known_with c d ids spaces signatures locals = λ i. record {
  look = λ t. of t i;
  fields = (known (record c { spaces = spaces i })).fields;
  sig_of = (known (record c { signatures = signatures i })).sig_of;
  blocks = [];
}
  where
    same : module_look d.spaces.now ≡ module_look c.spaces.now
    same = λ i. module_look (spaces i).now

    of : (t : table.Space) → locals_or (space d.locals).look (module_look d.spaces.now) t ≡ locals_or (look_among ids) (locals_or (space c.locals).look (module_look c.spaces.now)) t
    of Labels = λ i. same i Labels
    of Locals = λ i n. (ap (λ (s : names.Space Name). s.look n) locals ∙ numbers_of same_name (space_word Locals) ids n) i
    of Functions = λ i. same i Functions
    of Types = λ i. same i Types
    of Tables = λ i. same i Tables
    of Memories = λ i. same i Memories
    of Globals = λ i. same i Globals
    of Tags = λ i. same i Tags
    of Datas = λ i. same i Datas
    of Elems = λ i. same i Elems
    of Fields = λ i. same i Fields

-- INSTRUCTIONS by what they do to blocks
module _ {T : Type 0} (r : Result T Problem) (k : Known) (old new : Labelled) (i : Instruction Name ℕ) where
  pub opened : Opens ≡ turn_of_head i.head → OnOk r (new ≡ own_label i.operands ∷ old) → OnOk r (new ≡ labels_after old i)
  opened turn h = subst (λ t. OnOk r (new ≡ labels_left t (own_label i.operands) old)) turn h

  pub closed : Closes ≡ turn_of_head i.head → OnOk r (new ≡ drop 1 old) → OnOk r (new ≡ labels_after old i)
  closed turn h = subst (λ t. OnOk r (new ≡ labels_left t (own_label i.operands) old)) turn h

  pub stayed : Stays ≡ turn_of_head i.head → OnOk r (new ≡ old) → OnOk r (new ≡ labels_after old i)
  stayed turn h = subst (λ t. OnOk r (new ≡ labels_left t (own_label i.operands) old)) turn h

  abbrev Heard : Turn → Type 0
  Heard t = Answers r (flat_map (mention_by (with_labels k (labels_found t old) old)) (instr_mentions i))

  pub heard_opened : Opens ≡ turn_of_head i.head → Answers r (flat_map (mention_by (with_labels k old old)) (instr_mentions i)) → Answers r (instr_by k old i)
  heard_opened turn h = subst Heard turn h

  pub heard_stayed : Stays ≡ turn_of_head i.head → Answers r (flat_map (mention_by (with_labels k old old)) (instr_mentions i)) → Answers r (instr_by k old i)
  heard_stayed turn h = subst Heard turn h

  pub heard_closed : Closes ≡ turn_of_head i.head → Answers r (flat_map (mention_by (with_labels k (drop 1 old) old)) (instr_mentions i)) → Answers r (instr_by k old i)
  heard_closed turn h = subst Heard turn h
