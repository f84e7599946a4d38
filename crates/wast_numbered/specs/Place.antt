-- What is known where indices become numbers.
use Rattle.std.specs.Prelude.{ℕ, List, [], replicate, Option, Some, None, option_map, unwrap_or, slice_get}
use Rattle.wasm_encoder_base.specs.Table as table
use Rattle.wast_grammar.specs.Tokens.{Name}
use Rattle.wast_grammar.specs.Spelling.{same_name}
use Rattle.wast_parser.specs.Identifiers.{Named, Reference}
use Rattle.wast_names.specs.Walk.{reached}
use Rattle.wast_names.specs.Space as names
use Rattle.wast_names.specs.Views.{space}
use Rattle.wast_value_types.specs.ValueTree.{Number, I32}
use Rattle.wast_signatures.specs.TypeTree.{Local, Sig}
use Rattle.wast_meaning.specs.Spaces.{listed}
use Rattle.wast_core_instr.specs.InstructionTree.{Instruction}
use Rattle.wast_meaning.specs.Scope.{Scope, label_space, labels_or, locals_or, locals_of}
use Rattle.wast_meaning.specs.Changed.{Change, Changes}
use Rattle.wast_meaning.specs.Numbered.{numbering}
use Rattle.wast_spaces.specs.declared.spaces.Spaces.{Spaces}
use Rattle.wast_spaces.specs.Views.{spaces_of, fields_of_types}
use Rattle.wast_numbered.specs.declared.place.Numbering.{Numbering}
use Rattle.wast_numbered.specs.declared.place.Place.{Place}

-- a parameter without a name
abbrev pub nameless : Local Name ℕ
nameless = record { id = None; given = None; val_type = Number I32 }

-- a signature with so many parameters, of which nothing else counts
abbrev pub sig_with : ℕ → Sig Name ℕ
sig_with count = record { params = replicate count nameless; results = [] }

-- the names of the fields of a type, and of that which an index names
abbrev pub fields_in : Spaces → ℕ → names.Space Name
fields_in s t = unwrap_or (slice_get (fields_of_types s) t) names.empty

abbrev pub members_in : Spaces → Reference Name ℕ → names.Space Name
members_in s t = elim (names.number_of (spaces_of s table.Types) t) [ Some k ↦ fields_in s k | None ↦ names.empty ]

-- items that join a space, each with its name or none; of two that bear one the first keeps it
abbrev pub joined : names.Space Name → List (Option (Named Name ℕ)) → names.Space Name
joined s ids = reached (λ t id. names.grown same_name t (names.name_in id)) s ids

-- outside of instructions
abbrev pub scope_with : Spaces → List ℕ → Scope Name ℕ
scope_with s params = record {
  spaces = spaces_of s;
  fields = fields_in s;
  sig_of = λ t. option_map sig_with (slice_get params t);
  blocks = [];
}

abbrev pub scope : Numbering → Scope Name ℕ
scope n = scope_with n.spaces.now n.params.now

-- at an instruction, where these locals and labels are known
abbrev pub here : Spaces → names.Space Name → names.Space Name → Scope Name ℕ
here s locals labels = record {
  spaces = labels_or labels (locals_or locals (spaces_of s));
  fields = fields_in s;
  sig_of = λ t. None;
  blocks = [];
}

abbrev pub scope_here : Place → Scope Name ℕ
scope_here p = here p.spaces.now (space p.locals.now) (listed same_name p.labels.now)

-- at an instruction behind those before it, the nearest first
abbrev pub by_place : Spaces → names.Space Name → List (Instruction Name ℕ) → Instruction Name ℕ → Change Name ℕ
by_place s locals before i = numbering (here s locals (label_space same_name before i))

-- whole fields
abbrev pub numberings_by : Spaces → List ℕ → Changes Name ℕ
numberings_by s params = record {
  outside = numbering (scope_with s params);
  in_constant = by_place s (spaces_of s table.Locals);
  in_function = λ f. by_place s (joined names.empty (locals_of (scope_with s params) f));
}
