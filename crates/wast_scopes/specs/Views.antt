-- What contracts see of scopes and places.
use Rattle.std.specs.Prelude.{◌≡◌, ◌⊎◌, ℕ, [], slice_get, Option, Some, None}
use Rattle.std.proofs.Common.{inl, inr}
use Rattle.wasm_encoder_base.specs.Table.{Space, Labels, Locals, Fields}
use Rattle.wast_grammar.specs.Tokens.{Name}
use Rattle.wast_parser.specs.Problem.{Problem}
use Rattle.wast_parser.specs.Reading.{out_of_memory}
use Rattle.wast_names.specs.Demand.{Demand, Tells}
use Rattle.wast_names.specs.Space as names
use Rattle.wast_names.specs.Views.{space}
use Rattle.wast_meaning.specs.Scope.{locals_or}
use Rattle.wast_spaces.specs.Views.{spaces_of, fields_of_types}
use Rattle.wast_spaces.specs.declared.spaces.Spaces.{Spaces}
use Rattle.wast_scopes.specs.Numbered.{Look}
use Rattle.wast_scopes.specs.Signatures.{signatures, sig_in}
use Rattle.wast_scopes.specs.Known.{Known, with_labels}
use Rattle.wast_scopes.specs.declared.scope.Scope.{Scope}
use Rattle.wast_scopes.specs.declared.place.Place.{Place}

-- labels, locals and fields have no space of the module
abbrev pub module_look : Spaces → Space → Look
module_look s Labels n = None
module_look s Locals n = None
module_look s Fields n = None
module_look s t n = (spaces_of s t).look n

abbrev pub look_in : Option (names.Space Name) → Look
look_in None n = None
look_in (Some s) n = s.look n

-- what is known outside blocks
abbrev pub known : Scope → Known
known c = record {
  look = locals_or (space c.locals).look (module_look c.spaces.now);
  fields = λ t. look_in (slice_get (fields_of_types c.spaces.now) t);
  sig_of = sig_in (signatures c.signatures.now);
  blocks = [];
}

-- what is known among the blocks that are open
abbrev pub known_here : Place → Known
known_here p = with_labels (known p.scope.now) p.labels.now p.labels.now

-- The fault tells of this demand, or of none: there was no memory.
abbrev pub Refused : Option (Demand Name ℕ) → Problem → Type 0
Refused d p = (p ≡ out_of_memory) ⊎ Tells d p

pub refused_anywhere : (d : Option (Demand Name ℕ)) (p : Problem) → Refused None p → Refused d p
refused_anywhere d p (inl memory) = inl memory
refused_anywhere d p (inr never) = absurd never
