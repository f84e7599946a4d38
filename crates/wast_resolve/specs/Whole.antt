-- Whole lists of fields and modules, resolved, where a counter makes the names of what has none.
use Rattle.std.specs.Prelude.{◌≡◌, ◌⊎◌, ℕ, ◌+◌, Bool, true, false, List, None, Some, count_by}
use Rattle.wasm_encoder_base.specs.Table.{Space}
use Rattle.wast_grammar.specs.Tokens.{Name}
use Rattle.wast_grammar.specs.Spelling.{same_name}
use Rattle.wast_parser.specs.Problem.{Problem}
use Rattle.wast_parser.specs.Reading.{out_of_memory}
use Rattle.wast_names.specs.Demand.{Demand, is_met}
use Rattle.wast_names.specs.Walk.{first_unmet}
use Rattle.wast_names.specs.Space as names
use Rattle.wast_field_syntax.specs.FieldTree.{Field, Content, Fields, Pieces, Module}
use Rattle.wast_meaning.specs.Demands.{all_demands}
use Rattle.wast_meaning.specs.Modules.{content_fields}
use Rattle.wast_meaning.specs.Numbered.{resolved}
use Rattle.wast_meaning.specs.Written.{by_counter, takes_name, written_out}
use Rattle.wast_meaning.specs.Made.{made}
use Rattle.wast_resolve.specs.Resolving.{Means, resolver_spaces}
use Rattle.wast_resolve.specs.declared.whole.Names.{Names}

-- the fields written out, their demands, and what they are resolved to, where the counter has come so far
module _ (counter : ℕ) (fs : List (Field Name ℕ)) where
  abbrev pub written_by : List (Field Name ℕ)
  written_by = written_out (by_counter made counter fs) fs

  abbrev pub demands_by : List (Demand Name ℕ)
  demands_by = all_demands same_name (by_counter made counter fs) fs

  abbrev pub resolved_by : List (Field Name ℕ)
  resolved_by = resolved same_name (by_counter made counter fs) fs

-- how far the counter has come then
abbrev pub counter_after : ℕ → List (Field Name ℕ) → ℕ
counter_after counter fs = counter + count_by takes_name fs

-- the index spaces in which names are looked up
abbrev pub names_spaces : Names → Space → names.Space Name
names_spaces n = resolver_spaces n.resolver

-- Fields that meet all demands, how far the counter comes, what they become, and what their names mean.
abbrev pub AreResolved : ℕ → List (Field Name ℕ) → ℕ → List (Field Name ℕ) → Names → Type 0
AreResolved counter old after new n =
    (first_unmet is_met (demands_by counter old) ≡ None) × (new ≡ resolved_by counter old) × Means (names_spaces n) (written_by counter old) × (after ≡ counter_after counter old)

-- of a module only its fields change, and pieces of a binary don't
abbrev pub content_by : ℕ → Content Name ℕ → Content Name ℕ
content_by counter (Fields fs) = Fields (resolved_by counter fs)
content_by counter (Pieces pieces) = Pieces pieces

abbrev pub is_pieces : Content Name ℕ → Bool
is_pieces (Fields fs) = false
is_pieces (Pieces pieces) = true

abbrev pub module_by : ℕ → Module Name ℕ → Module Name ℕ
module_by counter m = record { place = m.place; id = m.id; given = m.given; content = content_by counter m.content; refusal = m.refusal }

-- the demands of a module
abbrev pub module_demands_by : ℕ → Module Name ℕ → List (Demand Name ℕ)
module_demands_by counter m = demands_by counter (content_fields m.content)

-- A module that is refused keeps why, and tells a copy of that, or that there was no memory for one.
pub record IsRefused (after : Module Name ℕ) (p : Problem) : Type 0 where
  pub why : Problem
  pub kept : after.refusal ≡ Some why
  pub told : (p ≡ why) ⊎ (p ≡ out_of_memory)

-- Two modules have one place and one name.
pub record IsCalledAlike (before after : Module Name ℕ) : Type 0 where
  pub place : after.place ≡ before.place
  pub id : after.id ≡ before.id
  pub given : after.given ≡ before.given
