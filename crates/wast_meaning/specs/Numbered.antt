-- Fields whose uses have their types, and whose indices are numbers; nothing else of them changes (WebAssembly 3.0, 6.1.3 and 6.6, type uses).
use Rattle.std.specs.Prelude.{ℕ, Bool, true, false, if◌then◌else◌, List, ◌++◌, map, Option, Some, None, option_map, unwrap_or}
use Rattle.wasm_encoder_base.specs.Table.{Types}
use Rattle.wast_parser.specs.Identifiers.{Reference, ByNumber}
use Rattle.wast_names.specs.Space as names
use Rattle.wast_field_syntax.specs.TypeTree.{Sig, FuncType, TypeUse}
use Rattle.wast_field_syntax.specs.FieldTree.{Field, TypeField, field_place}
use Rattle.wast_meaning.specs.Written.{written_out}
use Rattle.wast_meaning.specs.Implied.{no_sig, is_short, implied, type_taken}
use Rattle.wast_meaning.specs.Scope.{Scope, scope_of, with_locals, scope_at, members, locals_of}
use Rattle.wast_meaning.specs.Changed.{Change, Changes, field_changed}

-- USES THAT HAVE THEIR TYPES: each use without index takes the number of its type, at the place of its field; a short block none
module _ {N P : Type 0} (taken : Sig N P → Option ℕ) (p : P) where
  abbrev pub taken_index : TypeUse N P → Option (Reference N P)
  taken_index u = elim u.index [ Some i ↦ Some i | None ↦ option_map (λ n. ByNumber n p) (taken (unwrap_or u.inline no_sig)) ]

  abbrev pub taken_unless_short : TypeUse N P → Option (Reference N P)
  taken_unless_short u = if is_short (unwrap_or u.inline no_sig) then u.index else taken_index u

  abbrev pub taking : Change N P
  taking = record { index = λ s i. i; member = λ t i. i; type_use = taken_index; block_use = taken_unless_short }

  abbrev pub with_types : Field N P → Field N P
  with_types f = field_changed (record { outside = taking; in_constant = λ before i. taking; in_function = λ g before i. taking }) f

-- the field of an implied type
abbrev pub implied_field : {N P : Type 0} → P × Sig N P → Field N P
implied_field t = TypeField (record {
  place = t.0;
  id = None;
  given = None;
  definition = record { is_final = true; supertype = None; describes = None; descriptor = None; comp = record { shared = false; inner = FuncType t.1 } };
})

-- INDICES THAT ARE NUMBERS, where their names mean something
abbrev pub numbering : {N P : Type 0} → Scope N P → Change N P
numbering s = record {
  index = λ space. names.resolved (s.spaces space);
  member = λ t. names.resolved (members s t);
  type_use = λ u. option_map (names.resolved (s.spaces Types)) u.index;
  block_use = λ u. option_map (names.resolved (s.spaces Types)) u.index;
}

module _ {N P : Type 0} (eq : N → N → Bool) where
  abbrev pub numberings : Scope N P → Changes N P
  numberings s = record {
    outside = numbering s;
    in_constant = λ before i. numbering (scope_at eq s before i);
    in_function = λ f before i. numbering (scope_at eq (with_locals eq s (locals_of s f)) before i);
  }

  -- fields whose uses have their types, then the implied types
  abbrev pub expanded : List (Field N P) → List (Field N P)
  expanded fs = map (λ f. with_types (type_taken eq fs) (field_place f) f) fs ++ map implied_field (implied eq fs)

  abbrev pub numbered : List (Field N P) → List (Field N P)
  numbered fs = map (field_changed (numberings (scope_of eq fs))) fs

  -- written out, with the implied types, all indices numbers
  abbrev pub resolved : (ℕ → N) → List (Field N P) → List (Field N P)
  resolved naming fs = numbered (expanded (written_out naming fs))
