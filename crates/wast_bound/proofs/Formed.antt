-- A field keeps to what it must where it does so beside names, and names that are made up are bound.
use Rattle.std.proofs.Common.{◌≡◌, ℕ, Bool, true, false, ◌&&◌, refl}
use Rattle.std.specs.Prelude.{not}
use Rattle.std.specs.List.{list_all}
use Rattle.wast_grammar.specs.Tokens.{Name}
use Rattle.wast_grammar.specs.Spelling.{same_name}
use Rattle.wast_fields.specs.FieldTree.{Field, is_start}
use Rattle.wast_meaning.specs.Demands.{field_demands}
use Rattle.wast_meaning.specs.Mentions.{parts}
use Rattle.wast_meaning.specs.Scope.{Scope}
use Rattle.wast_meaning.specs.WellFormed.{field_formed, part_formed, pages_formed}
use Rattle.wast_meaning.specs.Made.{is_made}
use Rattle.wast_bound.specs.Bound.{are_kept}

grouped : (a b c d : Bool) → (a && b && c && d) ≡ ((a && b && c) && d)
grouped true true true d = refl
grouped true true false d = refl
grouped true false c d = refl
grouped false b c d = refl

pub formed_is : (s : Scope Name ℕ) (started : Bool) (f : Field Name ℕ)
    → field_formed same_name is_made s started f ≡ ((list_all part_formed (parts f) && pages_formed f && not (started && is_start f)) && are_kept (field_demands same_name s f))
formed_is s started f = grouped (list_all part_formed (parts f)) (pages_formed f) (not (started && is_start f)) (are_kept (field_demands same_name s f))
