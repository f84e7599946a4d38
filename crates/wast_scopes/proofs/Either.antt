-- The index spaces of a module that stand in one arm.
use Rattle.std.proofs.Common.{◌≡◌, ◌⊎◌, refl}
use Rattle.wast_grammar.specs.Tokens.{Name}
use Rattle.wast_meaning.specs.Scope.{locals_or}
use Rattle.wast_meaning.specs.Views.{space_view}
use Rattle.wast_meaning.specs.declared.space.Space.{Space}
use Rattle.wast_meaning.specs.declared.space.Space.TheVariants as spaces
use Rattle.wast_mentions.proofs.Rows.{at_one, at_either}
use Rattle.wast_spaces.specs.Views.{spaces_of}
use Rattle.wast_spaces.specs.declared.spaces.Spaces.{Spaces}
use Rattle.wast_scopes.specs.Numbered.{Look}
use Rattle.wast_scopes.specs.Views.{module_look}

abbrev IsModule : Space → Type 0
IsModule k = (k ≡ spaces.Functions) ⊎ ((k ≡ spaces.Types) ⊎ ((k ≡ spaces.Tables) ⊎ ((k ≡ spaces.Memories) ⊎ ((k ≡ spaces.Globals) ⊎ ((k ≡ spaces.Tags) ⊎ ((k ≡ spaces.Datas) ⊎ (k ≡ spaces.Elems)))))))

pub module_space : (s : Spaces) (own : Look) (n : Name) (k : Space) → IsModule k → (spaces_of s (space_view k)).look n ≡ locals_or own (module_look s) (space_view k) n
module_space s own n k =
    let P : Space → Type 0 = λ j. (spaces_of s (space_view j)).look n ≡ locals_or own (module_look s) (space_view j) n in
    at_either P k _ refl (at_either P k _ refl (at_either P k _ refl (at_either P k _ refl (at_either P k _ refl (at_either P k _ refl (at_either P k _ refl (at_one P k _ refl)))))))
