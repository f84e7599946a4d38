-- Open blocks as code keeps them.
use Rattle.std.specs.Prelude.{◌≡◌, ℕ, ◌≤◌, if◌then◌else◌, List, [], ◌∷◌, length, map, Option, Some, None, option_map, option_and_then}
use Rattle.std.specs.BTreeMap.{BTreeMap, get_by}
use Rattle.wast_grammar.specs.Tokens.{Name}
use Rattle.wast_grammar.specs.Spelling.{same_name}
use Rattle.wast_parser.specs.Identifier.{Identifier, compare}
use Rattle.wast_parser.specs.Identifiers.{Named, identifier_tree}
use Rattle.wast_names.specs.Position.{bears}
use Rattle.wast_names.specs.Space.{name_in}
use Rattle.wast_names.specs.Views.{borne}
use Rattle.wast_scopes.specs.declared.block.OpenBlock.{OpenBlock}

-- the label of each block
abbrev pub labels_of : List OpenBlock → List (Option (Named Name ℕ))
labels_of blocks = map (λ b. option_map identifier_tree b.label) blocks

-- How many blocks are open outside the nearest that bears a name. Blocks stand the innermost first.
abbrev pub level : Name → List (Option (Named Name ℕ)) → Option ℕ
level n [] = None
level n (label ∷ outside) = if bears same_name n (name_in label) then Some (length outside) else level n outside

abbrev pub level_in : BTreeMap Identifier ℕ → Name → Option ℕ
level_in levels n = get_by (compare (borne n)) levels

-- each block keeps the level that its name has outside it
abbrev pub KeepsOuter : List OpenBlock → Type 0
KeepsOuter [] = Unit {0}
KeepsOuter (b ∷ outside) = (b.outer ≡ option_and_then (λ n. level n (labels_of outside)) (name_in (option_map identifier_tree b.label))) × KeepsOuter outside

-- the map tells the levels, which are below 2^32 - 1
pub record IsKept (blocks : List OpenBlock) (levels : BTreeMap Identifier ℕ) : Type 0 where
  pub few : length blocks ≤ 4294967295
  pub levels_are : (n : Name) → level_in levels n ≡ level n (labels_of blocks)
  pub outer : KeepsOuter blocks
