-- What is numbered in its order, where some of it is written: at most one entry of each, with its number.
use Rattle.std.specs.Prelude.{ℕ, ◌≡◌, ◌+◌, ◌<◌, ◌^◌, List, length, Option, Result, Ok, Err}
use Rattle.std.specs.List.{AllByRecursion}
use Rattle.wasm_encoder_bytes.specs.declared.error.EncodeError.{EncodeError}
use Rattle.wasm_encoder_bytes.specs.declared.error.EncodeError.TheVariants.{TooLarge}
use Rattle.wasm_encoder_base.specs.Lists.{Listed, no_items, with_items}
use Rattle.wasm_layout.specs.AbstractModule.{Naming, InnerNaming}
use Rattle.wast_meant.specs.NamesMeant.{entries, naming, group_naming}
use Rattle.wast_name_maps.specs.Listed.{name_item, inner_item}

-- the list so far, and the number of what comes next
pub record Numbered : Type 0 where
  pub list : Listed
  pub next : ℕ

abbrev pub none_yet : Numbered
none_yet = record { list = no_items; next = 0 }

-- behind some more
abbrev pub behind : {A B : Type 0} → (ℕ → A → List B) → (B → List ℕ) → Numbered → List A → Numbered
behind one spell s xs = record { list = with_items spell s.list (entries one s.next xs); next = s.next + length xs }

-- some more fit: each entry can be written, and so can how many there are
pub record Fit {A B : Type 0} (one : ℕ → A → List B) (CanBe : B → Type 0) (s : Numbered) (xs : List A) : Type 0 where
  pub each : AllByRecursion CanBe (entries one s.next xs)
  pub count : 0 < length (entries one s.next xs) → s.list.count + length (entries one s.next xs) < 2 ^ 32

-- some more have come, and fit
pub record Joined {A B : Type 0} (one : ℕ → A → List B) (spell : B → List ℕ) (CanBe : B → Type 0) (old new : Numbered) (xs : List A) : Type 0 where
  pub same : new ≡ behind one spell old xs
  pub fit : Fit one CanBe old xs

-- they have, or they were too large only where they don't fit
abbrev pub Joins : {A B T : Type 0} → (ℕ → A → List B) → (B → List ℕ) → (B → Type 0) → Result T EncodeError → Numbered → Numbered → List A → Type 0
Joins one spell CanBe (Ok x) old new xs = Joined one spell CanBe old new xs
Joins one spell CanBe (Err e) old new xs = e ≡ TooLarge → ¬ Fit one CanBe old xs

-- the same of a list that begins with them
abbrev pub Builds : {A B : Type 0} → (ℕ → A → List B) → (B → List ℕ) → (B → Type 0) → Result Numbered EncodeError → List A → Type 0
Builds one spell CanBe (Ok new) xs = Joined one spell CanBe none_yet new xs
Builds one spell CanBe (Err e) xs = e ≡ TooLarge → ¬ Fit one CanBe none_yet xs

-- NAMES: an index and a name in 32 bits
pub record NameFits (n : Naming (List ℕ)) : Type 0 where
  pub index : n.index < 2 ^ 32
  pub name : length n.name < 2 ^ 32

abbrev pub NamesJoined : Numbered → Numbered → List (Option (List ℕ)) → Type 0
NamesJoined old new names = Joined naming name_item NameFits old new names

abbrev pub NamesJoin : {T : Type 0} → Result T EncodeError → Numbered → Numbered → List (Option (List ℕ)) → Type 0
NamesJoin result old new names = Joins naming name_item NameFits result old new names

abbrev pub BuildsNames : Result Numbered EncodeError → List (Option (List ℕ)) → Type 0
BuildsNames result names = Builds naming name_item NameFits result names

-- GROUPS of names, of what is inside of items
pub record GroupFits (n : InnerNaming (List ℕ)) : Type 0 where
  pub index : n.index < 2 ^ 32
  pub each : AllByRecursion NameFits n.names
  pub count : length n.names < 2 ^ 32

abbrev pub GroupsJoined : Numbered → Numbered → List (List (Option (List ℕ))) → Type 0
GroupsJoined old new groups = Joined group_naming inner_item GroupFits old new groups

abbrev pub GroupsJoin : {T : Type 0} → Result T EncodeError → Numbered → Numbered → List (List (Option (List ℕ))) → Type 0
GroupsJoin result old new groups = Joins group_naming inner_item GroupFits result old new groups

abbrev pub BuildsGroups : Result Numbered EncodeError → List (List (Option (List ℕ))) → Type 0
BuildsGroups result groups = Builds group_naming inner_item GroupFits result groups
