-- Index spaces in the making: how many items one has, and which number a name means in it (the identifier contexts of WebAssembly
-- 3.0, 6.1.3 and 6.6.1), over names of any type with a test.
use Rattle.std.specs.Prelude.{ℕ, ◌+◌, Bool, ◌||◌, if◌then◌else◌, is_some, is_none, bytes_eq, List, [], ◌∷◌, Option, Some, None, codes}
use Rattle.std.specs.Option.{option_or}
use Rattle.wast_parser.specs.Identifiers.{Named, Reference, ByNumber, ByName}
use Rattle.wast_names.specs.Position.{position, last_position}
use Rattle.wast_names.specs.Walk.{reached, walked}
use Rattle.wast_names.specs.Demand.{Demand, Duplicate, Unknown}

pub record Space (N : Type 0) : Type 0 where
  pub count : ℕ
  pub look : N → Option ℕ

abbrev pub empty : {N : Type 0} → Space N
empty = record { count = 0; look = λ n. None }

-- the name of an item, where it has an identifier
abbrev pub name_in : {N P : Type 0} → Option (Named N P) → Option N
name_in None = None
name_in (Some id) = Some id.0

-- the kinds of item of which the last that bears a name counts; of the others no two may bear one
abbrev pub last_counts : List ℕ → Bool
last_counts kind = bytes_eq kind (codes "elem") || bytes_eq kind (codes "data")

module _ {N : Type 0} (same : N → N → Bool) where
  -- the name means this number, whatever it meant
  abbrev pub bound : Space N → N → ℕ → Space N
  bound s n i = record { count = s.count; look = λ q. if same n q then Some i else s.look q }

  -- one more item; of two that bear a name the first keeps it
  abbrev pub grown : Space N → Option N → Space N
  grown s None = record { count = s.count + 1; look = s.look }
  grown s (Some n) = record { count = s.count + 1; look = λ q. option_or (s.look q) (if same n q then Some s.count else None) }

  -- one more item; of two that bear a name the last takes it
  abbrev pub grown_last : Space N → Option N → Space N
  grown_last s None = record { count = s.count + 1; look = s.look }
  grown_last s (Some n) = record { count = s.count + 1; look = λ q. if same n q then Some s.count else s.look q }

  -- one more item of a kind
  abbrev pub registered : List ℕ → Space N → Option N → Space N
  registered kind s item = if last_counts kind then grown_last s item else grown s item

  -- the number that a name means among these items of a kind
  abbrev pub denoted : List ℕ → N → List (Option N) → Option ℕ
  denoted kind n items = if last_counts kind then last_position same n items else position same n items

module _ {N P : Type 0} where
  -- no item bears the name
  abbrev pub is_free : List ℕ → Space N → Named N P → Demand N P
  is_free kind s id = record { place = id.1; complaint = Duplicate kind; holds = is_none (s.look id.0) }

  -- no item bears the name of this one
  abbrev pub fresh_item : List ℕ → Space N → Option (Named N P) → List (Demand N P)
  fresh_item kind s None = []
  fresh_item kind s (Some id) = is_free kind s id ∷ []

  -- what an item of a kind has to keep to: the last counts, or none before it bears its name
  abbrev pub fresh : List ℕ → Space N → Option (Named N P) → List (Demand N P)
  fresh kind s item = if last_counts kind then [] else fresh_item kind s item

  -- the number that an index means
  abbrev pub number_of : Space N → Reference N P → Option ℕ
  number_of s (ByNumber n p) = Some n
  number_of s (ByName id) = s.look id.0

  -- the number at a place, or else what stands there
  abbrev pub number_or : Option ℕ → P → Reference N P → Reference N P
  number_or None p index = index
  number_or (Some n) p index = ByNumber n p

  -- the index as a number, where it means one
  abbrev pub resolved : Space N → Reference N P → Reference N P
  resolved s (ByNumber n p) = ByNumber n p
  resolved s (ByName id) = number_or (s.look id.0) id.1 (ByName id)

  -- an item of the kind bears the name of an index
  abbrev pub known : List ℕ → Space N → Reference N P → List (Demand N P)
  known kind s (ByNumber n p) = []
  known kind s (ByName id) = record { place = id.1; complaint = Unknown kind id.0; holds = is_some (s.look id.0) } ∷ []

-- WHOLE LISTS
module _ {N P : Type 0} (same : N → N → Bool) where
  abbrev pub after_item : List ℕ → Space N → Option (Named N P) → Space N
  after_item kind s item = registered same kind s (name_in item)

  -- the space of these items of a kind
  abbrev pub space_of : List ℕ → List (Option (Named N P)) → Space N
  space_of kind items = reached (after_item kind) empty items

  -- that no two of them bear one name, where the last doesn't count
  abbrev pub distinct : List ℕ → List (Option (Named N P)) → List (Demand N P)
  distinct kind items = walked (fresh kind) (after_item kind) empty items
