-- The annotations that are registered while a text is read, by name. Each other one is dropped with its group (WebAssembly 3.0,
-- 6.2.5).
use Rattle.std.specs.Prelude.{ℕ, List, [], ◌∷◌, codes}

abbrev pub registered : List (List ℕ)
registered = codes "name" ∷ codes "custom" ∷ codes "producers" ∷ codes "dylink.0" ∷ codes "metadata.code.branch_hint" ∷ []
