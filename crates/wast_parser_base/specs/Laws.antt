-- The statements of the crate's law functions.
use Rattle.std.specs.Prelude.{ℕ, ◌≡◌, ◌<◌, ◌↔◌, true}
use Rattle.wast_parser_base.specs.Identifier.{Identifier, is_same, made_name}

-- Two identifiers are equal exactly where their names are and their generations.
abbrev pub EqualIdentifiers : Type 0
EqualIdentifiers = (x y : Identifier) → (is_same x y ≡ true) ↔ ((x.name ≡ y.name) × (x.generation ≡ y.generation))

-- Names made with different numbers differ, and from each that was read.
pub record MadeNamesDiffer : Type 0 where
  pub from_each_other : (m n place other : ℕ) → is_same (made_name m place) (made_name n other) ≡ true → m ≡ n
  pub from_read : (m place : ℕ) (x : Identifier) → 0 < m → x.generation ≡ 0 → ¬ (is_same (made_name m place) x ≡ true)
