-- Indices as they are written.
use Rattle.std.specs.Prelude.{ℕ, Bool, true, false}
use Rattle.wast_parser_base.specs.declared.index.Index.{Index}
use Rattle.wast_parser_base.specs.declared.index.Index.TheVariants as indices

-- where one stands
abbrev pub place_of : Index → ℕ
place_of (indices.Num number span) = span
place_of (indices.Id id) = id.place

-- a number, and no identifier
abbrev pub is_number : Index → Bool
is_number (indices.Num number span) = true
is_number (indices.Id id) = false
