-- Calls that append one item to a section.
use Rattle.std.proofs.Common.{◌≡◌, refl}
use Rattle.std.specs.Prelude.{List, ℕ, Result, Ok, Err}
use Rattle.wasm_encoder_base.specs.Lists.{Listed}
use Rattle.wasm_encoder_base.specs.EncodeError.{EncodeError}
use Rattle.wasm_encoder_base.specs.EncodeError.TheVariants.{TooLarge}
use Rattle.wasm_encoder_sections.specs.Writes.{Writes}

-- one whose counts are told in other words, and one that isn't made
pub written_as : (entry : List ℕ) (fits all : Type 0) (before after : Listed) (r : Result (Unit {0}) EncodeError) → (fits → all) → (all → fits) → Writes entry fits before after r → Writes entry all before after r
written_as entry fits all before after (Ok x) to from w = record { written = w.written; fit = (w.fit.0, to w.fit.1); unchanged = tt; too_large = λ t room fit. w.too_large t room (from fit) }
written_as entry fits all before after (Err e) to from w = record { written = tt; fit = tt; unchanged = w.unchanged; too_large = λ t room fit. w.too_large t room (from fit) }

pub unwritten : (entry : List ℕ) (fits : Type 0) (section : Listed) (e : EncodeError) → (e ≡ TooLarge → fits → ⊥) → Writes entry fits section section (Err e)
unwritten entry fits section e h = record { written = tt; fit = tt; unchanged = refl; too_large = λ t room fit. let large : e ≡ TooLarge = cc in h large fit }
