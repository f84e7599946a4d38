-- What the names of identifiers stand for.
use Rattle.std.specs.Prelude.{ℕ, List}
use Rattle.std.specs.String.{string_bytes}
use Rattle.wast_parser_base.specs.Identifier.{made_text}
use Rattle.wast_parser_base.specs.declared.id.Name.{Name}
use Rattle.wast_parser_base.specs.declared.id.Name.TheVariants as names

abbrev pub name_text : Name → List ℕ
name_text (names.Read r) = r.now
name_text (names.Decoded s) = string_bytes s.value
name_text (names.Made n) = made_text

abbrev pub name_generation : Name → ℕ
name_generation (names.Made n) = n
name_generation _ = 0
