-- A type use, and then an index where any of it is written: how a private function reads them.
use Rattle.std.specs.Prelude.{if◌then◌else◌, Some, None}
use Rattle.wast_signatures.specs.Look.{index_starts}
use Rattle.wast_signatures.specs.Spelling.{◌>>=◌}
use Rattle.wast_signatures.specs.Grammar.{Reader, maybe}
use Rattle.wast_signatures.specs.Identifiers.{index}
use Rattle.wast_signatures.specs.TypeSyntax.{bare_use}
use Rattle.wast_typed_operands.specs.TypedTree.{Indirect}
use Rattle.wast_typed_operands.specs.TypedSyntax.{is_written, table_last}

abbrev pub use_then_table : {N P : Type 0} → Reader N P (Indirect N P)
use_then_table ts = bare_use.reads ts >>= λ x. if is_written x.0 then ((maybe index_starts index).reads x.1 >>= λ y. Some (table_last (x.0, y.0), y.1)) else Some (table_last (x.0, None), x.1)
