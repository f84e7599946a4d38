-- A text by hand, and the same with its body written flat.
use Rattle.std.specs.Prelude.{codes}
use Rattle.wat_laws.specs.Bounds.{Within}
use Rattle.wat_laws.specs.Laws.{Flattened}

pub record FlatExamples : Type 0 where
  -- a group with a condition and two arms
  pub arms : Within Flattened (codes "(module (func (if (local.get 0) (then nop) (else unreachable))))") (codes "(module (func local.get 0 if nop else unreachable end))")
