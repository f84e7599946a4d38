-- Texts by hand, and those that spell their fields written out.
use Rattle.std.specs.Prelude.{codes}
use Rattle.wat_laws.specs.Bounds.{Within}
use Rattle.wat_laws.specs.Written.{WrittenTexts}

pub record WrittenExamples : Type 0 where
  -- a segment
  pub memory : Within WrittenTexts (codes "(module (memory $m (data \"ab\")))") (codes "(module (memory $m 1 1) (data (memory $m) (i32.const 0) \"ab\"))")
  -- an export, with the fresh name $f
  pub export : Within WrittenTexts (codes "(module (func (export \"a\")))") (codes "(module (func $f) (export \"a\" (func $f)))")
