-- What the first step of `assemble` answers. No part of a promise.
use Rattle.std.specs.Prelude.{ℕ, List}
use Rattle.wat_verdict.specs.Verdict.{Fails, TooLong, NotUtf8}
use Rattle.wat.specs.declared.fault.Fault.{Fault}
use Rattle.wat.specs.declared.fault.Fault.TheVariants as faults

-- a fault of bytes that are no text
abbrev pub IsNoText : List ℕ → Fault → Type 0
IsNoText bytes faults.TooLong = Fails bytes TooLong
IsNoText bytes (faults.NotUtf8 offset) = Fails bytes (NotUtf8 offset)
IsNoText bytes _ = ⊥
