-- Whole modules (WebAssembly 3.0, 6.6, modules): their fields, and what these must keep to beside names.
use Rattle.std.specs.Prelude.{Bool, List, []}
use Rattle.wast_field_syntax.specs.FieldTree.{Content, Fields, Pieces, Field, Module}
use Rattle.wast_meaning.specs.WellFormed.{breaches}

module _ {N P : Type 0} where
  -- a binary in pieces has no fields
  abbrev pub content_fields : Content N P → List (Field N P)
  content_fields (Fields fs) = fs
  content_fields (Pieces pieces) = []

  abbrev pub module_breaches : (N → N → Bool) → (N → Bool) → Module N P → List P
  module_breaches eq is_made m = breaches eq is_made (content_fields m.content)
