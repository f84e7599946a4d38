use Rattle.std.proofs.Common.{[], ◌∷◌, refl}
use Rattle.std.specs.Prelude.{codes}
use Rattle.wast_field_syntax.specs.Look.{this_group, join}
use Rattle.wast_field_syntax.specs.ElemSyntax.{use_starts_of}
use Rattle.wast_memory_fields.proofs.data.peek_active.Goals as goal

pub returns : goal.returns
returns c = c.or_begins.ensures (join (use_starts_of (codes "memory")) (this_group (codes "offset") ∷ [])) refl (c.or_begins-offset.ensures (use_starts_of (codes "memory")) refl c.peek-memory.ensures)
