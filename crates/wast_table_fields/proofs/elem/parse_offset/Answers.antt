use Rattle.std.proofs.Common.{inr, sym, ◌∙◌}
use Rattle.wast_field_syntax.specs.State.{ahead}
use Rattle.wast_field_syntax.proofs.Offsets.{offset_opens}
use Rattle.wast_table_fields.proofs.elem.parse_offset.Goals as goal

pub returns-in-Ok-false-clause-read : goal.returns-in-Ok-false-clause-read
returns-in-Ok-false-clause-read c = inr (offset_opens (ahead c.args.parser.now) (λ e. (let asked = sym c.in-Ok-false.ensures ∙ e in let no = c.in-Ok-false.field-0-test in cc)))

pub returns-in-Err-clause-read : goal.returns-in-Err-clause-read
returns-in-Err-clause-read c = inr (offset_opens (ahead c.args.parser.now) (λ e. (let asked = sym c.in-Err.ensures.0 ∙ e in cc)))
