use Rattle.std.proofs.Common.{sym, subst, Ok}
use Rattle.wast_custom_sections.specs.Hinted.{AddsHinted}
use Rattle.wast_custom_sections.proofs.Counted.{no_hinted}
use Rattle.wast_custom_sections.proofs.Numbered.{adds_none}
use Rattle.wast_custom_sections.proofs.hints.put_field.Goals as goal

pub returns-in_default : goal.returns-in_default
returns-in_default c =
    let s = c.args.section.now in
    subst (λ hs. AddsHinted hs s s (Ok tt)) (sym (no_hinted c.args.field.now c.in_default.not-Func c.args.number)) (adds_none s)
