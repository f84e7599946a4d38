use Rattle.std.proofs.Common.{sym, ◌∙◌, ap, string_bytes}
use Rattle.wat.proofs.Places.{rendered_with, rendered_without}
use Rattle.wat.proofs.renderer.render.Goals as goal
use Rattle.wat.proofs.renderer.render.Goals.{in-Some+in_ok-push_lines, in_default}

pub returns : goal.returns
returns c =
    elim c.match-place_of.branch [
      | in-Some+in_ok-push_lines w ↦
          rendered_with c.args.fault.now c.args.input.now (string_bytes c.in_ok-text.text) (string_bytes c.match-place_of.text) w.in-Some.offset
          (sym c.place_of.ensures ∙ w.in-Some.is) c.in_ok-text.ensures (ap string_bytes w.text-is ∙ w.in_ok-push_lines.ensures)
      | in_default w ↦
          rendered_without c.args.fault.now c.args.input.now (string_bytes c.match-place_of.text) (sym c.place_of.ensures ∙ w.in_default.is)
          (ap string_bytes w.text-is ∙ c.in_ok-text.ensures)
    ]
