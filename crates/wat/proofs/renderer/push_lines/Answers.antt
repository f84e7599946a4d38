use Rattle.std.proofs.Common.{string_bytes}
use Rattle.std.proofs.lemmas.Result.{on_ok_weaker}
use Rattle.wat.proofs.Places.{lines_of_no_text, lines_of_text}
use Rattle.wat.proofs.renderer.push_lines.Goals as goal

pub returns-in-Ok : goal.returns-in-Ok
returns-in-Ok c =
    on_ok_weaker c.push_place.result
    (lines_of_text c.in-Ok.source.now c.args.input.now (string_bytes c.args.text.now) (string_bytes c.push_place.new.text) c.args.offset
    c.in-Ok.ensures.cases.0 c.in-Ok.ensures.cases.1)
    c.push_place.ensures.lines

pub returns-in-Err : goal.returns-in-Err
returns-in-Err c = lines_of_no_text c.args.input.now (string_bytes c.args.text.now) c.args.offset c.in-Err.ensures.cases.0
