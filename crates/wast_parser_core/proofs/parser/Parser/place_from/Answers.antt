use Rattle.std.proofs.Common.{sym, ◌∙◌, ap, length}
use Rattle.wast_parser_core.specs.State.{State, front, stop}
use Rattle.wast_parser_core.proofs.parser.Parser.place_from.Goals as goal

pub returns : goal.returns
returns c =
    let s = c.args.self.now in
    c.stop_place.ensures ∙ ap (λ (z : State). (stop z.source).place) c.self.view_is ∙ sym (ap (front (length s.source.text) (stop s.source).place) c.in_default.ensures.0)
