use Rattle.std.proofs.Common.{◌+◌, ◌∙◌, ap}
use Rattle.wast_name_maps.specs.Numbered.{Numbered}
use Rattle.wast_name_maps.proofs.Entries.{names_passed}
use Rattle.wast_name_maps.proofs.names.Names.pass.Goals as goal

pub returns : goal.returns
returns c =
    names_passed c.args.self.now _ c.args.count
    (ap (λ n. record { list = c.self.inside.written; next = n }) c.in_ok-self-inside.ensures.sum ∙ ap (λ (s : Numbered). record { list = s.list; next = s.next + c.args.count }) c.self.view_is)
