use Rattle.std.proofs.Common.{sym, ◌∙◌, ap}
use Rattle.wast_uncovered.specs.First.{first}
use Rattle.wast_uncovered.proofs.EachField.{tag_forms}
use Rattle.wast_uncovered.proofs.fields.TagHasForms.first_form.Goals as goal

pub returns : goal.returns
returns c = c.tag_form.ensures ∙ ap first (sym (tag_forms c.args.self.now.kind c.args.self.now.ty))
