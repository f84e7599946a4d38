use Rattle.std.proofs.Common.{map, sym, ◌∙◌, ap}
use Rattle.wast_core.specs.ModuleFieldViews.{field_tree}
use Rattle.wast_core.specs.ModuleViews.{content_tree}
use Rattle.wast_meaning.specs.Modules.{content_fields}
use Rattle.wast_meant.specs.Covered.{uncovered}
use Rattle.wast_uncovered.proofs.Written.{written_forms}
use Rattle.wast_uncovered.proofs.module.uncovered.Goals as goal

pub returns-in-Text : goal.returns-in-Text
returns-in-Text c = λ naming.
    c.first_uncovered.ensures ∙ sym (written_forms naming (map field_tree c.deref.result.now))
    ∙ ap (λ fs. uncovered naming (map field_tree fs)) c.deref.ensures.value
    ∙ ap (λ kind. uncovered naming (content_fields (content_tree kind))) (sym c.in-Text.is)
