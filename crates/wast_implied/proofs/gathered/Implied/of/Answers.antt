use Rattle.std.proofs.Common.{◌≡◌, map, ap, ◌∙◌}
use Rattle.wast_module_fields.specs.ModuleFieldViews.{field_tree}
use Rattle.wast_names.specs.Walk.{reached}
use Rattle.wast_implied.specs.Shapes.{shape}
use Rattle.wast_implied.specs.Known.{Known, after_field, after_written_field, gathered}
use Rattle.wast_implied.specs.Views.{known}
use Rattle.wast_implied.proofs.Gathers.{implied_is, taken_is, count_is}
use Rattle.wast_implied.proofs.gathered.Implied.of.Goals as goal

pub returns-clause-types : goal.returns-clause-types
returns-clause-types c =
    let fs = map field_tree c.args.fields.now in
    let whole : known c.add_implied.new.self ≡ gathered fs = c.in_ok-add_implied.ensures ∙ ap (λ k. reached after_field k fs) (c.in_ok-add_written.ensures ∙ ap (λ k. reached after_written_field k fs) c.new-all.ensures) in
    ap (λ (k : Known). k.implied) whole ∙ implied_is fs

pub returns-clause-numbers : goal.returns-clause-numbers
returns-clause-numbers c =
    let fs = map field_tree c.args.fields.now in
    let whole : known c.add_implied.new.self ≡ gathered fs = c.in_ok-add_implied.ensures ∙ ap (λ k. reached after_field k fs) (c.in_ok-add_written.ensures ∙ ap (λ k. reached after_written_field k fs) c.new-all.ensures) in
    λ s. ap (λ (k : Known). k.types.look (shape s)) whole ∙ taken_is fs s

pub returns-clause-count : goal.returns-clause-count
returns-clause-count c =
    let fs = map field_tree c.args.fields.now in
    let whole : known c.add_implied.new.self ≡ gathered fs = c.in_ok-add_implied.ensures ∙ ap (λ k. reached after_field k fs) (c.in_ok-add_written.ensures ∙ ap (λ k. reached after_written_field k fs) c.new-all.ensures) in
    ap (λ (k : Known). k.types.count) whole ∙ count_is fs
