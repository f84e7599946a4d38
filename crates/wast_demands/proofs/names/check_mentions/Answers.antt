use Rattle.std.proofs.Common.{map, sym, ap, ◌∙◌}
use Rattle.std.specs.List.{flat_map}
use Rattle.wast_grammar.specs.Spelling.{same_name}
use Rattle.wast_module_fields.specs.ModuleFieldViews.{field_tree}
use Rattle.wast_meaning.specs.Mentions.{parts}
use Rattle.wast_meaning.specs.Demands.{field_demands, part_demands}
use Rattle.wast_meaning.specs.Scope.{scope_of}
use Rattle.wast_scopes.specs.Known.{part_by}
use Rattle.wast_scopes.specs.Views.{known}
use Rattle.wast_scopes.proofs.Module.{module_is}
use Rattle.wast_scopes.proofs.Told.{part_is}
use Rattle.wast_demands.proofs.Joined.{answers_all, each_field}
use Rattle.wast_demands.proofs.names.check_mentions.Goals as goal

pub returns-in-Ok : goal.returns-in-Ok
returns-in-Ok c =
    let fs = map field_tree c.args.fields.now in
    let s = scope_of same_name fs in
    let scope = c.new-scope.result in
    let made = c.new-scope.ensures in
    let is = module_is fs scope (rw (made.spaces) c.requires.spaces) (rw (made.spaces) c.requires.fields) (rw (made.signatures, made.spaces, sym c.requires.implied) c.in-Ok.ensures) made.locals in
    let same = each_field (part_by (known scope)) (part_demands same_name s) (λ p. ap (λ k. part_by k p) is ∙ part_is s p) fs in
    answers_all c.tell_all_parts.result (part_by (known scope)) (flat_map parts fs) (flat_map (field_demands same_name s) fs) same c.tell_all_parts.ensures
