use Rattle.std.proofs.Common.{None, replicate, ap, sym, subst, ◌∙◌}
use Rattle.std.specs.Prelude.{option_map}
use Rattle.wast_parser.specs.Identifiers.{index_tree}
use Rattle.wast_signatures.specs.SignatureViews.{sig_tree}
use Rattle.wast_name_maps.specs.Locals.{params_by}
use Rattle.wast_name_maps.specs.Numbered.{NamesJoin}
use Rattle.wast_name_maps.proofs.locals.add_use.Goals as goal

pub returns-in-None : goal.returns-in-None
returns-in-None c =
    let index = option_map index_tree c.args.ty.now.index in
    subst (NamesJoin c.pass.result c.args.names.now c.pass.new.self)
    (ap (λ n. replicate n None) c.count_by.ensures ∙ ap (λ inline. params_by c.args.counts.now (record { index = index; inline = option_map sig_tree inline })) (sym c.in-None.is))
    c.pass.ensures
