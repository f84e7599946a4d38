use Rattle.std.proofs.Common.{◌++◌, ap, arith, subst, ◌∙◌}
use Rattle.wast_name_maps.specs.Kinds.{maps_of}
use Rattle.wast_name_maps.specs.Subsections.{KindIs}
use Rattle.wast_name_maps.proofs.Ordered.{done_all, done_more, kind_at, kind_bytes, order_end}
use Rattle.wast_name_maps.proofs.section.add_maps.Goals as goal

pub loop-kind-preserved : goal.loop-kind-preserved
loop-kind-preserved c =
    let names = maps_of c.args.name.now c.args.id.now c.args.fields.now in
    let i = c.loop-kind.kind-index in
    done_more names c.args.section.now c.loop-kind.section c.add_map.new.section i _ (omega arith) c.loop-kind.invariant
    (c.in_ok-add_map.ensures.added ∙ ap (λ k. c.loop-kind.section ++ kind_bytes names k) (kind_at i _))
    (subst (KindIs names) (kind_at i _) c.in_ok-add_map.ensures.in_range)

pub returns-clause-added : goal.returns-clause-added
returns-clause-added c = order_end (maps_of c.args.name.now c.args.id.now c.args.fields.now) c.loop-kind.kind-index c.args.section.now c.loop-kind.section (omega arith) c.loop-kind.invariant.bytes

pub returns-clause-in_range : goal.returns-clause-in_range
returns-clause-in_range c = done_all (maps_of c.args.name.now c.args.id.now c.args.fields.now) c.args.section.now c.loop-kind.section c.loop-kind.kind-index (omega arith) c.loop-kind.invariant
