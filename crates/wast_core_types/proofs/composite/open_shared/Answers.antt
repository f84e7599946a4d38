use Rattle.std.proofs.Common.{◌≡◌, suc, arith, Some, inl, inr, ap, sym, ◌∙◌}
use Rattle.wast_parser.specs.State.{ahead}
use Rattle.wast_core_types.specs.Depths.{within}
use Rattle.wast_core_types.proofs.Depths.{opened_shorter, shared_opened, shared_unopened, within_none}
use Rattle.wast_parser.proofs.States.{keeps_trans, keeps_self}
use Rattle.wast_core_types.proofs.composite.open_shared.Goals as goal

pub groups-init : goal.groups-init
groups-init c = record { keeps = keeps_self _; same = within_none (ahead c.args.parser.now) }

pub groups-smaller : goal.groups-smaller
groups-smaller c = opened_shorter (ahead c.groups.parser) _ c.in-Ok.ensures.read

pub groups-preserved : goal.groups-preserved
groups-preserved c =
    let rest = ahead c.open_group.new.parser in
    let deeper : c.in-Some.deeper ≡ suc c.groups.depth = omega (arith, c.in-Some.ensures.1) in
    record {
      keeps = keeps_trans _ _ _ c.groups.invariant.keeps c.in-Ok.ensures.keeps;
      same = ap (λ n. within n rest) deeper ∙ sym (shared_opened c.groups.depth (ahead c.groups.parser) _ (c.in-Ok-true.ensures ∙ ap (λ v. Some v) c.in-Ok-true.field-0-test) c.in-Ok.ensures.read) ∙ c.groups.invariant.same;
    }

pub returns-in-Err-open_group-clause-refused : goal.returns-in-Err-open_group-clause-refused
returns-in-Err-open_group-clause-refused c = elim c.in-Err-open_group.ensures.read [
  | inl m ↦ inl m
  | inr n ↦ inr (sym c.groups.invariant.same ∙ shared_unopened c.groups.depth (ahead c.groups.parser) (c.in-Ok-true.ensures ∙ ap (λ v. Some v) c.in-Ok-true.field-0-test) n)
]
