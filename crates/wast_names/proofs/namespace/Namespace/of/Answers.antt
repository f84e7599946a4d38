use Rattle.std.proofs.Common.{◌≡◌, ◌+◌, Option, None, map, sym, subst, ◌∙◌, ap}
use Rattle.std.specs.Prelude.{option_map}
use Rattle.std.proofs.lemmas.Result.{err_from_is_err_and}
use Rattle.wast_parser.specs.Tokens.{Name}
use Rattle.wast_parser.specs.Spelling.{same_name}
use Rattle.wast_parser.specs.Identifier.{Identifier}
use Rattle.wast_parser.specs.Identifiers.{identifier_tree}
use Rattle.wast_names.specs.Walk.{first_unmet}
use Rattle.wast_names.specs.Demand.{is_met, Refuses}
use Rattle.wast_names.specs.Space.{Space, empty, distinct, fresh, after_item, name_in}
use Rattle.wast_names.specs.Views.{space}
use Rattle.wast_names.proofs.Items.{asks, after, one_more}
use Rattle.wast_names.proofs.Walk.{reached_more, walk_more, walk_done, walked_map}
use Rattle.wast_names.proofs.Demands.{walk_refuses}
use Rattle.wast_names.proofs.namespace.Namespace.of.Goals as goal

pub returns-in_err-register-clause-answers : goal.returns-in_err-register-clause-answers
returns-in_err-register-clause-answers c =
    let kind = c.args.desc.now in
    let items = c.args.items.now in
    let s = space c.loop-item.names in
    let x = c.item-item.result in
    let whole = walked_map (option_map identifier_tree) (after_item same_name kind) (fresh kind) empty items in
    let p = err_from_is_err_and c.from_residual-in_err-register.result c.from_residual-in_err-register.ensures.1 in
    let asked : Refuses (asks kind s x) c.in_err-register.field-0.0 = subst (λ (y : Option Identifier). Refuses (asks kind s y) c.in_err-register.field-0.0) c.in_ok-copied_id.ensures.same c.in_err-register.ensures.answers in
    rw (p.1, p.2) (walk_refuses (after kind) (asks kind) s items c.loop-item.item-index x (distinct same_name kind (map (option_map identifier_tree) items)) c.in_err-register.field-0.0 c.loop-item-test.true c.item-item.is (c.loop-item.invariant.met ∙ ap (first_unmet is_met) (sym whole)) asked)

pub returns-clause-answers : goal.returns-clause-answers
returns-clause-answers c =
    let kind = c.args.desc.now in
    let items = c.args.items.now in
    ap (first_unmet is_met) (walked_map (option_map identifier_tree) (after_item same_name kind) (fresh kind) empty items)
    ∙ walk_done (after kind) (asks kind) is_met (space c.loop-item.names) items c.loop-item.item-index _ c.loop-item-test.false c.loop-item.invariant.met

pub loop-item-preserved : goal.loop-item-preserved
loop-item-preserved c =
    let kind = c.args.desc.now in
    let items = c.args.items.now in
    let s = space c.loop-item.names in
    let i = c.loop-item.item-index in
    let x = c.item-item.result in
    let grows : space c.register.new.self ≡ after kind s x =
    c.in_ok-register.ensures.grows ∙ ap (λ (y : Option Identifier). after kind s y) c.in_ok-copied_id.ensures.same in
    let met : first_unmet is_met (asks kind s x) ≡ None =
    ap (λ (y : Option Identifier). first_unmet is_met (asks kind s y)) (sym c.in_ok-copied_id.ensures.same) ∙ c.in_ok-register.ensures.answers in
    record {
      known = grows ∙ ap (λ t. after kind t x) c.loop-item.invariant.known ∙ sym (reached_more (after kind) empty items i x c.loop-item-test.true c.item-item.is);
      met = walk_more (after kind) (asks kind) is_met s (space c.register.new.self) items i x _ c.loop-item-test.true c.item-item.is met grows c.loop-item.invariant.met;
      few = ap (λ (t : Space Name). t.count) grows ∙ one_more same_name s kind (name_in (option_map identifier_tree x)) ∙ ap (λ n. n + 1) c.loop-item.invariant.few;
    }
