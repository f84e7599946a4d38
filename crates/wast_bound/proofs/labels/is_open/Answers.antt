use Rattle.std.proofs.Common.{ℕ, ◌≡◌, ◌-◌, take, sym, ap, ◌∙◌, arith}
use Rattle.wast_parser.specs.Identifiers.{identifier_tree}
use Rattle.wast_meaning.specs.Scope.{turn_of_head}
use Rattle.wast_bound.specs.Bound.{closed_before}
use Rattle.wast_bound.proofs.Open.{open_behind, open_goes, open_found, open_ends, few_more}
use Rattle.wast_bound.proofs.labels.is_open.Goals as goal

pub loop-index-preserved : goal.loop-index-preserved
loop-index-preserved g c =
    let view = g.I.Opens.tree in
    let n = (identifier_tree c.args.id.now).0 in
    let xs = c.args.instructions.now in
    let k : ℕ = c.loop-index.index in
    let closed : ℕ = c.loop-index.closed in
    let x = c.index-instructions-index.result in
    let inv = c.loop-index.invariant in
    let next : c.closed_before-closed.result ≡ closed_before (turn_of_head (view x).head) closed = c.closed_before-closed.ensures ∙ ap (λ t. closed_before t closed) c.turn.ensures in (
      ap (λ m. open_behind view n xs (take (k - 1) xs) m) next
          ∙ open_goes view n xs k x closed (open_behind view n xs xs c.args.closed) c.loop-index-test.true inv.1.0 c.index-instructions-index.is (sym c.if-is_opened.false ∙ c.is_opened.ensures) inv.0,
      (omega (arith, inv.1.0), (omega (arith, inv.1.1.0, next, few_more (turn_of_head (view x).head) closed, c.loop-index-test.true), inv.1.1.1)),
    )

pub closed_before-closed-requires : goal.closed_before-closed-requires
closed_before-closed-requires g c =
    let inv = c.loop-index.invariant in
    omega (arith, inv.1.1.0, inv.1.1.1, c.loop-index-test.true)

pub returns-then-is_opened : goal.returns-then-is_opened
returns-then-is_opened g c =
    let view = g.I.Opens.tree in
    let n = (identifier_tree c.args.id.now).0 in
    let xs = c.args.instructions.now in
    let inv = c.loop-index.invariant in
    open_found view n xs c.loop-index.index c.index-instructions-index.result c.loop-index.closed (open_behind view n xs xs c.args.closed) c.loop-index-test.true inv.1.0 c.index-instructions-index.is
    (sym c.if-is_opened.true ∙ c.is_opened.ensures) inv.0

pub returns : goal.returns
returns g c =
    let view = g.I.Opens.tree in
    let n = (identifier_tree c.args.id.now).0 in
    let xs = c.args.instructions.now in
    open_ends view n xs c.loop-index.index c.loop-index.closed (open_behind view n xs xs c.args.closed) c.loop-index-test.false c.loop-index.invariant.0
