use Rattle.std.proofs.Common.{◌≡◌, true, false, ap, sym, ◌∙◌, arith}
use Rattle.std.specs.Prelude.{is_none}
use Rattle.std.specs.Map.{lookup}
use Rattle.std.proofs.lemmas.Grind.{common_steps}
use Rattle.wast_names.specs.Space.{Space}
use Rattle.wast_names.proofs.Spaces.{free_alike}
use Rattle.wast_implied.specs.Shapes.{same_shape, shape_of_key}
use Rattle.wast_implied.specs.Views.{known}
use Rattle.wast_implied.specs.Shapes.{Shape}
use Rattle.wast_implied.proofs.Same.{one_shape}
use Rattle.wast_implied.proofs.Binds.{after_insert, keeps}
use Rattle.wast_implied.proofs.gathered.Implied.bind_first.Goals as goal

pub returns-in_ok-insert-clause-look : goal.returns-in_ok-insert-clause-look
returns-in_ok-insert-clause-look c =
    let free : is_none c.get.result ≡ true = grind (arith, common_steps) in
    λ s.
    ap (lookup (λ k. same_shape (shape_of_key k) s)) c.in_ok-insert.ensures.entries
    ∙ after_insert c.args.self.now.numbers.entries c.args.key c.args.self.now.count s
    ∙ ap (λ (t : Space Shape). t.look s) (free_alike same_shape one_shape (known c.args.self.now).types (shape_of_key c.args.key) (ap is_none (sym c.get.ensures) ∙ free))

pub returns-else-is_none-clause-look : goal.returns-else-is_none-clause-look
returns-else-is_none-clause-look c =
    let held : is_none c.get.result ≡ false = grind (arith, common_steps) in
    λ s. keeps (known c.args.self.now).types (shape_of_key c.args.key) s (ap is_none (sym c.get.ensures) ∙ held)
