use Rattle.std.proofs.Common.{◌≡◌, ◌-◌, Some, None, length, reverse, sym, ◌∙◌, ap, arith, rules}
use Rattle.std.specs.Prelude.{option_map}
use Rattle.std.proofs.lemmas.List.{length-reverse}
use Rattle.wast_grammar.specs.Tokens.{Name}
use Rattle.wast_parser.specs.Identifiers.{identifier_tree}
use Rattle.wast_scopes.specs.Open.{level_in}
use Rattle.wast_scopes.proofs.Blocks.{kept_below, kept_position}
use Rattle.wast_scopes.proofs.labels.Labels.get.Goals as goal

pub inside-requires-clause-of_one : goal.inside-requires-clause-of_one
inside-requires-clause-of_one c =
    let s = c.self.inside in
    let n : Name = (identifier_tree c.args.id.now).0 in
    let found : level_in s.levels n ≡ Some c.in-Some.level.now = search rules in
    let below = kept_below (reverse s.blocks.items) s.levels n c.in-Some.level.now c.self.invariant found in
    omega (arith, below, length-reverse s.blocks.items, c.len.ensures)

pub returns-in-Some : goal.returns-in-Some
returns-in-Some c =
    let s = c.self.inside in
    let n : Name = (identifier_tree c.args.id.now).0 in
    let found : level_in s.levels n ≡ Some c.in-Some.level.now = search rules in
    rw (← c.self.view_is) (ap Some (omega (arith, length-reverse s.blocks.items, c.len.ensures, c.inside.ensures))
    ∙ ap (option_map (λ k. length (reverse s.blocks.items) - 1 - k)) (sym found)
    ∙ sym (kept_position (reverse s.blocks.items) s.levels n c.self.invariant))

pub returns-in-None : goal.returns-in-None
returns-in-None c =
    let s = c.self.inside in
    let n : Name = (identifier_tree c.args.id.now).0 in
    let found : level_in s.levels n ≡ None = search rules in
    rw (← c.self.view_is) (ap (option_map (λ k. length (reverse s.blocks.items) - 1 - k)) (sym found)
    ∙ sym (kept_position (reverse s.blocks.items) s.levels n c.self.invariant))
