use Rattle.std.proofs.Common.{map, sym, ◌∙◌, ap}
use Rattle.std.specs.Prelude.{is_some}
use Rattle.wast_grammar.specs.Tokens.{Name}
use Rattle.wast_grammar.specs.Spelling.{same_name}
use Rattle.wast_parser.specs.Identifiers.{identifier_tree}
use Rattle.wast_names.specs.Space as names
use Rattle.wast_names.specs.Space.{name_in}
use Rattle.wast_meaning.specs.Spaces.{listed}
use Rattle.wast_bound.specs.Places.{locals_among}
use Rattle.wast_bound.proofs.Looks.{some_position}
use Rattle.wast_bound.proofs.Scopes.{beside_locals}
use Rattle.wast_bound.proofs.locals.InsideKnown.has.Goals as goal

pub returns-in-Locals : goal.returns-in-Locals
returns-in-Locals g c =
    let s = g.K.Known.scope c.args.self.now.outside in
    rw (c.in-Locals.is) (c.is_local.ensures s ∙ sym (some_position (identifier_tree c.args.id.now).0 (map name_in (locals_among s c.args.self.now.ty.now c.args.self.now.locals.now))))

pub returns-in_default : goal.returns-in_default
returns-in_default g c =
    let s = g.K.Known.scope c.args.self.now.outside in
    let n : Name = (identifier_tree c.args.id.now).0 in
    c.has.ensures ∙ sym (ap (λ (x : names.Space Name). is_some (x.look n)) (beside_locals (listed same_name (locals_among s c.args.self.now.ty.now c.args.self.now.locals.now)) s.spaces c.args.space c.in_default.not-Locals))
