use Rattle.std.proofs.Common.{map, sym, ◌∙◌, ap}
use Rattle.std.specs.Prelude.{is_some, reverse}
use Rattle.wast_grammar.specs.Tokens.{Name}
use Rattle.wast_grammar.specs.Spelling.{same_name}
use Rattle.wast_parser.specs.Identifiers.{identifier_tree}
use Rattle.wast_names.specs.Space as names
use Rattle.wast_names.specs.Space.{name_in}
use Rattle.wast_meaning.specs.Scope.{label_space, labels_seen, turn_of_head}
use Rattle.wast_bound.proofs.Looks.{some_position}
use Rattle.wast_bound.proofs.Scopes.{beside_labels}
use Rattle.wast_bound.proofs.labels.AmongKnown.has.Goals as goal

pub returns-in-Labels : goal.returns-in-Labels
returns-in-Labels g c = rw (c.in-Labels.is) (c.is_label.ensures ∙ sym (some_position (identifier_tree c.args.id.now).0
    (map name_in (labels_seen (turn_of_head (g.I.Opens.tree c.args.self.now.instruction.now).head) (reverse (map g.I.Opens.tree c.args.self.now.before.now))))))

pub returns-in_default : goal.returns-in_default
returns-in_default g c =
    let s = g.K.Known.scope c.args.self.now.around in
    let n : Name = (identifier_tree c.args.id.now).0 in
    let earlier = reverse (map g.I.Opens.tree c.args.self.now.before.now) in
    c.has.ensures ∙ sym (ap (λ (x : names.Space Name). is_some (x.look n)) (beside_labels (label_space same_name earlier (g.I.Opens.tree c.args.self.now.instruction.now)) s.spaces c.args.space c.in_default.not-Labels))
