use Rattle.std.proofs.Common.{sym, ◌∙◌, ap, Option}
use Rattle.std.specs.Prelude.{option_map}
use Rattle.wast_parser.specs.Identifier.{Identifier}
use Rattle.wast_parser.specs.Spelling.{same_name}
use Rattle.wast_parser.specs.Identifiers.{identifier_tree}
use Rattle.wast_names.specs.Views.{space}
use Rattle.wast_names.specs.Space.{registered, name_in}
use Rattle.wast_names.proofs.Order.{alike_names}
use Rattle.wast_names.proofs.Spaces.{registered_last, registered_free, registered_none}
use Rattle.wast_names.proofs.namespace.Namespace.register.Goals as goal
use Rattle.wast_names.proofs.namespace.Namespace.register.Goals.{in-Some+in_ok-bind-in-Some, in-Some-2+in_ok-register_specific-in-Some-2, in-None}

pub returns-clause-grows : goal.returns-clause-grows
returns-clause-grows c =
    let old = space c.args.self.now in
    let named = space c.match-name.self in
    let new = space c.alloc.new.self in
    let kind = c.args.desc.now in
    let counted = c.alloc.ensures.grows in
    elim c.match-name.branch [
      | in-Some+in_ok-bind-in-Some w ↦
          registered_last same_name alike_names kind old named new counted (identifier_tree w.in-Some.id).0 (sym w.last_counts.ensures ∙ w.if-last_counts.true) (ap space w.self-is ∙ w.in_ok-bind-in-Some.ensures.bound)
          ∙ ap (λ (o : Option Identifier). registered same_name kind old (name_in (option_map identifier_tree o))) (sym w.in-Some.is)
      | in-Some-2+in_ok-register_specific-in-Some-2 w ↦
          registered_free same_name alike_names kind old named new counted (identifier_tree w.in-Some.id) (sym w.last_counts.ensures ∙ w.if-last_counts.false)
          w.in_ok-register_specific-in-Some-2.ensures.answers (ap space w.self-is ∙ w.in_ok-register_specific-in-Some-2.ensures.bound)
          ∙ ap (λ (o : Option Identifier). registered same_name kind old (name_in (option_map identifier_tree o))) (sym w.in-Some.is)
      | in-None w ↦
          registered_none same_name alike_names kind old named new counted (ap space w.self-is)
          ∙ ap (λ (o : Option Identifier). registered same_name kind old (name_in (option_map identifier_tree o))) (sym w.in-None.is)
    ]
