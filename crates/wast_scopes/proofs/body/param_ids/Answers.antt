use Rattle.std.proofs.Common.{map, ap, ◌∙◌}
use Rattle.std.specs.Prelude.{option_map}
use Rattle.std.proofs.lemmas.Result.{IfOk-weaker}
use Rattle.wast_parser.specs.Identifiers.{identifier_tree}
use Rattle.wast_scopes.proofs.Ids.{param_ids}
use Rattle.wast_scopes.proofs.body.param_ids.Goals as goal

pub returns-in-Some : goal.returns-in-Some
returns-in-Some c =
    rw (c.in-Some.is) (IfOk-weaker c.written_ids.result _ _ (λ ids h. ap (map (option_map identifier_tree)) (h ∙ ap (map (λ p. p.0)) c.deref.ensures.value) ∙ param_ids c.in-Some.signature.params.items) c.written_ids.ensures)
