use Rattle.std.proofs.Common.{◌≡◌, map, drop}
use Rattle.std.specs.List.{list_any}
use Rattle.wast_grammar.specs.Spelling.{same_name}
use Rattle.wast_parser.specs.Identifiers.{identifier_tree}
use Rattle.wast_signatures.specs.SignatureViews.{param_tree}
use Rattle.wast_names.specs.Position.{bears}
use Rattle.wast_names.specs.Space.{name_in}
use Rattle.wast_bound.proofs.locals.is_param.Given as goal

abbrev pub invariant-loop-param : goal.invariant-loop-param
invariant-loop-param l =
    let named = bears same_name (identifier_tree l.id).0 in
    list_any named (map name_in (map (λ p. p.id) (map param_tree (drop l.param-index l.params)))) ≡ list_any named (map name_in (map (λ p. p.id) (map param_tree l.params)))
