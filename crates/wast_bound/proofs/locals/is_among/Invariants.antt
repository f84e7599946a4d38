use Rattle.std.proofs.Common.{◌≡◌, map, drop}
use Rattle.std.specs.List.{list_any}
use Rattle.wast_grammar.specs.Spelling.{same_name}
use Rattle.wast_parser.specs.Identifiers.{identifier_tree}
use Rattle.wast_fields.specs.FuncViews.{local_tree}
use Rattle.wast_names.specs.Position.{bears}
use Rattle.wast_names.specs.Space.{name_in}
use Rattle.wast_bound.proofs.locals.is_among.Given as goal

abbrev pub invariant-loop-local : goal.invariant-loop-local
invariant-loop-local l =
    let named = bears same_name (identifier_tree l.id).0 in
    list_any named (map name_in (map (λ x. x.id) (map local_tree (drop l.local-index l.locals)))) ≡ list_any named (map name_in (map (λ x. x.id) (map local_tree l.locals)))
