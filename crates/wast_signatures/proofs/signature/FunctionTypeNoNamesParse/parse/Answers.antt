use Rattle.std.proofs.Common.{[], ◌∷◌, codes}
use Rattle.wast_value_types.specs.Look.{this_group}
use Rattle.wast_value_types.specs.Grammar.{many}
use Rattle.wast_signatures.specs.TypeSyntax.{bare_param, result}
use Rattle.wast_value_types.specs.State.{ahead}
use Rattle.wast_value_types.specs.ValueViews.{val_tree}
use Rattle.wast_signatures.specs.SignatureViews.{param_tree}
use Rattle.wast_signatures.proofs.Lists.{bare_read}
use Rattle.wast_signatures.proofs.signature.FunctionTypeNoNamesParse.parse.Goals as goal

pub returns-clause-read : goal.returns-clause-read
returns-clause-read c =
    bare_read param_tree (λ g. g.value.items.items) c.in_ok-params.params.items c.in_ok-params-3.params.items c.in_ok-params-2.params.items val_tree (λ g. g.value.items.items) c.in_ok-results.results.items c.in_ok-results-2.results.items (many (this_group (codes "param") ∷ []) bare_param).reads (many (this_group (codes "result") ∷ []) result).reads (ahead c.args.parser.now) (ahead c.list_of.new.parser) (ahead c.list_of-2.new.parser) c.in_ok-params.ensures.read c.in_ok-results.ensures.read c.in_ok-params-2.ensures c.in_ok-params-3.ensures c.in_ok-results-2.ensures
