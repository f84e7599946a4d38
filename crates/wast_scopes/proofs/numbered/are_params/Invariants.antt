use Rattle.std.proofs.Common.{◌≡◌, ◌≤◌, length, drop}
use Rattle.wast_names.specs.Views.{space}
use Rattle.wast_scopes.proofs.Pairs.{alike, param_value}
use Rattle.wast_scopes.proofs.numbered.are_params.Given as goal

abbrev pub invariant-loop-param : goal.invariant-loop-param
invariant-loop-param l = record {
  at : l.index ≡ l.param-index;
  few : l.param-index ≤ length l.numbered;
  rest : alike (param_value (space l.types).look) (drop l.param-index l.params) (drop l.param-index l.numbered) ≡ alike (param_value (space l.types).look) l.params l.numbered;
}
