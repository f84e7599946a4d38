use Rattle.std.proofs.Common.{◌≡◌, ◌≤◌, length, drop}
use Rattle.wast_names.specs.Views.{space}
use Rattle.wast_scopes.proofs.Pairs.{alike, result_value}
use Rattle.wast_scopes.proofs.numbered.are_results.Given as goal

abbrev pub invariant-loop-ty : goal.invariant-loop-ty
invariant-loop-ty l = record {
  at : l.index ≡ l.ty-index;
  few : l.ty-index ≤ length l.numbered;
  rest : alike (result_value (space l.types).look) (drop l.ty-index l.results) (drop l.ty-index l.numbered) ≡ alike (result_value (space l.types).look) l.results l.numbered;
}
