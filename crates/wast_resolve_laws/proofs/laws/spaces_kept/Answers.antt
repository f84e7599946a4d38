use Rattle.wast_grammar.specs.Spelling.{same_name}
use Rattle.wast_resolve_laws.proofs.Expanded as expanded
use Rattle.wast_resolve_laws.proofs.laws.spaces_kept.Goals as goal

pub returns : goal.returns
returns c = expanded.denotes_kept same_name
