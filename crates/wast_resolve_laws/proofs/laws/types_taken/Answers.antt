use Rattle.wast_grammar.specs.Spelling.{same_name}
use Rattle.wast_resolve_laws.proofs.Taken as taken
use Rattle.wast_resolve_laws.proofs.laws.types_taken.Goals as goal

pub returns : goal.returns
returns c = taken.taken_at same_name
