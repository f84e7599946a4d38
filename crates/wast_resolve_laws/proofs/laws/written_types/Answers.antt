use Rattle.wast_grammar.specs.Spelling.{same_name}
use Rattle.wast_resolve_laws.proofs.Outlined as outlined
use Rattle.wast_resolve_laws.proofs.laws.written_types.Goals as goal

pub returns : goal.returns
returns c = record {
  field_names = λ old naming number. outlined.fields_written naming old number;
  implied_types = λ old naming. outlined.implied_written same_name naming old;
  taken_types = λ old naming signature. outlined.taken_written same_name naming old signature;
}
