use Rattle.wast_field_syntax.proofs.FieldLaws.{table_laws}
use Rattle.wast_table_fields.proofs.table.TableMeaning.lawful.Goals as goal

pub returns : goal.returns
returns c = table_laws
