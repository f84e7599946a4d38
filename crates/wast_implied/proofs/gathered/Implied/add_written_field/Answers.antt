use Rattle.wast_implied.specs.Views.{known}
use Rattle.wast_implied.proofs.OtherFields.{no_type}
use Rattle.wast_implied.proofs.gathered.Implied.add_written_field.Goals as goal

pub returns-in_default : goal.returns-in_default
returns-in_default c = no_type (known c.args.self.now) c.args.field.now c.in_default.not-TypeItem c.in_default.not-Rec
