use Rattle.std.proofs.Common.{codes}
use Rattle.wast_field_syntax.proofs.GrammarLaws.{led_laws}
use Rattle.wast_signatures.specs.TypeSyntax.{named_locals}
use Rattle.wast_signatures.proofs.SignatureLaws.{named_locals_laws}
use Rattle.wast_func_fields.proofs.local.LocalParserMeaning.lawful.Goals as goal

pub returns : goal.returns
returns c = led_laws (codes "local") named_locals named_locals_laws
