use Rattle.wast_parser_core.proofs.Names.{named_so}
use Rattle.wast_parser_core.proofs.annotation.is_named.Goals as goal

pub returns : goal.returns
returns c = named_so c.args.text.now c.args.token c.args.name.now c.requires.own c.requires.kind _ c.annotation_is.ensures
