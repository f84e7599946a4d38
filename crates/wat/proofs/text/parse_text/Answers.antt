use Rattle.wat.proofs.Reading.{told}
use Rattle.wat.proofs.text.parse_text.Goals as goal

pub returns : goal.returns
returns c = told c.args.buffer.now c.requires c.parse.result c.parse.ensures.ok c.parse.ensures.refused
