use Rattle.wast_parser.specs.Spelling.{same_name}
use Rattle.wast_names.proofs.Positions.{numbers_of, counts_of}
use Rattle.wast_names.proofs.laws.numbers.Goals as goal

pub returns : goal.returns
returns c = record { count = counts_of same_name; look = numbers_of same_name }
