use Rattle.std.proofs.Common.{refl}
use Rattle.wast_lexer_numbers.proofs.NumberLaws.{kinds_found}
use Rattle.wast_lexer_numbers.proofs.laws.scans_numbers.Goals as goal

pub returns : goal.returns
returns c = λ word. kinds_found word _ refl
