use Rattle.wast_lexer_strings.proofs.StringScanLaws.{string_read}
use Rattle.wast_lexer_strings.proofs.Sound.{read_sound}
use Rattle.wast_lexer_strings.specs.StringScan.State.{Within}
use Rattle.wast_lexer_strings.proofs.laws.one_meaning.Goals as goal

pub returns-clause-reads : goal.returns-clause-reads
returns-clause-reads c = λ inner bytes rest es. string_read es rest

pub returns-clause-alone : goal.returns-clause-alone
returns-clause-alone c = λ text r h. read_sound text Within r h
