-- What the table says stands after a word.
use Rattle.std.specs.Prelude.{false}
use Rattle.wasm_encoder_base.specs.OperandSyntax.{OperandSyntax}
use Rattle.wast_mnemonics.specs.declared.word.Word.{Word}
use Rattle.wast_mnemonics.specs.Heads.{head}
use Rattle.wast_mnemonics.specs.Words.{entry_of}
use Rattle.wast_meaning.specs.Mentions.{syntax_of}

-- the row of a word; where two entries of the table have it, that of the first
unfoldable pub row_of : Word → OperandSyntax
row_of w = syntax_of (head (entry_of w) false)
