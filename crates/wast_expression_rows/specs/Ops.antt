-- A small set of instructions without operands: a word, and where it stands.
use Rattle.std.specs.Prelude.{ℕ, if◌then◌else◌, List, [], ◌∷◌, codes}
use Rattle.wast_grammar.specs.Tokens.{Name}
use Rattle.wast_parser.specs.Spelling.{any_is}
use Rattle.wast_parser.specs.Grammar.{Syntax, among}
use Rattle.wast_expressions.specs.Items.{Made}
use Rattle.wast_expressions.specs.Expressions.{Heads, GroupKind, OfOperands, OfBlock, OfArms}
use Rattle.wast_expression_rows.specs.declared.op.Mnemonic.{Mnemonic}
use Rattle.wast_expression_rows.specs.declared.op.Mnemonic.TheVariants as mnemonics
use Rattle.wast_expression_rows.specs.declared.op.Op.{Op}

abbrev pub the_words : List (List ℕ)
the_words = codes "nop" ∷ codes "drop" ∷ codes "i32.add" ∷ codes "block" ∷ codes "loop" ∷ codes "if" ∷ codes "else" ∷ codes "end" ∷ []

abbrev pub mnemonic_text : Mnemonic → List ℕ
mnemonic_text mnemonics.Nop = codes "nop"
mnemonic_text mnemonics.Drop = codes "drop"
mnemonic_text mnemonics.Add = codes "i32.add"
mnemonic_text mnemonics.Block = codes "block"
mnemonic_text mnemonics.Loop = codes "loop"
mnemonic_text mnemonics.If = codes "if"
mnemonic_text mnemonics.Else = codes "else"
mnemonic_text mnemonics.End = codes "end"

abbrev pub op_tree : Op → List ℕ × ℕ
op_tree x = (mnemonic_text x.word, x.span)

abbrev pub op : Syntax Name ℕ (List ℕ × ℕ)
op = among (λ w. w) the_words []

abbrev pub op_kind : List ℕ → GroupKind
op_kind w = if any_is w (codes "block" ∷ codes "loop" ∷ []) then OfBlock else (if any_is w (codes "if" ∷ []) then OfArms else OfOperands)

abbrev pub op_heads : Heads (List ℕ × ℕ)
op_heads = record { words = the_words; but = []; stops = []; kind = λ x. op_kind x.0; own = λ x. [] }

abbrev pub op_made : Made ℕ (List ℕ × ℕ)
op_made = record { else_at = λ p. (codes "else", p); end_at = λ p. (codes "end", p) }
