-- What fields that define something have in common (WebAssembly 3.0, 6.6), and the expressions in fields.
use Rattle.std.specs.Prelude.{ℕ, true, List, [], ◌∷◌, map, codes}
use Rattle.wast_parser.specs.Look.{Test, On, AWord, OneOf}
use Rattle.wast_parser.specs.Grammar.{Syntax, among, word, seen, seq, either, paren}
use Rattle.wast_mnemonics.specs.TextTable.{text_table}
use Rattle.wast_expressions.specs.Expressions.{expression, led_or_plain, data_offset}
use Rattle.wast_core_instr.specs.InstructionSyntax.{instruction}
use Rattle.wast_core_instr.specs.InstructionGroups.{instruction_heads, instruction_made}
use Rattle.wast_exports.specs.Exports.{import_starts, inline_export, inline_import}
use Rattle.wast_imports.specs.ImportTree.{ExternType}
use Rattle.wast_imports.specs.ImportSyntax.{Head, head}
use Rattle.wast_field_syntax.specs.FieldTree.{Expr, Defined, Imported, Definition}

-- WHERE THEY BEGIN
-- what a group of an instruction begins with
abbrev pub plain_starts : List Test
plain_starts = On true AWord (OneOf (map (λ t. t.mnemonic) text_table) []) ∷ []

module _ {N P : Type 0} where
  -- a word of an instruction in parentheses
  abbrev pub lone_instruction : Syntax N P (Unit {0})
  lone_instruction = seen (λ _. tt) (paren (among (λ t. t.mnemonic) text_table []))

  -- EXPRESSIONS: item* up to an end; (item item*) or plain; (offset item*) or plain; (offset item*) or (instruction item*)
  abbrev pub expr : Syntax N P (Expr N P)
  expr = expression instruction instruction_heads instruction_made

  abbrev pub element : Syntax N P (Expr N P)
  element = led_or_plain instruction instruction_heads instruction_made (codes "item")

  abbrev pub elem_offset : Syntax N P (Expr N P)
  elem_offset = led_or_plain instruction instruction_heads instruction_made (codes "offset")

  abbrev pub segment_offset : Syntax N P (Expr N P)
  segment_offset = data_offset instruction instruction_heads instruction_made

  -- DEFINITIONS: (word id? (@name ..)? (export name)* ..)
  abbrev pub as_definition : P × (Head N P × (List (List ℕ) × Defined N P)) → Definition N P
  as_definition d = record { place = d.0; id = d.1.0.0; given = d.1.0.1; exports = d.1.1.0; defined = d.1.1.1 }

  abbrev pub definition_body : List ℕ → Syntax N P (Defined N P) → Syntax N P (Definition N P)
  definition_body w defined = seen as_definition (seq (word w) (seq head (seq inline_export defined)))

  abbrev pub definition : List ℕ → Syntax N P (Defined N P) → Syntax N P (Definition N P)
  definition w defined = paren (definition_body w defined)

  -- one that is imported, (import name name) and its type, or one that is not
  abbrev pub as_imported : (List ℕ × List ℕ) × ExternType N P → Defined N P
  as_imported i = Imported i.0.0 i.0.1 i.1

  abbrev pub imported_or : Syntax N P (ExternType N P) → Syntax N P (Defined N P) → Syntax N P (Defined N P)
  imported_or type other = either import_starts (seen as_imported (seq inline_import type)) other
