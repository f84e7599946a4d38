-- Texts in which bodies of functions are written flat (WebAssembly 3.0, 6.5, folded instructions): a relation for each production around a
-- body, by the production's name. The first tokens spell the value; the second are the same tokens, but for bodies.
use Rattle.std.specs.Prelude.{◌≡◌, List, [], ◌∷◌, map, codes}
use Rattle.wast_grammar.specs.Tokens.{SignificantToken}
use Rattle.wast_grammar.specs.Spelling.{Spells, that_one}
use Rattle.wast_grammar.specs.Twins.{Pairs, token, next, seen, only, many, either, paren}
use Rattle.wast_signatures.specs.TypeSyntax.{type_use}
use Rattle.wast_core_instr.specs.InstructionTree.{Instruction}
use Rattle.wast_core_instr.specs.InstructionSyntax.{instruction}
use Rattle.wast_core_instr.specs.InstructionGroups.{instruction_heads, instruction_made}
use Rattle.wast_expressions.specs.Items.{Items, unfolded, expression_of}
use Rattle.wast_expressions.specs.Expressions.{items}
use Rattle.wast_expressions.specs.Laws.{kept, kept_heads, kept_made, without_tokens, WrittenFlat}
use Rattle.wast_exports.specs.Exports.{inline_export}
use Rattle.wast_imports.specs.ImportSyntax.{head}
use Rattle.wast_field_syntax.specs.FieldTree.{Expr, Function, Func, Definition, Field, Define, Content, Fields, Module, one_start}
use Rattle.wast_field_syntax.specs.DefinitionSyntax.{expr, as_definition}
use Rattle.wast_field_syntax.specs.FuncSyntax as plain
use Rattle.wast_core.specs.FieldSyntax as plain_fields
use Rattle.wast_core.specs.ModuleSyntax.{as_module, as_fields}

module _ {N P : Type 0} where
  -- with the very tokens that spell it
  abbrev pub unchanged : {A : Type 0} → Spells N P A → Pairs N P A
  unchanged s a ts us = s a ts × (us ≡ ts)

  -- BODIES without hints. Their items give each instruction tokens of its own; written flat, the instructions stand as they are unfolded,
  -- each with these very tokens, and the words `else` and `end` for what groups make.
  pub record IsFlat (e : Expr N P) (ts us : List (SignificantToken N P)) : Type 0 where
    pub folded : expr.spells e ts
    pub no_hints : e.hints ≡ []
    pub parts : Items P (Instruction N P × List (SignificantToken N P))
    pub spelled : (items (kept instruction) (kept_heads instruction_heads)).spells parts ts
    pub unfolds : expression_of (map without_tokens (unfolded (kept_made instruction_made) parts)) ≡ e
    pub flat : WrittenFlat (unfolded (kept_made instruction_made) parts) us

  -- FUNCTIONS (6.6, functions): (func id? (@name ..)? (export name)* use (local ..)* item*), of which the body is written flat
  abbrev pub function : Pairs N P (Function N P)
  function = seen plain.as_function (next (unchanged type_use.spells) (λ _. next (unchanged plain.all_locals.spells) (λ _. IsFlat)))

  abbrev pub func : Pairs N P (Definition N P)
  func = paren (seen as_definition (next (token (that_one (codes "func"))) (λ _. next (unchanged head.spells) (λ _. next (unchanged inline_export.spells) (λ _. seen Func function)))))

  -- FIELDS (6.6, modules), any of which may stay as it is
  abbrev pub field : Pairs N P (Field N P)
  field = either (seen Define func) (unchanged plain_fields.field.spells)

  abbrev pub content : Pairs N P (Content N P)
  content = seen Fields (only one_start (many field))

  -- WHOLE TEXTS: (module id? (@name ..)? field*), or the fields alone
  abbrev pub module_form : Pairs N P (Module N P)
  module_form = paren (seen as_module (next (token (that_one (codes "module"))) (λ _. next (unchanged head.spells) (λ _. content))))

  abbrev pub bare_module : Pairs N P (Module N P)
  bare_module = seen as_fields (only (λ fs. one_start (fs.0 ∷ fs.1)) (next field (λ _. many field)))

  abbrev pub wat : Pairs N P (Module N P)
  wat = either module_form bare_module
