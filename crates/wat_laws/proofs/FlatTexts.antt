-- What spells a tree spells it with bodies written flat.
use Rattle.std.specs.Prelude.{codes}
use Rattle.std.proofs.Common.{◌≡◌, ◌≤◌, ℕ, List, [], ◌∷◌, map, Option, inl, inr, refl, sym, ◌∙◌, ap, subst, arith}
use Rattle.wast_grammar.specs.Tokens.{SignificantToken}
use Rattle.wast_grammar.specs.Spelling as spelling
use Rattle.wast_grammar.specs.Spelling.{Spells, that_one}
use Rattle.wast_grammar.specs.Twins as twins
use Rattle.wast_signatures.specs.TypeSyntax.{type_use}
use Rattle.wast_mnemonics.specs.Laws.{EveryWord}
use Rattle.wast_core_instr.specs.InstructionTree.{Instruction}
use Rattle.wast_core_instr.specs.InstructionSyntax.{instruction}
use Rattle.wast_core_instr.specs.InstructionGroups.{instruction_heads, instruction_made}
use Rattle.wast_core_instr.proofs.InstructionLaws.{instruction_but}
use Rattle.wast_core_instr.proofs.GroupLaws.{instruction_heeds, instruction_spelled}
use Rattle.wast_expressions.specs.Items.{Made, unfolded, expression_of}
use Rattle.wast_expressions.specs.Heeds.{Spelled}
use Rattle.wast_expressions.specs.Laws.{kept, kept_heads, kept_made, without_tokens, WrittenFlat}
use Rattle.wast_expressions.proofs.Flat.{FlatTokens, flat_items, flat_unfolds, written_flat, flat_spelled}
use Rattle.wast_expressions.proofs.Folds.{folding}
use Rattle.wast_exports.specs.Exports.{inline_export}
use Rattle.wast_imports.specs.ImportSyntax.{head}
use Rattle.wast_field_syntax.specs.FieldTree.{Expr, Defined, Func, Definition, Field, Define, Content, Fields, Module, one_start}
use Rattle.wast_field_syntax.specs.DefinitionSyntax.{expr, as_definition}
use Rattle.wast_field_syntax.specs.FuncSyntax as plain
use Rattle.wast_core.specs.FieldSyntax as plain_fields
use Rattle.wast_core.specs.ModuleSyntax as plain_texts
use Rattle.wast_core.specs.ModuleSyntax.{as_module, as_fields}
use Rattle.wat_laws.specs.Flat.{unchanged, IsFlat, function, func, field, content, module_form, bare_module, wat}
use Rattle.wat_laws.proofs.Standing.{standing}
use Rattle.wat_laws.proofs.FlatParts.{flat_standing, folded_standing}
use Rattle.wat_laws.proofs.Rewrites.{Rewrites, unchanged_rewrites, token_rewrites, next_rewrites, seen_rewrites, only_rewrites, either_rewrites, many_rewrites, paren_rewrites}

module _ {N : Type 0} (every : EveryWord) where
  abbrev made : Made ℕ (Instruction N ℕ)
  made = instruction_made

  spelled_kept : Spelled (kept (instruction {N = N} {P = ℕ})) (kept_made made)
  spelled_kept = let sp = instruction_spelled N ℕ every in record { end_is = λ p. (sp.end_is p, refl); else_is = λ p. (sp.else_is p, refl) }

  -- BODIES: each instruction is spelled by its tokens, and so are all of them in a row
  abbrev AllSpelled : List (Option ℕ × (Instruction N ℕ × List (SignificantToken N ℕ))) → Type 0
  AllSpelled [] = Unit {0}
  AllSpelled (x ∷ xs) = instruction.spells x.1.0 x.1.1 × AllSpelled xs

  all_spelled : (xs : List (Option ℕ × (Instruction N ℕ × List (SignificantToken N ℕ)))) (us : List (SignificantToken N ℕ)) → FlatTokens (kept instruction) (kept_heads instruction_heads) (kept_made made) xs us → AllSpelled xs
  all_spelled [] us f = tt
  all_spelled (x ∷ xs) us f = (subst (λ z. instruction.spells x.1.0 z) (sym f.5.1) f.5.0, all_spelled xs f.2 f.6)

  from_written : (xs : List (Option ℕ × (Instruction N ℕ × List (SignificantToken N ℕ)))) (us : List (SignificantToken N ℕ)) → AllSpelled xs → WrittenFlat xs us → FlatTokens instruction instruction_heads made (map without_tokens xs) us
  from_written [] us a f = f
  from_written (x ∷ xs) us a f = (f.0, x.1.1, f.1, f.2, f.3, a.0, from_written xs f.1 a.1 f.4)

  module _ (e : Expr N ℕ) (ts us : List (SignificantToken N ℕ)) (x : IsFlat e ts us) where
    abbrev each : List (Option ℕ × (Instruction N ℕ × List (SignificantToken N ℕ)))
    each = unfolded (kept_made made) x.parts

    body_second : expr.spells e us
    body_second =
        let w = written_flat (kept instruction) (kept_heads instruction_heads) (kept_made made) spelled_kept x.parts ts x.spelled in
        let g = from_written each us (all_spelled each w.tokens w.spelled) x.flat in
        let rows = map without_tokens each in
        (flat_items instruction instruction_heads made rows, ap expression_of (flat_unfolds instruction instruction_heads made rows) ∙ x.unfolds, flat_spelled instruction instruction_heads made instruction_but instruction_heeds rows us g)

    body_within : (p : ℕ) → standing p us ≤ standing p ts
    body_within p =
        let flat = flat_standing p 0 each us (ap (λ (z : Expr N ℕ). z.hints) x.unfolds ∙ x.no_hints) x.flat in
        let folded = folded_standing instruction instruction_heads made p x.parts ts x.spelled in
        omega (arith, flat, folded)

  body_rewrites : Rewrites (expr {N = N} {P = ℕ}).spells IsFlat
  body_rewrites = record { first = λ e ts us x. x.folded; second = body_second; within = body_within }

  -- each can be written so
  pub each_flat : (e : Expr N ℕ) (ts : List (SignificantToken N ℕ)) → expr.spells e ts → e.hints ≡ [] → (us : List (SignificantToken N ℕ)) × IsFlat e ts us
  each_flat e ts s none =
      let y = folding instruction instruction_heads made instruction_but instruction_heeds (instruction_spelled N ℕ every) s.0 ts s.2 in
      (y.3.0, record { folded = s; no_hints = none; parts = y.0; spelled = y.1; unfolds = ap expression_of y.2 ∙ s.1; flat = y.3.1 })

  -- FUNCTIONS AND FIELDS
  function_rewrites : Rewrites (plain.function {N = N} {P = ℕ}).spells function
  function_rewrites =
      seen_rewrites plain.as_function _ _ (next_rewrites _ _ (λ _. spelling.next plain.all_locals.spells (λ _. expr.spells)) (λ _. twins.next (unchanged plain.all_locals.spells) (λ _. IsFlat)) (unchanged_rewrites type_use.spells)
      (λ _. next_rewrites _ _ (λ _. expr.spells) (λ _. IsFlat) (unchanged_rewrites plain.all_locals.spells) (λ _. body_rewrites)))

  -- one that isn't imported
  abbrev own_function : Spells N ℕ (Defined N ℕ)
  own_function = spelling.seen Func plain.function.spells

  abbrev own_parts : Spells N ℕ (Definition N ℕ)
  own_parts = spelling.seen as_definition (spelling.next (spelling.token (that_one (codes "func"))) (λ _. spelling.next head.spells (λ _. spelling.next inline_export.spells (λ _. own_function))))

  func_rewrites : Rewrites (spelling.paren own_parts) (func {N = N} {P = ℕ})
  func_rewrites =
      paren_rewrites own_parts _ (seen_rewrites as_definition _ _
      (next_rewrites _ _ (λ _. spelling.next head.spells (λ _. spelling.next inline_export.spells (λ _. own_function))) (λ _. twins.next (unchanged head.spells) (λ _. twins.next (unchanged inline_export.spells) (λ _. twins.seen Func function))) (token_rewrites (that_one (codes "func")))
      (λ _. next_rewrites _ _ (λ _. spelling.next inline_export.spells (λ _. own_function)) (λ _. twins.next (unchanged inline_export.spells) (λ _. twins.seen Func function)) (unchanged_rewrites head.spells)
      (λ _. next_rewrites _ _ (λ _. own_function) (λ _. twins.seen Func function) (unchanged_rewrites inline_export.spells)
      (λ _. seen_rewrites Func _ _ function_rewrites)))))

  -- a function that isn't imported is one of the functions, and these are fields
  own_func : (d : Definition N ℕ) (ts : List (SignificantToken N ℕ)) → spelling.paren own_parts d ts → plain.func.spells d ts
  own_func d ts s =
      let b = s.4 in
      let w = b.2 in
      let h = w.4 in
      let x = h.4 in
      (s.0, s.1, s.2, s.3, (b.0, b.1, (w.0, w.1, w.2, w.3, (h.0, h.1, h.2, h.3, (x.0, x.1, x.2, x.3, inr x.4)))))

  as_field : (f : Field N ℕ) (ts : List (SignificantToken N ℕ)) → spelling.seen Define (spelling.paren own_parts) f ts → plain_fields.field.spells f ts
  as_field f ts s = inr (inr (inr (inl (inl (s.0, s.1, own_func s.0 ts s.2)))))

  func_field : Rewrites (plain_fields.field {N = N} {P = ℕ}).spells (twins.seen Define func)
  func_field =
      let g = seen_rewrites Define (spelling.paren own_parts) func func_rewrites in
      record { first = λ f ts us x. as_field f ts (g.first f ts us x); second = λ f ts us x. as_field f us (g.second f ts us x); within = g.within }

  one_of : (f : Field N ℕ) (ts : List (SignificantToken N ℕ)) → spelling.either plain_fields.field.spells plain_fields.field.spells f ts → plain_fields.field.spells f ts
  one_of f ts s = elim s [ inl x ↦ x | inr y ↦ y ]

  field_rewrites : Rewrites (plain_fields.field {N = N} {P = ℕ}).spells field
  field_rewrites =
      let g = either_rewrites plain_fields.field.spells plain_fields.field.spells (twins.seen Define func) (unchanged plain_fields.field.spells) func_field (unchanged_rewrites plain_fields.field.spells) in
      record { first = λ f ts us x. one_of f ts (g.first f ts us x); second = λ f ts us x. one_of f us (g.second f ts us x); within = g.within }

  -- MODULES AND TEXTS
  abbrev own_content : Spells N ℕ (Content N ℕ)
  own_content = spelling.seen Fields plain_texts.fields.spells

  content_rewrites : Rewrites own_content (content {N = N} {P = ℕ})
  content_rewrites = seen_rewrites Fields plain_texts.fields.spells _ (only_rewrites one_start (spelling.many plain_fields.field.spells) _ (many_rewrites plain_fields.field.spells field field_rewrites))

  abbrev own_module : Spells N ℕ (Module N ℕ)
  own_module = spelling.seen as_module (spelling.next (spelling.token (that_one (codes "module"))) (λ _. spelling.next head.spells (λ _. own_content)))

  module_rewrites : Rewrites (spelling.paren own_module) (module_form {N = N} {P = ℕ})
  module_rewrites =
      paren_rewrites own_module _ (seen_rewrites as_module _ _
      (next_rewrites _ _ (λ _. spelling.next head.spells (λ _. own_content)) (λ _. twins.next (unchanged head.spells) (λ _. content)) (token_rewrites (that_one (codes "module")))
      (λ _. next_rewrites _ _ (λ _. own_content) (λ _. content) (unchanged_rewrites head.spells) (λ _. content_rewrites))))

  as_form : (t : Module N ℕ) (ts : List (SignificantToken N ℕ)) → spelling.paren own_module t ts → plain_texts.module_form.spells t ts
  as_form t ts s =
      let b = s.4 in
      let w = b.2 in
      let h = w.4 in
      (s.0, s.1, s.2, s.3, (b.0, b.1, (w.0, w.1, w.2, w.3, (h.0, h.1, h.2, h.3, inr h.4))))

  bare_rewrites : Rewrites (plain_texts.bare_module {N = N} {P = ℕ}).spells bare_module
  bare_rewrites = seen_rewrites as_fields _ _ (only_rewrites (λ fs. one_start (fs.0 ∷ fs.1)) _ _ (next_rewrites plain_fields.field.spells field (λ _. spelling.many plain_fields.field.spells) (λ _. twins.many field) field_rewrites (λ _. many_rewrites plain_fields.field.spells field field_rewrites)))

  as_text : (t : Module N ℕ) (ts : List (SignificantToken N ℕ)) → spelling.either (spelling.paren own_module) plain_texts.bare_module.spells t ts → plain_texts.wat.spells t ts
  as_text t ts s = elim s [ inl x ↦ inl (as_form t ts x) | inr y ↦ inr y ]

  pub text_rewrites : Rewrites (plain_texts.wat {N = N} {P = ℕ}).spells wat
  text_rewrites =
      let g = either_rewrites (spelling.paren own_module) plain_texts.bare_module.spells module_form bare_module module_rewrites bare_rewrites in
      record { first = λ t ts us x. as_text t ts (g.first t ts us x); second = λ t ts us x. as_text t us (g.second t ts us x); within = g.within }
