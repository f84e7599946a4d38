-- Tokens that spell each kind of field.
use Rattle.std.proofs.Common.{◌≡◌, ℕ, false, List, [], ◌∷◌, ◌++◌, None, inl, inr, refl, codes}
use Rattle.std.proofs.lemmas.Str.{is_utf8-from_IsUtf8, IsUtf8-nil}
use Rattle.wast_parser.specs.Tokens.{SignificantToken, Literal, Open, Close, Word, Integer, Text}
use Rattle.wast_parser.specs.Grammar.{Syntax, word}
use Rattle.wast_parser.specs.Productions.{name}
use Rattle.wast_parser.specs.Identifiers.{Reference, ByNumber, index}
use Rattle.wast_value_types.specs.ValueTree.{Cont, I32, Number}
use Rattle.wast_value_types.specs.ValueSyntax as values
use Rattle.wast_value_types.specs.ValueSyntax.{nullable, ref_type, u64}
use Rattle.wast_signatures.specs.TypeSyntax.{type_use, as_use, rec_body, as_rec}
use Rattle.wast_signatures.proofs.SignatureSamples.{Spelled}
use Rattle.wast_exports.specs.Exports.{ExportKind, Func, as_export, export_body}
use Rattle.wast_imports.specs.ImportTree.{OfFunc, ImportItems, Single}
use Rattle.wast_imports.specs.ImportSyntax.{Head, as_item, head, item, as_imports, imports_body}
use Rattle.wast_data.specs.DataTree.{DataVal}
use Rattle.wast_expressions.specs.Items.{Done, expression_of}
use Rattle.wast_field_syntax.specs.FieldTree as spec
use Rattle.wast_field_syntax.specs.FieldTree.{Defined, Elements, Indices, ElemMode, PassiveElem, DataMode, PassiveData}
use Rattle.wast_field_syntax.specs.DefinitionSyntax.{expr, as_definition, definition_body}
use Rattle.wast_field_syntax.specs.FuncSyntax.{as_function, func_defined, as_global, global_defined, tag_defined}
use Rattle.wast_field_syntax.specs.ElemSyntax.{as_elem, elem_body}
use Rattle.wast_field_syntax.specs.DataSyntax.{as_data, data_body}
use Rattle.wast_field_syntax.specs.TableSyntax.{as_sized_table, as_filled_memory, memory_defined, table_defined}

abbrev zero_literal : Literal
zero_literal = record { minus = false; size = 0 }

module _ {N P : Type 0} where
  -- some tokens spell one behind a word
  abbrev pub SpelledBehind : {A : Type 0} → List ℕ → Syntax N P A → Type 0
  SpelledBehind {A} w g = (p : P) × (a : A) × (us : List (SignificantToken N P)) × g.spells a (Word w p ∷ us)

  -- TOKENS
  abbrev pub zero_token : P → SignificantToken N P
  zero_token p = Integer zero_literal [] p

  u64_spelled : (p : P) → u64.spells 0 (zero_token p ∷ [])
  u64_spelled p = ((0, p), refl, ((zero_literal, p), refl, (refl, (zero_token p, refl, refl))))

  pub index_spelled : (p : P) → index.spells (ByNumber 0 p) (zero_token p ∷ [])
  index_spelled p = inl ((0, p), refl, ((zero_literal, p), refl, (refl, (zero_token p, refl, refl))))

  -- a name without bytes
  name_spelled : (p : P) → (name {N = N}).spells [] (Text [] p ∷ [])
  name_spelled p = (is_utf8-from_IsUtf8 [] IsUtf8-nil, (Text [] p, refl, refl))

  ref_spelled : (p : P) → (ref_type {N = N}).spells (nullable Cont) (Word (codes "contref") p ∷ [])
  ref_spelled p = inr (Cont, refl, (((codes "contref", Cont), p), refl, (Word (codes "contref") p, refl, refl)))

  -- NOTHING
  no_use : (type_use {N = N} {P = P}).spells (as_use (None, None)) []
  no_use = ((None, None), refl, ([], [], refl, refl, (([], []), refl, ([], [], refl, refl, refl))))

  no_expr : (expr {N = N} {P = P}).spells (expression_of []) []
  no_expr = (Done, refl, ([], refl, refl))

  no_head : (head {N = N} {P = P}).spells (None, None) []
  no_head = ([], [], refl, refl, refl)

  -- DEFINITIONS
  tag_defined_spelled : Spelled (tag_defined {N = N} {P = P})
  tag_defined_spelled = (spec.Tag (as_use (None, None)), [], inr (as_use (None, None), refl, no_use))

  func_defined_spelled : Spelled (func_defined {N = N} {P = P})
  func_defined_spelled =
      let f = as_function (as_use (None, None), ([], expression_of [])) in
      (spec.Func f, [], inr (f, refl, ((as_use (None, None), ([], expression_of [])), refl, ([], [], refl, no_use, ([], [], refl, ([], refl, refl), no_expr)))))

  global_defined_spelled : P → Spelled (global_defined {N = N} {P = P})
  global_defined_spelled p =
      let t = values.as_global false false (Number I32) in
      let i32 = Word (codes "i32") p ∷ [] in (
        as_global (t, expression_of []),
        i32,
        inr ((t, expression_of []), refl, (i32, [], refl, inr (inr (Number I32, refl, inl (I32, refl, (((codes "i32", I32), p), refl, (Word (codes "i32") p, refl, refl))))), no_expr)),
      )

  table_defined_spelled : P → Spelled (table_defined {N = N} {P = P})
  table_defined_spelled p =
      let size = zero_token p ∷ [] in
      let type = Word (codes "contref") p ∷ [] in
      let t = as_sized_table false ((0, None), (nullable Cont, expression_of [])) in (
        t,
        size ++ type,
        inr (inr ((false, t), refl, ([], size ++ type, refl, (None, refl, refl), inl (((0, None), (nullable Cont, expression_of [])), refl, (size, type, refl, (size, [], refl, u64_spelled p, refl), (type, [], refl, ref_spelled p, no_expr)))))),
      )

  memory_defined_spelled : P → Spelled (memory_defined {N = N} {P = P})
  memory_defined_spelled p =
      let filled = Open p ∷ Word (codes "data") p ∷ Close p ∷ [] in
      let m = as_filled_memory false (None, []) in (
        m,
        filled,
        inr ((false, m), refl, ([], filled, refl, (None, refl, refl), inr ((None, []), refl, ([], filled, refl, refl, (Word (codes "data") p ∷ [], p, p, refl, ((p, []), refl, (Word (codes "data") p ∷ [], [], refl, (Word (codes "data") p, refl, refl), refl))))))),
      )

  -- a definition, behind its word
  module _ (w : List ℕ) (p : P) (says : (word {N = N} w).spells p (Word w p ∷ [])) where
    defined_behind : (defined : Syntax N P (Defined N P)) → Spelled {N = N} {P = P} defined → SpelledBehind w (definition_body w defined)
    defined_behind defined s =
        (p, as_definition (p, ((None, None), ([], s.0))), s.1, ((p, ((None, None), ([], s.0))), refl, (Word w p ∷ [], s.1, refl, says, ([], s.1, refl, no_head, ([], s.1, refl, refl, s.2)))))

  pub func_spelled : P → SpelledBehind (codes "func") (definition_body (codes "func") func_defined)
  func_spelled p = defined_behind (codes "func") p (Word (codes "func") p, refl, refl) func_defined func_defined_spelled

  pub table_spelled : P → SpelledBehind (codes "table") (definition_body (codes "table") table_defined)
  table_spelled p = defined_behind (codes "table") p (Word (codes "table") p, refl, refl) table_defined (table_defined_spelled p)

  pub memory_spelled : P → SpelledBehind (codes "memory") (definition_body (codes "memory") memory_defined)
  memory_spelled p = defined_behind (codes "memory") p (Word (codes "memory") p, refl, refl) memory_defined (memory_defined_spelled p)

  pub global_spelled : P → SpelledBehind (codes "global") (definition_body (codes "global") global_defined)
  global_spelled p = defined_behind (codes "global") p (Word (codes "global") p, refl, refl) global_defined (global_defined_spelled p)

  pub tag_spelled : P → SpelledBehind (codes "tag") (definition_body (codes "tag") tag_defined)
  tag_spelled p = defined_behind (codes "tag") p (Word (codes "tag") p, refl, refl) tag_defined tag_defined_spelled

  -- OTHER FIELDS
  pub rec_spelled : P → SpelledBehind (codes "rec") rec_body
  rec_spelled p = (p, as_rec (p, []), [], ((p, []), refl, (Word (codes "rec") p ∷ [], [], refl, (Word (codes "rec") p, refl, refl), refl)))

  -- (func)
  item_spelled : P → Spelled (item {N = N} {P = P})
  item_spelled p =
      let w = Word (codes "func") p ∷ [] in (
        as_item ((Func, p), ((None, None), OfFunc (as_use (None, None)))),
        Open p ∷ w ++ Close p ∷ [],
        (w, p, p, refl, (((Func, p), ((None, None), OfFunc (as_use (None, None)))), refl, (w, [], refl, (Word (codes "func") p, refl, refl), ([], [], refl, no_head, inr (as_use (None, None), refl, no_use))))),
      )

  pub import_spelled : P → SpelledBehind (codes "import") imports_body
  import_spelled p =
      let i = item_spelled p in
      let named = Text [] p ∷ i.1 in
      let imports : P × (List ℕ × ImportItems N P) = (p, ([], Single [] i.0)) in
      (p, as_imports imports, Text [] p ∷ named, (imports, refl, (Word (codes "import") p ∷ [], Text [] p ∷ named, refl, (Word (codes "import") p, refl, refl), (Text [] p ∷ [], named, refl, name_spelled p, inl (([], i.0), refl, (Text [] p ∷ [], i.1, refl, name_spelled p, i.2))))))

  pub export_spelled : P → SpelledBehind (codes "export") export_body
  export_spelled p =
      let w = Word (codes "func") p ∷ [] in
      let exported = Open p ∷ (w ++ zero_token p ∷ []) ++ Close p ∷ [] in
      let e : P × (List ℕ × (ExportKind × Reference N P)) = (p, ([], (Func, ByNumber 0 p))) in
      (p, as_export e, Text [] p ∷ exported, (e, refl, (Word (codes "export") p ∷ [], Text [] p ∷ exported, refl, (Word (codes "export") p, refl, refl), (Text [] p ∷ [], exported, refl, name_spelled p, (w ++ zero_token p ∷ [], p, p, refl, (w, zero_token p ∷ [], refl, ((Func, p), refl, (Word (codes "func") p, refl, refl)), index_spelled p))))))

  pub elem_spelled : P → SpelledBehind (codes "elem") elem_body
  elem_spelled p =
      let w = Word (codes "func") p ∷ [] in
      let e : P × (Head N P × (ElemMode N P × Elements N P)) = (p, ((None, None), (PassiveElem, Indices []))) in
      (p, as_elem e, w, (e, refl, (Word (codes "elem") p ∷ [], w, refl, (Word (codes "elem") p, refl, refl), ([], w, refl, no_head, inr (inl (Indices [], refl, inl ([], refl, ((p, []), refl, (w, [], refl, (Word (codes "func") p, refl, refl), refl)))))))))

  pub data_spelled : P → SpelledBehind (codes "data") data_body
  data_spelled p =
      let d : P × (Head N P × (DataMode N P × List DataVal)) = (p, ((None, None), (PassiveData, []))) in
      (p, as_data d, [], (d, refl, (Word (codes "data") p ∷ [], [], refl, (Word (codes "data") p, refl, refl), ([], [], refl, no_head, inr ([], refl, refl)))))
