-- Fields that are resolved, covered and well formed can be encoded.
use Rattle.std.proofs.Common.{◌≡◌, ℕ, true, List, [], ◌∷◌, map, All, Option, Some, None}
use Rattle.std.proofs.lemmas.List.Elements.{All-nil, All-cons, All-head, All-tail}
use Rattle.wast_grammar.specs.Tokens.{Name}
use Rattle.wast_grammar.specs.Spelling.{same_name}
use Rattle.wast_names.specs.Walk.{first_unmet}
use Rattle.wast_names.specs.Demand.{is_met}
use Rattle.wast_module_fields.specs.FieldTree.{Expr, Elements, Indices, Expressions, Defined, Imported, Func, Table, TableOf, Memory, MemoryOf, Global, Tag, ElemMode, PassiveElem, DeclaredElem, ActiveElem, DataMode, PassiveData, ActiveData, Field, TypeField, RecField, ImportField, Define, ExportField, StartField, ElemField, DataField, CustomField}
use Rattle.wast_core.specs.ModuleFieldViews.{field_tree}
use Rattle.wast_module_fields.specs.declared.field.ModuleField.{ModuleField}
use Rattle.wast_meaning.specs.Demands.{all_demands}
use Rattle.wast_meaning.specs.Numbered.{resolved}
use Rattle.wast_meaning.specs.WellFormed.{breaches}
use Rattle.wast_conversions.specs.Resolved.{IfThere}
use Rattle.wast_meant.specs.Covered.{field_forms, uncovered}
use Rattle.wast_meaning.specs.Made.{is_made}
use Rattle.wast_resolve_laws.proofs.Names.{name_self, name_sound}
use Rattle.wast_resolve_laws.proofs.Resolved as again
use Rattle.wast_section_items.specs.Ready.{ExprReady, ConstantReady, DefinedReady, ElementsReady, ElemModeReady, DataModeReady, FieldOfReadyParts, FieldReady}
use Rattle.wast_encode_laws.specs.Formed.{IsFormed, IsConstant, ElementsFormed, DefinedFormed, ElemModeFormed, DataModeFormed, FieldFormed}
use Rattle.wast_encode_laws.specs.Ready.{ExprResolved, ElementsResolved, DefinedResolved, ElemModeResolved, DataModeResolved, FieldResolved}
use Rattle.wast_encode_laws.specs.Orderings.{are_ordered}
use Rattle.wast_encode_laws.proofs.Covered.{covered}
use Rattle.wast_encode_laws.proofs.Formed.{formed}
use Rattle.wast_encode_laws.proofs.Hints.{hints_fit}
use Rattle.wast_encode_laws.proofs.Placed.{functions_placed}
use Rattle.wast_encode_laws.proofs.Ready.{ready}
use Rattle.wast_encode_laws.proofs.Trees.{trees_ordered}
use Rattle.wast_binary.specs.Can.{CanEncode}

module _ {N P : Type 0} where
  expr_ready : (e : Expr N P) → ExprResolved e → IsFormed e → ExprReady e
  expr_ready e r f = record { resolved = r; aligned = f.aligned }

  constant_ready : (e : Expr N P) → ExprResolved e → IsConstant e → ConstantReady e
  constant_ready e r f = record { resolved = r; aligned = f.formed.aligned; balanced = f.balanced }

  constants_ready : (es : List (Expr N P)) → All ExprResolved es → All IsConstant es → All ConstantReady es
  constants_ready [] r f = All-nil ConstantReady
  constants_ready (e ∷ es) r f =
      All-cons ConstantReady e es (constant_ready e (All-head ExprResolved e es r) (All-head IsConstant e es f))
      (constants_ready es (All-tail ExprResolved e es r) (All-tail IsConstant e es f))

  init_ready : (o : Option (Expr N P)) → IfThere ExprResolved o → IfThere IsConstant o → IfThere ConstantReady o
  init_ready None r f = tt
  init_ready (Some e) r f = constant_ready e r f

  elements_ready : (es : Elements N P) → ElementsResolved es → ElementsFormed es → ElementsReady es
  elements_ready (Indices is) r f = r
  elements_ready (Expressions t es) r f = (r.0, constants_ready es r.1 f)

  defined_ready : (d : Defined N P) → DefinedResolved d → DefinedFormed d → DefinedReady d
  defined_ready (Imported from name t) r f = r
  defined_ready (Func g) r f = record { type_use = r.type_use; locals = r.locals; body = expr_ready g.body r.body f }
  defined_ready (Table t init) r f = (r.0, init_ready init r.1 f)
  defined_ready (TableOf wide t es) r f = r
  defined_ready (Memory t) r f = tt
  defined_ready (MemoryOf wide page vs) r f = r
  defined_ready (Global t init) r f = (r.0, constant_ready init r.1 f)
  defined_ready (Tag u) r f = r

  elem_mode_ready : (m : ElemMode N P) → ElemModeResolved m → ElemModeFormed m → ElemModeReady m
  elem_mode_ready PassiveElem r f = tt
  elem_mode_ready DeclaredElem r f = tt
  elem_mode_ready (ActiveElem table offset) r f = (r.0, constant_ready offset r.1 f)

  data_mode_ready : (m : DataMode N P) → DataModeResolved m → DataModeFormed m → DataModeReady m
  data_mode_ready PassiveData r f = tt
  data_mode_ready (ActiveData memory offset) r f = (r.0, constant_ready offset r.1 f)

  resolved_ready : (f : Field N P) → FieldResolved f → FieldFormed f → FieldOfReadyParts f
  resolved_ready (TypeField t) r f = r
  resolved_ready (RecField x) r f = r
  resolved_ready (ImportField i) r f = r
  resolved_ready (Define d) r f = defined_ready d.defined r.1 f
  resolved_ready (ExportField e) r f = r
  resolved_ready (StartField s) r f = r
  resolved_ready (ElemField e) r f = (elem_mode_ready e.mode r.0 f.0, elements_ready e.elements r.1 f.1)
  resolved_ready (DataField d) r f = data_mode_ready d.mode r f
  resolved_ready (CustomField c) r f = tt

  abbrev NoForms : Field N P → Type 0
  NoForms f = field_forms f ≡ []

  pub fields_ready : (fs : List (Field N P)) → All FieldResolved fs → All NoForms fs → All FieldFormed fs → All FieldReady fs
  fields_ready [] r c f = All-nil FieldReady
  fields_ready (x ∷ xs) r c f =
      All-cons FieldReady x xs
      (record { resolved = resolved_ready x (All-head FieldResolved x xs r) (All-head FieldFormed x xs f); covered = All-head NoForms x xs c })
      (fields_ready xs (All-tail FieldResolved x xs r) (All-tail NoForms x xs c) (All-tail FieldFormed x xs f))

-- FIELDS that are well formed, meet all demands and are covered, by what they are resolved to
pub can_encode : (fields : List (Field Name ℕ)) (naming : ℕ → Name) → are_ordered fields ≡ true → breaches same_name is_made fields ≡ []
    → first_unmet is_met (all_demands same_name naming fields) ≡ None → uncovered naming fields ≡ None → CanEncode (resolved same_name naming fields)
can_encode fields naming ordered none met clear = record {
  ready = fields_ready (resolved same_name naming fields) (ready same_name naming fields name_self name_sound met) (covered same_name naming fields ordered clear) (formed same_name is_made naming fields none);
  settled = again.resolved_settled same_name name_self name_sound naming fields met;
  placed = functions_placed same_name name_self name_sound naming fields met;
  hints = λ name fit. hints_fit same_name name_self name_sound is_made naming fields name met none fit;
}

-- those of the code
pub code_can : (fields : List ModuleField) (naming : ℕ → Name) → breaches same_name is_made (map field_tree fields) ≡ []
    → first_unmet is_met (all_demands same_name naming (map field_tree fields)) ≡ None → uncovered naming (map field_tree fields) ≡ None
    → CanEncode (resolved same_name naming (map field_tree fields))
code_can fields naming none met clear = can_encode (map field_tree fields) naming (trees_ordered fields) none met clear
