-- Fields that can be encoded have bodies that can be, for branch hints.
use Rattle.std.proofs.Common.{◌≡◌, List, [], ◌∷◌, All}
use Rattle.std.proofs.lemmas.List.Elements.{All-nil, All-cons, All-head, All-tail}
use Rattle.wast_module_fields.specs.FieldTree.{Defined, Imported, Func, Table, TableOf, Memory, MemoryOf, Global, Tag, Field, TypeField, RecField, ImportField, Define, ExportField, StartField, ElemField, DataField, CustomField}
use Rattle.wast_meant.specs.Covered.{defined_forms}
use Rattle.wast_section_items.specs.Ready.{DefinedReady, FieldReady}
use Rattle.wast_custom_sections.specs.Hints.{DefinedHintReady, HintReady}
use Rattle.wast_custom_sections.proofs.Ready.{body_ready}

module _ {N P : Type 0} where
  defined_hinted : (d : Defined N P) → DefinedReady d → defined_forms d ≡ [] → DefinedHintReady d
  defined_hinted (Func f) r c = body_ready f r.locals r.body.resolved r.body.aligned c
  defined_hinted (Imported from name t) r c = tt
  defined_hinted (Table t init) r c = tt
  defined_hinted (TableOf wide t es) r c = tt
  defined_hinted (Memory t) r c = tt
  defined_hinted (MemoryOf wide page vs) r c = tt
  defined_hinted (Global t init) r c = tt
  defined_hinted (Tag u) r c = tt

  field_hinted : (f : Field N P) → FieldReady f → HintReady f
  field_hinted (Define d) h = defined_hinted d.defined h.resolved h.covered
  field_hinted (TypeField t) h = tt
  field_hinted (RecField r) h = tt
  field_hinted (ImportField i) h = tt
  field_hinted (ExportField e) h = tt
  field_hinted (StartField s) h = tt
  field_hinted (ElemField e) h = tt
  field_hinted (DataField d) h = tt
  field_hinted (CustomField c) h = tt

  pub fields_hinted : (fs : List (Field N P)) → All FieldReady fs → All HintReady fs
  fields_hinted [] h = All-nil HintReady
  fields_hinted (f ∷ fs) h = All-cons HintReady f fs (field_hinted f (All-head FieldReady f fs h)) (fields_hinted fs (All-tail FieldReady f fs h))
