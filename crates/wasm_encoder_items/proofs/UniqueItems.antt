-- The items of sections are told apart by their bytes.
use Rattle.std.proofs.Common.{ℕ, ◌≡◌, ◌<◌, Bool, true, false, nat_eq, List, [], ◌∷◌, ◌++◌, refl, sym, ap, ◌∙◌, arith, Option, Some, None, append_assoc, flat_map}
use Rattle.std.proofs.lemmas.Bool.{eqb-true}
use Rattle.wasm_encoder_base.specs.Leb.{uleb, leb, digits}
use Rattle.wasm_encoder_base.specs.Bytes.{counted, sized}
use Rattle.wasm_encoder_base.specs.Instr.{instr_bytes, expr_bytes}
use Rattle.wasm_encoder_base.specs.Types.{Reference, CompositeType, Function, Array, Struct, ref_bytes, supertype_bytes, composite_bytes}
use Rattle.wasm_encoder_base.specs.Unique.{Unique, Any}
use Rattle.wasm_encoder_base.proofs.UniqueBytes.{unique_list, unique_counted, unique_name}
use Rattle.wasm_encoder_base.proofs.UniqueLeb.{unique_uleb}
use Rattle.wasm_encoder_base.proofs.UniqueParts.{cons_head, cons_tail, unique_pair, unique_via, unique_where, unique_code}
use Rattle.wasm_encoder_base.proofs.UniqueTypes.{unique_same, unique_ref, unique_sub, unique_after, not_head}
use Rattle.wasm_encoder_base.proofs.UniqueInstr.{unique_expr}
use Rattle.wasm_encoder_code.specs.Laws.{IsExpression}
use Rattle.wasm_encoder_items.specs.EntityTypes.{TableType, table_bytes, limits_bytes, EntityType, FunctionEntity, TableEntity, MemoryEntity, GlobalEntity, TagEntity, entity_bytes}
use Rattle.wasm_encoder_items.specs.Imports.{Named, Imports, One, OfModule, OfType, named_bytes, imports_bytes, ExportKind, FuncExport, TableExport, MemoryExport, GlobalExport, TagExport, Export, export_code, export_bytes}
use Rattle.wasm_encoder_items.specs.Segments.{ended, ElementSegment, ActiveFunctions, PassiveFunctions, ActiveTableFunctions, DeclaredFunctions, ActiveExpressions, PassiveExpressions, ActiveTableExpressions, DeclaredExpressions, element_bytes, EachOfElements, DataSegment, ActiveData, PassiveData, memory_bytes, data_bytes, EachOfData, Table, WithoutInit, WithInit, table_item, EachOfTable, Global, EachOfGlobal, global_item}
use Rattle.wasm_encoder_items.specs.Laws.{IsExpressionBytes}
use Rattle.wasm_encoder_items.specs.TypeEntries.{TypeEntry, OneType, TypeGroup, entry_bytes}
use Rattle.wasm_encoder_items.proofs.UniqueEntities.{unique_table, unique_global, unique_entity}

unique_named : Unique Any named_bytes
unique_named = unique_where (λ n _. (tt, tt)) (unique_via {A = Named} (λ n. (n.name, n.type)) (λ p. record { name = p.0; type = p.1 }) (λ n. refl) (unique_pair unique_name unique_entity))

-- what follows the two names of an entry, the second of which is empty where it is a group
data Rest : Type 0 where
  RestOfOne : EntityType → Rest
  RestOfModule : List Named → Rest
  RestOfType : EntityType → List (List ℕ) → Rest

abbrev rest_bytes : Rest → List ℕ
rest_bytes (RestOfOne type) = entity_bytes type
rest_bytes (RestOfModule items) = 0x7F ∷ counted named_bytes items
rest_bytes (RestOfType type names) = 0x7E ∷ (entity_bytes type ++ counted sized names)

not_entity : {Z : Type 0} (t : EntityType) (b : ℕ) (r s : List ℕ) → 4 < b → b ∷ r ≡ entity_bytes t ++ s → Z
not_entity (FunctionEntity x) b r s h e = absurd (omega (arith, cons_head e))
not_entity (TableEntity x) b r s h e = absurd (omega (arith, cons_head e))
not_entity (MemoryEntity x) b r s h e = absurd (omega (arith, cons_head e))
not_entity (GlobalEntity x) b r s h e = absurd (omega (arith, cons_head e))
not_entity (TagEntity x) b r s h e = absurd (omega (arith, cons_head e))

unique_of_type : Unique {A = EntityType × List (List ℕ)} (λ p. Any p.0 × Any p.1) (λ p. entity_bytes p.0 ++ counted sized p.1)
unique_of_type = unique_pair unique_entity (unique_list unique_name)

rest_one : (x y : Rest) (r s : List ℕ) → rest_bytes x ++ r ≡ rest_bytes y ++ s → (x ≡ y) × (r ≡ s)
rest_one (RestOfOne x) (RestOfOne y) r s e = let h = unique_entity.reads x y r s tt tt e in (ap RestOfOne h.0, h.1)
rest_one (RestOfModule x) (RestOfModule y) r s e = let h = (unique_list unique_named).reads x y r s tt tt (cons_tail e) in (ap RestOfModule h.0, h.1)
rest_one (RestOfType t x) (RestOfType u y) r s e = let h = unique_of_type.reads (t, x) (u, y) r s (tt, tt) (tt, tt) (cons_tail e) in (ap (λ p. RestOfType p.0 p.1) h.0, h.1)
rest_one (RestOfOne x) (RestOfModule y) r s e = not_entity x 0x7F _ r (omega arith) (sym e)
rest_one (RestOfOne x) (RestOfType u y) r s e = not_entity x 0x7E _ r (omega arith) (sym e)
rest_one (RestOfModule x) (RestOfOne y) r s e = not_entity y 0x7F _ s (omega arith) e
rest_one (RestOfType t x) (RestOfOne y) r s e = not_entity y 0x7E _ s (omega arith) e
rest_one (RestOfModule x) (RestOfType u y) r s e = absurd (omega (arith, cons_head e))
rest_one (RestOfType t x) (RestOfModule y) r s e = absurd (omega (arith, cons_head e))

unique_rest : Unique Any rest_bytes
unique_rest = record { reads = λ x y r s _ _ e. rest_one x y r s e }

-- the two names and the rest
abbrev entry_parts : Imports → List ℕ × (List ℕ × Rest)
entry_parts (One i) = (i.module_name, (i.name, RestOfOne i.type))
entry_parts (OfModule m items) = (m, ([], RestOfModule items))
entry_parts (OfType m type names) = (m, ([], RestOfType type names))

abbrev entry_of : List ℕ → List ℕ → Rest → Imports
entry_of m n (RestOfOne type) = One (record { module_name = m; name = n; type = type })
entry_of m n (RestOfModule items) = OfModule m items
entry_of m n (RestOfType type names) = OfType m type names

abbrev parts_bytes : List ℕ × (List ℕ × Rest) → List ℕ
parts_bytes p = sized p.0 ++ (sized p.1.0 ++ rest_bytes p.1.1)

entry_back : (x : Imports) → entry_of (entry_parts x).0 (entry_parts x).1.0 (entry_parts x).1.1 ≡ x
entry_back (One i) = refl
entry_back (OfModule m items) = refl
entry_back (OfType m type names) = refl

entry_spelled : (x : Imports) → imports_bytes x ≡ parts_bytes (entry_parts x)
unfolding uleb leb digits
entry_spelled (One i) = refl
entry_spelled (OfModule m items) = refl
entry_spelled (OfType m type names) = refl

pub unique_imports : Unique Any imports_bytes
unique_imports =
    unique_same entry_spelled
    (unique_where (λ x _. (tt, (tt, tt)))
    (unique_via {A = Imports} entry_parts (λ p. entry_of p.0 p.1.0 p.1.1) entry_back (unique_pair unique_name (unique_pair unique_name unique_rest))))

export_kind_of : ℕ → ExportKind
export_kind_of n = elim (nat_eq n 0) [ true ↦ FuncExport | false ↦ elim (nat_eq n 1) [ true ↦ TableExport | false ↦ elim (nat_eq n 2) [ true ↦ MemoryExport | false ↦ elim (nat_eq n 3) [ true ↦ GlobalExport | false ↦ TagExport ] ] ] ]

export_kind_back : (k : ExportKind) → export_kind_of (export_code k) ≡ k
unfolding export_kind_of
export_kind_back FuncExport = refl
export_kind_back TableExport = refl
export_kind_back MemoryExport = refl
export_kind_back GlobalExport = refl
export_kind_back TagExport = refl

unique_export_kind : Unique Any (λ k. export_code k ∷ [])
unique_export_kind = unique_code export_code export_kind_of export_kind_back

pub unique_export : Unique Any export_bytes
unique_export =
    unique_where (λ e _. (tt, (tt, tt)))
    (unique_via {A = Export} (λ e. (e.name, (e.kind, e.index))) (λ p. record { name = p.0; kind = p.1.0; index = p.1.1 }) (λ e. refl) (unique_pair unique_name (unique_pair unique_export_kind unique_uleb)))

unique_indices : Unique {A = List ℕ} Any (counted uleb)
unique_indices = unique_list unique_uleb

element_one : {E : Type 0} {P : E → Type 0} {spell : E → List ℕ} → Unique P spell → (x y : ElementSegment E) (r s : List ℕ) → EachOfElements P x → EachOfElements P y → element_bytes spell x ++ r ≡ element_bytes spell y ++ s → (x ≡ y) × (r ≡ s)
element_one u (ActiveFunctions o x) (ActiveFunctions q y) r s p w e =
    let h = (unique_pair u unique_indices).reads (o, x) (q, y) r s (p, tt) (w, tt) (cons_tail e) in
    (ap (λ v. ActiveFunctions v.0 v.1) h.0, h.1)
element_one u (PassiveFunctions x) (PassiveFunctions y) r s p w e =
    let h = unique_indices.reads x y r s tt tt (cons_tail (cons_tail e)) in
    (ap PassiveFunctions h.0, h.1)
element_one u (ActiveTableFunctions t o x) (ActiveTableFunctions v q y) r s p w e =
    let h = (unique_pair unique_uleb (unique_pair u (unique_after 0x00 unique_indices))).reads (t, (o, x)) (v, (q, y)) r s (tt, (p, tt)) (tt, (w, tt)) (cons_tail e) in
    (ap (λ v. ActiveTableFunctions v.0 v.1.0 v.1.1) h.0, h.1)
element_one u (DeclaredFunctions x) (DeclaredFunctions y) r s p w e =
    let h = unique_indices.reads x y r s tt tt (cons_tail (cons_tail e)) in
    (ap DeclaredFunctions h.0, h.1)
element_one u (ActiveExpressions o x) (ActiveExpressions q y) r s p w e =
    let h = (unique_pair u (unique_counted u)).reads (o, x) (q, y) r s p w (cons_tail e) in
    (ap (λ v. ActiveExpressions v.0 v.1) h.0, h.1)
element_one u (PassiveExpressions t x) (PassiveExpressions v y) r s p w e =
    let h = (unique_pair unique_ref (unique_counted u)).reads (t, x) (v, y) r s (tt, p) (tt, w) (cons_tail e) in
    (ap (λ v. PassiveExpressions v.0 v.1) h.0, h.1)
element_one u (ActiveTableExpressions a o t x) (ActiveTableExpressions b q v y) r s p w e =
    let h = (unique_pair unique_uleb (unique_pair u (unique_pair unique_ref (unique_counted u)))).reads (a, (o, (t, x))) (b, (q, (v, y))) r s (tt, (p.0, (tt, p.1))) (tt, (w.0, (tt, w.1))) (cons_tail e) in
    (ap (λ v. ActiveTableExpressions v.0 v.1.0 v.1.1.0 v.1.1.1) h.0, h.1)
element_one u (DeclaredExpressions t x) (DeclaredExpressions v y) r s p w e =
    let h = (unique_pair unique_ref (unique_counted u)).reads (t, x) (v, y) r s (tt, p) (tt, w) (cons_tail e) in
    (ap (λ v. DeclaredExpressions v.0 v.1) h.0, h.1)
element_one u _ _ r s p w e = absurd (omega (arith, cons_head e))

pub unique_element : {E : Type 0} {P : E → Type 0} {spell : E → List ℕ} → Unique P spell → Unique (EachOfElements P) (element_bytes spell)
unique_element u = record { reads = λ x y r s p w e. element_one u x y r s p w e }

pub unique_expression : Unique IsExpression expr_bytes
unique_expression = unique_where (λ is h. (h.instructions, h.balanced)) unique_expr

-- the memory of a data segment
memory_one : (a b : Bool) (m n : ℕ) (r s : List ℕ) → nat_eq m 0 ≡ a → nat_eq n 0 ≡ b → elim a [ true ↦ 0x00 ∷ [] | false ↦ 0x02 ∷ uleb m ] ++ r ≡ elim b [ true ↦ 0x00 ∷ [] | false ↦ 0x02 ∷ uleb n ] ++ s → (m ≡ n) × (r ≡ s)
memory_one true true m n r s p q e = (eqb-true m 0 p ∙ sym (eqb-true n 0 q), cons_tail e)
memory_one false false m n r s p q e = unique_uleb.reads m n r s tt tt (cons_tail e)
memory_one true false m n r s p q e = absurd (omega (arith, cons_head e))
memory_one false true m n r s p q e = absurd (omega (arith, cons_head e))

unique_memory : Unique Any memory_bytes
unique_memory = record { reads = λ m n r s _ _ e. memory_one (nat_eq m 0) (nat_eq n 0) m n r s refl refl e }

not_memory : {Z : Type 0} (a : Bool) (m : ℕ) (r s : List ℕ) → 0x01 ∷ r ≡ elim a [ true ↦ 0x00 ∷ [] | false ↦ 0x02 ∷ uleb m ] ++ s → Z
not_memory true m r s e = absurd (omega (arith, cons_head e))
not_memory false m r s e = absurd (omega (arith, cons_head e))

data_one : {E : Type 0} {P : E → Type 0} {spell : E → List ℕ} → Unique P spell → (x y : DataSegment E) (r s : List ℕ) → EachOfData P x → EachOfData P y → data_bytes spell x ++ r ≡ data_bytes spell y ++ s → (x ≡ y) × (r ≡ s)
data_one u (ActiveData m o x) (ActiveData n q y) r s p w e =
    let h = (unique_pair unique_memory (unique_pair u unique_name)).reads (m, (o, x)) (n, (q, y)) r s (tt, (p, tt)) (tt, (w, tt)) e in
    (ap (λ v. ActiveData v.0 v.1.0 v.1.1) h.0, h.1)
data_one u (PassiveData x) (PassiveData y) r s p w e =
    let h = unique_name.reads x y r s tt tt (cons_tail e) in
    (ap PassiveData h.0, h.1)
data_one {spell} u (ActiveData m o x) (PassiveData y) r s p w e = not_memory (nat_eq m 0) m _ _ (sym e ∙ append_assoc (memory_bytes m) (spell o ++ sized x) r)
data_one {spell} u (PassiveData x) (ActiveData n q y) r s p w e = not_memory (nat_eq n 0) n _ _ (e ∙ append_assoc (memory_bytes n) (spell q ++ sized y) s)

pub unique_data : {E : Type 0} {P : E → Type 0} {spell : E → List ℕ} → Unique P spell → Unique (EachOfData P) (data_bytes spell)
unique_data u = record { reads = λ x y r s p w e. data_one u x y r s p w e }

-- no type of a table begins as a table with its initialiser does
not_table : {Z : Type 0} (t : TableType) (r s : List ℕ) → 0x40 ∷ r ≡ table_bytes t ++ s → Z
not_table t r s e = not_head (Reference t.element_type) 0x40 r (limits_bytes t.limits ++ s) refl (e ∙ append_assoc (ref_bytes t.element_type) (limits_bytes t.limits) s)

table_one : {E : Type 0} {P : E → Type 0} {spell : E → List ℕ} → Unique P spell → (x y : Table E) (r s : List ℕ) → EachOfTable P x → EachOfTable P y → table_item spell x ++ r ≡ table_item spell y ++ s → (x ≡ y) × (r ≡ s)
table_one u (WithoutInit x) (WithoutInit y) r s p w e = let h = unique_table.reads x y r s tt tt e in (ap WithoutInit h.0, h.1)
table_one u (WithInit t x) (WithInit v y) r s p w e =
    let h = (unique_pair unique_table u).reads (t, x) (v, y) r s (tt, p) (tt, w) (cons_tail (cons_tail e)) in
    (ap (λ v. WithInit v.0 v.1) h.0, h.1)
table_one u (WithoutInit x) (WithInit v y) r s p w e = not_table x _ r (sym e)
table_one u (WithInit t x) (WithoutInit y) r s p w e = not_table y _ s e

pub unique_table_item : {E : Type 0} {P : E → Type 0} {spell : E → List ℕ} → Unique P spell → Unique (EachOfTable P) (table_item spell)
unique_table_item u = record { reads = λ x y r s p w e. table_one u x y r s p w e }

pub unique_global_item : {E : Type 0} {P : E → Type 0} {spell : E → List ℕ} → Unique P spell → Unique (EachOfGlobal P) (global_item spell)
unique_global_item {E} u =
    unique_where (λ g p. (tt, p))
    (unique_via {A = Global E} (λ g. (g.type, g.init)) (λ p. record { type = p.0; init = p.1 }) (λ g. refl) (unique_pair unique_global u))

-- no type begins as a group does
not_sub : {Z : Type 0} (f : Bool) (t : Option ℕ) (c : CompositeType) (r s : List ℕ) → 0x4E ∷ r ≡ (supertype_bytes f t ++ composite_bytes c) ++ s → Z
not_sub true None (Function c) r s e = absurd (omega (arith, cons_head e))
not_sub true None (Array c) r s e = absurd (omega (arith, cons_head e))
not_sub true None (Struct c) r s e = absurd (omega (arith, cons_head e))
not_sub true (Some n) c r s e = absurd (omega (arith, cons_head e))
not_sub false t c r s e = absurd (omega (arith, cons_head e))

entry_one : (x y : TypeEntry) (r s : List ℕ) → entry_bytes x ++ r ≡ entry_bytes y ++ s → (x ≡ y) × (r ≡ s)
entry_one (OneType x) (OneType y) r s e = let h = unique_sub.reads x y r s tt tt e in (ap OneType h.0, h.1)
entry_one (TypeGroup x) (TypeGroup y) r s e = let h = (unique_list unique_sub).reads x y r s tt tt (cons_tail e) in (ap TypeGroup h.0, h.1)
entry_one (OneType x) (TypeGroup y) r s e = not_sub x.is_final x.supertype x.composite_type _ r (sym e)
entry_one (TypeGroup x) (OneType y) r s e = not_sub y.is_final y.supertype y.composite_type _ s e

pub unique_entry : Unique Any entry_bytes
unique_entry = record { reads = λ x y r s _ _ e. entry_one x y r s e }

pub unique_ended : Unique IsExpressionBytes ended
unique_ended = record {
  reads = λ x y r s p q e. (
      let h = unique_expression.reads p.instructions q.instructions r s p.is_expression q.is_expression (ap (λ b. ended b ++ r) (sym p.spelled) ∙ e ∙ ap (λ b. ended b ++ s) q.spelled) in
      (p.spelled ∙ ap (flat_map instr_bytes) h.0 ∙ sym q.spelled, h.1));
}
