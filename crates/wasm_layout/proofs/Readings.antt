-- A module is had back from its binary.
use Rattle.std.proofs.Common.{ℕ, ◌≡◌, Bool, true, false, not, ◌&&◌, is_some, List, [], ◌∷◌, ◌++◌, map, replicate, slice_get, Option, Some, None, codes, refl, sym, ap, ◌∙◌}
use Rattle.std.specs.List.{AllByRecursion, sum_by}
use Rattle.std.specs.Option.{option_flatten}
use Rattle.std.proofs.lemmas.List.{append_cancel_left}
use Rattle.wasm_encoder_base.specs.Bytes.{counted, sized, optional}
use Rattle.wasm_encoder_base.specs.Instr.{Instr}
use Rattle.wasm_encoder_base.specs.Leb.{uleb}
use Rattle.wasm_encoder_base.specs.Unique.{Unique, Any}
use Rattle.wasm_encoder_base.proofs.UniqueParts.{cons_head, cons_tail, no_cons, any_each, injective_of}
use Rattle.wasm_encoder_base.proofs.UniqueBytes.{unique_counted, unique_list, unique_name}
use Rattle.wasm_encoder_base.proofs.UniqueLeb.{unique_uleb}
use Rattle.wasm_encoder_code.specs.Body.{body_bytes}
use Rattle.wasm_encoder_code.specs.Laws.{IsExpression}
use Rattle.wasm_encoder_code.proofs.Unique.{injective_body}
use Rattle.wasm_encoder_items.specs.Segments.{EachOfTable, Table, WithoutInit, WithInit, EachOfElements, ElementSegment, ActiveFunctions, PassiveFunctions, ActiveTableFunctions, DeclaredFunctions, ActiveExpressions, PassiveExpressions, ActiveTableExpressions, DeclaredExpressions, EachOfData, DataSegment, ActiveData, PassiveData}
use Rattle.wasm_encoder_items.proofs.UniqueEntities.{unique_limits, unique_tag}
use Rattle.wasm_encoder_items.proofs.UniqueItems.{unique_entry, unique_imports, unique_table_item, unique_global_item, unique_export, unique_element, unique_data, unique_expression}
use Rattle.wasm_encoder_sections.specs.Codes.{function_item}
use Rattle.wasm_encoder_custom.specs.Custom.{custom_body}
use Rattle.wasm_encoder_custom.specs.BranchHints.{function_hints_bytes}
use Rattle.wasm_encoder_custom.specs.Names.{name_section}
use Rattle.wasm_encoder_custom.proofs.UniqueParts.{unique_function_hints}
use Rattle.wasm_layout.specs.Section.{Types, Imports, Functions, Tables, Memories, Tags, Globals, Exports, Starts, Elements, Hints, Codes, Datas, Names}
use Rattle.wasm_layout.specs.AbstractModule.{Function, FunctionHints, NameMaps}
use Rattle.wasm_layout.specs.Present.{has_any, has_names, is_called}
use Rattle.wasm_layout.specs.Layout.{functions_in, function_at, if_there, placed_hints, name_bytes}
use Rattle.wasm_layout.specs.IsModule.{IsFunction, IsTable, IsElement, IsData}
use Rattle.wasm_layout.specs.Laws.{OneReading}
use Rattle.wasm_layout.proofs.Pieces.{same_sections}
use Rattle.wasm_layout.proofs.UniqueNames.{names_back, no_names_back}
use Rattle.wasm_layout.proofs.UniqueHints.{hints_back}

-- the list of a section that may be absent
list_back : {A : Type 0} {P : A → Type 0} {e : A → List ℕ} → Unique P e → (xs ys : List A) → AllByRecursion P xs → AllByRecursion P ys → if_there (has_any xs) (counted e xs) ≡ if_there (has_any ys) (counted e ys) → xs ≡ ys
list_back u [] [] p q e = refl
list_back u [] (y ∷ ys) p q e = no_cons (sym e)
list_back u (x ∷ xs) [] p q e = no_cons e
list_back u (x ∷ xs) (y ∷ ys) p q e = (injective_of (unique_counted u)).reads (x ∷ xs) (y ∷ ys) p q (cons_head e)

plain_back : {A : Type 0} {e : A → List ℕ} → Unique {A = A} Any e → (xs ys : List A) → if_there (has_any xs) (counted e xs) ≡ if_there (has_any ys) (counted e ys) → xs ≡ ys
plain_back u xs ys e = list_back u xs ys (any_each xs) (any_each ys) e

-- functions, by their types and their bodies
each_function : (fs gs : List Function) → AllByRecursion IsFunction fs → AllByRecursion IsFunction gs → map (λ f. f.type_index) fs ≡ map (λ f. f.type_index) gs → map (λ f. body_bytes f.body) fs ≡ map (λ f. body_bytes f.body) gs → fs ≡ gs
each_function [] [] p q a b = refl
each_function [] (g ∷ gs) p q a b = no_cons (sym a)
each_function (f ∷ fs) [] p q a b = no_cons a
each_function (f ∷ fs) (g ∷ gs) p q a b =
    let body = injective_body.reads f.body g.body p.0.body q.0.body (cons_head b) in
    let rest = each_function fs gs p.1 q.1 (cons_tail a) (cons_tail b) in
    λ i. record { type_index = cons_head a i; body = body i } ∷ rest i

unique_indices : Unique {A = List ℕ} Any (counted uleb)
unique_indices = unique_list unique_uleb

unique_bodies : Unique {A = List (List ℕ)} Any (counted function_item)
unique_bodies = unique_list unique_name

functions_back : (fs gs : List Function) → AllByRecursion IsFunction fs → AllByRecursion IsFunction gs →
    if_there (has_any fs) (counted uleb (map (λ f. f.type_index) fs)) ≡ if_there (has_any gs) (counted uleb (map (λ f. f.type_index) gs)) →
    if_there (has_any fs) (counted function_item (map (λ f. body_bytes f.body) fs)) ≡ if_there (has_any gs) (counted function_item (map (λ f. body_bytes f.body) gs)) → fs ≡ gs
functions_back [] [] p q a b = refl
functions_back [] (g ∷ gs) p q a b = no_cons (sym a)
functions_back (f ∷ fs) [] p q a b = no_cons a
functions_back (f ∷ fs) (g ∷ gs) p q a b =
    each_function (f ∷ fs) (g ∷ gs) p q
    ((injective_of unique_indices).reads (map (λ f. f.type_index) (f ∷ fs)) (map (λ f. f.type_index) (g ∷ gs)) tt tt (cons_head a))
    ((injective_of unique_bodies).reads (map (λ f. body_bytes f.body) (f ∷ fs)) (map (λ f. body_bytes f.body) (g ∷ gs)) tt tt (cons_head b))

start_back : (o p : Option ℕ) → if_there (is_some o) (optional uleb o) ≡ if_there (is_some p) (optional uleb p) → o ≡ p
start_back None None e = refl
start_back None (Some n) e = no_cons (sym e)
start_back (Some m) None e = no_cons e
start_back (Some m) (Some n) e = ap Some ((injective_of unique_uleb).reads m n tt tt (cons_head e))

-- names and hints, each behind the name of its section
names_again : (m n : NameMaps (List ℕ)) (b c : Bool) → has_names m ≡ b → has_names n ≡ c → if_there b (custom_body (name_section (name_bytes m))) ≡ if_there c (custom_body (name_section (name_bytes n))) → m ≡ n
names_again m n true true p q e = names_back m n (append_cancel_left (sized (codes "name")) (name_bytes m) (name_bytes n) (cons_head e))
names_again m n true false p q e = no_cons e
names_again m n false true p q e = no_cons (sym e)
names_again m n false false p q e = no_names_back m n p q

and_not : (a b : Bool) → b ≡ false → (a && not b) ≡ a
and_not true false h = refl
and_not true true h = absurd cc
and_not false b h = refl

hints_again : (at to : ℕ → Option Function) (gs hs : List FunctionHints) →
    if_there (has_any gs) (sized (codes "metadata.code.branch_hint") ++ counted function_hints_bytes (map (placed_hints at) gs))
    ≡ if_there (has_any hs) (sized (codes "metadata.code.branch_hint") ++ counted function_hints_bytes (map (placed_hints to) hs)) →
    map (placed_hints at) gs ≡ map (placed_hints to) hs
hints_again at to [] [] e = refl
hints_again at to [] (h ∷ hs) e = no_cons (sym e)
hints_again at to (g ∷ gs) [] e = no_cons e
hints_again at to (g ∷ gs) (h ∷ hs) e =
    (injective_of (unique_list unique_function_hints)).reads (map (placed_hints at) (g ∷ gs)) (map (placed_hints to) (h ∷ hs)) tt tt
    (append_cancel_left (sized (codes "metadata.code.branch_hint")) (counted function_hints_bytes (map (placed_hints at) (g ∷ gs))) (counted function_hints_bytes (map (placed_hints to) (h ∷ hs))) (cons_head e))

-- what is asked of expressions
each_where : {A : Type 0} {P Q : A → Type 0} → ((x : A) → P x → Q x) → (xs : List A) → AllByRecursion P xs → AllByRecursion Q xs
each_where f [] h = tt
each_where f (x ∷ xs) h = (f x h.0, each_where f xs h.1)

of_table : (t : Table (List Instr)) → IsTable t → EachOfTable IsExpression t
of_table (WithoutInit t) p = tt
of_table (WithInit t init) p = p.1

of_element : (s : ElementSegment (List Instr)) → IsElement s → EachOfElements IsExpression s
of_element (ActiveFunctions offset functions) p = p.0
of_element (PassiveFunctions functions) p = tt
of_element (ActiveTableFunctions table offset functions) p = p.1
of_element (DeclaredFunctions functions) p = tt
of_element (ActiveExpressions offset elements) p = p
of_element (PassiveExpressions type elements) p = p.1
of_element (ActiveTableExpressions table offset type elements) p = (p.1, p.3)
of_element (DeclaredExpressions type elements) p = p.1

of_data : (s : DataSegment (List Instr)) → IsData s → EachOfData IsExpression s
of_data (ActiveData memory offset bytes) p = p.1
of_data (PassiveData bytes) p = tt

pub one_reading : OneReading
one_reading b m n x y =
    let s = same_sections b m n x y in
    let p = x.lays.is_module in
    let q = y.lays.is_module in
    let types = plain_back unique_entry m.types n.types (s.slots Types) in
    let imports = plain_back unique_imports m.imports n.imports (s.slots Imports) in
    let functions = functions_back m.functions n.functions p.functions q.functions (s.slots Functions) (s.slots Codes) in
    let tables = list_back (unique_table_item unique_expression) m.tables n.tables (each_where of_table m.tables p.tables) (each_where of_table n.tables q.tables) (s.slots Tables) in
    let memories = plain_back unique_limits m.memories n.memories (s.slots Memories) in
    let tags = plain_back unique_tag m.tags n.tags (s.slots Tags) in
    let globals = list_back (unique_global_item unique_expression) m.globals n.globals (each_where (λ g h. h.init) m.globals p.globals) (each_where (λ g h. h.init) n.globals q.globals) (s.slots Globals) in
    let exports = plain_back unique_export m.exports n.exports (s.slots Exports) in
    let start = start_back m.start n.start (s.slots Starts) in
    let elements = list_back (unique_element unique_expression) m.elements n.elements (each_where of_element m.elements p.elements) (each_where of_element n.elements q.elements) (s.slots Elements) in
    let datas = list_back (unique_data unique_expression) m.datas n.datas (each_where of_data m.datas p.datas) (each_where of_data n.datas q.datas) (s.slots Datas) in
    let names = names_again m.names n.names (has_names m.names) (has_names n.names) refl refl
    (ap (λ a. if_there a (custom_body (name_section (name_bytes m.names)))) (sym (and_not (has_names m.names) (is_called (codes "name") m.customs) x.no_names))
    ∙ s.slots Names ∙ ap (λ a. if_there a (custom_body (name_section (name_bytes n.names)))) (and_not (has_names n.names) (is_called (codes "name") n.customs) y.no_names)) in
    let at : function_at n ≡ function_at m = λ i k. option_flatten (slice_get (replicate (sum_by functions_in (sym imports i)) None ++ map Some (sym functions i)) k) in
    let hints = hints_back m n p.functions at p.hints q.hints (hints_again (function_at m) (function_at n) m.hints n.hints (s.slots Hints)) in
    λ i. record {
      types = types i;
      imports = imports i;
      functions = functions i;
      tables = tables i;
      memories = memories i;
      tags = tags i;
      globals = globals i;
      exports = exports i;
      start = start i;
      elements = elements i;
      datas = datas i;
      names = names i;
      hints = hints i;
      customs = s.customs i;
    }
