-- What is written out is well formed where the fields are, given that both meet their demands and are spelled.
use Rattle.std.proofs.Common.{◌≡◌, ℕ, zero, suc, ◌≤◌, ◌<◌, Bool, true, false, List, [], ◌∷◌, ◌++◌, Option, Some, None, unwrap_or, cond, inl, inr, refl, sym, ◌∙◌, ap, arith, tests, nat_lt}
use Rattle.std.specs.Prelude.{◌&&◌, ◌||◌, ◌^◌, ◌==◌, not, if◌then◌else◌, codes}
use Rattle.std.specs.List.{flat_map, list_all}
use Rattle.std.specs.Cmp.Derive.{both_true}
use Rattle.std.proofs.lemmas.Bool.{cases_Bool}
use Rattle.std.proofs.lemmas.Grind.{flat_map-append}
use Rattle.wast_grammar.specs.Tokens.{SignificantToken}
use Rattle.wast_grammar.specs.Spelling as spelling
use Rattle.wast_grammar.specs.Grammar.{Syntax}
use Rattle.wast_names.specs.Walk.{walked}
use Rattle.wast_names.specs.Demand.{is_met}
use Rattle.wast_value_types.specs.ValueTree.{HeapType, Abstract, Concrete, Exact}
use Rattle.wast_value_types.specs.ValueSyntax.{exponent_below, exponent, page_size}
use Rattle.wast_field_syntax.specs.FieldTree.{Elements, Defined, Definition, ElemMode, PassiveElem, DeclaredElem, ActiveElem, DataMode, PassiveData, ActiveData, Field, TypeField, RecField, ImportField, Define, ExportField, StartField, ElemField, DataField, CustomField, is_start, no_start, one_start, field_place, Content, Fields, Pieces, Module}
use Rattle.wast_field_syntax.specs.DefinitionSyntax.{definition}
use Rattle.wast_field_syntax.specs.FuncSyntax.{func_defined, global_defined, tag_defined}
use Rattle.wast_field_syntax.specs.TableSyntax.{memory_with, memory_defined, table_with, table_defined}
use Rattle.wast_core.specs.FieldSyntax.{field}
use Rattle.wast_core.specs.ModuleSyntax.{wat}
use Rattle.wast_meaning.specs.Written.{zero_offset, field_out, written_from, written_out}
use Rattle.wast_meaning.specs.Mentions.{Part, Constant, heap_mentions, says, elements_parts, defined_parts, elem_mode_parts, data_mode_parts, parts}
use Rattle.wast_meaning.specs.Scope.{Scope, scope_of}
use Rattle.wast_meaning.specs.Demands.{field_demands}
use Rattle.wast_meaning.specs.WellFormed.{part_formed, page_formed, pages_formed, are_bound, field_formed, breach, breaches}
use Rattle.wast_meaning.proofs.Settled.{left, right, two, front, back}
use Rattle.wast_conversions.proofs.Empty.{front as nil_front, back as nil_back}
use Rattle.wast_resolve_laws.proofs.Outlined.{OwnQuiet, parts_out}
use Rattle.wast_resolve_laws.proofs.Unmet.{all_bound}
use Rattle.wat_laws.specs.Written.{Places, heap_at, elem_mode_at, data_mode_at, placed, as_they_were, all_placed}
use Rattle.wat_laws.proofs.PlacedFields.{by_defined, by_field, same_each, import_at}

-- PARTS that aren't well formed
module _ {N P : Type 0} where
  abbrev marked : Part N P → List (Part N P)
  marked x = if part_formed x then [] else x ∷ []

  abbrev pub unformed : List (Field N P) → List (Part N P)
  unformed fs = flat_map (λ f. flat_map marked (parts f)) fs

  none_marked : (xs : List (Part N P)) → list_all part_formed xs ≡ true → flat_map marked xs ≡ []
  none_marked [] h = refl
  none_marked (x ∷ xs) h =
      ap (λ b. (if b then [] else x ∷ []) ++ flat_map marked xs) (left (part_formed x) (list_all part_formed xs) h) ∙ none_marked xs (right (part_formed x) (list_all part_formed xs) h)

  all_formed : (xs : List (Part N P)) → flat_map marked xs ≡ [] → list_all part_formed xs ≡ true
  all_formed [] h = refl
  all_formed (x ∷ xs) h = both_true (by_case (part_formed x) (nil_front (marked x) (flat_map marked xs) h)) (all_formed xs (nil_back (marked x) (flat_map marked xs) h))
    where
      by_case : (b : Bool) → (if b then [] else x ∷ []) ≡ [] → b ≡ true
      by_case true e = refl
      by_case false e = absurd (cc)

  -- writing out brings none
  zero_formed : (wide : Bool) → marked (Constant (zero_offset wide)) ≡ []
  zero_formed true = refl
  zero_formed false = refl

  quiet : (n : N) (f : Field N P) → OwnQuiet marked zero_formed n f
  quiet n (Define d) = λ e. refl
  quiet n (TypeField t) = tt
  quiet n (RecField r) = tt
  quiet n (ImportField i) = tt
  quiet n (ExportField e) = tt
  quiet n (StartField s) = tt
  quiet n (ElemField e) = tt
  quiet n (DataField d) = tt
  quiet n (CustomField c) = tt

  from_written : (naming : ℕ → N) (k : ℕ) (fs : List (Field N P)) → unformed (written_from naming k fs) ≡ unformed fs
  from_written naming k [] = refl
  from_written naming k (f ∷ fs) =
      flat_map-append (λ f. flat_map marked (parts f)) (field_out (naming k) f) (written_from naming (suc k) fs)
      ∙ two (λ a b. a ++ b) (parts_out marked zero_formed (naming k) f (quiet (naming k) f)) (from_written naming (suc k) fs)

  pub written_unformed : (naming : ℕ → N) (fs : List (Field N P)) → unformed (written_out naming fs) ≡ unformed fs
  written_unformed naming fs = from_written naming 0 fs

  -- nor do other places
  heap_marked : (h : HeapType N P) → flat_map marked (says (heap_mentions h) ++ []) ≡ []
  heap_marked (Abstract shared w) = refl
  heap_marked (Concrete i) = refl
  heap_marked (Exact i) = refl

  elem_marked : (p : P) (m : ElemMode N P) (es : Elements N P) → flat_map marked (elem_mode_parts (elem_mode_at p m) ++ elements_parts es) ≡ flat_map marked (elem_mode_parts m ++ elements_parts es)
  elem_marked p PassiveElem es = refl
  elem_marked p DeclaredElem es = refl
  elem_marked p (ActiveElem None offset) es = refl
  elem_marked p (ActiveElem (Some i) offset) es = refl

  data_marked : (p : P) (m : DataMode N P) → flat_map marked (data_mode_parts (data_mode_at p m)) ≡ flat_map marked (data_mode_parts m)
  data_marked p PassiveData = refl
  data_marked p (ActiveData None offset) = refl
  data_marked p (ActiveData (Some i) offset) = refl

  field_marked : (w : Places P) (f : Field N P) → flat_map marked (parts (placed w f)) ≡ flat_map marked (parts f)
  field_marked w f =
      by_field (λ x. flat_map marked (parts x)) w
      (λ i. ap (λ ms. flat_map marked (says ms)) (import_at w i.items))
      (λ d. by_defined (λ x. flat_map marked (defined_parts x)) w.heap (λ t. heap_marked (heap_at w.heap t.element.heap_type) ∙ sym (heap_marked t.element.heap_type)) d.defined)
      (λ e. refl)
      (λ e. elem_marked w.reference e.mode e.elements)
      (λ d. data_marked w.reference d.mode) f

  pub placed_unformed : (xs : List (Places P × Field N P)) → unformed (all_placed xs) ≡ unformed (as_they_were xs)
  placed_unformed xs = same_each (λ f. flat_map marked (parts f)) field_marked xs

  -- STARTS: one at most
  abbrev starts_alone : Bool → List (Field N P) → Bool
  starts_alone started [] = true
  starts_alone started (f ∷ fs) = not (started && is_start f) && starts_alone (started || is_start f) fs

  none_more : (fs : List (Field N P)) → no_start fs ≡ true → starts_alone true fs ≡ true
  none_more [] h = refl
  none_more (f ∷ fs) h = both_true (left (not (is_start f)) (no_start fs) h) (none_more fs (right (not (is_start f)) (no_start fs) h))

  one_alone : (fs : List (Field N P)) → one_start fs ≡ true → starts_alone false fs ≡ true
  one_alone [] h = refl
  one_alone (f ∷ fs) h = by_case (is_start f) h (one_alone fs)
    where
      by_case : (b : Bool) → (elim b [ true ↦ no_start fs | false ↦ one_start fs ]) ≡ true → (one_start fs ≡ true → starts_alone false fs ≡ true) → starts_alone b fs ≡ true
      by_case true e rest = none_more fs e
      by_case false e rest = rest e

  -- BREACHES
  abbrev started_after : Bool → Field N P → Bool
  started_after started f = started || is_start f

  module _ (eq : N → N → Bool) (is_made : N → Bool) (s : Scope N P) where
    parts_of_formed : (started : Bool) (f : Field N P) → field_formed eq is_made s started f ≡ true → list_all part_formed (parts f) ≡ true
    parts_of_formed started f h =
        let whole = list_all part_formed (parts f) in
        left whole (pages_formed f) (left (whole && pages_formed f) (not (started && is_start f)) (left (whole && pages_formed f && not (started && is_start f)) (are_bound eq is_made (field_demands eq s f)) h))

    breached_walk : (started : Bool) (fs : List (Field N P)) → walked (breach eq is_made s) started_after started fs ≡ [] → unformed fs ≡ []
    breached_walk started [] h = refl
    breached_walk started (f ∷ fs) h =
        two (λ a b. a ++ b) (none_marked (parts f) (parts_of_formed started f (by_case (field_formed eq is_made s started f) (nil_front (breach eq is_made s started f) (walked (breach eq is_made s) started_after (started_after started f) fs) h))))
        (breached_walk (started_after started f) fs (nil_back (breach eq is_made s started f) (walked (breach eq is_made s) started_after (started_after started f) fs) h))
      where
        by_case : (b : Bool) → (if b then [] else field_place f ∷ []) ≡ [] → b ≡ true
        by_case true e = refl
        by_case false e = absurd (cc)

    whole_walk : (started : Bool) (fs : List (Field N P)) → starts_alone started fs ≡ true → list_all pages_formed fs ≡ true → unformed fs ≡ [] → list_all is_met (flat_map (field_demands eq s) fs) ≡ true
        → walked (breach eq is_made s) started_after started fs ≡ []
    whole_walk started [] starts pages whole met = refl
    whole_walk started (f ∷ fs) starts pages whole met =
        let formed : field_formed eq is_made s started f ≡ true =
        both_true
        (both_true (both_true (all_formed (parts f) (nil_front (flat_map marked (parts f)) (unformed fs) whole)) (left (pages_formed f) (list_all pages_formed fs) pages)) (left (not (started && is_start f)) (starts_alone (started || is_start f) fs) starts))
        (all_bound eq is_made (field_demands eq s f) (front is_met (field_demands eq s f) (flat_map (field_demands eq s) fs) met)) in
        ap (λ b. (if b then [] else field_place f ∷ []) ++ walked (breach eq is_made s) started_after (started_after started f) fs) formed
        ∙ whole_walk (started_after started f) fs (right (not (started && is_start f)) (starts_alone (started || is_start f) fs) starts) (right (pages_formed f) (list_all pages_formed fs) pages) (nil_back (flat_map marked (parts f)) (unformed fs) whole) (back is_met (field_demands eq s f) (flat_map (field_demands eq s) fs) met)

  -- fields without breach have all parts formed; and the other way round where they are spelled and meet their demands
  pub no_breach_formed : (eq : N → N → Bool) (is_made : N → Bool) (fs : List (Field N P)) → breaches eq is_made fs ≡ [] → unformed fs ≡ []
  no_breach_formed eq is_made fs h = breached_walk eq is_made (scope_of eq fs) false fs h

  pub formed_no_breach : (eq : N → N → Bool) (is_made : N → Bool) (fs : List (Field N P)) → one_start fs ≡ true → list_all pages_formed fs ≡ true → unformed fs ≡ [] → list_all is_met (flat_map (field_demands eq (scope_of eq fs)) fs) ≡ true
      → breaches eq is_made fs ≡ []
  formed_no_breach eq is_made fs starts pages whole met = whole_walk eq is_made (scope_of eq fs) false fs (one_alone fs starts) pages whole met

-- WHAT IS SPELLED: pages are small
small : (k : ℕ) → k < 64 → nat_lt k 64 ≡ true
small k h = grind (arith, tests)

exponent_small : (k n : ℕ) → k ≤ 64 → nat_lt (unwrap_or (exponent_below k n) 0) 64 ≡ true
exponent_small zero n h = refl
exponent_small (suc k) n h = elim (cases_Bool (n == 2 ^ k)) [
  | inl y ↦ ap (λ b. nat_lt (unwrap_or (cond b (Some k) (exponent_below k n)) 0) 64) y ∙ small k (omega (arith, h))
  | inr x ↦ ap (λ b. nat_lt (unwrap_or (cond b (Some k) (exponent_below k n)) 0) 64) x ∙ exponent_small k n (omega (arith, h))
]

page_small : (n : ℕ) → nat_lt (unwrap_or (exponent n) 0) 64 ≡ true
unfolding exponent
page_small n = exponent_small 32 n (omega arith)

abbrev TokenList : Type 0 → Type 0 → Type 0
TokenList N P = List (SignificantToken N P)

module _ {N P : Type 0} where
  page_spelled : (o : Option ℕ) (ts : TokenList N P) → page_size.spells o ts → nat_lt (unwrap_or o 16) 64 ≡ true
  page_spelled None ts s = refl
  page_spelled (Some k) ts s =
      let led = s.4 in
      let power = led.2.4 in
      ap (λ v. nat_lt v 64) (sym (power.1 ∙ led.1)) ∙ page_small power.0

  func_small : (d : Defined N P) (ts : TokenList N P) → func_defined.spells d ts → page_formed d ≡ true
  func_small d ts s = elim s [ inl x ↦ ap page_formed (sym x.1) | inr y ↦ ap page_formed (sym y.1) ]

  global_small : (d : Defined N P) (ts : TokenList N P) → global_defined.spells d ts → page_formed d ≡ true
  global_small d ts s = elim s [ inl x ↦ ap page_formed (sym x.1) | inr y ↦ ap page_formed (sym y.1) ]

  tag_small : (d : Defined N P) (ts : TokenList N P) → tag_defined.spells d ts → page_formed d ≡ true
  tag_small d ts s = elim s [ inl x ↦ ap page_formed (sym x.1) | inr y ↦ ap page_formed (sym y.1) ]

  table_with_small : (wide : Bool) (d : Defined N P) (ts : TokenList N P) → (table_with wide).spells d ts → page_formed d ≡ true
  table_with_small wide d ts s = elim s [ inl x ↦ ap page_formed (sym x.1) | inr y ↦ ap page_formed (sym y.1) ]

  table_small : (d : Defined N P) (ts : TokenList N P) → table_defined.spells d ts → page_formed d ≡ true
  table_small d ts s = elim s [
    | inl x ↦ ap page_formed (sym x.1)
    | inr y ↦ elim y [
      | inl z ↦ ap page_formed (sym z.1)
      | inr z ↦ ap page_formed (sym z.1) ∙ table_with_small z.0.0 z.0.1 _ z.2.4
    ]
  ]

  memory_with_small : (wide : Bool) (d : Defined N P) (ts : TokenList N P) → (memory_with wide).spells d ts → page_formed d ≡ true
  memory_with_small wide d ts s = elim s [ inl x ↦ ap page_formed (sym x.1) | inr y ↦ ap page_formed (sym y.1) ∙ page_spelled y.0.0 _ y.2.3 ]

  memory_small : (d : Defined N P) (ts : TokenList N P) → memory_defined.spells d ts → page_formed d ≡ true
  memory_small d ts s = elim s [ inl x ↦ ap page_formed (sym x.1) | inr y ↦ ap page_formed (sym y.1) ∙ memory_with_small y.0.0 y.0.1 _ y.2.4 ]

  -- FIELDS
  definition_small : (w : List ℕ) (g : Syntax N P (Defined N P)) → ((d : Defined N P) (ts : TokenList N P) → g.spells d ts → page_formed d ≡ true) → (f : Field N P) (ts : TokenList N P) →
      spelling.seen Define (definition w g).spells f ts → pages_formed f ≡ true
  definition_small w g h f ts s =
      let body = s.2.4 in
      let word = body.2 in
      let head = word.4 in
      let rest = head.4 in
      ap pages_formed (sym s.1) ∙ ap (λ (d : Definition N P). page_formed d.defined) (sym body.1) ∙ h body.0.1.1.1 _ rest.4

  field_small : (f : Field N P) (ts : TokenList N P) → field.spells f ts → pages_formed f ≡ true
  field_small f ts s = elim s [
    | inl t ↦ ap pages_formed (sym t.1)
    | inr s ↦ elim s [
      | inl r ↦ ap pages_formed (sym r.1)
      | inr s ↦ elim s [
        | inl i ↦ ap pages_formed (sym i.1)
        | inr s ↦ elim s [
          | inl d ↦ elim d [
            | inl x ↦ definition_small (codes "func") func_defined func_small f ts x
            | inr d ↦ elim d [
              | inl x ↦ definition_small (codes "table") table_defined table_small f ts x
              | inr d ↦ elim d [
                | inl x ↦ definition_small (codes "memory") memory_defined memory_small f ts x
                | inr d ↦ elim d [
                  | inl x ↦ definition_small (codes "global") global_defined global_small f ts x
                  | inr x ↦ definition_small (codes "tag") tag_defined tag_small f ts x
                ]
              ]
            ]
          ]
          | inr d ↦ elim d [
            | inl x ↦ ap pages_formed (sym x.1)
            | inr d ↦ elim d [
              | inl x ↦ ap pages_formed (sym x.1)
              | inr d ↦ elim d [
                | inl x ↦ ap pages_formed (sym x.1)
                | inr d ↦ elim d [ inl x ↦ ap pages_formed (sym x.1) | inr x ↦ ap pages_formed (sym x.1) ]
              ]
            ]
          ]
        ]
      ]
    ]
  ]

  all_small : (fs : List (Field N P)) (ts : TokenList N P) → spelling.many field.spells fs ts → list_all pages_formed fs ≡ true
  all_small [] ts s = refl
  all_small (f ∷ fs) ts s = both_true (field_small f s.0 s.3) (all_small fs s.1 s.4)

  -- MODULES
  pub record AreSpelled (fs : List (Field N P)) : Type 0 where
    pub starts : one_start fs ≡ true
    pub pages : list_all pages_formed fs ≡ true

  abbrev content_of : List (Field N P) → Content N P
  content_of fs = Fields fs

  same_fields : (fs gs : List (Field N P)) → content_of fs ≡ content_of gs → fs ≡ gs
  same_fields fs gs e = cc

  no_pieces : {Z : Type 0} (pieces : List (List ℕ)) (fs : List (Field N P)) → Pieces pieces ≡ content_of fs → Z
  no_pieces pieces fs e = absurd (cc)

  pub spelled_fields : (t : Module N P) (fs : List (Field N P)) (ts : TokenList N P) → t.content ≡ Fields fs → wat.spells t ts → AreSpelled fs
  spelled_fields t fs ts e s = elim s [
    | inl x ↦ (
        let body = x.4 in
        let content = body.2.4.4 in
        let same = ap (λ (m : Module N P). m.content) body.1 ∙ e in
        elim content [
          | inl y ↦ no_pieces y.0 fs (y.1 ∙ same)
          | inr z ↦ (
              let those = same_fields z.0 fs (z.1 ∙ same) in
              record { starts = ap one_start (sym those) ∙ z.2.0; pages = ap (list_all pages_formed) (sym those) ∙ all_small z.0 _ z.2.1 })
        ])
    | inr y ↦ (
        let those = same_fields (y.0.0 ∷ y.0.1) fs (ap (λ (m : Module N P). m.content) y.1 ∙ e) in
        record {
          starts = ap one_start (sym those) ∙ y.2.0;
          pages = ap (list_all pages_formed) (sym those) ∙ both_true (field_small y.0.0 _ y.2.1.3) (all_small y.0.1 _ y.2.1.4);
        })
  ]
