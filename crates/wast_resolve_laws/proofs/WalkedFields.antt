-- The walks of fields in other orders: items by spaces, labels handed on.
use Rattle.std.proofs.Common.{◌≡◌, ℕ, Bool, true, List, [], ◌∷◌, map, get_or, None, refl, sym, ◌∙◌, ap}
use Rattle.std.specs.List.{flat_map}
use Rattle.std.proofs.lemmas.Bool.Decides.{Decides-eqb}
use std.Path.{fun_ext}
use Rattle.wasm_encoder_base.specs.Table.{Space, Labels, Locals, Functions, Types, Tables, Memories, Globals, Tags, Datas, Elems, Fields}
use Rattle.wast_names.specs.Walk.{reached, walked, threaded, first_unmet}
use Rattle.wast_names.specs.Demand.{is_met}
use Rattle.wast_names.specs.Space as names
use Rattle.wast_core_instr.specs.InstructionTree.{Instruction}
use Rattle.wast_field_syntax.specs.FieldTree.{Field}
use Rattle.wast_meaning.specs.Mentions.{instr_mentions}
use Rattle.wast_meaning.specs.Spaces.{Bound, space_number, same_space, space_word, listed, items, items_in, ids_in, denotes}
use Rattle.wast_meaning.specs.Scope.{Scope, turn_of_head, open_labels, labels_after, labels_or, scope_at}
use Rattle.wast_meaning.specs.Demands.{mention_demands, spaces_after, item_demands, instrs_demands}
use Rattle.wast_meaning.specs.Changed.{instr_changed, instrs_changed}
use Rattle.wast_meaning.specs.Numbered.{numbering}
use Rattle.wast_meaning.proofs.Labels.{stacked, found_so}
use Rattle.wast_meaning.proofs.Walked.{reached_so}
use Rattle.wast_resolve_laws.specs.Walks.{own_demand, own_space, own_demands, scope_among, demands_among}
use Rattle.wast_resolve_laws.proofs.Fresh.{same_self}
use Rattle.wast_resolve_laws.proofs.Walks as walks

-- SPACES, told apart by their numbers
abbrev all_spaces : List Space
all_spaces = Labels ∷ Locals ∷ Functions ∷ Types ∷ Tables ∷ Memories ∷ Globals ∷ Tags ∷ Datas ∷ Elems ∷ Fields ∷ []

abbrev space_at : ℕ → Space
space_at n = get_or all_spaces n Labels

space_back : (s : Space) → space_at (space_number s) ≡ s
space_back Labels = refl
space_back Locals = refl
space_back Functions = refl
space_back Types = refl
space_back Tables = refl
space_back Memories = refl
space_back Globals = refl
space_back Tags = refl
space_back Datas = refl
space_back Elems = refl
space_back Fields = refl

pub space_sound : (s t : Space) → same_space s t ≡ true → s ≡ t
space_sound s t e = sym (space_back s) ∙ ap space_at ((Decides-eqb (space_number s) (space_number t)).0 e) ∙ space_back t

module _ {N P : Type 0} (eq : N → N → Bool) where
  abbrev own_of : Bound N P → Space
  own_of b = b.space

  -- ITEMS
  pub space_apart : (fs : List (Field N P)) (s : Space) → reached (spaces_after eq) (λ t. names.empty) (flat_map items fs) s ≡ names.space_of eq (space_word s) (ids_in s fs)
  space_apart fs s = reached_so eq (flat_map items fs) (λ t. names.empty) s

  pub items_met_apart : (fs : List (Field N P)) → first_unmet is_met (item_demands eq (flat_map items fs)) ≡ None → (s : Space) → first_unmet is_met (own_demands eq s (items_in s fs)) ≡ None
  items_met_apart fs met s = walks.met_apart same_space own_of (own_space eq) (own_demand eq) is_met same_self space_sound (flat_map items fs) (λ t. names.empty) met s

  pub items_met_together : (fs : List (Field N P)) → ((s : Space) → first_unmet is_met (own_demands eq s (items_in s fs)) ≡ None) → first_unmet is_met (item_demands eq (flat_map items fs)) ≡ None
  items_met_together fs met = walks.met_together same_space own_of (own_space eq) (own_demand eq) is_met same_self space_sound (flat_map items fs) (λ t. names.empty) met

  pub items_met_either : (fs gs : List (Field N P)) → ((s : Space) → items_in s fs ≡ items_in s gs)
      → first_unmet is_met (item_demands eq (flat_map items fs)) ≡ None → first_unmet is_met (item_demands eq (flat_map items gs)) ≡ None
  items_met_either fs gs same met = walks.orders_agree same_space own_of (own_space eq) (own_demand eq) is_met same_self space_sound (flat_map items fs) (flat_map items gs) (λ t. names.empty) same met

  -- a name means what it means among the items of its space
  denoted_so : (fs gs : List (Field N P)) (s : Space) (n : N) → items_in s fs ≡ items_in s gs
      → names.denoted eq (space_word s) n (map names.name_in (ids_in s fs)) ≡ names.denoted eq (space_word s) n (map names.name_in (ids_in s gs))
  denoted_so fs gs s n same = ap (λ bs. names.denoted eq (space_word s) n (map names.name_in (map (λ b. b.id) bs))) same

  pub denoted_either : (fs gs : List (Field N P)) → ((s : Space) → items_in s fs ≡ items_in s gs) → (s : Space) (n : N) → denotes eq fs s n ≡ denotes eq gs s n
  denoted_either fs gs same Labels n = refl
  denoted_either fs gs same Locals n = refl
  denoted_either fs gs same Fields n = refl
  denoted_either fs gs same Functions n = denoted_so fs gs Functions n (same Functions)
  denoted_either fs gs same Types n = denoted_so fs gs Types n (same Types)
  denoted_either fs gs same Tables n = denoted_so fs gs Tables n (same Tables)
  denoted_either fs gs same Memories n = denoted_so fs gs Memories n (same Memories)
  denoted_either fs gs same Globals n = denoted_so fs gs Globals n (same Globals)
  denoted_either fs gs same Tags n = denoted_so fs gs Tags n (same Tags)
  denoted_either fs gs same Datas n = denoted_so fs gs Datas n (same Datas)
  denoted_either fs gs same Elems n = denoted_so fs gs Elems n (same Elems)

-- LABELS
module _ {N P : Type 0} where
  handed_on : (i : Instruction N P) (before : List (Instruction N P)) → open_labels (i ∷ before) ≡ labels_after (open_labels before) i
  handed_on i before = stacked i before

module _ {N P : Type 0} (eq : N → N → Bool) (s : Scope N P) where
  scope_so : (before : List (Instruction N P)) (i : Instruction N P) → scope_at eq s before i ≡ scope_among eq s (open_labels before) i
  scope_so before i = ap (λ labels. record s { spaces = labels_or (listed eq labels) s.spaces; blocks = open_labels before }) (found_so (turn_of_head i.head) before)

  abbrev scope_handed : List (Instruction N P) → Instruction N P → Scope N P
  scope_handed before i = scope_among eq s (open_labels before) i

  scopes_so : scope_at eq s ≡ scope_handed
  scopes_so = fun_ext (λ before. fun_ext (λ i. scope_so before i))

  pub demands_handed_on : (before is : List (Instruction N P)) → instrs_demands eq s before is ≡ walked (demands_among eq s) labels_after (open_labels before) is
  demands_handed_on before is =
      ap (λ scope. walked (λ earlier i. flat_map (mention_demands eq (scope earlier i)) (instr_mentions i)) (λ earlier i. i ∷ earlier) before is) scopes_so
      ∙ walks.walked_back labels_after open_labels handed_on (demands_among eq s) before is

  pub numbers_handed_on : (before is : List (Instruction N P))
      → instrs_changed (λ earlier i. numbering (scope_at eq s earlier i)) before is ≡ threaded (λ labels i. instr_changed (numbering (scope_among eq s labels i)) i) labels_after (open_labels before) is
  numbers_handed_on before is =
      ap (λ scope. threaded (λ earlier i. instr_changed (numbering (scope earlier i)) i) (λ earlier i. i ∷ earlier) before is) scopes_so
      ∙ walks.threaded_back labels_after open_labels handed_on (λ labels i. instr_changed (numbering (scope_among eq s labels i)) i) before is
