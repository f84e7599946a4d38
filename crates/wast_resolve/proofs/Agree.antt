-- Where index spaces tell the same of each name, indices become the same numbers.
use Rattle.std.proofs.Common.{◌≡◌, ℕ, zero, suc, ◌+◌, Bool, List, [], ◌∷◌, ◌++◌, map, Option, Some, None, refl, sym, ◌∙◌, ap}
use Rattle.std.specs.Prelude.{option_map, option_and_then, unwrap_or, slice_get}
use Rattle.std.specs.List.{flat_map}
use Rattle.wasm_encoder_base.specs.Table.{Space, Labels, Locals, Functions, Types, Tables, Memories, Globals, Tags, Datas, Elems, Fields}
use Rattle.wast_grammar.specs.Tokens.{Name}
use Rattle.wast_grammar.specs.Spelling.{same_name}
use Rattle.wast_parser.specs.Identifiers.{Named, Reference, ByNumber, ByName}
use Rattle.wast_names.specs.Space as names
use Rattle.wast_names.proofs.Walk.{reached_map}
use Rattle.wast_names.proofs.Positions.{first_so}
use Rattle.wast_signatures.specs.TypeTree.{Sig, InnerType, FuncType, StructType, ArrayType, ContType, TypeItem, TypeUse}
use Rattle.wast_core_instr.specs.InstructionTree.{Instruction}
use Rattle.wast_field_syntax.specs.FieldTree.{Function, Field}
use Rattle.wast_meaning.specs.Spaces.{listed}
use Rattle.wast_meaning.specs.Implied.{no_sig, func_sig, written_types, implied, sig_at}
use Rattle.wast_meaning.specs.Scope.{Scope, scope_of, scope_at, with_locals, labels_or, locals_or, label_space, members, params_of, params_of_index, locals_of}
use Rattle.wast_meaning.specs.Changed.{field_changed}
use Rattle.wast_meaning.specs.Numbered.{numbering, numberings, numbered}
use Rattle.wast_spaces.specs.declared.spaces.Spaces.{Spaces}
use Rattle.wast_spaces.specs.Views.{spaces_of}
use Rattle.wast_numbered.proofs.Unnamed.{nameless_params}
use Rattle.wast_spaces.specs.Params.{inner_count, param_count}
use Rattle.wast_numbered.specs.Params.{implied_count, param_counts}
use Rattle.wast_numbered.specs.Place.{sig_with, joined, scope_with, here, by_place, numberings_by}
use Rattle.wast_resolve.specs.Known.{Tells}

-- SPACES that tell the same of each name
number_alike : (s t : names.Space Name) → ((n : Name) → s.look n ≡ t.look n) → (i : Reference Name ℕ) → names.number_of s i ≡ names.number_of t i
number_alike s t h (ByNumber n p) = refl
number_alike s t h (ByName id) = h id.0

resolved_alike : (s t : names.Space Name) → ((n : Name) → s.look n ≡ t.look n) → (i : Reference Name ℕ) → names.resolved s i ≡ names.resolved t i
resolved_alike s t h (ByNumber n p) = refl
resolved_alike s t h (ByName id) = ap (λ o. names.number_or o id.1 (ByName id)) (h id.0)

if_resolved : (s t : names.Space Name) → ((n : Name) → s.look n ≡ t.look n) → (o : Option (Reference Name ℕ)) → option_map (names.resolved s) o ≡ option_map (names.resolved t) o
if_resolved s t h None = refl
if_resolved s t h (Some i) = ap (λ j. Some j) (resolved_alike s t h i)

-- SCOPES
record Alike_scopes (a b : Scope Name ℕ) : Type 0 where
  spaces : (space : Space) (n : Name) → (a.spaces space).look n ≡ (b.spaces space).look n
  fields : (t : ℕ) (n : Name) → (a.fields t).look n ≡ (b.fields t).look n

members_alike : (a b : Scope Name ℕ) → Alike_scopes a b → (t : Reference Name ℕ) (n : Name) → (members a t).look n ≡ (members b t).look n
members_alike a b h t n =
    ap (λ o. (elim o as (λ _. names.Space Name) [ Some k ↦ a.fields k | None ↦ names.empty ]).look n) (number_alike (a.spaces Types) (b.spaces Types) (h.spaces Types) t)
    ∙ by_case (names.number_of (b.spaces Types) t)
  where
    by_case : (o : Option ℕ) → (elim o as (λ _. names.Space Name) [ Some k ↦ a.fields k | None ↦ names.empty ]).look n ≡ (elim o as (λ _. names.Space Name) [ Some k ↦ b.fields k | None ↦ names.empty ]).look n
    by_case None = refl
    by_case (Some k) = h.fields k n

numbering_alike : (a b : Scope Name ℕ) → Alike_scopes a b → numbering a ≡ numbering b
numbering_alike a b h = λ i. record {
  index = λ space j. resolved_alike (a.spaces space) (b.spaces space) (h.spaces space) j i;
  member = λ t j. resolved_alike (members a t) (members b t) (members_alike a b h t) j i;
  type_use = λ u. if_resolved (a.spaces Types) (b.spaces Types) (h.spaces Types) u.index i;
  block_use = λ u. if_resolved (a.spaces Types) (b.spaces Types) (h.spaces Types) u.index i;
}

-- PARAMETERS
abbrev params_in : Option (Sig Name ℕ) → List (Option (Named Name ℕ))
params_in o = map (λ p. None) (unwrap_or o no_sig).params

inner_so : (t : InnerType Name ℕ) → params_in (Some (sig_with (inner_count t))) ≡ params_in (func_sig t)
inner_so (FuncType s) = nameless_params s.params
inner_so (StructType fs) = refl
inner_so (ArrayType t) = refl
inner_so (ContType i) = refl

-- those of types by their numbers, the implied ones behind the others
implied_so : (is : List (ℕ × Sig Name ℕ)) (k : ℕ)
    → params_in (option_map sig_with (slice_get (map implied_count is) k)) ≡ params_in (option_and_then (λ s. s) (slice_get (map (λ s. Some s.1) is) k))
implied_so [] k = refl
implied_so (u ∷ us) zero = nameless_params u.1.params
implied_so (u ∷ us) (suc k) = implied_so us k

counted_so : (ts : List (TypeItem Name ℕ × Bool)) (is : List (ℕ × Sig Name ℕ)) (k : ℕ)
    → params_in (option_map sig_with (slice_get (map param_count ts ++ map implied_count is) k))
    ≡ params_in (option_and_then (λ s. s) (slice_get (map (λ t. func_sig t.0.definition.comp.inner) ts ++ map (λ s. Some s.1) is) k))
counted_so [] is k = implied_so is k
counted_so (t ∷ ts) is zero = inner_so t.0.definition.comp.inner
counted_so (t ∷ ts) is (suc k) = counted_so ts is k

module _ (s : Spaces) (fs : List (Field Name ℕ)) (t : Tells s fs) where
  abbrev code : Scope Name ℕ
  code = scope_with s (param_counts fs (implied same_name fs))

  alike : Alike_scopes code (scope_of same_name fs)
  alike = record { spaces = t.items; fields = t.fields }

  index_params : (i : Option (Reference Name ℕ)) → params_of_index code i ≡ params_of_index (scope_of same_name fs) i
  index_params None = refl
  index_params (Some i) =
      ap (λ o. params_in (option_and_then code.sig_of o)) (number_alike (code.spaces Types) ((scope_of same_name fs).spaces Types) (t.items Types) i)
      ∙ by_case (names.number_of ((scope_of same_name fs).spaces Types) i)
    where
      by_case : (o : Option ℕ) → params_in (option_and_then code.sig_of o) ≡ params_in (option_and_then (sig_at same_name fs) o)
      by_case None = refl
      by_case (Some k) = counted_so (flat_map written_types fs) (implied same_name fs) k

  use_params : (u : TypeUse Name ℕ) → params_of code u ≡ params_of (scope_of same_name fs) u
  use_params u = by_case u.inline
    where
      by_case : (o : Option (Sig Name ℕ)) → elim o as (λ _. List (Option (Named Name ℕ))) [ Some sig ↦ map (λ p. p.id) sig.params | None ↦ params_of_index code u.index ]
          ≡ elim o as (λ _. List (Option (Named Name ℕ))) [ Some sig ↦ map (λ p. p.id) sig.params | None ↦ params_of_index (scope_of same_name fs) u.index ]
      by_case None = index_params u.index
      by_case (Some sig) = refl

  locals_so : (f : Function Name ℕ) → locals_of code f ≡ locals_of (scope_of same_name fs) f
  locals_so f = ap (λ ps. ps ++ map (λ l. l.id) f.locals) (use_params f.type_use)

  -- a space that items have joined tells their places
  joined_so : (ids : List (Option (Named Name ℕ))) (n : Name) → (joined names.empty ids).look n ≡ (listed same_name ids).look n
  joined_so ids n =
      ap (λ (space : names.Space Name). space.look n) (sym (reached_map names.name_in (names.grown same_name) names.empty ids))
      ∙ first_so same_name names.empty (map names.name_in ids) n

  here_alike : (locals other labels : names.Space Name) → ((n : Name) → locals.look n ≡ other.look n) → (space : Space) (n : Name)
      → (labels_or labels (locals_or locals (spaces_of s)) space).look n ≡ (labels_or labels (locals_or other (scope_of same_name fs).spaces) space).look n
  here_alike locals other labels h Labels n = refl
  here_alike locals other labels h Locals n = h n
  here_alike locals other labels h Functions n = t.items Functions n
  here_alike locals other labels h Types n = t.items Types n
  here_alike locals other labels h Tables n = t.items Tables n
  here_alike locals other labels h Memories n = t.items Memories n
  here_alike locals other labels h Globals n = t.items Globals n
  here_alike locals other labels h Tags n = t.items Tags n
  here_alike locals other labels h Datas n = t.items Datas n
  here_alike locals other labels h Elems n = t.items Elems n
  here_alike locals other labels h Fields n = t.items Fields n

  function_alike : (f : Function Name ℕ) (before : List (Instruction Name ℕ)) (i : Instruction Name ℕ) →
      by_place s (joined names.empty (locals_of code f)) before i ≡ numbering (scope_at same_name (with_locals same_name (scope_of same_name fs) (locals_of (scope_of same_name fs) f)) before i)
  function_alike f before i =
      numbering_alike (here s (joined names.empty (locals_of code f)) (label_space same_name before i))
      (scope_at same_name (with_locals same_name (scope_of same_name fs) (locals_of (scope_of same_name fs) f)) before i)
      (record {
        spaces = here_alike (joined names.empty (locals_of code f)) (listed same_name (locals_of (scope_of same_name fs) f)) (label_space same_name before i)
            (λ n. joined_so (locals_of code f) n ∙ ap (λ ids. (listed same_name ids).look n) (locals_so f));
        fields = t.fields;
      })

  constant_here : (labels : names.Space Name) (space : Space) (n : Name)
      → (labels_or labels (locals_or (spaces_of s Locals) (spaces_of s)) space).look n ≡ (labels_or labels (scope_of same_name fs).spaces space).look n
  constant_here labels Labels n = refl
  constant_here labels Locals n = t.items Locals n
  constant_here labels Functions n = t.items Functions n
  constant_here labels Types n = t.items Types n
  constant_here labels Tables n = t.items Tables n
  constant_here labels Memories n = t.items Memories n
  constant_here labels Globals n = t.items Globals n
  constant_here labels Tags n = t.items Tags n
  constant_here labels Datas n = t.items Datas n
  constant_here labels Elems n = t.items Elems n
  constant_here labels Fields n = t.items Fields n

  constant_alike : (before : List (Instruction Name ℕ)) (i : Instruction Name ℕ) → by_place s (spaces_of s Locals) before i ≡ numbering (scope_at same_name (scope_of same_name fs) before i)
  constant_alike before i =
      numbering_alike (here s (spaces_of s Locals) (label_space same_name before i)) (scope_at same_name (scope_of same_name fs) before i)
      (record { spaces = constant_here (label_space same_name before i); fields = t.fields })

  changes_alike : numberings_by s (param_counts fs (implied same_name fs)) ≡ numberings same_name (scope_of same_name fs)
  changes_alike = λ j. record {
    outside = numbering_alike code (scope_of same_name fs) alike j;
    in_constant = λ before i. constant_alike before i j;
    in_function = λ f before i. function_alike f before i j;
  }

  pub as_numbered : map (field_changed (numberings_by s (param_counts fs (implied same_name fs)))) fs ≡ numbered same_name fs
  as_numbered = ap (λ cs. map (field_changed cs) fs) changes_alike
