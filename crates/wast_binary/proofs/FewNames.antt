-- Name maps and branch hints of fields in which there is little: each number in them has 32 bits.
use Rattle.std.proofs.Common.{◌≡◌, ℕ, zero, suc, ◌+◌, ◌<◌, ◌≤◌, ◌^◌, Bool, true, List, [], ◌∷◌, ◌++◌, map, length, All, Option, Some, None, sym, ap, ◌∙◌, arith, subst}
use Rattle.std.specs.Prelude.{slice_get, unwrap_or, option_and_then}
use Rattle.std.specs.List.{flat_map}
use Rattle.std.proofs.lemmas.List.{length-map, length-append, append-nil}
use Rattle.std.proofs.lemmas.List.Elements.{All-nil, All-cons, All-head, All-tail}
use Rattle.wasm_encoder_base.specs.Balanced.{Turn, Opens, Closes, Stays}
use Rattle.wasm_encoder_base.specs.Table as text
use Rattle.wasm_encoder_custom.specs.Names as binary
use Rattle.wast_parser.specs.Identifiers.{Named, Reference}
use Rattle.wast_names.specs.Space.{number_of}
use Rattle.wast_signatures.specs.TypeTree.{Local, Sig, InnerType, FuncType, StructType, ArrayType, ContType, TypeItem, TypeUse}
use Rattle.wast_core_instr.specs.InstructionTree.{Instruction}
use Rattle.wast_module_fields.specs.FieldTree.{Function, Field}
use Rattle.wast_meaning.specs.Implied.{no_sig, written_types, func_sig, sig_at}
use Rattle.wast_meaning.specs.Scope.{scope_of, params_of, params_of_index, turn_of_head, own_label}
use Rattle.wast_meaning.specs.Settled.{are_settled}
use Rattle.wast_meaning.specs.Spaces.{Bound, items_in}
use Rattle.wast_meaning.proofs.Resolved.{none_implied}
use Rattle.wast_meant.specs.NamesMeant.{GivenName, space_of, bodies_in, tags_in, identifier, given_name, local_names, param_names, names_of_locals, opener_name, names_of_labels}
use Rattle.wast_encode_laws.specs.Bounds.{BodyFits, BodiesFit, inner_lists, NamesFit}
use Rattle.wast_binary.specs.Weight.{total, inner_weight, sig_weight, use_weight, weight, AreFew}
use Rattle.wast_binary.proofs.Few.{Below, few_items, few_bodies, body_weight, small_bodies, written_weight, small_types, few_types, bound_weight, small_bounds, few_tags, small_tags}

-- lists that are no longer than their elements weigh
abbrev Short : {A : Type 0} → List A → Type 0
Short xs = length xs ≤ 2 ^ 32

each_short : {X A : Type 0} (size : X → ℕ) (g : X → List A) (n : ℕ) → ((x : X) → size x ≤ n → Short (g x)) → (xs : List X) → All (Below size n) xs → All Short (map g xs)
each_short size g n so [] h = All-nil Short
each_short size g n so (x ∷ xs) h =
    All-cons Short (g x) (map g xs) (so x (All-head (Below size n) x xs h)) (each_short size g n so xs (All-tail (Below size n) x xs h))

module _ {N P : Type 0} where
  -- parameters of the type with a number
  sig_below : (n k : ℕ) (ts : List (TypeItem N P × Bool)) → All (Below written_weight n) ts
      → length (unwrap_or (option_and_then (λ s. s) (slice_get (map (λ t. func_sig t.0.definition.comp.inner) ts) k)) no_sig).params ≤ n
  sig_below n k [] h = omega arith
  sig_below n zero (t ∷ ts) h = own t.0.definition.comp.inner (All-head (Below written_weight n) t ts h)
    where
      own : (i : InnerType N P) → inner_weight i ≤ n → length (unwrap_or (option_and_then (λ s. s) (Some (func_sig i))) no_sig).params ≤ n
      own (FuncType s) l = l
      own (StructType fs) l = omega arith
      own (ArrayType t) l = omega arith
      own (ContType i) l = omega arith
  sig_below n (suc k) (t ∷ ts) h = sig_below n k ts (All-tail (Below written_weight n) t ts h)

  -- LABELS: one at most of an instruction
  module _ (is_made : N → Bool) where
    one_label : (turn : Turn) (id : Option (Named N P)) → length (opener_name is_made turn id) ≤ 1
    one_label Opens id = omega arith
    one_label Closes id = omega arith
    one_label Stays id = omega arith

    labels_count : (is : List (Instruction N P)) → length (flat_map (λ i. opener_name is_made (turn_of_head i.head) (own_label i.operands)) is) ≤ length is
    labels_count [] = omega arith
    labels_count (i ∷ is) =
        omega (
          arith,
          length-append (opener_name is_made (turn_of_head i.head) (own_label i.operands)) (flat_map (λ i. opener_name is_made (turn_of_head i.head) (own_label i.operands)) is),
          one_label (turn_of_head i.head) (own_label i.operands),
          labels_count is,
        )

    labels_short : (n : ℕ) → n < 2 ^ 31 → (o : Option (Function N P)) → body_weight o ≤ n → Short (names_of_labels is_made o)
    labels_short n few None l = omega arith
    labels_short n few (Some f) l = omega (arith, few, l, labels_count f.body.instrs)

    -- fields, and parameters
    fields_short : (n : ℕ) → n < 2 ^ 31 → (b : Bound N P) → bound_weight b ≤ n → Short (map (identifier is_made) b.fields)
    fields_short n few b l = omega (arith, few, l, length-map b.fields (identifier is_made))

    params_count : (s : Option (Sig N P)) → length (param_names is_made s) ≤ sig_weight s
    params_count None = omega arith
    params_count (Some s) = omega (arith, length-map s.params (λ (l : Local N P). given_name is_made l.given l.id))

    inner_params : (i : InnerType N P) → sig_weight (func_sig i) ≤ inner_weight i
    inner_params (FuncType s) = omega arith
    inner_params (StructType fs) = omega arith
    inner_params (ArrayType t) = omega arith
    inner_params (ContType i) = omega arith

    types_short : (n : ℕ) → n < 2 ^ 31 → (t : TypeItem N P × Bool) → written_weight t ≤ n → Short (param_names is_made (func_sig t.0.definition.comp.inner))
    types_short n few t l = omega (arith, few, l, params_count (func_sig t.0.definition.comp.inner), inner_params t.0.definition.comp.inner)

    tags_short : (n : ℕ) → n < 2 ^ 31 → (u : TypeUse N P) → use_weight u ≤ n → Short (param_names is_made u.inline)
    tags_short n few u l = omega (arith, few, l, params_count u.inline)

  module _ (eq : N → N → Bool) (is_made : N → Bool) (fs : List (Field N P)) (few : AreFew fs) (settled : are_settled fs ≡ true) where
    -- LOCALS
    at_number : (k : ℕ) → length (unwrap_or (sig_at eq fs k) no_sig).params ≤ total weight fs
    at_number k =
        let sigs = map (λ (t : TypeItem N P × Bool). func_sig t.0.definition.comp.inner) (flat_map written_types fs) in
        let same : sig_at eq fs k ≡ option_and_then (λ s. s) (slice_get sigs k) =
        ap (λ (is : List (P × Sig N P)). option_and_then (λ s. s) (slice_get (sigs ++ map (λ s. Some s.1) is) k)) (none_implied eq fs settled)
        ∙ ap (λ ss. option_and_then (λ s. s) (slice_get ss k)) (append-nil sigs) in
        subst (λ (o : Option (Sig N P)). length (unwrap_or o no_sig).params ≤ total weight fs) (sym same)
        (sig_below (total weight fs) k (flat_map written_types fs) (small_types fs))

    at_option : (o : Option ℕ) → length (unwrap_or (option_and_then (sig_at eq fs) o) no_sig).params ≤ total weight fs
    at_option None = omega arith
    at_option (Some k) = at_number k

    index_count : (i : Option (Reference N P)) → length (params_of_index (scope_of eq fs) i) ≤ total weight fs
    index_count None = omega arith
    index_count (Some i) =
        omega (
          arith,
          at_option (number_of ((scope_of eq fs).spaces text.Types) i),
          length-map {B = Option (Named N P)} (unwrap_or (option_and_then (sig_at eq fs) (number_of ((scope_of eq fs).spaces text.Types) i)) no_sig).params (λ p. None),
        )

    use_count : (o : Option (Sig N P)) (i : Option (Reference N P)) → length (params_of (scope_of eq fs) (record { index = i; inline = o })) ≤ total weight fs + sig_weight o
    use_count None i = omega (arith, index_count i)
    use_count (Some s) i = omega (arith, length-map s.params (λ p. p.id))

    names_count : {A : Type 0} (o : Option (Sig N P)) (ps : List A) → length ps ≤ total weight fs + sig_weight o
        → length (elim o as (λ o. List (Option (GivenName N))) [ Some sig ↦ param_names is_made (Some sig) | None ↦ map (λ p. None) ps ]) ≤ total weight fs + sig_weight o
    names_count None ps l = omega (arith, l, length-map {B = Option (GivenName N)} ps (λ p. None))
    names_count (Some s) ps l = omega (arith, params_count is_made (Some s))

    locals_short : (o : Option (Function N P)) → body_weight o ≤ total weight fs → Short (names_of_locals is_made (scope_of eq fs) o)
    locals_short None l = omega arith
    locals_short (Some f) l =
        let params = params_of (scope_of eq fs) f.type_use in
        let front = names_count f.type_use.inline params (use_count f.type_use.inline f.type_use.index) in
        let first = elim f.type_use.inline as (λ o. List (Option (GivenName N))) [ Some sig ↦ param_names is_made (Some sig) | None ↦ map (λ p. None) params ] in
        omega (arith, few, l, front, length-append first (local_names is_made f.locals), length-map f.locals (λ (l : Local N P). given_name is_made l.given l.id))

    -- ALL MAPS
    count_of : (space : binary.InnerSpace) → length (inner_lists eq is_made fs space) ≤ 2 ^ 32
    count_of binary.Locals = omega (arith, few, few_bodies fs, length-map (flat_map bodies_in fs) (names_of_locals is_made (scope_of eq fs)))
    count_of binary.Labels = omega (arith, few, few_bodies fs, length-map (flat_map bodies_in fs) (names_of_labels is_made))
    count_of binary.Fields = omega (arith, few, few_items text.Types fs, length-map (items_in text.Types fs) (λ (b : Bound N P). map (identifier is_made) b.fields))
    count_of binary.Parameters = omega (arith, few, few_types fs, length-map (flat_map written_types fs) (λ (t : TypeItem N P × Bool). param_names is_made (func_sig t.0.definition.comp.inner)))
    count_of binary.TagParameters = omega (arith, few, few_tags fs, length-map (flat_map tags_in fs) (λ (u : TypeUse N P). param_names is_made u.inline))

    each_of : (space : binary.InnerSpace) → All Short (inner_lists eq is_made fs space)
    each_of binary.Locals = each_short body_weight (names_of_locals is_made (scope_of eq fs)) (total weight fs) locals_short (flat_map bodies_in fs) (small_bodies fs)
    each_of binary.Labels = each_short body_weight (names_of_labels is_made) (total weight fs) (labels_short is_made (total weight fs) few) (flat_map bodies_in fs) (small_bodies fs)
    each_of binary.Fields = each_short bound_weight (λ (b : Bound N P). map (identifier is_made) b.fields) (total weight fs) (fields_short is_made (total weight fs) few) (items_in text.Types fs) (small_bounds text.Types fs)
    each_of binary.Parameters =
        each_short written_weight (λ (t : TypeItem N P × Bool). param_names is_made (func_sig t.0.definition.comp.inner)) (total weight fs) (types_short is_made (total weight fs) few) (flat_map written_types fs) (small_types fs)
    each_of binary.TagParameters = each_short use_weight (λ (u : TypeUse N P). param_names is_made u.inline) (total weight fs) (tags_short is_made (total weight fs) few) (flat_map tags_in fs) (small_tags fs)

    pub names_fit : NamesFit eq is_made fs
    names_fit = record { items = λ space. omega (arith, few, few_items (space_of space) fs); inner = count_of; each = each_of }

  -- HINTS
  body_fits : (n : ℕ) → n < 2 ^ 31 → (o : Option (Function N P)) → body_weight o ≤ n → BodyFits o
  body_fits n few None l = tt
  body_fits n few (Some f) l = omega (arith, few, l)

  all_fit : (n : ℕ) → n < 2 ^ 31 → (os : List (Option (Function N P))) → All (Below body_weight n) os → All BodyFits os
  all_fit n few [] h = All-nil BodyFits
  all_fit n few (o ∷ os) h = All-cons BodyFits o os (body_fits n few o (All-head (Below body_weight n) o os h)) (all_fit n few os (All-tail (Below body_weight n) o os h))

  pub bodies_fit : (fs : List (Field N P)) → AreFew fs → BodiesFit fs
  bodies_fit fs few = record { count = omega (arith, few, few_bodies fs); each = all_fit (total weight fs) few (flat_map bodies_in fs) (small_bodies fs) }
