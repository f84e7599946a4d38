-- The types that uses without an index imply, and those that they take (WebAssembly 3.0, 6.5, control instructions, and 6.6, type uses:
-- abbreviations).
use Rattle.std.specs.Prelude.{ℕ, ◌+◌, Bool, true, false, ◌&&◌, nat_eq, nat_le, not, is_some, if◌then◌else◌, List, [], ◌∷◌, ◌++◌, length, map, slice_get, Option, Some, None, unwrap_or, option_and_then, filter, filter_map}
use Rattle.std.specs.List.{flat_map, list_any, position_from}
use Rattle.std.specs.Cmp.Lexicographic.{pointwise}
use Rattle.wasm_encoder_base.specs.Types.{abstract_heap_byte}
pub use Rattle.wast_grammar.specs.Look.{same as same_flag}
use Rattle.wast_parser.specs.Identifiers.{Reference, ByNumber, ByName}
use Rattle.wast_field_syntax.specs.ValueTree.{NumberType, I32, I64, F32, F64, V128, HeapWord, Known, Cont, NoCont, HeapType, Abstract, Concrete, Exact, ValType, Number, Ref}
use Rattle.wast_field_syntax.specs.TypeTree.{Local, Sig, InnerType, FuncType, TypeItem, TypeUse}
use Rattle.wast_field_syntax.specs.FieldTree.{Field, TypeField, RecField, field_place}
use Rattle.wast_meaning.specs.Mentions.{Mention, Uses, UsesInBlock, field_mentions}

-- EQUAL TYPES, given a test of the indices in them
abbrev pub number_code : NumberType → ℕ
number_code I32 = 0
number_code I64 = 1
number_code F32 = 2
number_code F64 = 3
number_code V128 = 4

abbrev pub word_code : HeapWord → ℕ
word_code (Known a) = abstract_heap_byte a
word_code Cont = 0
word_code NoCont = 1

abbrev pub same_option : {A : Type 0} → (A → A → Bool) → Option A → Option A → Bool
same_option same None None = true
same_option same (Some a) (Some b) = same a b
same_option same _ _ = false

module _ {N P : Type 0} (same : Reference N P → Reference N P → Bool) where
  abbrev pub same_heap : HeapType N P → HeapType N P → Bool
  same_heap (Abstract s a) (Abstract t b) = same_flag s t && nat_eq (word_code a) (word_code b)
  same_heap (Concrete i) (Concrete j) = same i j
  same_heap (Exact i) (Exact j) = same i j
  same_heap _ _ = false

  abbrev pub same_val : ValType N P → ValType N P → Bool
  same_val (Number a) (Number b) = nat_eq (number_code a) (number_code b)
  same_val (Ref r) (Ref s) = same_flag r.nullable s.nullable && same_heap r.heap_type s.heap_type
  same_val _ _ = false

  -- names of parameters aside
  abbrev pub same_local : Local N P → Local N P → Bool
  same_local a b = same_val a.val_type b.val_type

  abbrev pub same_sig : Sig N P → Sig N P → Bool
  same_sig a b = pointwise same_local a.params b.params && pointwise same_val a.results b.results

module _ {N P : Type 0} where
  -- SIGNATURES
  abbrev pub no_sig : Sig N P
  no_sig = record { params = []; results = [] }

  -- the signature of a use without index
  abbrev pub sig_of_use : TypeUse N P → List (Sig N P)
  sig_of_use u = elim u.index [ None ↦ unwrap_or u.inline no_sig ∷ [] | Some i ↦ [] ]

  -- a block without parameters and with at most one result needs no type
  abbrev pub is_short : Sig N P → Bool
  is_short s = nat_eq (length s.params) 0 && nat_le (length s.results) 1

  abbrev pub sig_of_mention : Mention N P → List (Sig N P)
  sig_of_mention (Uses u) = sig_of_use u
  sig_of_mention (UsesInBlock u) = filter (λ s. not (is_short s)) (sig_of_use u)
  sig_of_mention _ = []

  -- the signatures of uses without index in their order, each with the place of its field
  abbrev pub used_sigs : Field N P → List (P × Sig N P)
  used_sigs f = map (λ s. (field_place f, s)) (flat_map sig_of_mention (field_mentions f))

  -- WRITTEN TYPES: the type, and whether it stands in a group
  abbrev pub written_types : Field N P → List (TypeItem N P × Bool)
  written_types (TypeField t) = (t, false) ∷ []
  written_types (RecField r) = map (λ t. (t, true)) r.types
  written_types _ = []

  abbrev pub func_sig : InnerType N P → Option (Sig N P)
  func_sig (FuncType s) = Some s
  func_sig _ = None

  -- plain types are final, without supertype, and outside groups
  abbrev pub is_plain : TypeItem N P × Bool → Bool
  is_plain t = t.0.definition.is_final && not (is_some t.0.definition.supertype) && not t.1

  abbrev pub plain_sig : TypeItem N P × Bool → Option (Sig N P)
  plain_sig t = if is_plain t then func_sig t.0.definition.comp.inner else None

  abbrev pub unnamed_local : Local N P → Local N P
  unnamed_local l = record { id = None; given = None; val_type = l.val_type }

  abbrev pub unnamed : Sig N P → Sig N P
  unnamed s = record { params = map unnamed_local s.params; results = s.results }

module _ {N P : Type 0} (eq : N → N → Bool) where
  -- as written: the same number, or the same identifier
  abbrev pub same_written : Reference N P → Reference N P → Bool
  same_written (ByNumber m p) (ByNumber n q) = nat_eq m n
  same_written (ByName i) (ByName j) = eq i.0 j.0
  same_written _ _ = false

  -- those of the signatures that aren't at hand, each once, without names of parameters
  abbrev pub implied_by : List (Sig N P) → List (P × Sig N P) → List (P × Sig N P)
  implied_by have [] = []
  implied_by have (u ∷ us) = elim (list_any (same_sig same_written u.1) have) [
    | true ↦ implied_by have us
    | false ↦ (u.0, unnamed u.1) ∷ implied_by (u.1 ∷ have) us
  ]

  -- The implied types, which stand after all written ones, in order of first use, each at the place of the field that uses it first.
  abbrev pub implied : List (Field N P) → List (P × Sig N P)
  implied fs = implied_by (filter_map plain_sig (flat_map written_types fs)) (flat_map used_sigs fs)

  -- THE TYPES OF A MODULE, by number: written, then implied
  abbrev pub implied_sigs : List (Field N P) → List (Option (Sig N P))
  implied_sigs fs = map (λ s. Some s.1) (implied fs)

  -- the function type with a number
  abbrev pub sig_at : List (Field N P) → ℕ → Option (Sig N P)
  sig_at fs n = option_and_then (λ s. s) (slice_get (map (λ t. func_sig t.0.definition.comp.inner) (flat_map written_types fs) ++ implied_sigs fs) n)

  -- the type that a use without index takes: the first plain one with its signature
  abbrev pub type_taken : List (Field N P) → Sig N P → Option ℕ
  type_taken fs s = position_from (same_option (same_sig same_written) (Some s)) 0 (map plain_sig (flat_map written_types fs) ++ implied_sigs fs)

  -- how many types there are
  abbrev pub type_count : List (Field N P) → ℕ
  type_count fs = length (flat_map written_types fs) + length (implied fs)
