-- Signatures without places and names of parameters: what the keys of the map of signatures stand for.
use Rattle.std.specs.Prelude.{ℕ, Bool, true, false, ◌&&◌, nat_eq, List, map}
use Rattle.std.specs.Cmp.Lexicographic.{pointwise}
use Rattle.wast_grammar.specs.Tokens.{Name}
use Rattle.wast_parser.specs.Spelling.{same_name}
use Rattle.wast_parser.specs.Identifiers.{Reference, ByNumber, ByName}
use Rattle.wast_value_types.specs.Unplaced.{unplaced_index}
use Rattle.wast_value_types.specs.ValueTree.{HeapType, Abstract, Concrete, Exact, ValType, Number, Ref}
use Rattle.wast_signatures.specs.TypeTree.{Sig}
use Rattle.wast_meaning.specs.Implied.{number_code, word_code, same_flag, same_written}
use Rattle.wast_implied.specs.declared.key.IndexKey.{IndexKey}
use Rattle.wast_implied.specs.declared.key.IndexKey.TheVariants as indices
use Rattle.wast_implied.specs.declared.key.ValueKey.{ValueKey}
use Rattle.wast_implied.specs.declared.key.ValueKey.TheVariants as keys
use Rattle.wast_implied.specs.declared.key.Key.{Key}

-- an index without its place
abbrev pub Unplaced : Type 0
Unplaced = Reference Name (Unit {0})

-- a value type: a number type by its code; a reference to an abstract heap type, by its code; or a reference to a type
pub data ValueShape : Type 0 where
  OfNumber : ℕ → ValueShape
  OfWord : (nullable shared : Bool) → ℕ → ValueShape
  OfIndex : (nullable exact : Bool) → Unplaced → ValueShape

pub record Shape : Type 0 where
  pub params : List ValueShape
  pub results : List ValueShape

-- THE SAME
abbrev pub same_value : ValueShape → ValueShape → Bool
same_value (OfNumber m) (OfNumber n) = nat_eq m n
same_value (OfWord a s m) (OfWord b t n) = same_flag a b && (same_flag s t && nat_eq m n)
same_value (OfIndex a s i) (OfIndex b t j) = same_flag a b && (same_flag s t && same_written same_name i j)
same_value _ _ = false

abbrev pub same_shape : Shape → Shape → Bool
same_shape s t = pointwise same_value s.params t.params && pointwise same_value s.results t.results

-- OF TREES
abbrev pub heap_shape : Bool → HeapType Name ℕ → ValueShape
heap_shape nullable (Abstract shared w) = OfWord nullable shared (word_code w)
heap_shape nullable (Concrete i) = OfIndex nullable false (unplaced_index i)
heap_shape nullable (Exact i) = OfIndex nullable true (unplaced_index i)

abbrev pub value_shape : ValType Name ℕ → ValueShape
value_shape (Number t) = OfNumber (number_code t)
value_shape (Ref r) = heap_shape r.nullable r.heap_type

abbrev pub shape : Sig Name ℕ → Shape
shape s = record { params = map (λ l. value_shape l.val_type) s.params; results = map value_shape s.results }

-- OF KEYS
abbrev pub index_of_key : IndexKey → Unplaced
index_of_key (indices.Num n) = ByNumber n tt
index_of_key (indices.Id id) = ByName ((id.name, id.generation), tt)

abbrev pub value_of_key : ValueKey → ValueShape
value_of_key keys.I32 = OfNumber 0
value_of_key keys.I64 = OfNumber 1
value_of_key keys.F32 = OfNumber 2
value_of_key keys.F64 = OfNumber 3
value_of_key keys.V128 = OfNumber 4
value_of_key (keys.Abstract nullable shared word) = OfWord nullable shared word
value_of_key (keys.Defined nullable exact index) = OfIndex nullable exact (index_of_key index)

abbrev pub shape_of_key : Key → Shape
shape_of_key k = record { params = map value_of_key k.params.items; results = map value_of_key k.results.items }
