-- Signatures as numbered: each index is the number that it means, or none where its name means nothing.
use Rattle.std.specs.Prelude.{ℕ, Bool, true, false, ◌&&◌, nat_eq, List, [], map, Option, Some, None}
use Rattle.std.specs.Cmp.Lexicographic.{pointwise}
use Rattle.wast_grammar.specs.Tokens.{Name}
use Rattle.wast_parser.specs.Identifiers.{Named, Reference, ByNumber, ByName}
use Rattle.wast_value_types.specs.ValueTree.{HeapType, Abstract, Concrete, Exact, ValType, Number, Ref}
use Rattle.wast_signatures.specs.TypeTree.{Sig}
use Rattle.wast_meaning.specs.Implied.{number_code, word_code, same_flag, same_option}

-- which number a name means
abbrev pub Look : Type 0
Look = Name → Option ℕ

abbrev pub number_by : Look → Reference Name ℕ → Option ℕ
number_by look (ByNumber n p) = Some n
number_by look (ByName id) = look id.0

-- a value type: a number type by its code; a reference to an abstract heap type, by its code; or a reference to a type
pub data NumberedValue : Type 0 where
  OfNumber : ℕ → NumberedValue
  OfWord : (nullable shared : Bool) → ℕ → NumberedValue
  OfIndex : (nullable exact : Bool) → Option ℕ → NumberedValue

pub record NumberedSig : Type 0 where
  pub params : List NumberedValue
  pub results : List NumberedValue

-- THE SAME
abbrev pub same_numbered_value : NumberedValue → NumberedValue → Bool
same_numbered_value (OfNumber m) (OfNumber n) = nat_eq m n
same_numbered_value (OfWord a s m) (OfWord b t n) = same_flag a b && (same_flag s t && nat_eq m n)
same_numbered_value (OfIndex a s i) (OfIndex b t j) = same_flag a b && (same_flag s t && same_option nat_eq i j)
same_numbered_value _ _ = false

abbrev pub same_numbered_sig : NumberedSig → NumberedSig → Bool
same_numbered_sig s t = pointwise same_numbered_value s.params t.params && pointwise same_numbered_value s.results t.results

-- OF TREES
abbrev pub numbered_heap : Look → Bool → HeapType Name ℕ → NumberedValue
numbered_heap look nullable (Abstract shared w) = OfWord nullable shared (word_code w)
numbered_heap look nullable (Concrete i) = OfIndex nullable false (number_by look i)
numbered_heap look nullable (Exact i) = OfIndex nullable true (number_by look i)

abbrev pub numbered_value : Look → ValType Name ℕ → NumberedValue
numbered_value look (Number t) = OfNumber (number_code t)
numbered_value look (Ref r) = numbered_heap look r.nullable r.heap_type

abbrev pub numbered_sig : Look → Sig Name ℕ → NumberedSig
numbered_sig look s = record { params = map (λ l. numbered_value look l.val_type) s.params; results = map (numbered_value look) s.results }

-- whether a signature is that of a type, where there is one
abbrev pub same_sig_by : Look → Sig Name ℕ → Option NumberedSig → Bool
same_sig_by look sig None = true
same_sig_by look sig (Some other) = same_numbered_sig (numbered_sig look sig) other

-- the parameters of a type, where there is one, which have no names
abbrev pub params_in : Option NumberedSig → List (Option (Named Name ℕ))
params_in None = []
params_in (Some sig) = map (λ p. None) sig.params
