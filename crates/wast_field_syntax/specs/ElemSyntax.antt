-- The syntax of element segments (WebAssembly 3.0, 6.6, element segments).
use Rattle.std.specs.Prelude.{ℕ, ◌-◌, ◌^◌, List, [], ◌∷◌, Option, None, codes}
use Rattle.wast_parser.specs.Look.{Test, this_word, this_group, index_starts, integer_starts}
use Rattle.wast_parser.specs.Grammar.{Syntax, word, seen, seq, maybe, many, either, led, group, paren}
use Rattle.wast_parser.specs.Integers.{number_in, unsigned}
use Rattle.wast_parser.specs.Identifiers.{Reference, ByNumber, index}
use Rattle.wast_value_types.specs.ValueTree.{RefType}
use Rattle.wast_value_types.specs.ValueSyntax.{ref_starts, ref_type}
use Rattle.wast_imports.specs.ImportSyntax.{Head, head}
use Rattle.wast_field_syntax.specs.FieldTree.{Expr, Elements, Indices, Expressions, ElemMode, PassiveElem, DeclaredElem, ActiveElem, Elem}
use Rattle.wast_field_syntax.specs.DefinitionSyntax.{plain_starts, element, elem_offset}

abbrev pub list_starts : List Test
list_starts = this_word (codes "func") ∷ ref_starts

abbrev pub element_starts : List Test
element_starts = this_group (codes "item") ∷ plain_starts

-- what begins the table or the memory of a segment
abbrev pub use_starts_of : List ℕ → List Test
use_starts_of w = this_group w ∷ integer_starts

module _ {N P : Type 0} where
  -- (word index) or u32: the table or the memory of a segment
  abbrev pub numbered : Syntax N P (Reference N P)
  numbered = seen (λ n. ByNumber n.0 n.1) (number_in (2 ^ 32 - 1) None unsigned)

  abbrev pub use_of : List ℕ → Syntax N P (Reference N P)
  use_of w = either (this_group w ∷ []) (group w index) numbered

  abbrev pub indices : Syntax N P (List (Reference N P))
  indices = many index_starts index

  -- LISTS: func index*, and reftype element*
  abbrev pub as_expressions : RefType N P × List (Expr N P) → Elements N P
  as_expressions e = Expressions e.0 e.1

  abbrev pub elem_list : Syntax N P (Elements N P)
  elem_list = either (this_word (codes "func") ∷ []) (seen Indices (led (codes "func") indices)) (seen as_expressions (seq ref_type (many element_starts element)))

  -- SEGMENTS: list is passive; declare list; and the active ones: table? offset list, table? offset index*
  abbrev pub as_active : Option (Reference N P) × (Expr N P × Elements N P) → ElemMode N P × Elements N P
  as_active e = (ActiveElem e.0 e.1.0, e.1.1)

  abbrev pub active : Syntax N P (ElemMode N P × Elements N P)
  active = seen as_active (seq (maybe (use_starts_of (codes "table")) (use_of (codes "table"))) (seq elem_offset (either list_starts elem_list (seen Indices indices))))

  abbrev pub segment : Syntax N P (ElemMode N P × Elements N P)
  segment =
      either (this_word (codes "declare") ∷ []) (seen (λ e. (DeclaredElem, e)) (led (codes "declare") elem_list))
      (either list_starts (seen (λ e. (PassiveElem, e)) elem_list) active)

  -- (elem id? (@name ..)? segment)
  abbrev pub as_elem : P × (Head N P × (ElemMode N P × Elements N P)) → Elem N P
  as_elem e = record { place = e.0; id = e.1.0.0; given = e.1.0.1; mode = e.1.1.0; elements = e.1.1.1 }

  abbrev pub elem_body : Syntax N P (Elem N P)
  elem_body = seen as_elem (seq (word (codes "elem")) (seq head segment))

  abbrev pub elem : Syntax N P (Elem N P)
  elem = paren elem_body
