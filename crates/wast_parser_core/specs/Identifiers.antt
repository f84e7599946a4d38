-- The syntax of identifiers, of indices and of the annotation that names (WebAssembly 3.0, 6.3.5 and 7.6.1).
use Rattle.std.specs.Prelude.{ℕ, ◌-◌, ◌^◌, List, ◌∷◌, None, codes}
use Rattle.wast_grammar.specs.Tokens.{Name}
use Rattle.wast_grammar.specs.Look.{integer_starts}
use Rattle.wast_grammar.specs.Grammar.{Syntax, seen, seq, id, mark, word, either, paren}
use Rattle.wast_parser_base.specs.Identifier.{Identifier}
use Rattle.wast_parser_base.specs.declared.index.Index.{Index}
use Rattle.wast_parser_base.specs.declared.index.Index.TheVariants as indices
use Rattle.wast_parser_core.specs.Productions.{name}
use Rattle.wast_parser_core.specs.Integers.{number_in, unsigned}

-- an identifier: its name, and the place
abbrev pub Named : Type 0 → Type 0 → Type 0
Named N P = N × P

-- what refers to something: a number and its place, or an identifier
pub data Reference (N P : Type 0) : Type 0 where
  ByNumber : ℕ → P → Reference N P
  ByName : Named N P → Reference N P

module _ {N P : Type 0} where
  abbrev pub identifier : Syntax N P (Named N P)
  identifier = id

  -- u32 or an identifier
  abbrev pub index : Syntax N P (Reference N P)
  index = either integer_starts (seen (λ n. ByNumber n.0 n.1) (number_in (2 ^ 32 - 1) None unsigned)) (seen ByName identifier)

  -- @name "..", and what it says
  abbrev pub name_annotation : Syntax N P (List ℕ)
  name_annotation = seen (λ x. x.1) (seq (mark (codes "name")) name)

  -- ( word index )
  abbrev pub item_ref : List ℕ → Syntax N P (P × Reference N P)
  item_ref w = paren (seq (word w) index)

-- WHAT THE GRAMMAR SEES
abbrev pub identifier_tree : Identifier → Named Name ℕ
identifier_tree x = ((x.name, x.generation), x.place)

abbrev pub index_tree : Index → Reference Name ℕ
index_tree (indices.Num number span) = ByNumber number span
index_tree (indices.Id id) = ByName (identifier_tree id)
