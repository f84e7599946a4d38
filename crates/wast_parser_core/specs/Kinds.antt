-- Kinds of tokens.
use Rattle.std.specs.Prelude.{Bool, true, false, List}
use Rattle.wast_lexer.specs.declared.token.TokenKind.{TokenKind}
use Rattle.wast_lexer.specs.declared.token.TokenKind.TheVariants as kinds
use Rattle.wast_grammar.specs.Significant.{TextToken}
use Rattle.wast_grammar.specs.Look.{Shape, AnEnd, AnOpen, AClose, AWord, AMark, AnId, AnInteger, AFloat, AString, AReserved, first}
use Rattle.wast_parser_core.specs.declared.kind.Wanted.{Wanted}
use Rattle.wast_parser_core.specs.declared.kind.Wanted.TheVariants as wants

abbrev pub is_rparen : TokenKind → Bool
is_rparen kinds.RParen = true
is_rparen _ = false

abbrev pub is_keyword : TokenKind → Bool
is_keyword kinds.Keyword = true
is_keyword _ = false

abbrev pub is_identifier : TokenKind → Bool
is_identifier kinds.Id = true
is_identifier _ = false

abbrev pub is_string : TokenKind → Bool
is_string kinds.String = true
is_string _ = false

abbrev pub is_integer : TokenKind → Bool
is_integer (kinds.Integer kind) = true
is_integer _ = false

-- what may stand for a float (6.3.2)
abbrev pub is_number : TokenKind → Bool
is_number (kinds.Integer kind) = true
is_number (kinds.Float kind) = true
is_number _ = false

-- KINDS AS LOOKS SEE THEM; white space and comments are never looked at
abbrev pub shape_of : TokenKind → Shape
shape_of kinds.Whitespace = AnEnd
shape_of kinds.LineComment = AnEnd
shape_of kinds.BlockComment = AnEnd
shape_of kinds.LParen = AnOpen
shape_of kinds.RParen = AClose
shape_of kinds.Id = AnId
shape_of kinds.Keyword = AWord
shape_of kinds.Annotation = AMark
shape_of (kinds.Integer kind) = AnInteger
shape_of (kinds.Float kind) = AFloat
shape_of kinds.String = AString
shape_of kinds.Reserved = AReserved

-- the kinds that a cursor's calls want
abbrev pub wanted : Wanted → Shape
wanted wants.RParen = AClose
wanted wants.Id = AnId
wanted wants.Keyword = AWord
wanted wants.Annotation = AMark
wanted wants.Integer = AnInteger
wanted wants.Float = AFloat
wanted wants.String = AString
wanted wants.Reserved = AReserved

-- what stands in front, by its kind
abbrev pub front_shape : List TextToken → Shape
front_shape ts = (first false ts).shape
