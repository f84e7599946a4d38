use Rattle.std.proofs.Common.{◌≡◌, map, drop}
use Rattle.wast_lexer.specs.TokenText.{text_of}
use Rattle.wast_grammar.specs.Spelling.{any_is}
use Rattle.wast_grammar.specs.Tokens.{marked_value}
use Rattle.wast_parser_core.proofs.annotation.is_registered.Given as goal

abbrev pub invariant-loop-name : goal.invariant-loop-name
invariant-loop-name l = any_is (marked_value (text_of l.text l.token)) (map (λ n. n.now) (drop l.name-index l.names)) ≡ any_is (marked_value (text_of l.text l.token)) (map (λ n. n.now) l.names)
