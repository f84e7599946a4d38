-- Which error a lexical fault is.
use Rattle.std.specs.Prelude.{None}
use Rattle.wast_parser_base.specs.Problem.{Problem, Lexical, Memory}
use Rattle.wast_lexer.specs.declared.fault.LexFault.{LexFault}
use Rattle.wast_lexer.specs.declared.fault.LexFault.TheVariants as faults

abbrev pub problem_of : LexFault → Problem
problem_of (faults.Lex span error) = record { place = span; cause = Lexical error; lines = None }
problem_of faults.Memory = record { place = 0; cause = Memory; lines = None }
