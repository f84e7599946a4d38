-- What is known at places.
use Rattle.std.specs.Prelude.{ℕ, List, ◌++◌, map, reverse, Option}
use Rattle.wast_grammar.specs.Tokens.{Name}
use Rattle.wast_grammar.specs.Spelling.{same_name}
use Rattle.wast_parser.specs.Identifiers.{Named}
use Rattle.wast_signatures.specs.SignatureViews.{use_tree}
use Rattle.wast_signatures.specs.declared.signature.FunctionType.{FunctionType}
use Rattle.wast_signatures.specs.declared.type_use.TypeUse.{TypeUse}
use Rattle.wast_core_instr.specs.InstructionTree.{Instruction}
use Rattle.wast_fields.specs.FuncViews.{local_tree}
use Rattle.wast_fields.specs.Local.{Local}
use Rattle.wast_meaning.specs.Scope.{Scope, with_locals, scope_at, params_of}

-- the parameters and locals of a function
abbrev pub locals_among : Scope Name ℕ → TypeUse FunctionType → List Local → List (Option (Named Name ℕ))
locals_among s ty locals = params_of s (use_tree ty) ++ map (λ l. l.id) (map local_tree locals)

-- in a function
abbrev pub inside : Scope Name ℕ → TypeUse FunctionType → List Local → Scope Name ℕ
inside s ty locals = with_locals same_name s (locals_among s ty locals)

-- at an instruction behind these
abbrev pub among : Scope Name ℕ → List (Instruction Name ℕ) → Instruction Name ℕ → Scope Name ℕ
among s before i = scope_at same_name s (reverse before) i
