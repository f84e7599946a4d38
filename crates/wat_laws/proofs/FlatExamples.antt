-- A text by hand, and the same with its body written flat.
use Rattle.std.proofs.Common.{◌≡◌, ℕ, false, List, [], ◌∷◌, ◌++◌, Some, None, inl, inr, refl, arith}
use Rattle.std.specs.Prelude.{codes}
use Rattle.std.specs.Str.{is_utf8, chars}
use lib.Utf8
use Prim.Native.String.{String}
use Rattle.wasm_encoder_base.specs.Leb.{uleb, leb, digits}
use Rattle.wasm_encoder_base.specs.Table.{table, entries_of}
use Rattle.wasm_encoder_base.specs.Uncovered.{uncovered}
use Rattle.wast_grammar.specs.Tokens.{Name, Open, Close}
use Rattle.wast_grammar.specs.Significant.{TextToken}
use Rattle.wast_grammar.specs.Look.{at}
use Rattle.wast_grammar.specs.Twins as twins
use Rattle.wast_grammar.specs.Grammar as grammar
use Rattle.wast_grammar.specs.Grammar.{Syntax, wide, paren, led, seq}
use Rattle.wast_grammar.specs.Recursion.{deep}
use Rattle.wast_grammar.proofs.GrammarLaws.{all_spelled}
use Rattle.wast_parser.specs.Identifiers.{ByNumber}
use Rattle.wast_signatures.specs.TypeTree.{TypeUse}
use Rattle.wast_signatures.specs.TypeSyntax.{type_use}
use Rattle.wast_mnemonics.specs.TextTable.{text_table}
use Rattle.wast_mnemonics.specs.Heads.{chosen}
use Rattle.wast_core_instr.specs.InstructionTree.{Operands, NoOperands, Label, Block, One, Instruction}
use Rattle.wast_core_instr.specs.InstructionSyntax.{instruction}
use Rattle.wast_core_instr.specs.InstructionGroups.{instruction_heads, instruction_made}
use Rattle.wast_core_instr.proofs.InstructionLaws.{instruction_laws}
use Rattle.wast_expressions.specs.Items.{Items, Done, Plain, Folded, IfElse, unfolded}
use Rattle.wast_expressions.specs.Expressions.{Heads, OfArms, Inside, Operand, Arms, Group, Alone, Grouped, group_tests, items_over, inside, group_step, items}
use Rattle.wast_expressions.specs.Laws.{kept, kept_heads, kept_made, WrittenFlat}
use Rattle.wast_exports.specs.Exports.{inline_export}
use Rattle.wast_imports.specs.ImportSyntax.{head}
use Rattle.wast_field_syntax.specs.FieldTree.{Expr, Function, Func, Definition, Define, Fields}
use Rattle.wast_field_syntax.specs.DefinitionSyntax.{expr}
use Rattle.wast_field_syntax.specs.FuncSyntax as plain
use Rattle.wast_field_syntax.proofs.ExpressionLaws.{expr_laws}
use Rattle.wat_laws.specs.Flat.{unchanged, IsFlat, function, func, content, wat}
use Rattle.wat_laws.specs.Laws.{Flattened}
use Rattle.wat_laws.specs.FlatExamples.{FlatExamples}
use Rattle.wat_laws.proofs.LexedTexts.{text_tokens, within_bounds, word, integer, of_fields}

-- INSTRUCTIONS
abbrev no_use : TypeUse Name ℕ
no_use = record { index = None; inline = None }

abbrev called : String → Operands Name ℕ → Instruction Name ℕ
called w operands = record { head = chosen (codes w) (entries_of (codes w) table) false; operands = operands }

abbrev get_i : Instruction Name ℕ
get_i = called "local.get" (One (ByNumber 0 29))

abbrev if_i : Instruction Name ℕ
if_i = called "if" (Block (record { label = None; type_use = no_use }))

abbrev nop_i : Instruction Name ℕ
nop_i = called "nop" NoOperands

abbrev trap_i : Instruction Name ℕ
trap_i = called "unreachable" NoOperands

-- TOKENS of each, and of the groups around them
abbrev get_ts : List TextToken
get_ts = word "local.get" 19 ∷ integer 0 "0" 29 ∷ []

abbrev if_ts : List TextToken
if_ts = word "if" 15 ∷ []

abbrev nop_ts : List TextToken
nop_ts = word "nop" 38 ∷ []

abbrev trap_ts : List TextToken
trap_ts = word "unreachable" 49 ∷ []

abbrev condition_ts : List TextToken
condition_ts = Open 18 ∷ get_ts ++ Close 30 ∷ []

abbrev then_ts : List TextToken
then_ts = Open 32 ∷ word "then" 33 ∷ nop_ts ++ Close 41 ∷ []

abbrev else_ts : List TextToken
else_ts = Open 43 ∷ word "else" 44 ∷ trap_ts ++ Close 60 ∷ []

abbrev body_ts : List TextToken
body_ts = Open 14 ∷ if_ts ++ condition_ts ++ then_ts ++ else_ts ++ Close 61 ∷ []

abbrev flat_ts : List TextToken
flat_ts = get_ts ++ if_ts ++ nop_ts ++ word "else" 44 ∷ trap_ts ++ word "end" 61 ∷ []

-- a text with such a body
abbrev text_of : List TextToken → List TextToken
text_of body = Open 0 ∷ word "module" 1 ∷ Open 8 ∷ word "func" 9 ∷ body ++ Close 62 ∷ Close 63 ∷ []

abbrev others : List TextToken
others =
    Open 0 ∷ word "module" 1 ∷ Open 8 ∷ word "func" 9 ∷ word "local.get" 14 ∷ integer 0 "0" 24 ∷ word "if" 26 ∷ word "nop" 29
    ∷ word "else" 33 ∷ word "unreachable" 38 ∷ word "end" 50 ∷ Close 53 ∷ Close 54 ∷ []

-- THE BODY
abbrev body : Expr Name ℕ
body = record { instrs = get_i ∷ if_i ∷ nop_i ∷ called "else" (Label None) ∷ trap_i ∷ called "end" (Label None) ∷ []; hints = [] }

abbrev Kept : Type 0
Kept = Instruction Name ℕ × List TextToken

abbrev K : Syntax Name ℕ Kept
K = kept instruction

abbrev kh : Heads Kept
kh = kept_heads instruction_heads

-- with the tokens of each
abbrev condition : Group ℕ Kept
condition = record { head = (get_i, get_ts); inside = Operand Done; close = 30 }

abbrev alone : Kept → Items ℕ Kept
alone i = Plain None i Done

abbrev arms : Inside ℕ Kept
arms = Arms (Folded None (get_i, get_ts) Done 30 Done) None (alone (nop_i, nop_ts)) (Some (44, alone (trap_i, trap_ts)))

abbrev group : Group ℕ Kept
group = record { head = (if_i, if_ts); inside = arms; close = 61 }

abbrev parts : Items ℕ Kept
parts = IfElse None None (if_i, if_ts) (Folded None (get_i, get_ts) Done 30 Done) (alone (nop_i, nop_ts)) 44 (alone (trap_i, trap_ts)) 61 Done

get_spelled : K.spells (get_i, get_ts) get_ts
unfolding instruction text_table table uncovered uleb leb digits
get_spelled = (all_spelled instruction instruction_laws get_ts get_i refl, refl)

if_spelled : K.spells (if_i, if_ts) if_ts
unfolding instruction text_table table uncovered uleb leb digits
if_spelled = (all_spelled instruction instruction_laws if_ts if_i refl, refl)

nop_spelled : K.spells (nop_i, nop_ts) nop_ts
unfolding instruction text_table table uncovered uleb leb digits
nop_spelled = (all_spelled instruction instruction_laws nop_ts nop_i refl, refl)

trap_spelled : K.spells (trap_i, trap_ts) trap_ts
unfolding instruction text_table table uncovered uleb leb digits
trap_spelled = (all_spelled instruction instruction_laws trap_ts trap_i refl, refl)

-- groups of some depth
abbrev groups_of : ℕ → Syntax Name ℕ (Group ℕ Kept)
groups_of n = wide (group_tests kh) false [] (deep (group_tests kh) false [] (group_step K kh) n)

-- an instruction by itself
alone_spelled : (i : Kept) (ts : List TextToken) → K.spells i ts → at {N = Name} {P = ℕ} (kh.own i) [] ≡ false → (items_over K kh (groups_of 1)).spells (alone i) (ts ++ [])
alone_spelled i ts s own = ((None, Alone i) ∷ [], refl, (ts, [], refl, (refl, ([], ts, refl, refl, inl (i, refl, s))), refl, own))

condition_spelled : (groups_of 1).spells condition condition_ts
condition_spelled = ((((get_i, get_ts), Operand Done), 30), refl, (get_ts, 18, refl, (get_ts, [], refl, get_spelled, (Done, refl, ([], refl, refl)), refl)))

then_spelled : (paren (led (codes "then") (items_over K kh (groups_of 1)))).spells (alone (nop_i, nop_ts)) then_ts
then_spelled =
    let row = alone_spelled (nop_i, nop_ts) nop_ts nop_spelled refl in
    (word "then" 33 ∷ nop_ts, 32, 41, refl, ((33, alone (nop_i, nop_ts)), refl, (word "then" 33 ∷ [], nop_ts, refl, (word "then" 33, refl, refl), row)))

else_spelled : (paren (seq (grammar.word (codes "else")) (items_over K kh (groups_of 1)))).spells (44, alone (trap_i, trap_ts)) else_ts
else_spelled =
    let row = alone_spelled (trap_i, trap_ts) trap_ts trap_spelled refl in
    (word "else" 44 ∷ trap_ts, 43, 60, refl, (word "else" 44 ∷ [], trap_ts, refl, (word "else" 44, refl, refl), row))

arms_spelled : (inside K kh (groups_of 1) OfArms).spells arms (condition_ts ++ then_ts ++ else_ts)
arms_spelled =
    ((condition ∷ [], (None, (alone (nop_i, nop_ts), Some (44, alone (trap_i, trap_ts))))), refl, (condition_ts, then_ts ++ else_ts, refl, (condition_ts, [], refl, condition_spelled, refl), ([], then_ts ++ else_ts, refl, refl, (then_ts, else_ts, refl, then_spelled, else_spelled))))

group_spelled : (groups_of 2).spells group body_ts
unfolding table uleb leb digits
group_spelled = ((((if_i, if_ts), arms), 61), refl, (if_ts ++ condition_ts ++ then_ts ++ else_ts, 14, refl, (if_ts, condition_ts ++ then_ts ++ else_ts, refl, if_spelled, arms_spelled, refl)))

items_spelled : (items K kh).spells parts body_ts
items_spelled = ((None, Grouped group) ∷ [], refl, (body_ts, [], refl, (refl, ([], body_ts, refl, refl, inr (group, refl, (2, group_spelled)))), refl, refl))

folded : expr.spells body body_ts
unfolding instruction text_table table uncovered uleb leb digits
folded = all_spelled expr expr_laws body_ts body refl

abbrev made_ts : List TextToken
made_ts = word "else" 44 ∷ trap_ts ++ word "end" 61 ∷ []

flat : WrittenFlat (unfolded (kept_made instruction_made) parts) flat_ts
flat = ([], if_ts ++ nop_ts ++ made_ts, refl, refl, ([], nop_ts ++ made_ts, refl, refl, ([], made_ts, refl, refl, ([], trap_ts ++ word "end" 61 ∷ [], refl, refl, ([], word "end" 61 ∷ [], refl, refl, ([], [], refl, refl, refl))))))

body_flat : IsFlat body body_ts flat_ts
body_flat = record { folded = folded; no_hints = refl; parts = parts; spelled = items_spelled; unfolds = refl; flat = flat }

-- THE TEXTS
abbrev own : Function Name ℕ
own = record { type_use = no_use; locals = []; body = body }

abbrev definition : Definition Name ℕ
definition = record { place = 9; id = None; given = None; exports = []; defined = Func own }

abbrev func_of : List TextToken → List TextToken
func_of ts = Open 8 ∷ word "func" 9 ∷ ts ++ Close 62 ∷ []

head_spelled : (head {N = Name} {P = ℕ}).spells (None, None) []
head_spelled = ([], [], refl, refl, refl)

use_spelled : type_use.spells no_use []
use_spelled = ((None, None), refl, ([], [], refl, refl, (([], []), refl, ([], [], refl, refl, refl))))

locals_spelled : (plain.all_locals {N = Name} {P = ℕ}).spells [] []
locals_spelled = ([], refl, refl)

function_flat : function own body_ts flat_ts
function_flat = ((no_use, ([], body)), refl, ([], body_ts, [], flat_ts, refl, refl, (use_spelled, refl), ([], body_ts, [], flat_ts, refl, refl, (locals_spelled, refl), body_flat)))

func_parts : twins.next (unchanged head.spells) (λ _. twins.next (unchanged inline_export.spells) (λ _. twins.seen Func function)) ((None, None), ([], Func own)) body_ts flat_ts
func_parts = ([], body_ts, [], flat_ts, refl, refl, (head_spelled, refl), ([], body_ts, [], flat_ts, refl, refl, (refl, refl), (own, refl, function_flat)))

func_flat : func definition (func_of body_ts) (func_of flat_ts)
func_flat =
    let keyword = word "func" 9 in
    (keyword ∷ body_ts, keyword ∷ flat_ts, 8, 62, refl, refl, ((9, ((None, None), ([], Func own))), refl, (keyword ∷ [], body_ts, keyword ∷ [], flat_ts, refl, refl, (keyword, refl, refl, refl), func_parts)))

content_flat : content (Fields (Define definition ∷ [])) (func_of body_ts) (func_of flat_ts)
content_flat = (Define definition ∷ [], refl, (refl, (func_of body_ts, [], func_of flat_ts, [], refl, refl, inl (definition, refl, func_flat), (refl, refl))))

module_parts : twins.next (unchanged head.spells) (λ _. content) ((None, None), Fields (Define definition ∷ [])) (func_of body_ts) (func_of flat_ts)
module_parts = ([], func_of body_ts, [], func_of flat_ts, refl, refl, (head_spelled, refl), content_flat)

rewritten : wat (of_fields (Define definition ∷ [])) (text_of body_ts) (text_of flat_ts)
rewritten =
    let keyword = word "module" 1 in
    let one = func_of body_ts in
    let two = func_of flat_ts in
    inl (keyword ∷ one, keyword ∷ two, 0, 63, refl, refl, ((1, ((None, None), Fields (Define definition ∷ []))), refl, (keyword ∷ [], one, keyword ∷ [], two, refl, refl, (keyword, refl, refl, refl), module_parts)))

arms_texts : Flattened (codes "(module (func (if (local.get 0) (then nop) (else unreachable))))") (codes "(module (func local.get 0 if nop else unreachable end))")
unfolding is_utf8 chars lib.Utf8.encode
arms_texts = record {
  tree = of_fields (Define definition ∷ []);
  tokens = text_of body_ts;
  flat = text_of flat_ts;
  others = others;
  significant = (text_tokens _ (text_of body_ts) refl refl, text_tokens _ others refl refl);
  rewritten = rewritten;
  alike = (tt, (refl, (tt, (refl, (refl, ((refl, refl), (refl, (refl, (refl, (refl, (refl, (tt, (tt, tt)))))))))))));
  same = tt;
}

pub examples : FlatExamples
unfolding is_utf8 chars lib.Utf8.encode
examples = record { arms = (arms_texts, within_bounds _ _ (omega arith) (omega arith) refl refl) }
