-- The syntax of expressions (WebAssembly 3.0, 6.5, with branch hints), over any syntax of instructions with their operands.
use Rattle.std.specs.Prelude.{ℕ, Bool, true, false, List, [], ◌∷◌, ◌++◌, Option, Some, None, codes, nat_lt}
use Rattle.wast_grammar.specs.Look.{Test, On, AWord, OneOf, this_group, this_annotation, join}
use Rattle.wast_grammar.specs.Grammar.{Syntax, word, mark, string, paren, fenced, seq, seen, only, maybe, many, either, group, wide}
use Rattle.wast_grammar.specs.Recursion.{fix}
use Rattle.wast_grammar.specs.Behind.{next_but, row}
use Rattle.wast_expressions.specs.Items.{Items, Done, Plain, Folded, Block, IfThen, IfElse, Made, unfolded, Expression, expression_of}

-- What a group is, by the instruction that heads it.
pub data GroupKind : Type 0 where
  -- its items are operands, which stand before it when they are unfolded
  OfOperands : GroupKind
  -- its items are those of the block that it opens
  OfBlock : GroupKind
  -- it has conditions and arms
  OfArms : GroupKind

-- What a syntax of instructions says of them.
pub record Heads (I : Type 0) : Type 0 where
  -- the words that they begin with, and those among these that are left out
  pub words : List (List ℕ)
  pub but : List (List ℕ)
  -- what may follow none of them
  pub stops : List Test
  -- which group it heads
  pub kind : I → GroupKind
  -- what would go on with it beyond these stops, as clauses with try_table: what stands behind it may not begin so
  pub own : I → List Test

-- HINTS: (@metadata.code.branch_hint s), where s is one byte, 0 or 1
abbrev pub hint_mark : List ℕ
hint_mark = codes "metadata.code.branch_hint"

abbrev pub hint_tests : List Test
hint_tests = this_annotation hint_mark ∷ []

-- whether a string is a hint's
abbrev pub is_hint : List ℕ → Bool
is_hint (c ∷ []) = nat_lt c 2
is_hint _ = false

abbrev pub hint_value : List ℕ → ℕ
hint_value (c ∷ cs) = c
hint_value [] = 0

-- what stands between its parentheses
abbrev pub hint_body : {N P : Type 0} → Syntax N P (List ℕ)
hint_body = seen (λ x. x.1) (seq (mark hint_mark) (only is_hint string))

abbrev pub hint : {N P : Type 0} → Syntax N P ℕ
hint = seen hint_value (paren hint_body)

-- ITEMS
-- what stands behind the head of a group
pub data Inside (P I : Type 0) : Type 0 where
  Operand : (items : Items P I) → Inside P I
  Body : (items : Items P I) → Inside P I
  Arms : (conditions : Items P I) (second : Option ℕ) (body : Items P I) (other : Option (P × Items P I)) → Inside P I

-- a group: its head, what stands behind it, and the place where it closes
pub record Group (P I : Type 0) : Type 0 where
  pub head : I
  pub inside : Inside P I
  pub close : P

-- an item without its hint
pub data Item (P I : Type 0) : Type 0 where
  Alone : I → Item P I
  Grouped : Group P I → Item P I

-- a group before other items
abbrev pub linked : {P I : Type 0} → Option ℕ → I → Inside P I → P → Items P I → Items P I
linked h i (Operand x) p after = Folded h i x p after
linked h i (Body x) p after = Block h i x p after
linked h i (Arms c g y None) p after = IfThen h g i c y p after
linked h i (Arms c g y (Some n)) p after = IfElse h g i c y n.0 n.1 p after

abbrev pub item_before : {P I : Type 0} → Option ℕ → Item P I → Items P I → Items P I
item_before h (Alone i) after = Plain h i after
item_before h (Grouped x) after = linked h x.head x.inside x.close after

-- items in a row
abbrev pub chain : {P I : Type 0} → List (Option ℕ × Item P I) → Items P I
chain [] = Done
chain (x ∷ xs) = item_before x.0 x.1 (chain xs)

-- groups in a row, without hints of their own
abbrev pub groups_chain : {P I : Type 0} → List (Group P I) → Items P I
groups_chain [] = Done
groups_chain (x ∷ xs) = linked None x.head x.inside x.close (groups_chain xs)

-- whether one of the two places of an `if` alone has a hint
abbrev pub one_place : {P I : Type 0} → Inside P I → Bool
one_place (Arms c (Some v) y n) = false
one_place x = true

abbrev pub one_hint : {P I : Type 0} → Option ℕ × Item P I → Bool
one_hint (Some v, Grouped x) = one_place x.inside
one_hint x = true

abbrev pub then_tests : List Test
then_tests = this_group (codes "then") ∷ []

abbrev pub else_tests : List Test
else_tests = this_group (codes "else") ∷ []

-- what instructions, groups and items begin with, and what stands behind a group's head
module _ {I : Type 0} (heads : Heads I) where
  abbrev pub ins_tests : List Test
  ins_tests = On false AWord (OneOf heads.words heads.but) ∷ []

  abbrev pub group_tests : List Test
  group_tests = On true AWord (OneOf heads.words heads.but) ∷ []

  abbrev pub item_tests : List Test
  item_tests = join hint_tests (join ins_tests group_tests)

  abbrev pub inside_tests : List Test
  inside_tests = join item_tests then_tests

-- Over a syntax of instructions with their operands.
module _ {N P I : Type 0} (ins : Syntax N P I) (heads : Heads I) where
  -- an instruction, in its bounds
  abbrev pub one_ins : Syntax N P I
  one_ins = wide (ins_tests heads) false heads.stops ins

  -- nothing goes on with a group
  abbrev pub own_item : Item P I → List Test
  own_item (Alone i) = heads.own i
  own_item (Grouped x) = []

  -- an item, where g are its groups: an instruction or a group, behind one hint at most
  abbrev pub item : Syntax N P (Group P I) → Syntax N P (Option ℕ × Item P I)
  item g = only one_hint (seq (maybe hint_tests hint) (either (ins_tests heads) (seen Alone one_ins) (seen Grouped g)))

  abbrev pub items_over : Syntax N P (Group P I) → Syntax N P (Items P I)
  items_over g = seen chain (row (item_tests heads) (item g) (λ x. own_item x.1))

  -- group* hint? (then item*) (else item*)?
  abbrev pub arms_of : List (Group P I) × (Option ℕ × (Items P I × Option (P × Items P I))) → Inside P I
  arms_of x = Arms (groups_chain x.0) x.1.0 x.1.1.0 x.1.1.1

  abbrev pub arms : Syntax N P (Group P I) → Syntax N P (Inside P I)
  arms g = seen arms_of (seq (many (group_tests heads) g) (seq (maybe hint_tests hint) (seq (group (codes "then") (items_over g)) (maybe else_tests (paren (seq (word (codes "else")) (items_over g)))))))

  abbrev pub inside : Syntax N P (Group P I) → GroupKind → Syntax N P (Inside P I)
  inside g OfOperands = seen Operand (items_over g)
  inside g OfBlock = seen Body (items_over g)
  inside g OfArms = arms g

  -- (instruction inside), where g are the groups within
  abbrev pub group_of : (I × Inside P I) × P → Group P I
  group_of x = record { head = x.0.0; inside = x.0.1; close = x.1 }

  abbrev pub group_step : Syntax N P (Group P I) → Syntax N P (Group P I)
  group_step g = seen group_of (fenced (next_but one_ins heads.own (λ i. inside g (heads.kind i)) (inside_tests heads)))

  abbrev pub groups : Syntax N P (Group P I)
  groups = fix (group_tests heads) false [] group_step

  -- ITEMS up to an end, and the expression that they unfold to
  abbrev pub items : Syntax N P (Items P I)
  items = items_over groups

  abbrev pub expression : Made P I → Syntax N P (Expression I)
  expression m = seen (λ x. expression_of (unfolded m x)) items

  -- PLAIN: (instruction plain*), for elements and for offsets of element segments: a block's word opens nothing, and no hint stands among them
  abbrev pub all_of : List (List I) → List I
  all_of [] = []
  all_of (x ∷ xs) = x ++ all_of xs

  abbrev pub plain_of : I × List (List I) → List I
  plain_of x = all_of x.1 ++ x.0 ∷ []

  abbrev pub plain_step : Syntax N P (List I) → Syntax N P (List I)
  plain_step g = seen plain_of (paren (next_but one_ins heads.own (λ _. row (group_tests heads) g (λ _. [])) (group_tests heads)))

  abbrev pub plain : Syntax N P (List I)
  plain = fix (group_tests heads) false [] plain_step

  abbrev pub without_hints : List I → Expression I
  without_hints xs = record { instrs = xs; hints = [] }

  -- (word item*), or plain: the item of an element, by the word
  abbrev pub led_or_plain : Made P I → List ℕ → Syntax N P (Expression I)
  led_or_plain m w = either (this_group w ∷ []) (group w (expression m)) (seen without_hints plain)

  -- (instruction item*): what the items unfold to, then the instruction
  abbrev pub folded_of : Made P I → I × Items P I → Expression I
  folded_of m x = expression_of (unfolded m x.1 ++ (None, x.0) ∷ [])

  abbrev pub folded_instruction : Made P I → Syntax N P (Expression I)
  folded_instruction m = seen (folded_of m) (paren (next_but one_ins heads.own (λ _. items) (item_tests heads)))

  -- (offset item*), or (instruction item*): the offset of data
  abbrev pub data_offset : Made P I → Syntax N P (Expression I)
  data_offset m = either (this_group (codes "offset") ∷ []) (group (codes "offset") (expression m)) (folded_instruction m)
