-- Expressions as they are written: items in a row, and the instructions that they unfold to (WebAssembly 3.0, 6.5, folded instructions). I
-- are the instructions with their operands, P the places.
use Rattle.std.specs.Prelude.{ℕ, suc, List, [], ◌∷◌, ◌++◌, map, Option, Some, None}

-- Items: the first, with a hint where one stands before it, and those after it. A group has the place where it closes.
pub data Items (P I : Type 0) : Type 0 where
  Done : Items P I
  -- an instruction by itself
  Plain : (hint : Option ℕ) (i : I) (after : Items P I) → Items P I
  -- (instruction items), where the items are operands
  Folded : (hint : Option ℕ) (i : I) (inside : Items P I) (close : P) (after : Items P I) → Items P I
  -- (block items)
  Block : (hint : Option ℕ) (i : I) (inside : Items P I) (close : P) (after : Items P I) → Items P I
  -- (if conditions (then body)), and the same with (else other), of which the word has a place
  IfThen : (hint second : Option ℕ) (i : I) (conditions body : Items P I) (close : P) (after : Items P I) → Items P I
  IfElse : (hint second : Option ℕ) (i : I) (conditions body : Items P I) (word : P) (other : Items P I) (close : P) (after : Items P I) → Items P I

-- the instructions that groups make: `else` and `end`, each with a place
pub record Made (P I : Type 0) : Type 0 where
  pub else_at : P → I
  pub end_at : P → I

-- the one that is there
abbrev pub either_hint : Option ℕ → Option ℕ → Option ℕ
either_hint None g = g
either_hint (Some v) g = Some v

-- Instructions in a row, each with its hint. Operands and conditions stand before the head of their group, the items of a
-- block and the arms of an `if` behind it, up to an `end` where the group closes.
abbrev pub unfolded : {P I : Type 0} → Made P I → Items P I → List (Option ℕ × I)
unfolded m Done = []
unfolded m (Plain h i after) = (h, i) ∷ unfolded m after
unfolded m (Folded h i inside p after) = unfolded m inside ++ ((h, i) ∷ unfolded m after)
unfolded m (Block h i inside p after) = (h, i) ∷ unfolded m inside ++ ((None, m.end_at p) ∷ unfolded m after)
unfolded m (IfThen h g i c y p after) = unfolded m c ++ ((either_hint h g, i) ∷ unfolded m y ++ ((None, m.end_at p) ∷ unfolded m after))
unfolded m (IfElse h g i c y w n p after) = unfolded m c ++ ((either_hint h g, i) ∷ unfolded m y ++ ((None, m.else_at w) ∷ unfolded m n ++ ((None, m.end_at p) ∷ unfolded m after)))

-- A hint, and the index of the instruction that bears it.
pub record Hint : Type 0 where
  pub index : ℕ
  pub value : ℕ

abbrev pub hint_at : ℕ → Option ℕ → List Hint
hint_at n None = []
hint_at n (Some v) = record { index = n; value = v } ∷ []

-- the hints of instructions of which the first has this index
abbrev pub hints_from : {I : Type 0} → ℕ → List (Option ℕ × I) → List Hint
hints_from n [] = []
hints_from n (x ∷ xs) = hint_at n x.0 ++ hints_from (suc n) xs

-- An expression: instructions in a row, and the hints among them.
pub record Expression (I : Type 0) : Type 0 where
  pub instrs : List I
  pub hints : List Hint

abbrev pub expression_of : {I : Type 0} → List (Option ℕ × I) → Expression I
expression_of xs = record { instrs = map (λ x. x.1) xs; hints = hints_from 0 xs }
