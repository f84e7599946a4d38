-- Where groups of parentheses end, by a count. It says what a private function of the table does, and is no part of any
-- promise.
use Rattle.std.specs.Prelude.{ℕ, zero, suc, ◌+◌, List, [], ◌∷◌, Option, Some, None, option_map}
use Rattle.wast_lexer.specs.declared.paren.Paren.{Paren}
use Rattle.wast_lexer.specs.declared.paren.Paren.TheVariants.{Opens, Closes, Other}

abbrev pub one_more : Option ℕ → Option ℕ
one_more = option_map (λ n. n + 1)

-- how many tokens stand before the closing one that ends so many groups and one
abbrev pub closing : ℕ → List Paren → Option ℕ
closing d [] = None
closing d (Other ∷ tokens) = one_more (closing d tokens)
closing d (Opens ∷ tokens) = one_more (closing (d + 1) tokens)
closing zero (Closes ∷ tokens) = Some 0
closing (suc d) (Closes ∷ tokens) = one_more (closing d tokens)

-- the index of that closing one, where the first of the tokens has this index
abbrev pub index_of : ℕ → Option ℕ → Option ℕ
index_of from None = None
index_of from (Some n) = Some (from + n)
