-- What a table keeps of its tokens. It is no part of any promise.
use Rattle.std.specs.Prelude.{ℕ, ◌-◌, ◌≤◌, List, [], ◌∷◌, map}
use Rattle.wast_lexer.specs.declared.entry.Entry.{Entry}
use Rattle.wast_lexer.specs.declared.paren.Paren.{Paren}
use Rattle.wast_lexer.specs.declared.token.Token.{Token}
use Rattle.wast_lexer.specs.Groups.{paren_of}

-- the tokens that entries stand for, where the first begins at this offset
abbrev pub tokens_of : ℕ → List Entry → List Token
tokens_of from [] = []
tokens_of from (e ∷ entries) = (record { kind = e.kind; offset = from; len = e.end - from }) ∷ tokens_of e.end entries

-- no token ends before it begins
abbrev pub Rising : ℕ → List Entry → Type 0
Rising from [] = Unit {0}
Rising from (e ∷ entries) = (from ≤ e.end) × Rising e.end entries

abbrev pub parens_of : List Entry → List Paren
parens_of entries = map (λ e. paren_of e.kind) entries
