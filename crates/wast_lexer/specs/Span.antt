-- Lines and columns of a text.
use Rattle.std.specs.Prelude.{ℕ, ◌+◌, if◌then◌else◌, List, [], ◌∷◌, nat_eq, take}

-- how many line feeds there are
abbrev pub line_feeds : List ℕ → ℕ
line_feeds [] = 0
line_feeds (c ∷ cs) = if nat_eq c 10 then line_feeds cs + 1 else line_feeds cs

-- how many bytes stand behind the last line feed, where n stand before these
abbrev pub since_line_feed : ℕ → List ℕ → ℕ
since_line_feed n [] = n
since_line_feed n (c ∷ cs) = since_line_feed (if nat_eq c 10 then 0 else n + 1) cs

-- The line of an offset, and the column in it, both from 0; an offset past the text counts all of it.
abbrev pub line_of : List ℕ → ℕ → ℕ
line_of text offset = line_feeds (take offset text)

abbrev pub column_of : List ℕ → ℕ → ℕ
column_of text offset = since_line_feed 0 (take offset text)
