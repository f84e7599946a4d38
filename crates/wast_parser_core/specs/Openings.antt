-- How groups begin and end before a parser.
use Rattle.std.specs.Prelude.{Bool, true, false, ◌∷◌, List}
use Rattle.wast_grammar.specs.Tokens.{Open, Close, Mark, Broken}
use Rattle.wast_grammar.specs.Significant.{TextToken}

-- a group opens here
abbrev pub opens_here : List TextToken → Bool
opens_here (Open p ∷ ts) = true
opens_here _ = false

-- a group ends here
abbrev pub closes_here : List TextToken → Bool
closes_here (Close p ∷ ts) = true
closes_here _ = false

-- a group opens here that is no annotation's, as far as its first token tells
abbrev pub group_here : List TextToken → Bool
group_here (Open p ∷ Mark w q ∷ ts) = false
group_here (Open p ∷ Broken ∷ ts) = false
group_here (Open p ∷ ts) = true
group_here _ = false
