-- A look for the name of an annotation.
use Rattle.std.specs.Prelude.{ℕ, false, List}
use Rattle.wast_grammar.specs.Look.{Test, On, AMark, This}

abbrev pub this_mark : List ℕ → Test
this_mark v = On false AMark (This v)
