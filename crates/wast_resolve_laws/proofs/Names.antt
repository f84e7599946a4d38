-- The test of names.
use Rattle.std.proofs.Common.{◌≡◌, true, refl}
use Rattle.wast_grammar.specs.Tokens.{Name}
use Rattle.wast_grammar.specs.Spelling.{same_name}
use Rattle.wast_grammar.proofs.Decide.{names_decide}

pub name_self : (n : Name) → same_name n n ≡ true
name_self n = (names_decide n n).1 refl

pub name_sound : (m n : Name) → same_name m n ≡ true → m ≡ n
name_sound m n e = (names_decide m n).0 e
