-- Identifier characters are ASCII.
use Rattle.std.proofs.Common.{◌≡◌, ℕ, zero, suc, ◌<◌, true, List, [], ◌∷◌, get_or, arith}
use Rattle.std.specs.List.{list_all}
use Rattle.std.specs.Str.{IsUtf8, IsAscii}
use Rattle.std.proofs.lemmas.Str.{IsUtf8-from_ascii}
use Rattle.std.proofs.lemmas.Bool.Decides.{nat_tests}
use Rattle.std.proofs.lemmas.Bool.{and_parts}
use Rattle.wast_lexer.specs.Kinds.{is_idchar}

pub id_low : (c : ℕ) → is_idchar c ≡ true → c < 128
id_low c h = grind (arith, nat_tests)

names_ascii : (w : List ℕ) → list_all is_idchar w ≡ true → IsAscii w
names_ascii [] h = λ i. omega arith
names_ascii (c ∷ w) h =
    let both = and_parts (is_idchar c) (list_all is_idchar w) h in
    λ i. elim i as (λ k. get_or (c ∷ w) k 0 < 128) [ zero ↦ id_low c both.0 | suc i ↦ names_ascii w both.1 i ]

pub names_utf8 : (w : List ℕ) → list_all is_idchar w ≡ true → IsUtf8 w
names_utf8 w h = IsUtf8-from_ascii w (names_ascii w h)
