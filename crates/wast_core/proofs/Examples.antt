-- Modules by hand, as they are read: what the check computes.
use Rattle.std.proofs.Common.{◌≡◌, ℕ, false, List, [], ◌∷◌, ◌++◌, Option, Some, None, refl}
use Rattle.std.specs.Prelude.{codes}
use Rattle.wast_grammar.specs.Tokens.{Name}
use Rattle.wast_parser.specs.Tokens.{Open, Close, Word, Integer, Text}
use Rattle.wast_parser.specs.Significant.{TextToken}
use Rattle.wast_module_fields.specs.FieldTree.{Module}
use Rattle.wast_core.specs.ModuleSyntax.{wat}

-- whether all of these tokens are read, and the place of the module
abbrev place_read : Option (Module Name ℕ × List TextToken) → Option ℕ
place_read (Some (m, [])) = Some m.place
place_read _ = None

abbrev read : List TextToken → Option ℕ
read ts = place_read (wat.reads ts)

abbrev in_group : List TextToken → List TextToken
in_group ts = Open 0 ∷ ts ++ Close 0 ∷ []

abbrev w : List ℕ → List TextToken
w v = Word v 1 ∷ []

abbrev zero_token : List TextToken
zero_token = Integer (record { minus = false; size = 0 }) (codes "0") 2 ∷ []

abbrev text : List TextToken
text = Text (codes "x") 3 ∷ []

-- modules without fields; nothing is no module; quoted ones are not of this format
empty : read (in_group (w (codes "module"))) ≡ Some 1
empty = refl

nothing : read [] ≡ None
nothing = refl

binary : read (in_group (w (codes "module") ++ w (codes "binary") ++ text ++ text)) ≡ Some 1
binary = refl

quoted : read (in_group (w (codes "module") ++ w (codes "quote") ++ text)) ≡ None
quoted = refl

-- one start at most, and a field alone
abbrev start_zero : List TextToken
start_zero = in_group (w (codes "start") ++ zero_token)

one_start : read (in_group (w (codes "module") ++ start_zero)) ≡ Some 1
one_start = refl

two_starts : read (in_group (w (codes "module") ++ start_zero ++ start_zero)) ≡ None
two_starts = refl

field_alone : read start_zero ≡ Some 1
field_alone = refl

two_alone : read (start_zero ++ start_zero) ≡ None
two_alone = refl

-- locals in a function
abbrev one_local : List TextToken
one_local = in_group (w (codes "local") ++ w (codes "i32"))

with_local : read (in_group (w (codes "func") ++ one_local)) ≡ Some 1
with_local = refl

-- tables and memories with and without segments
abbrev elem_zero : List TextToken
elem_zero = in_group (w (codes "elem") ++ zero_token)

sized_table : read (in_group (w (codes "table") ++ zero_token ++ zero_token ++ w (codes "funcref"))) ≡ Some 1
sized_table = refl

filled_table : read (in_group (w (codes "table") ++ w (codes "i64") ++ w (codes "funcref") ++ elem_zero)) ≡ Some 1
filled_table = refl

-- one that is shared has its size written
shared_table : read (in_group (w (codes "table") ++ w (codes "shared") ++ w (codes "funcref") ++ elem_zero)) ≡ None
shared_table = refl

filled_memory : read (in_group (w (codes "memory") ++ in_group (w (codes "data") ++ text))) ≡ Some 1
filled_memory = refl

-- segments: passive, declared and active
passive_elem : read (in_group (w (codes "elem") ++ w (codes "func") ++ zero_token)) ≡ Some 1
passive_elem = refl

declared_elem : read (in_group (w (codes "elem") ++ w (codes "declare") ++ w (codes "func"))) ≡ Some 1
declared_elem = refl

active_elem : read (in_group (w (codes "elem") ++ in_group (w (codes "offset")) ++ zero_token)) ≡ Some 1
active_elem = refl

bare_indices : read elem_zero ≡ None
bare_indices = refl

passive_data : read (in_group (w (codes "data") ++ text)) ≡ Some 1
passive_data = refl

active_data : read (in_group (w (codes "data") ++ in_group (w (codes "memory") ++ zero_token) ++ in_group (w (codes "offset")) ++ text)) ≡ Some 1
active_data = refl
