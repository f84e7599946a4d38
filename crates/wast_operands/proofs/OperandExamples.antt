-- Worked examples of what words say, by computation.
use Rattle.std.proofs.Common.{◌≡◌, ℕ, false, [], ◌∷◌, Some, None, refl, codes}
use lib.Count
use Rattle.wast_operands.specs.OperandSyntax.{are_digits, u64_number, alignment, but_last, first_if_two}

decimal : u64_number (codes "1_000") ≡ Some 1000
decimal = refl

hexadecimal : u64_number (codes "0xfF") ≡ Some 255
hexadecimal = refl

greatest : u64_number (codes "0xffff_ffff_ffff_ffff") ≡ Some 18446744073709551615
greatest = refl

past_greatest : u64_number (codes "18446744073709551616") ≡ None
past_greatest = refl

nothing : u64_number [] ≡ None
nothing = refl

no_digits : u64_number (codes "0x") ≡ None
no_digits = refl

two_lines : u64_number (codes "1__0") ≡ None
two_lines = refl

line_first : are_digits false (codes "_1") ≡ false
line_first = refl

line_last : are_digits false (codes "1_") ≡ false
line_last = refl

letter : are_digits false (codes "1f") ≡ false
letter = refl

sign : u64_number (codes "+4") ≡ None
sign = refl

power : alignment (codes "0x10") ≡ Some 16
unfolding lib.Count.ones
power = refl

no_power : alignment (codes "3") ≡ None
unfolding lib.Count.ones
no_power = refl

zero_align : alignment (codes "0") ≡ None
unfolding lib.Count.ones
zero_align = refl

labels : but_last {A = ℕ} 1 (2 ∷ 3 ∷ []) ≡ (1 ∷ 2 ∷ [], 3)
labels = refl

one_index : first_if_two {A = ℕ} (1, None) ≡ (None, 1)
one_index = refl

two_indices : first_if_two {A = ℕ} (1, Some 2) ≡ (Some 1, 2)
two_indices = refl
