-- The entries of the table and of the instructions that are refused as uncovered, computed.
use Rattle.std.proofs.Common.{ℕ, ◌≡◌, ◌<◌, Bool, true, false, List, [], ◌∷◌, refl, All, arith}
use Rattle.std.specs.Prelude.{cond, AllPairs}
use Rattle.std.specs.Cmp.Lexicographic.{bytes_decides}
use Rattle.std.proofs.lemmas.List.Elements.{All-nil, All-cons}
use Rattle.std.proofs.lemmas.List.Kept.{AllPairs-cons}
use Rattle.wasm_encoder_bytes.specs.Leb.{uleb, leb, digits}
use Rattle.wasm_encoder_base.specs.Table.{Entry, OperandSyntax, Plain, Results, Ref, RefNull, table, same_text}
use Rattle.wasm_encoder_base.specs.Uncovered.{uncovered}
use Rattle.wasm_encoder_base.specs.Samples.{SamplesListed, DoublesListed}
use Rattle.wasm_encoder_base.specs.Laws.{EntriesDistinct, UncoveredDistinct, UncoveredUnlisted}

pub samples_listed : SamplesListed
unfolding table uleb leb digits
samples_listed = refl

pub doubles_listed : DoublesListed
unfolding table uleb leb digits
doubles_listed = record { select = refl; ref_test = refl; ref_cast = refl }

pub uncovered_distinct : UncoveredDistinct
unfolding uncovered
uncovered_distinct = refl

pub uncovered_unlisted : UncoveredUnlisted
unfolding table uncovered uleb leb digits
uncovered_unlisted = refl

-- the operands of the two entries of a mnemonic
abbrev differ : OperandSyntax → OperandSyntax → Bool
differ Plain Results = true
differ Ref RefNull = true
differ _ _ = false

differ-sound : (a b : OperandSyntax) → differ a b ≡ true → a ≡ b → ⊥
differ-sound Plain Results t e = cc
differ-sound Ref RefNull t e = cc
differ-sound _ _ t e = cc

-- an entry differs from those after it by its mnemonic or its operands
abbrev apart_from_all : Entry → List Entry → Bool
apart_from_all x [] = true
apart_from_all x (y ∷ ys) = elim (same_text x.mnemonic y.mnemonic) [ true ↦ cond (differ x.operands y.operands) (apart_from_all x ys) false | false ↦ apart_from_all x ys ]

abbrev all_differ : List Entry → Bool
all_differ [] = true
all_differ (x ∷ xs) = cond (apart_from_all x xs) (all_differ xs) false

table_differs : all_differ table ≡ true
unfolding table uleb leb digits
table_differs = refl

-- two entries apart: not both the mnemonic and the operands
abbrev Apart : Entry → Entry → Type 0
Apart a b = a.mnemonic ≡ b.mnemonic → a.operands ≡ b.operands → ⊥

both_parts : (a b : Bool) → cond a b false ≡ true → (a ≡ true) × (b ≡ true)
both_parts true b e = (refl, e)
both_parts false b e = cc

-- what the test of one pair leaves
pair_parts : (same differs rest : Bool) → (elim same as (λ _. Bool) [ true ↦ cond differs rest false | false ↦ rest ]) ≡ true → (same ≡ true → differs ≡ true) × (rest ≡ true)
pair_parts true differs rest e = let h = both_parts differs rest e in ((λ _. h.0), h.1)
pair_parts false differs rest e = ((λ t. cc), e)

text_same : (v w : List ℕ) → v ≡ w → same_text v w ≡ true
text_same v w e = (bytes_decides v w).1 e

apart_each : (x : Entry) (ys : List Entry) → apart_from_all x ys ≡ true → All (Apart x) ys
apart_each x [] e = All-nil (Apart x)
apart_each x (y ∷ ys) e =
    let h = pair_parts (same_text x.mnemonic y.mnemonic) (differ x.operands y.operands) (apart_from_all x ys) e in
    All-cons (Apart x) y ys (λ m o. differ-sound x.operands y.operands (h.0 (text_same x.mnemonic y.mnemonic m)) o) (apart_each x ys h.1)

all_apart : (es : List Entry) → all_differ es ≡ true → AllPairs Apart es
all_apart [] e = λ i j d h k. absurd (omega arith)
all_apart (x ∷ xs) e = let h = both_parts (apart_from_all x xs) (all_differ xs) e in AllPairs-cons Apart x xs (apart_each x xs h.0) (all_apart xs h.1)

pub entries_distinct : EntriesDistinct
entries_distinct = all_apart table table_differs
