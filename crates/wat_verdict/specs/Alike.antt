-- Texts whose significant tokens agree, or differ by a renaming of identifiers: what they are worth.
use Rattle.std.specs.Prelude.{ℕ, ◌≡◌, ◌<◌, ◌^◌, false, List, [], length}
use Rattle.std.specs.Str.{IsUtf8}
use Rattle.wast_grammar.specs.Tokens.{Name}
use Rattle.wast_grammar.specs.Significant.{TextToken, AreSignificant}
use Rattle.wast_grammar.specs.Alike.{Alike, Same, Matched, names}
use Rattle.wast_names.specs.Demand.{Complaint, Duplicate, Unknown, ImportAfter, TypeMismatch, LabelMismatch}
use Rattle.wasm_layout.specs.Layout.{layout}
use Rattle.wasm_layout.specs.Lays.{bare}
use Rattle.wast_meant.specs.Means.{Worth, Stands, Pieces}
use Rattle.wat_verdict.specs.Registered.{registered}
use Rattle.wat_verdict.specs.Verdict.{Condition, TooLong, NotUtf8, Misspelled, NotWellFormed, Unmet, Uncovered, Fails, Accepts, Assembles}

-- Two texts that lex, and whose significant tokens agree in kind, and in text where they are no identifiers.
pub record AlikeTexts (text other : List ℕ) (tokens others : List TextToken) : Type 0 where
  pub short : (length text < 2 ^ 32) × (length other < 2 ^ 32)
  pub utf8 : IsUtf8 text × IsUtf8 other
  pub significant : AreSignificant false registered text tokens × AreSignificant false registered other others
  pub alike : Alike tokens others

-- what is complained of, with its name as this shows it
abbrev pub complaint_shown : {N : Type 0} → (N → List ℕ) → Complaint N → Complaint (List ℕ)
complaint_shown show (Duplicate kind) = Duplicate kind
complaint_shown show (Unknown kind n) = Unknown kind (show n)
complaint_shown show (ImportAfter kind) = ImportAfter kind
complaint_shown show TypeMismatch = TypeMismatch
complaint_shown show LabelMismatch = LabelMismatch

-- The conditions are one, places aside.
abbrev pub SameCondition : (Name → List ℕ) → Condition → Condition → Type 0
SameCondition show TooLong TooLong = Unit {0}
SameCondition show (NotUtf8 m) (NotUtf8 n) = m ≡ n
SameCondition show Misspelled Misspelled = Unit {0}
SameCondition show (NotWellFormed p) (NotWellFormed q) = Unit {0}
SameCondition show (Unmet p c) (Unmet q d) = complaint_shown show c ≡ complaint_shown show d
SameCondition show (Uncovered p f) (Uncovered q g) = f ≡ g
SameCondition show c d = ⊥

-- What one fails the other fails, names being shown so, and what the one is worth is to the other's worth as this says.
pub record Follows (show : Name → List ℕ) (AsWorth : Worth → Worth → Type 0) (text other : List ℕ) : Type 0 where
  pub failed : (c : Condition) → Fails text c → (d : Condition) × Fails other d × SameCondition show c d
  pub accepted : (w : Worth) → Accepts text w → (v : Worth) × Accepts other v × AsWorth w v

-- TOKENS DECIDE: where the identifiers agree too, the texts fail the same condition or get the same binary.
abbrev pub IsSame : Worth → Worth → Type 0
IsSame w v = w ≡ v

pub record Agree (text other : List ℕ) : Type 0 where
  pub forth : Follows (λ n. n.0) IsSame text other
  pub back : Follows (λ n. n.0) IsSame other text
  pub binary_forth : (binary : List ℕ) → Assembles text binary → Assembles other binary
  pub binary_back : (binary : List ℕ) → Assembles other binary → Assembles text binary

abbrev pub TokensDecide : Type 0
TokensDecide = (text other : List ℕ) (tokens others : List TextToken) → AlikeTexts text other tokens others → Same (names tokens others) → Agree text other

-- RENAMING: where the identifiers differ by a renaming that is one to one, the texts fail the same condition, or are both accepted; the
-- modules that they mean are the same without their names, and so are the bytes of these.
abbrev pub SameBare : Worth → Worth → Type 0
SameBare (Stands m) (Stands n) = (bare m ≡ bare n) × (layout (bare m) ≡ layout (bare n))
SameBare (Pieces a) (Pieces b) = a ≡ b
SameBare w v = ⊥

pub record AreRenamed (text other : List ℕ) : Type 0 where
  pub forth : Follows (λ n. []) SameBare text other
  pub back : Follows (λ n. []) SameBare other text

abbrev pub Renaming : Type 0
Renaming = (text other : List ℕ) (tokens others : List TextToken) → AlikeTexts text other tokens others → Matched (names tokens others) → AreRenamed text other
