-- What the parts of `assemble` answer is what the input deserves.
use Rattle.std.proofs.Common.{ℕ, ◌≡◌, ◌<◌, ◌^◌, true, false, inl, inr, None, List, length, refl, sym, ◌∙◌, ap, arith}
use Rattle.std.specs.Str.{IsUtf8}
use Rattle.wast_grammar.specs.Tokens.{Name}
use Rattle.wast_parser.specs.Problem.{Problem, is_memory}
use Rattle.wast_names.specs.Demand.{Tells}
use Rattle.wast_field_syntax.specs.FieldTree.{Content, Fields, Pieces, Module}
use Rattle.wasm_layout.specs.AbstractModule.{AbstractModule}
use Rattle.wast_meant.specs.Means as worths
use Rattle.wast_encode.specs.Encoded.{StandsFor, IsBinaryOf}
use Rattle.wat_verdict.specs.Spells.{Spells}
use Rattle.wat_verdict.specs.Naming.{unmet_demand}
use Rattle.wat_verdict.specs.Verdict.{NotUtf8, Fails, Accepts, Assembles, tree_breach}
use Rattle.wat_verdict.proofs.Unmet.{told_unmet}
use Rattle.wat_verdict.proofs.Verdict.{one_condition}
use Rattle.wat.specs.declared.fault.Fault.{Fault}
use Rattle.wat.specs.declared.fault.Fault.TheVariants as faults
use Rattle.wat.specs.Unspelled.{IsUnspelled}
use Rattle.wat.specs.Headline.{Deserves}
use Rattle.wat.specs.NoText.{IsNoText}
use Rattle.wat.specs.Judged.{IsJudged, IsAnswered, IsTold}

not_utf8_of : (m n : ℕ) → NotUtf8 m ≡ NotUtf8 n → m ≡ n
not_utf8_of m n e = cc

pub told_not_utf8 : (bytes : List ℕ) (f : Fault) (n : ℕ) → IsNoText bytes f → Fails bytes (NotUtf8 n) → f ≡ faults.NotUtf8 n
told_not_utf8 bytes faults.TooLong n t h = absurd (let short = h.0 in omega arith)
told_not_utf8 bytes (faults.NotUtf8 offset) n t h = ap faults.NotUtf8 (not_utf8_of offset n (one_condition bytes (NotUtf8 offset) (NotUtf8 n) t h))
told_not_utf8 bytes (faults.Spelling error) n t h = absurd t
told_not_utf8 bytes faults.Memory n t h = absurd t
told_not_utf8 bytes faults.Read n t h = absurd t
told_not_utf8 bytes (faults.NotWellFormed span) n t h = absurd t
told_not_utf8 bytes (faults.Unmet error) n t h = absurd t
told_not_utf8 bytes (faults.Uncovered span form) n t h = absurd t
told_not_utf8 bytes faults.TooLarge n t h = absurd t
told_not_utf8 bytes (faults.Write written) n t h = absurd t

module _ (bytes : List ℕ) (short : length bytes < 2 ^ 32) (utf8 : IsUtf8 bytes) where
  module _ (tree : Module Name ℕ) (s : Spells bytes tree) where
    -- it means the module that its tree stands for
    accepted : (m : AbstractModule (List ℕ)) → StandsFor 0 tree m → Accepts bytes (worths.Stands m)
    accepted m f = record { short = short; utf8 = utf8; worth = record { tree = tree; spelled = s; module_meant = f.module_meant; is_meant = f.is_meant; named = f.named } }

    assembled_content : (c : Content Name ℕ) → tree.content ≡ c → (binary : List ℕ) → IsBinaryOf 0 tree c binary → Assembles bytes binary
    assembled_content (Fields fs) e binary b = (worths.Stands b.0, accepted b.0 b.1, (b.2, λ plain. b.3 (plain tree s)))
    assembled_content (Pieces pieces) e binary b =
        (worths.Pieces binary, record { short = short; utf8 = utf8; worth = record { tree = tree; spelled = s; pieces = pieces; are_content = e; joined = b } }, refl)

    unmet : (error : Problem) → tree_breach tree ≡ None → Tells (unmet_demand tree) error → Deserves bytes (faults.Unmet error)
    unmet error formed t =
        let d = told_unmet tree (unmet_demand tree) error refl t in
        (d.0, d.1, (short, utf8, (tree, s, formed, d.2)), d.3)

    judged : (f : Fault) → IsJudged tree f → Deserves bytes f
    judged faults.TooLong j = absurd j
    judged (faults.NotUtf8 offset) j = absurd j
    judged (faults.Spelling error) j = absurd j
    judged faults.Memory j = tt
    judged faults.Read j = j
    judged (faults.NotWellFormed span) j = (short, utf8, (tree, s, j))
    judged (faults.Unmet error) j = unmet error j.0 j.1
    judged (faults.Uncovered span form) j = (short, utf8, (tree, s, j.0, j.1, j.2))
    judged faults.TooLarge j = (j.0, accepted j.0 j.1, j.2)
    judged (faults.Write written) j = j

  pub assembled : (binary : List ℕ) → IsAnswered bytes binary → Assembles bytes binary
  assembled binary a = assembled_content a.0 a.1 a.0.content refl binary a.2

  pub deserved : (f : Fault) → IsTold bytes f → Deserves bytes f
  deserved (faults.Spelling error) t = ((short, utf8, t.1), t.0)
  deserved faults.Memory t = tt
  deserved faults.TooLong t = judged t.0 t.1 faults.TooLong t.2
  deserved (faults.NotUtf8 offset) t = judged t.0 t.1 (faults.NotUtf8 offset) t.2
  deserved faults.Read t = judged t.0 t.1 faults.Read t.2
  deserved (faults.NotWellFormed span) t = judged t.0 t.1 (faults.NotWellFormed span) t.2
  deserved (faults.Unmet error) t = judged t.0 t.1 (faults.Unmet error) t.2
  deserved (faults.Uncovered span form) t = judged t.0 t.1 (faults.Uncovered span form) t.2
  deserved faults.TooLarge t = judged t.0 t.1 faults.TooLarge t.2
  deserved (faults.Write written) t = judged t.0 t.1 (faults.Write written) t.2

-- a refusal that isn't want of memory
pub misspelled : (text : List ℕ) (error : Problem) → is_memory error.cause ≡ false → IsUnspelled text error → IsTold text (faults.Spelling error)
misspelled text error m u = elim u [
  | inl t ↦ (let e : true ≡ false = sym t ∙ m in absurd (cc))
  | inr none ↦ (m, none)
]

-- a fault of the tree that a text spells
pub told_of : (text : List ℕ) (tree : Module Name ℕ) → Spells text tree → (f : Fault) → IsJudged tree f → IsTold text f
told_of text tree s (faults.Spelling error) j = absurd j
told_of text tree s faults.Memory j = tt
told_of text tree s faults.TooLong j = (tree, s, j)
told_of text tree s (faults.NotUtf8 offset) j = (tree, s, j)
told_of text tree s faults.Read j = (tree, s, j)
told_of text tree s (faults.NotWellFormed span) j = (tree, s, j)
told_of text tree s (faults.Unmet error) j = (tree, s, j)
told_of text tree s (faults.Uncovered span form) j = (tree, s, j)
told_of text tree s faults.TooLarge j = (tree, s, j)
told_of text tree s (faults.Write written) j = (tree, s, j)
