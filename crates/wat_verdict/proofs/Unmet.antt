-- The first demand that isn't met is told by its place and its complaint.
use Rattle.std.proofs.Common.{ℕ, ◌≡◌, true, false, Bool, List, [], ◌∷◌, Option, Some, None, refl, sym, ap, ◌∙◌}
use Rattle.std.specs.Prelude.{if◌then◌else◌}
use Rattle.std.proofs.lemmas.Option.{same_Some}
use Rattle.wast_grammar.specs.Tokens.{Name}
use Rattle.wast_grammar.specs.Spelling.{same_name}
use Rattle.wast_names.specs.Walk.{first_unmet}
use Rattle.wast_names.specs.Demand.{Complaint, Demand, Tells, is_met, told}
use Rattle.wast_field_syntax.specs.FieldTree.{Module}
use Rattle.wast_meaning.specs.Modules.{content_fields}
use Rattle.wast_meaning.specs.Demands.{all_demands}
use Rattle.wast_parser.specs.Problem.{Problem}
use Rattle.wast_meant.specs.Means.{naming}
use Rattle.wat_verdict.specs.Naming.{unmet_demand}
use Rattle.wat_verdict.specs.Verdict.{unmet_at}

-- a demand that is found isn't met
abbrev held : Demand Name ℕ → Bool → Demand Name ℕ
held d holds = record { place = d.place; complaint = d.complaint; holds = holds }

first_fails : (x : Demand Name ℕ) (b : Bool) (rest : Option (Demand Name ℕ)) (d : Demand Name ℕ) → x.holds ≡ b → (if b then rest else Some x) ≡ Some d
    → (rest ≡ Some d → d ≡ unmet_at d.place d.complaint) → d ≡ unmet_at d.place d.complaint
first_fails x true rest d h e later = later e
first_fails x false rest d h e later = ap (held d) (ap (λ (y : Demand Name ℕ). y.holds) (sym (same_Some x d e)) ∙ h)

unmet_fails : (ds : List (Demand Name ℕ)) (d : Demand Name ℕ) → first_unmet is_met ds ≡ Some d → d ≡ unmet_at d.place d.complaint
unmet_fails [] d e = absurd (cc)
unmet_fails (x ∷ ds) d e = first_fails x x.holds (first_unmet is_met ds) d refl e (unmet_fails ds d)

unmet_is : (tree : Module Name ℕ) (d : Demand Name ℕ) → unmet_demand tree ≡ Some d → d ≡ unmet_at d.place d.complaint
unmet_is tree d e = unmet_fails (all_demands same_name (naming (content_fields tree.content)) (content_fields tree.content)) d e

pub unmet_so : (tree : Module Name ℕ) (d : Demand Name ℕ) → unmet_demand tree ≡ Some d → unmet_demand tree ≡ Some (unmet_at d.place d.complaint)
unmet_so tree d e = e ∙ ap Some (unmet_is tree d e)

-- the problem tells it
pub told_unmet : (tree : Module Name ℕ) (o : Option (Demand Name ℕ)) (error : Problem) → unmet_demand tree ≡ o → Tells o error
    → (place : ℕ) × (complaint : Complaint Name) × (unmet_demand tree ≡ Some (unmet_at place complaint)) × (error ≡ told (unmet_at place complaint))
told_unmet tree None error e t = absurd t
told_unmet tree (Some d) error e t = (d.place, d.complaint, unmet_so tree d e, t ∙ ap told (unmet_is tree d e))
