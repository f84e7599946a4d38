-- Trees of which the same is told, and texts of whose tokens the same is told, are worth the same.
use Rattle.std.proofs.Common.{◌≡◌, ℕ, false, List, Option, None, is_some, refl, sym, ◌∙◌, ap, subst}
use Rattle.std.specs.Prelude.{option_map}
use std.Path.{fun_ext}
use Rattle.wast_grammar.specs.Tokens.{Name}
use Rattle.wast_grammar.specs.Spelling.{same_name}
use Rattle.wast_grammar.specs.Significant.{TextToken, AreSignificant}
use Rattle.wast_grammar.proofs.SignificantLaws.{one_list}
use Rattle.wast_field_syntax.specs.FieldTree.{Content, Fields, Module}
use Rattle.wast_field_syntax.specs.FieldTree as fields
use Rattle.wast_core.specs.ModuleSyntax.{wat}
use Rattle.wast_meaning.specs.Made.{is_made}
use Rattle.wast_meaning.specs.Numbered.{resolved}
use Rattle.wast_meant.specs.Binary.{bytes_of, module_with}
use Rattle.wast_meant.specs.Meaning.{meant}
use Rattle.wast_meant.specs.Means.{naming, Worth, Stands, IsWorth}
use Rattle.wast_meant.specs.NamesMeant.{GivenName, Identifier, Bytes, given_name}
use Rattle.wat_verdict.specs.Registered.{registered}
use Rattle.wat_verdict.specs.Spells.{Spells}
use Rattle.wat_verdict.specs.Naming.{unmet_demand}
use Rattle.wat_verdict.specs.Verdict.{tree_breach, tree_uncovered}
use Rattle.wat_verdict.proofs.Free.{Known}
use Rattle.wat_verdict.proofs.Told.{name_shown, content_worth, summary, told, told_spelled, spelled_told}
use Rattle.wat_verdict.proofs.Alike.{known_by, mapped_none, none_of}
use Rattle.wat_verdict.proofs.Verdict.{IsSound, worth_in, tree_worth, worth_tree, worth_of}

-- OPTIONS
-- where both map to the same, one is none where the other is
pub none_both : {A C B : Type 0} (f : A → B) (g : C → B) (o : Option A) (u : Option C) → option_map f o ≡ option_map g u → u ≡ None → o ≡ None
none_both f g o u e h = mapped_none f o (e ∙ ap (option_map g) h)

-- WHAT TREES ARE, of which the same is told
abbrev pub shown : Known Name
shown = known_by (λ n. n.0)

shown_bytes : (g : GivenName Name) → name_shown shown g ≡ bytes_of g
shown_bytes (Identifier n) = refl
shown_bytes (Bytes bytes) = refl

worth_shown : (name : Option (GivenName Name)) (c : Content Name ℕ) → content_worth shown name c ≡ worth_in name c
worth_shown name (Fields fs) = ap (λ f. Stands (module_with f (meant same_name is_made name (resolved same_name (naming fs) fs)))) (fun_ext shown_bytes)
worth_shown name (fields.Pieces pieces) = refl

module _ (t u : Module Name ℕ) (same : summary shown u ≡ summary shown t) where
  pub same_worth : tree_worth u ≡ tree_worth t
  same_worth = sym (worth_shown (given_name is_made u.given u.id) u.content) ∙ ap (λ s. s.worth) same ∙ worth_shown (given_name is_made t.given t.id) t.content

  pub sound_same : IsSound t → IsSound u
  sound_same s = record {
    formed = none_of (tree_breach u) (ap (λ s. s.breached) same ∙ ap is_some s.formed);
    met = none_both _ _ (unmet_demand u) (unmet_demand t) (ap (λ s. s.complaint) same) s.met;
    covered = none_both _ _ (tree_uncovered u) (tree_uncovered t) (ap (λ s. s.form) same) s.covered;
  }

-- TEXTS
module _ (text other : List ℕ) (ts us : List TextToken) (here : AreSignificant false registered text ts) (there : AreSignificant false registered other us)
    (same : told Name ℕ shown us ≡ told Name ℕ shown ts) where
  pub told_worth : (w : Worth) → IsWorth Spells text w → IsWorth Spells other w
  told_worth w a =
      let t = worth_tree text w a in
      let spelled = subst (λ v. wat.spells t.tree v) (one_list false registered text t.spelled.tokens ts t.spelled.significant here) t.spelled.spelled in
      let u = spelled_told shown us (summary shown t.tree) (same ∙ told_spelled shown ts t.tree spelled) in
      subst (λ v. IsWorth Spells other v) (same_worth t.tree u.0 u.2 ∙ sym t.is)
      (worth_of other u.0 (record { tokens = us; significant = there; spelled = u.1 }) (sound_same t.tree u.0 u.2 t.sound))
