-- Tokens that spell each production, and where signatures begin.
use Rattle.std.proofs.Common.{List, [], ◌∷◌, Some, inl, inr, refl, sym, append-nil, codes}
use Rattle.wast_value_types.specs.Tokens.{SignificantToken, Id}
use Rattle.wast_value_types.specs.Spelling as spelling
use Rattle.wast_value_types.specs.Spelling.{Spells}
use Rattle.wast_value_types.specs.Look.{Test, this_group}
use Rattle.wast_value_types.specs.Grammar.{Syntax, seen}
use Rattle.wast_value_types.specs.Identifiers.{ByName, index}
use Rattle.wast_value_types.proofs.GrammarLaws.{Lawful, Leads}
use Rattle.wast_value_types.proofs.LeadLaws.{spelled_seen, seen_leads, either_leads, group_leads}
use Rattle.wast_value_types.specs.ValueTree.{ValType}
use Rattle.wast_signatures.specs.TypeTree.{Sig}
use Rattle.wast_signatures.specs.TypeSyntax.{sig_starts, val_types, named_locals, param, bare_param, result, sig_groups, as_sig, as_bare, sig, bare_sig, named_fields}
use Rattle.wast_signatures.proofs.SignatureLaws.{val_types_laws, named_locals_laws, sig_laws, bare_sig_laws}

abbrev params : List Test
params = this_group (codes "param") ∷ []

abbrev results : List Test
results = this_group (codes "result") ∷ []

module _ {N P : Type 0} where
  -- some tokens spell one
  abbrev pub Spelled : {A : Type 0} → Syntax N P A → Type 0
  Spelled {A} g = (a : A) × (us : List (SignificantToken N P)) × g.spells a us

  pub index_spelled : N → P → Spelled index
  index_spelled n p = (ByName (n, p), Id (Some n) p ∷ [], inr ((n, p), refl, (Id (Some n) p, refl, refl)))

  pub val_types_spelled : Spelled val_types
  val_types_spelled = ([], [], refl)

  pub named_locals_spelled : Spelled named_locals
  named_locals_spelled = ([], [], inr (inr ([], refl, refl)))

  no_sig : {A : Type 0} (f : List (List A) × List (List (ValType N P)) → Sig N P) (g : Syntax N P (List A)) → Spelled (seen f (sig_groups g))
  no_sig f g = (f ([], []), [], (([], []), refl, ([], [], refl, refl, refl)))

  pub sig_spelled : Spelled sig
  sig_spelled = no_sig as_sig param

  pub named_fields_spelled : Spelled named_fields
  named_fields_spelled = ([], [], inr ([], refl, refl))

  -- WHERE THEY BEGIN
  module _ {A : Type 0} (f : List (List A) × List (List (ValType N P)) → Sig N P) (g : Syntax N P (List A)) (lg : Leads g.spells params) (law : Lawful (seen f (sig_groups g))) where
    abbrev one_param : Spells N P (Sig N P)
    one_param = spelling.seen (λ a. f (a ∷ [], [])) g.spells

    abbrev one_result : Spells N P (Sig N P)
    one_result = spelling.seen (λ r. f ([], r ∷ [])) result.spells

    one_group : (s : Sig N P) (us : List (SignificantToken N P)) → spelling.either one_param one_result s us → (seen f (sig_groups g)).spells s us
    one_group s us (inl q) = ((q.0 ∷ [], []), q.1, (us, [], sym (append-nil us), (us, [], sym (append-nil us), q.2, refl), refl))
    one_group s us (inr q) = (([], q.0 ∷ []), q.1, ([], us, refl, refl, (us, [], sym (append-nil us), q.2, refl)))

    group_begins : Leads (spelling.either one_param one_result) sig_starts
    group_begins =
        either_leads one_param one_result params results (seen_leads (λ a. f (a ∷ [], [])) g.spells params lg)
        (seen_leads (λ r. f ([], r ∷ [])) result.spells results (group_leads (codes "result") val_types val_types_laws [] [] refl)) refl refl refl

    groups_lead : Leads (seen f (sig_groups g)).spells sig_starts
    groups_lead = record {
      seen = spelled_seen (seen f (sig_groups g)) law refl;
      only = λ ts h. (let k = group_begins.only ts h in (k.0, k.1, k.2, k.3, one_group k.0 (k.1 ∷ k.2) k.4, k.5));
    }

  pub sig_leads : Leads (sig {N = N} {P = P}).spells sig_starts
  sig_leads = let s = named_locals_spelled in groups_lead as_sig param (group_leads (codes "param") named_locals named_locals_laws s.0 s.1 s.2) sig_laws

  pub bare_sig_leads : Leads (bare_sig {N = N} {P = P}).spells sig_starts
  bare_sig_leads = groups_lead as_bare bare_param (group_leads (codes "param") val_types val_types_laws [] [] refl) bare_sig_laws
