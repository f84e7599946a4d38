-- What can be told of a tree, and of tokens, whatever their names and places are.
use Rattle.std.proofs.Common.{◌≡◌, ℕ, Bool, false, List, [], ◌∷◌, Option, Some, None, refl, ap}
use Rattle.std.specs.Prelude.{◌&&◌, not, is_some, map, option_map, codes}
use Rattle.std.specs.List.{flat_map}
use Rattle.std.proofs.lemmas.Option.{same_Some}
use Rattle.wast_grammar.specs.Tokens.{Name, SignificantToken}
use Rattle.wast_grammar.specs.Significant.{TextToken}
use Rattle.wast_grammar.proofs.GrammarLaws.{all_read, all_spelled}
use Rattle.wast_names.specs.Walk.{first_unmet}
use Rattle.wast_names.specs.Demand.{Complaint, is_met}
use Rattle.wast_field_syntax.specs.FieldTree.{Field, Content, Fields, Module}
use Rattle.wast_field_syntax.specs.FieldTree as fields
use Rattle.wast_core.specs.ModuleSyntax.{wat}
use Rattle.wast_core.proofs.ModuleLaws.{wat_laws}
use Rattle.wast_meaning.specs.Demands.{all_demands}
use Rattle.wast_meaning.specs.Modules.{content_fields}
use Rattle.wast_meaning.specs.Numbered.{resolved}
use Rattle.wast_meaning.specs.WellFormed.{first_breach}
use Rattle.wast_meaning.specs.Written.{by_counter}
use Rattle.wasm_layout.specs.Present.{is_called}
use Rattle.wast_conversions.specs.Covered.{Form}
use Rattle.wast_meant.specs.Binary.{module_with}
use Rattle.wast_meant.specs.Covered.{uncovered}
use Rattle.wast_meant.specs.CustomsMeant.{custom_of, customs_in}
use Rattle.wast_meant.specs.Meaning.{meant}
use Rattle.wast_meant.specs.Means.{Worth, Stands, Pieces}
use Rattle.wast_meant.specs.NamesMeant.{GivenName, Identifier, Bytes, given_name}
use Rattle.wat_verdict.specs.Alike.{complaint_shown}
use Rattle.wat_verdict.proofs.Free.{Known}

-- of a tree: whether it isn't well formed, what is complained of, the form without bytes, what it is worth, whether it is plain
pub record Summary : Type 0 where
  pub breached : Bool
  pub complaint : Option (Complaint (List ℕ))
  pub form : Option Form
  pub worth : Worth
  pub plain : Bool

abbrev pub name_shown : {N : Type 0} → Known N → GivenName N → List ℕ
name_shown k (Identifier n) = k.show n
name_shown k (Bytes bytes) = bytes

module _ {N P : Type 0} (k : Known N) where
  abbrev naming_for : List (Field N P) → ℕ → N
  naming_for fs = by_counter k.made 0 fs

  abbrev pub content_worth : Option (GivenName N) → Content N P → Worth
  content_worth name (Fields fs) = Stands (module_with (name_shown k) (meant k.same k.is_made name (resolved k.same (naming_for fs) fs)))
  content_worth name (fields.Pieces pieces) = Pieces (flat_map (λ piece. piece) pieces)

  abbrev pub content_plain : Content N P → Bool
  content_plain (Fields fs) =
      not (is_called (codes "name") (map custom_of (flat_map customs_in fs) ∷ []))
      && not (is_called (codes "metadata.code.branch_hint") (map custom_of (flat_map customs_in fs) ∷ []))
  content_plain (fields.Pieces pieces) = false

  abbrev pub fields_told : List (Field N P) → Worth → Bool → Summary
  fields_told fs worth plain = record {
    breached = is_some (first_breach k.same k.is_made fs);
    complaint = option_map (λ d. complaint_shown k.show d.complaint) (first_unmet is_met (all_demands k.same (naming_for fs) fs));
    form = option_map (λ x. x.1) (uncovered (naming_for fs) fs);
    worth = worth;
    plain = plain;
  }

  abbrev pub summary : Module N P → Summary
  summary t = fields_told (content_fields t.content) (content_worth (given_name k.is_made t.given t.id) t.content) (content_plain t.content)

  abbrev pub summary_read : Option (Module N P × List (SignificantToken N P)) → Option Summary
  summary_read None = None
  summary_read (Some (t, [])) = Some (summary t)
  summary_read (Some (t, u ∷ us)) = None

-- of tokens: that of the tree that they spell
abbrev pub told : (N P : Type 0) → Known N → List (SignificantToken N P) → Option Summary
told N P k ts = summary_read k (wat.reads ts)

module _ (k : Known Name) (ts : List TextToken) where
  pub told_spelled : (t : Module Name ℕ) → wat.spells t ts → told Name ℕ k ts ≡ Some (summary k t)
  told_spelled t s = ap (summary_read k) (all_read wat wat_laws refl ts t s)

  -- what is told is that of a tree
  pub spelled_told : (s : Summary) → told Name ℕ k ts ≡ Some s → (t : Module Name ℕ) × wat.spells t ts × (summary k t ≡ s)
  spelled_told s e = of_read (wat.reads ts) refl e
    where
      of_read : (o : Option (Module Name ℕ × List TextToken)) → wat.reads ts ≡ o → summary_read k o ≡ Some s → (t : Module Name ℕ) × wat.spells t ts × (summary k t ≡ s)
      of_read None r e = absurd (cc)
      of_read (Some (t, [])) r e = (t, all_spelled wat wat_laws ts t r, same_Some (summary k t) s e)
      of_read (Some (t, u ∷ us)) r e = absurd (cc)
