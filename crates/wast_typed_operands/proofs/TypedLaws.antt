-- The laws of the syntax of operands in which types stand: each mirrors its production.
use Rattle.std.specs.Prelude.{codes}
use Rattle.wast_signatures.specs.Tokens.{SignificantToken, Id}
use Rattle.std.proofs.Common.{◌≡◌, refl, ap, subst, List, [], ◌∷◌, ℕ, Some, None, inl, inr, false}
use Rattle.wast_signatures.specs.Lawful.{Settles, Leads}
use Rattle.wast_signatures.specs.Grammar.{Syntax, wide, seq, only, maybe, many, group}
use Rattle.wast_signatures.specs.Identifiers.{Reference, ByName, identifier, index}
use Rattle.wast_signatures.specs.Look.{this_group, id_starts, index_starts}
use Rattle.wast_signatures.proofs.GrammarLaws.{Lawful, nothing_laws, seen_laws, only_laws, seq_laws, maybe_laws, many_laws, either_laws, group_laws, many_settles, seq_settles, seen_settles, one_value}
use Rattle.wast_signatures.proofs.LeadLaws.{seen_leads, either_leads, group_leads}
use Rattle.wast_signatures.proofs.Looks.{absurd_of}
use Rattle.wast_signatures.proofs.IdentifierLaws.{identifier_laws, index_laws}
use Rattle.wast_signatures.specs.ValueSyntax.{ref_type}
use Rattle.wast_signatures.proofs.ValueLaws.{ref_type_laws}
use Rattle.wast_signatures.specs.TypeTree.{TypeUse}
use Rattle.wast_signatures.specs.TypeSyntax.{result, bare_use}
use Rattle.wast_signatures.proofs.SignatureLaws.{result_laws, bare_use_laws}
use Rattle.wast_typed_operands.specs.TypedSyntax.{catch_starts, use_starts, result_starts, is_written, as_block, block, tag_label, clause, as_try_table, try_table, no_use, written_use, table_first, table_last, use_first, indirect, select_types, types_of, cast, as_cast}

-- What no token spells is not nothing.
solid_laws : {N P A : Type 0} (g : Syntax N P A) → Lawful g → ((a : A) → g.spells a [] → ⊥) → Lawful (wide g.starts false g.stops g)
solid_laws {N} {P} {A} g lg some = record {
  sound = λ ts x e. (let s = lg.sound ts x e in record { taken = s.taken; parts = s.parts; spelled = s.spelled });
  complete = lg.complete;
  leads = λ a us rest s. elim (lg.leads a us rest s) [ inl y ↦ inl y | inr z ↦ absurd (some a (subst (λ ts. g.spells a ts) z.1 s)) ];
  whole = lg.whole;
}

module _ {N P : Type 0} where
  pub block_laws : Lawful (block {N = N} {P = P})
  block_laws = seen_laws as_block _ (seq_laws _ _ (maybe_laws id_starts identifier identifier_laws refl refl refl) bare_use_laws refl)

  pub tag_label_laws : Lawful (tag_label {N = N} {P = P})
  tag_label_laws = seq_laws index index index_laws index_laws refl

  pub clause_laws : Lawful (clause {N = N} {P = P})
  clause_laws =
      either_laws (this_group (codes "catch") ∷ []) _ _ (seen_laws _ _ (group_laws (codes "catch") tag_label tag_label_laws refl))
      (either_laws (this_group (codes "catch_ref") ∷ []) _ _ (seen_laws _ _ (group_laws (codes "catch_ref") tag_label tag_label_laws refl))
      (either_laws (this_group (codes "catch_all") ∷ []) _ _ (seen_laws _ _ (group_laws (codes "catch_all") index index_laws refl)) (seen_laws _ _ (group_laws (codes "catch_all_ref") index index_laws refl)) refl refl refl refl) refl refl refl refl) refl refl refl refl

  pub try_table_laws : Lawful (try_table {N = N} {P = P})
  try_table_laws = seen_laws as_try_table _ (seq_laws block (many catch_starts clause) block_laws (many_laws catch_starts clause clause_laws refl refl refl refl refl) refl)

  -- no clause is left behind them
  pub try_table_settles : Settles (try_table {N = N} {P = P}) catch_starts
  try_table_settles = seen_settles as_try_table _ catch_starts (seq_settles block (many catch_starts clause) catch_starts (many_settles catch_starts clause))

  -- no tokens spell the use that has no part alone
  no_use_spelled : (bare_use {N = N} {P = P}).spells no_use []
  no_use_spelled = ((None, None), refl, ([], [], refl, refl, (([], []), refl, ([], [], refl, refl, refl))))

  of_nothing : (u : TypeUse N P) → bare_use.spells u [] → u ≡ no_use
  of_nothing u s = one_value bare_use bare_use_laws refl [] u no_use s no_use_spelled

  written_use_laws : Lawful (written_use {N = N} {P = P})
  written_use_laws = solid_laws (only is_written bare_use) (only_laws is_written bare_use bare_use_laws) (λ u s. absurd_of (is_written u) s.0 (ap is_written (of_nothing u s.1)))

  use_first_laws : Lawful (use_first {N = N} {P = P})
  use_first_laws = either_laws use_starts _ _ (seen_laws table_last _ (seq_laws written_use (maybe index_starts index) written_use_laws (maybe_laws index_starts index index_laws refl refl refl) refl)) (seen_laws _ _ nothing_laws) refl refl refl refl

  pub indirect_laws : Lawful (indirect {N = N} {P = P})
  indirect_laws = either_laws index_starts _ use_first (seen_laws table_first _ (seq_laws index bare_use index_laws bare_use_laws refl)) use_first_laws refl refl refl refl

  pub select_types_laws : Lawful (select_types {N = N} {P = P})
  select_types_laws = seen_laws types_of _ (many_laws result_starts result result_laws refl refl refl refl refl)

  pub cast_laws : Lawful (cast {N = N} {P = P})
  cast_laws = seen_laws as_cast _ (seq_laws index (seq ref_type ref_type) index_laws (seq_laws ref_type ref_type ref_type_laws ref_type_laws refl) refl)

  -- WHERE CLAUSES BEGIN
  abbrev an_index : N → P → Reference N P
  an_index n p = ByName (n, p)

  abbrev named : N → P → List (SignificantToken N P)
  named n p = Id (Some n) p ∷ []

  index_spelled : (n : N) (p : P) → index.spells (an_index n p) (named n p)
  index_spelled n p = inr ((n, p), refl, (Id (Some n) p, refl, refl))

  all_leads : (w : List ℕ) → N → P → Leads (group {N = N} {P = P} w index).spells (this_group w ∷ [])
  all_leads w n p = group_leads w index index_laws (an_index n p) (named n p) (index_spelled n p)

  tag_leads : (w : List ℕ) → N → P → Leads (group {N = N} {P = P} w tag_label).spells (this_group w ∷ [])
  tag_leads w n p = group_leads w tag_label tag_label_laws (an_index n p, an_index n p) (Id (Some n) p ∷ Id (Some n) p ∷ []) (named n p, named n p, refl, index_spelled n p, index_spelled n p)

  pub clause_leads : N → P → Leads (clause {N = N} {P = P}).spells catch_starts
  clause_leads n p =
      either_leads _ _ (this_group (codes "catch") ∷ []) _ (seen_leads _ _ (this_group (codes "catch") ∷ []) (tag_leads (codes "catch") n p))
      (either_leads _ _ (this_group (codes "catch_ref") ∷ []) _ (seen_leads _ _ (this_group (codes "catch_ref") ∷ []) (tag_leads (codes "catch_ref") n p))
      (either_leads _ _ (this_group (codes "catch_all") ∷ []) (this_group (codes "catch_all_ref") ∷ [])
      (seen_leads _ _ (this_group (codes "catch_all") ∷ []) (all_leads (codes "catch_all") n p))
      (seen_leads _ _ (this_group (codes "catch_all_ref") ∷ []) (all_leads (codes "catch_all_ref") n p))
      refl refl refl) refl refl refl) refl refl refl
