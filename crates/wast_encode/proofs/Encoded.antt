-- What encoding a tree answers, by what it is resolved to.
use Rattle.std.proofs.Common.{◌≡◌, ◌⊎◌, ℕ, false, true, inl, inr, List, [], map, codes, Option, Some, None, refl, sym, ap, ◌∙◌, subst}
use Rattle.std.specs.Prelude.{Result, Ok, Err, MatchResult, IfOk, IfErr}
use Rattle.std.specs.List.{flat_map}
use Rattle.std.proofs.lemmas.Bool.{false≢true}
use Rattle.std.proofs.lemmas.Option.{same_Some}
use Rattle.wasm_encoder_base.specs.EncodeError.{EncodeError}
use Rattle.wasm_encoder_base.specs.EncodeError.TheVariants as errors
use Rattle.wast_grammar.specs.Tokens.{Name}
use Rattle.wast_grammar.specs.Spelling.{same_name}
use Rattle.wast_parser.specs.Identifiers.{Named}
use Rattle.wast_parser.specs.Problem.{Problem, is_memory}
use Rattle.wast_parser.specs.Reading.{out_of_memory}
use Rattle.wast_names.specs.Demand.{Demand, Tells, Refuses, is_met}
use Rattle.wast_names.specs.Walk.{first_unmet}
use Rattle.wast_module_fields.specs.FieldTree.{Field, Content, Fields, Pieces, Module}
use Rattle.wast_core.specs.ModuleFieldViews.{field_tree}
use Rattle.wast_core.specs.ModuleViews.{content_tree}
use Rattle.wast_core.specs.declared.module.ModuleKind.{ModuleKind}
use Rattle.wast_core.specs.declared.module.ModuleKind.TheVariants as contents
use Rattle.wast_meaning.specs.Made.{made, is_made}
use Rattle.wast_meaning.specs.Modules.{content_fields}
use Rattle.wast_meaning.specs.WellFormed.{breaches}
use Rattle.wast_meaning.specs.Written.{by_counter}
use Rattle.wasm_layout.specs.AbstractModule.{AbstractModule}
use Rattle.wasm_layout.specs.Lays.{Fits, Lays, Reads}
use Rattle.wast_meant.specs.Meaning.{meant}
use Rattle.wast_meant.specs.NamesMeant.{given_name}
use Rattle.wast_meant.specs.Plain.{IsPlain}
use Rattle.wast_resolve.specs.Whole.{counter_after, resolved_by, content_by, is_pieces, module_by, module_demands_by, IsRefused}
use Rattle.wast_binary.specs.Can.{CanEncode}
use Rattle.wast_encode.specs.Encoded.{form_in, StandsFor, IsBinaryOf, Deserves, LeavesFor, CountsFor, IsRefusedFor}
use Rattle.wast_encode.specs.Faults.{as_fault}
use Rattle.wast_binary.specs.Parts.{module_of}
use Rattle.wast_encode.specs.Resolved.{ContentReady, IsToldBy, IsUnlaid, IsUnresolved, IsContentEncoded, IsContentUnencoded, IsEncoded, IsUnencoded}
use Rattle.wast_encode.specs.declared.fault.EncodeFault.{EncodeFault}
use Rattle.wast_encode.specs.declared.fault.EncodeFault.TheVariants as faults
use Rattle.wast_encode.proofs.Customs.{uncalled}
use Rattle.wast_encode.proofs.Ready.{code_can}

module _ (counter : ℕ) (place : ℕ) (id : Option (Named Name ℕ)) (given : Option (List ℕ)) (refusal : Option Problem) where
  abbrev pub tree : Content Name ℕ → Module Name ℕ
  tree content = record { place = place; id = id; given = given; content = content; refusal = refusal }

  module _ (fs : List (Field Name ℕ)) (formed : breaches same_name is_made fs ≡ []) (met : first_unmet is_met (module_demands_by counter (tree (Fields fs))) ≡ None)
      (clear : form_in counter (tree (Fields fs)) ≡ None) where
    abbrev that : AbstractModule (List ℕ)
    that = module_of given id (resolved_by counter fs)

    stands : StandsFor counter (tree (Fields fs)) that
    stands = record {
      module_meant = meant same_name is_made (given_name is_made given id) (resolved_by counter fs);
      is_meant = record { is_formed = formed; are_met = met; is_covered = clear; is_meant = refl };
      named = refl;
    }

    reads : (binary : List ℕ) → Lays binary that → IsPlain (tree (Fields fs)) → Reads binary that
    reads binary l plain = record {
      lays = l;
      no_names = uncalled given id (by_counter made counter fs) fs (codes "name") plain.no_names;
      no_hints = uncalled given id (by_counter made counter fs) fs (codes "metadata.code.branch_hint") plain.no_hints;
    }

  pub binary_of : (content : Content Name ℕ) → breaches same_name is_made (content_fields content) ≡ [] → first_unmet is_met (module_demands_by counter (tree content)) ≡ None
      → form_in counter (tree content) ≡ None → (binary : List ℕ) → IsEncoded (module_by counter (tree content)) binary → IsBinaryOf counter (tree content) content binary
  binary_of (Fields fs) formed met clear binary l = (that fs formed met clear, stands fs formed met clear, l, reads fs formed met clear binary l)
  binary_of (Pieces pieces) formed met clear binary e = e

  pub fault_of : (content : Content Name ℕ) → breaches same_name is_made (content_fields content) ≡ [] → first_unmet is_met (module_demands_by counter (tree content)) ≡ None
      → form_in counter (tree content) ≡ None → (fault : EncodeFault) → IsUnencoded (module_by counter (tree content)) fault → Deserves counter (tree content) fault
  fault_of (Fields fs) formed met clear faults.TooLarge u = (that fs formed met clear, stands fs formed met clear, u)
  fault_of (Fields fs) formed met clear faults.Memory u = tt
  fault_of (Fields fs) formed met clear (faults.Unmet error) u = absurd u
  fault_of (Fields fs) formed met clear (faults.Uncovered span form) u = absurd u
  fault_of (Pieces pieces) formed met clear faults.Memory u = tt
  fault_of (Pieces pieces) formed met clear faults.TooLarge u = let never : ⊥ = cc in absurd never
  fault_of (Pieces pieces) formed met clear (faults.Unmet error) u = let never : ⊥ = cc in absurd never
  fault_of (Pieces pieces) formed met clear (faults.Uncovered span form) u = let never : ⊥ = cc in absurd never

  -- the code's fields can be encoded when they are resolved
  pub content_ready : (kind : ModuleKind) → breaches same_name is_made (content_fields (content_tree kind)) ≡ [] → first_unmet is_met (module_demands_by counter (tree (content_tree kind))) ≡ None
      → form_in counter (tree (content_tree kind)) ≡ None → ContentReady (content_by counter (content_tree kind))
  content_ready (contents.Text fields) formed met clear = code_can fields.items (by_counter made counter (map field_tree fields.items)) formed met clear
  content_ready (contents.Binary pieces) formed met clear = tt

-- FAULTS
module _ (counter : ℕ) (before after : Module Name ℕ) where
  pub unresolved_deserves : (fault : EncodeFault) → before.refusal ≡ None → IsUnresolved counter before after fault → Deserves counter before fault
  unresolved_deserves (faults.Unmet error) none u = u.0 none
  unresolved_deserves faults.Memory none u = tt
  unresolved_deserves faults.TooLarge none u = absurd u
  unresolved_deserves (faults.Uncovered span form) none u = absurd u

  pub unresolved_leaves : (fault : EncodeFault) → before.refusal ≡ None → IsUnresolved counter before after fault → LeavesFor counter before after fault
  unresolved_leaves (faults.Unmet error) none u = u.1
  unresolved_leaves faults.Memory none u = inr (u.0, u.1, u.2 none)
  unresolved_leaves faults.TooLarge none u = absurd u
  unresolved_leaves (faults.Uncovered span form) none u = absurd u

  -- how far the counter comes
  pub unresolved_counts : (why : Problem) (fault : EncodeFault) (n : ℕ) → IsToldBy why fault → IsRefused after why
      → (before.refusal ≡ None → (reason : Problem) → after.refusal ≡ Some reason → is_memory reason.cause ≡ false → n ≡ counter_after counter (content_fields before.content)) → CountsFor counter before n fault
  unresolved_counts why (faults.Unmet error) n t refused counted = λ none. elim refused.told [
    | inl same ↦ counted none refused.why refused.kept (ap (λ (p : Problem). is_memory p.cause) (sym same) ∙ t.1)
    | inr wanted ↦ absurd (false≢true (sym t.1 ∙ ap (λ (p : Problem). is_memory p.cause) wanted))
  ]
  unresolved_counts why faults.Memory n t refused counted = tt
  unresolved_counts why faults.TooLarge n t refused counted = absurd t
  unresolved_counts why (faults.Uncovered span form) n t refused counted = absurd t

  pub resolved_counts : (fault : EncodeFault) (n : ℕ) → n ≡ counter_after counter (content_fields before.content) → CountsFor counter before n fault
  resolved_counts (faults.Unmet error) n is = λ none. is
  resolved_counts faults.Memory n is = tt
  resolved_counts faults.TooLarge n is = is
  resolved_counts (faults.Uncovered span form) n is = is

  -- one that was refused before
  one_reason : (error reason why : Problem) → before.refusal ≡ Some why → after ≡ before → after.refusal ≡ Some reason → (error ≡ reason) ⊎ (error ≡ out_of_memory) → is_memory error.cause ≡ false → error ≡ why
  one_reason error reason why was kept keeps (inl e) other = e ∙ same_Some reason why (sym keeps ∙ ap (λ (m : Module Name ℕ). m.refusal) kept ∙ was)
  one_reason error reason why was kept keeps (inr e) other = absurd (false≢true (sym other ∙ ap (λ (p : Problem). is_memory p.cause) e))

  pub refused_again : (why : Problem) (fault : EncodeFault) → before.refusal ≡ Some why → after ≡ before → IsUnresolved counter before after fault → IsRefusedFor why fault
  refused_again why (faults.Unmet error) was kept u = (one_reason error u.1.why why was kept u.1.kept u.1.told u.2, u.2)
  refused_again why faults.Memory was kept u = tt
  refused_again why faults.TooLarge was kept u = absurd u
  refused_again why (faults.Uncovered span form) was kept u = absurd u

-- a demand that isn't met is told, as it isn't want of memory
pub told_unmet : (ds : List (Demand Name ℕ)) (why : Problem) → Refuses ds why → is_memory why.cause ≡ false → Tells (first_unmet is_met ds) why
told_unmet ds why (inr t) other = t
told_unmet ds why (inl m) other = absurd (false≢true (sym other ∙ ap (λ (p : Problem). is_memory p.cause) m))

-- an error of resolving, as a fault
pub unresolved : (counter : ℕ) (before after : Module Name ℕ) (why : Problem) (fault : EncodeFault) → IsToldBy why fault
    → (before.refusal ≡ None → Refuses (module_demands_by counter before) why) → IsRefused after why
    → (before.refusal ≡ None → (reason : Problem) → after.refusal ≡ Some reason → Refuses (module_demands_by counter before) reason) → IsUnresolved counter before after fault
unresolved counter before after why (faults.Unmet error) t refuses refused cause =
    let ds = module_demands_by counter before in (
      (λ none. subst (Tells (first_unmet is_met ds)) (sym t.0) (told_unmet ds why (refuses none) t.1)),
      subst (IsRefused after) (sym t.0) refused,
      ap (λ (p : Problem). is_memory p.cause) t.0 ∙ t.1,
    )
unresolved counter before after why faults.Memory t refuses refused cause = (refused.why, refused.kept, λ none. cause none refused.why refused.kept)
unresolved counter before after why faults.TooLarge t refuses refused cause = absurd t
unresolved counter before after why (faults.Uncovered span form) t refuses refused cause = absurd t

-- ANSWERS of either kind
module _ {A E : Type 0} (P : A → Type 0) (Q : E → Type 0) where
  pub ok_of : (S : A → Type 0) → ((x : A) → P x → S x) → (r : Result A E) → MatchResult r P Q → IfOk r S
  ok_of S so (Ok x) h = so x h
  ok_of S so (Err e) h = tt

  pub err_of : (S : E → Type 0) → ((e : E) → Q e → S e) → (r : Result A E) → MatchResult r P Q → IfErr r S
  err_of S so (Ok x) h = tt
  err_of S so (Err e) h = so e h

pub match_of : {A E : Type 0} (P S : A → Type 0) (Q R : E → Type 0) → ((x : A) → P x → S x) → ((e : E) → Q e → R e) → (r : Result A E) → MatchResult r P Q → MatchResult r S R
match_of P S Q R so to (Ok x) h = so x h
match_of P S Q R so to (Err e) h = to e h

-- WHAT A MODULE HOLDS
module _ (t : Module Name ℕ) where
  pub text_encoded : (fs gs : List (Field Name ℕ)) → t.content ≡ Fields fs → gs ≡ fs → (binary : List ℕ) → Lays binary (module_of t.given t.id gs) → IsEncoded t binary
  text_encoded fs gs is same binary l =
      subst (λ c. IsContentEncoded t c binary) (sym is) (subst (λ gs. Lays binary (module_of t.given t.id gs)) same l)

  pub text_unencoded : (fs gs : List (Field Name ℕ)) → t.content ≡ Fields fs → gs ≡ fs → (fault : EncodeFault) → IsUnlaid (module_of t.given t.id gs) fault → IsUnencoded t fault
  text_unencoded fs gs is same fault u =
      subst (λ c. IsContentUnencoded t c fault) (sym is) (subst (λ gs. IsUnlaid (module_of t.given t.id gs) fault) same u)

  pub text_can : (fs gs : List (Field Name ℕ)) → t.content ≡ Fields fs → gs ≡ fs → ContentReady t.content → CanEncode gs
  text_can fs gs is same r = subst CanEncode (sym same) (subst ContentReady is r)

  pub pieces_encoded : (ps qs : List (List ℕ)) → t.content ≡ Pieces ps → qs ≡ ps → (binary : List ℕ) → binary ≡ flat_map (λ piece. piece) qs → IsEncoded t binary
  pieces_encoded ps qs is same binary e = subst (λ c. IsContentEncoded t c binary) (sym is) (e ∙ ap (flat_map (λ piece. piece)) same)

  pub pieces_unencoded : (ps : List (List ℕ)) → t.content ≡ Pieces ps → (fault : EncodeFault) → fault ≡ faults.Memory → IsUnencoded t fault
  pieces_unencoded ps is fault e = subst (λ c. IsContentUnencoded t c fault) (sym is) e

-- an encoder's error, as a fault
pub unlaid : (m : AbstractModule (List ℕ)) (e : EncodeError) → (e ≡ errors.TooLarge → ¬ (Fits m)) → (fault : EncodeFault) → fault ≡ as_fault e → IsUnlaid m fault
unlaid m errors.Memory large fault is = subst (IsUnlaid m) (sym is) tt
unlaid m errors.TooLarge large fault is = subst (IsUnlaid m) (sym is) (large refl)

-- pieces are resolved to themselves
pub pieces_stay : (counter : ℕ) (t : Module Name ℕ) → is_pieces t.content ≡ true → module_by counter t ≡ t
pieces_stay counter t e = ap (λ content. record { place = t.place; id = t.id; given = t.given; content = content; refusal = t.refusal }) (stay t.content e)
  where
    stay : (content : Content Name ℕ) → is_pieces content ≡ true → content_by counter content ≡ content
    stay (Fields fs) e = absurd (cc)
    stay (Pieces pieces) e = refl
