-- What a tree is resolved to is answered as the tree is.
use Rattle.std.proofs.Common.{◌≡◌, ◌↔◌, ℕ, false, true, List, [], ◌∷◌, map, codes, Option, None, refl, sym, ap, ◌∙◌, subst}
use Rattle.std.specs.List.{flat_map}
use Rattle.std.proofs.lemmas.Option.{none-some}
use Rattle.wast_grammar.specs.Tokens.{Name}
use Rattle.wast_grammar.specs.Spelling.{same_name}
use Rattle.wast_parser.specs.Identifiers.{Named}
use Rattle.wast_parser.specs.Problem.{Problem}
use Rattle.wast_names.specs.Demand.{Tells, is_met}
use Rattle.wast_names.specs.Walk.{first_unmet}
use Rattle.wast_field_syntax.specs.FieldTree.{Field, Content, Fields, Pieces, Module}
use Rattle.wast_core.specs.ModuleFieldViews.{field_tree}
use Rattle.wast_core.specs.ModuleViews.{content_tree}
use Rattle.wast_core.specs.declared.module.ModuleKind.{ModuleKind}
use Rattle.wast_core.specs.declared.module.ModuleKind.TheVariants as contents
use Rattle.wast_meaning.specs.Made.{made, is_made}
use Rattle.wast_meaning.specs.Modules.{content_fields}
use Rattle.wast_meaning.specs.WellFormed.{breaches}
use Rattle.wast_meaning.specs.Written.{by_counter}
use Rattle.wasm_layout.specs.AbstractModule.{AbstractModule}
use Rattle.wasm_layout.specs.Layout.{layout}
use Rattle.wasm_layout.specs.Lays.{Fits, Lays, Reads}
use Rattle.wasm_layout.specs.Present.{is_called, is_present}
use Rattle.wast_meant.specs.Binary.{in_bytes}
use Rattle.wast_meant.specs.CustomsMeant.{custom_of, customs_in}
use Rattle.wast_meant.specs.Meaning.{without_customs, meant}
use Rattle.wast_meant.specs.NamesMeant.{GivenName, given_name}
use Rattle.wast_meant.specs.Plain.{ArePlain}
use Rattle.wast_meant_laws.proofs.AtStops.{in_one_gap}
use Rattle.wast_meant_laws.proofs.Gaps.{called_same}
use Rattle.wast_resolve.specs.Whole.{demands_by, resolved_by, module_by, module_demands_by}
use Rattle.wast_resolve_laws.proofs.Names.{name_self, name_sound}
use Rattle.wast_resolve_laws.proofs.Resolved.{resolved_again, resolved_met}
use Rattle.wast_encode.specs.Encoded.{form_in, StandsFor, IsBinaryOf, Deserves}
use Rattle.wast_encode.specs.declared.fault.EncodeFault.{EncodeFault}
use Rattle.wast_encode.specs.declared.fault.EncodeFault.TheVariants as faults
use Rattle.wast_encode.proofs.Customs.{resolved_customs}
use Rattle.wast_encode_laws.specs.Orderings.{are_ordered}
use Rattle.wast_encode_laws.proofs.Covered.{uncovered_again}
use Rattle.wast_encode_laws.proofs.Trees.{trees_ordered}
use Rattle.wast_encode_again.specs.Laws.{IsAnsweredAs}
use Rattle.wast_encode_again.proofs.FormedAgain.{formed_again}

-- FAULTS of two trees that meet all demands, have one first form without bytes, and stand for one module
module _ (counter other : ℕ) (t u : Module Name ℕ) (met : first_unmet is_met (module_demands_by counter t) ≡ None) (again : first_unmet is_met (module_demands_by other u) ≡ None)
    (form : form_in other u ≡ form_in counter t) (stands : (m : AbstractModule (List ℕ)) → StandsFor counter t m ↔ StandsFor other u m) where
  same_fault : (fault : EncodeFault) → Deserves counter t fault ↔ Deserves other u fault
  same_fault (faults.Unmet error) = (λ h. subst (λ d. Tells d error) (met ∙ sym again) h, λ h. subst (λ d. Tells d error) (again ∙ sym met) h)
  same_fault (faults.Uncovered span text) = (λ h. (again, form ∙ h.1), λ h. (met, sym form ∙ h.1))
  same_fault faults.TooLarge = (λ h. (h.0, (stands h.0).0 h.1, h.2), λ h. (h.0, (stands h.0).1 h.1, h.2))
  same_fault faults.Memory = (λ h. h, λ h. h)

module _ (counter other : ℕ) (place : ℕ) (id : Option (Named Name ℕ)) (given : Option (List ℕ)) (refusal : Option Problem) where
  abbrev tree : Content Name ℕ → Module Name ℕ
  tree content = record { place = place; id = id; given = given; content = content; refusal = refusal }

  -- FIELDS
  module _ (fs : List (Field Name ℕ)) (ordered : are_ordered fs ≡ true) (formed : breaches same_name is_made fs ≡ []) (met : first_unmet is_met (demands_by counter fs) ≡ None) where
    abbrev name : Option (GivenName Name)
    name = given_name is_made given id

    abbrev rs : List (Field Name ℕ)
    rs = resolved_by counter fs

    abbrev later : ℕ → Name
    later = by_counter made other rs

    stays : resolved_by other rs ≡ rs
    stays = resolved_again same_name name_self name_sound (by_counter made counter fs) fs met later

    met_again : first_unmet is_met (demands_by other rs) ≡ None
    met_again = resolved_met same_name name_self name_sound (by_counter made counter fs) fs met later

    formed_left : breaches same_name is_made rs ≡ []
    formed_left = formed_again same_name name_self name_sound is_made (by_counter made counter fs) fs met formed

    form_again : form_in other (tree (Fields rs)) ≡ form_in counter (tree (Fields fs))
    form_again = uncovered_again same_name (by_counter made counter fs) fs ordered later

    stands_again : (m : AbstractModule (List ℕ)) → StandsFor counter (tree (Fields fs)) m → StandsFor other (tree (Fields rs)) m
    stands_again m s = record {
      module_meant = s.module_meant;
      is_meant = record {
        is_formed = formed_left;
        are_met = met_again;
        is_covered = form_again ∙ s.is_meant.is_covered;
        is_meant = s.is_meant.is_meant ∙ ap (meant same_name is_made name) (sym stays);
      };
      named = s.named;
    }

    stood : (m : AbstractModule (List ℕ)) → StandsFor other (tree (Fields rs)) m → StandsFor counter (tree (Fields fs)) m
    stood m s = record {
      module_meant = s.module_meant;
      is_meant = record {
        is_formed = formed;
        are_met = met;
        is_covered = sym form_again ∙ s.is_meant.is_covered;
        is_meant = s.is_meant.is_meant ∙ ap (meant same_name is_made name) stays;
      };
      named = s.named;
    }

    -- the module is that of the resolved fields
    is_that : (m : AbstractModule (List ℕ)) → StandsFor counter (tree (Fields fs)) m → m ≡ in_bytes (meant same_name is_made name rs)
    is_that m s = s.named ∙ ap in_bytes s.is_meant.is_meant

    -- no custom section of it has a name that no custom field has
    uncalled : (called : List ℕ) (m : AbstractModule (List ℕ)) → StandsFor counter (tree (Fields fs)) m → is_called called (map custom_of (flat_map customs_in rs) ∷ []) ≡ false → is_called called m.customs ≡ false
    uncalled called m s none =
        ap (λ (n : AbstractModule (List ℕ)). is_called called n.customs) (is_that m s)
        ∙ called_same called (flat_map customs_in rs) (is_present (in_one_gap (flat_map customs_in rs) (without_customs same_name is_made name rs)))
        ∙ none

    reads : (bytes : List ℕ) (m : AbstractModule (List ℕ)) → StandsFor counter (tree (Fields fs)) m → Lays bytes m → ArePlain rs → Reads bytes m
    reads bytes m s l plain = record {
      lays = l;
      no_names = uncalled (codes "name") m s plain.no_names;
      no_hints = uncalled (codes "metadata.code.branch_hint") m s plain.no_hints;
    }

    binary_again : (bytes : List ℕ) → IsBinaryOf counter (tree (Fields fs)) (Fields fs) bytes → IsBinaryOf other (tree (Fields rs)) (Fields rs) bytes
    binary_again bytes b = (b.0, stands_again b.0 b.1, b.2, λ plain. reads bytes b.0 b.1 b.2 plain)

    -- custom fields stay, so what plain fields are resolved to is plain
    still_uncalled : (called : List ℕ) → is_called called (map custom_of (flat_map customs_in fs) ∷ []) ≡ false → is_called called (map custom_of (flat_map customs_in rs) ∷ []) ≡ false
    still_uncalled called none = ap (λ cs. is_called called (map custom_of cs ∷ [])) (resolved_customs same_name (by_counter made counter fs) fs) ∙ none

    plain_left : ArePlain fs → ArePlain rs
    plain_left plain = record { no_names = still_uncalled (codes "name") plain.no_names; no_hints = still_uncalled (codes "metadata.code.branch_hint") plain.no_hints }

    binary_before : (bytes : List ℕ) → IsBinaryOf other (tree (Fields rs)) (Fields rs) bytes → IsBinaryOf counter (tree (Fields fs)) (Fields fs) bytes
    binary_before bytes b = let s = stood b.0 b.1 in (b.0, s, b.2, λ plain. reads bytes b.0 s b.2 (plain_left plain))

    one_binary : (first second : List ℕ) → IsBinaryOf counter (tree (Fields fs)) (Fields fs) first → IsBinaryOf other (tree (Fields rs)) (Fields rs) second → first ≡ second
    one_binary first second b c = b.2.bytes ∙ ap layout (is_that b.0 b.1 ∙ sym (is_that c.0 (stood c.0 c.1))) ∙ sym c.2.bytes

    no_fault : (bytes : List ℕ) (fault : EncodeFault) → IsBinaryOf counter (tree (Fields fs)) (Fields fs) bytes → Deserves other (tree (Fields rs)) fault → fault ≡ faults.Memory
    no_fault bytes (faults.Unmet error) b h = absurd (subst (λ d. Tells d error) met_again h)
    no_fault bytes (faults.Uncovered span text) b h = elim (none-some (span, text.now) (sym (form_again ∙ b.1.is_meant.is_covered) ∙ h.1)) [ ]
    no_fault bytes faults.TooLarge b h = absurd (h.2 (subst Fits (is_that b.0 b.1 ∙ sym (is_that h.0 (stood h.0 h.1))) b.2.fits))
    no_fault bytes faults.Memory b h = refl

    text_again : IsAnsweredAs counter (tree (Fields fs)) other (tree (Fields rs))
    text_again = record {
      formed = formed_left;
      met = met_again;
      form = form_again;
      stands = λ m. (stands_again m, stood m);
      fault = same_fault counter other (tree (Fields fs)) (tree (Fields rs)) met met_again form_again (λ m. (stands_again m, stood m));
      binary = λ bytes. (binary_again bytes, binary_before bytes);
      same = one_binary;
      no_fault = no_fault;
    }

    text_stays : module_by other (tree (Fields rs)) ≡ tree (Fields rs)
    text_stays = ap (λ gs. tree (Fields gs)) stays

  -- PIECES of a binary stand for no module, and stay
  module _ (pieces : List (List ℕ)) where
    no_module : (m : AbstractModule (List ℕ)) → StandsFor counter (tree (Pieces pieces)) m ↔ StandsFor other (tree (Pieces pieces)) m
    no_module m = (λ s. absurd s.is_meant, λ s. absurd s.is_meant)

    no_fault_of : (fault : EncodeFault) → Deserves other (tree (Pieces pieces)) fault → fault ≡ faults.Memory
    no_fault_of (faults.Unmet error) h = absurd h
    no_fault_of (faults.Uncovered span text) h = elim (none-some (span, text.now) h.1) [ ]
    no_fault_of faults.TooLarge h = absurd h.1.is_meant
    no_fault_of faults.Memory h = refl

    pieces_again : IsAnsweredAs counter (tree (Pieces pieces)) other (tree (Pieces pieces))
    pieces_again = record {
      formed = refl;
      met = refl;
      form = refl;
      stands = no_module;
      fault = same_fault counter other (tree (Pieces pieces)) (tree (Pieces pieces)) refl refl refl no_module;
      binary = λ bytes. (λ b. b, λ b. b);
      same = λ first second b c. b ∙ sym c;
      no_fault = λ bytes fault b h. no_fault_of fault h;
    }

  -- WHAT A MODULE HOLDS
  pub answered : (kind : ModuleKind) → breaches same_name is_made (content_fields (content_tree kind)) ≡ [] → first_unmet is_met (module_demands_by counter (tree (content_tree kind))) ≡ None
      → IsAnsweredAs counter (tree (content_tree kind)) other (module_by counter (tree (content_tree kind)))
  answered (contents.Text fields) formed met = text_again (map field_tree fields.items) (trees_ordered fields.items) formed met
  answered (contents.Binary pieces) formed met = pieces_again pieces.items

  pub stays_left : (kind : ModuleKind) → breaches same_name is_made (content_fields (content_tree kind)) ≡ [] → first_unmet is_met (module_demands_by counter (tree (content_tree kind))) ≡ None
      → module_by other (module_by counter (tree (content_tree kind))) ≡ module_by counter (tree (content_tree kind))
  stays_left (contents.Text fields) formed met = text_stays (map field_tree fields.items) (trees_ordered fields.items) formed met
  stays_left (contents.Binary pieces) formed met = refl
