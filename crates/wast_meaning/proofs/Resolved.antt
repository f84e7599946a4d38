-- Settled fields take no types and imply none: without inline parts they are resolved to themselves.
use Rattle.std.proofs.Common.{◌≡◌, ℕ, Bool, true, false, List, [], ◌∷◌, ◌++◌, map, Option, Some, None, refl, ◌∙◌, ap}
use Rattle.std.specs.Prelude.{◌&&◌, ◌||◌, not, is_some, unwrap_or, filter, filter_map, option_map, if◌then◌else◌}
use Rattle.std.specs.List.{flat_map, list_all}
use Rattle.std.proofs.lemmas.Bool.{false≢true}
use Rattle.std.proofs.lemmas.List.{append-nil}
use Rattle.wast_parser.specs.Identifiers.{Reference, ByNumber}
use Rattle.wast_field_syntax.specs.TypeTree.{Sig}
use Rattle.wast_field_syntax.specs.FieldTree.{Field, field_place}
use Rattle.wast_meaning.specs.Written.{written_out}
use Rattle.wast_meaning.specs.Mentions.{Mention, Refers, Member, Uses, UsesInBlock, Repeats, use_mentions, field_mentions}
use Rattle.wast_meaning.specs.Implied.{no_sig, is_short, sig_of_mention, used_sigs, written_types, plain_sig, implied, implied_by, type_taken}
use Rattle.wast_meaning.specs.Numbered.{taking, with_types, implied_field, expanded, numbered, resolved}
use Rattle.wast_meaning.specs.Settled.{has_number, block_settled, says_number, is_settled, are_settled}
use Rattle.wast_meaning.proofs.Settled.{left, right, Keeps}
use Rattle.wast_meaning.proofs.SettledFields.{field_stays, numbered_stays}

module _ {N P : Type 0} where
  -- TYPES THAT ARE TAKEN
  type_kept : (i : Option (Reference N P)) (other : Option (Reference N P)) → has_number i ≡ true → elim i [ Some j ↦ Some j | None ↦ other ] ≡ i
  type_kept None other h = elim (false≢true h) [ ]
  type_kept (Some j) other h = refl

  block_kept : (i : Option (Reference N P)) (other : Option (Reference N P)) (short : Bool) → (has_number i || (not (is_some i) && short)) ≡ true →
      (if short then i else elim i [ Some j ↦ Some j | None ↦ other ]) ≡ i
  block_kept None other true h = refl
  block_kept None other false h = elim (false≢true h) [ ]
  block_kept (Some j) other true h = refl
  block_kept (Some j) other false h = refl

  taking_keeps : (taken : Sig N P → Option ℕ) (p : P) → Keeps (taking taken p)
  taking_keeps taken p = record {
    index = λ s n q. refl;
    member = λ t n q. refl;
    type_use = λ u h. type_kept u.index (option_map (λ n. ByNumber n p) (taken (unwrap_or u.inline no_sig))) h;
    block_use = λ u h. block_kept u.index (option_map (λ n. ByNumber n p) (taken (unwrap_or u.inline no_sig))) (is_short (unwrap_or u.inline no_sig)) h;
  }

  with_types_stays : (taken : Sig N P → Option ℕ) (p : P) (f : Field N P) → list_all is_settled (field_mentions f) ≡ true → with_types taken p f ≡ f
  with_types_stays taken p f h =
      field_stays (record { outside = taking taken p; in_constant = λ before i. taking taken p; in_function = λ g before i. taking taken p })
      (record { outside = taking_keeps taken p; in_constant = λ before i. taking_keeps taken p; in_function = λ g before i. taking_keeps taken p }) f h

  -- NO TYPE IS IMPLIED
  abbrev pub unless : Option (Reference N P) → Sig N P → List (Sig N P)
  unless i s = elim i [ None ↦ s ∷ [] | Some j ↦ [] ]

  no_use_sig : (i : Option (Reference N P)) (s : Sig N P) → has_number i ≡ true → unless i s ≡ []
  no_use_sig None s h = elim (false≢true h) [ ]
  no_use_sig (Some j) s h = refl

  no_block_sig : (i : Option (Reference N P)) (s : Sig N P) (short : Bool) → is_short s ≡ short → (has_number i || (not (is_some i) && short)) ≡ true →
      filter (λ t. not (is_short t)) (unless i s) ≡ []
  no_block_sig None s true e h = ap (λ b. if not b then s ∷ [] else []) e
  no_block_sig None s false e h = elim (false≢true h) [ ]
  no_block_sig (Some j) s short e h = refl

  no_sig_of : (m : Mention N P) → is_settled m ≡ true → sig_of_mention m ≡ []
  no_sig_of (Refers s i) h = refl
  no_sig_of (Member t i) h = refl
  no_sig_of (Repeats id) h = refl
  no_sig_of (Uses u) h = no_use_sig u.index (unwrap_or u.inline no_sig) (left (has_number u.index) (list_all says_number (use_mentions u)) h)
  no_sig_of (UsesInBlock u) h =
      no_block_sig u.index (unwrap_or u.inline no_sig) (is_short (unwrap_or u.inline no_sig)) refl (left (block_settled u) (list_all says_number (use_mentions u)) h)

  no_sigs : (ms : List (Mention N P)) → list_all is_settled ms ≡ true → flat_map sig_of_mention ms ≡ []
  no_sigs [] h = refl
  no_sigs (m ∷ ms) h =
      ap (λ v. v ++ flat_map sig_of_mention ms) (no_sig_of m (left (is_settled m) (list_all is_settled ms) h))
      ∙ no_sigs ms (right (is_settled m) (list_all is_settled ms) h)

  no_uses : (fs : List (Field N P)) → are_settled fs ≡ true → flat_map used_sigs fs ≡ []
  no_uses [] h = refl
  no_uses (f ∷ fs) h =
      ap (λ v. map (λ s. (field_place f, s)) v ++ flat_map used_sigs fs) (no_sigs (field_mentions f) (left (list_all is_settled (field_mentions f)) (are_settled fs) h))
      ∙ no_uses fs (right (list_all is_settled (field_mentions f)) (are_settled fs) h)

  all_with_types : (taken : Sig N P → Option ℕ) (fs : List (Field N P)) → are_settled fs ≡ true → map (λ f. with_types taken (field_place f) f) fs ≡ fs
  all_with_types taken [] h = refl
  all_with_types taken (f ∷ fs) h =
      ap (λ v. v ∷ map (λ g. with_types taken (field_place g) g) fs) (with_types_stays taken (field_place f) f (left (list_all is_settled (field_mentions f)) (are_settled fs) h))
      ∙ ap (λ v. f ∷ v) (all_with_types taken fs (right (list_all is_settled (field_mentions f)) (are_settled fs) h))

module _ {N P : Type 0} (eq : N → N → Bool) where
  pub none_implied : (fs : List (Field N P)) → are_settled fs ≡ true → implied eq fs ≡ []
  none_implied fs h = ap (implied_by eq (filter_map plain_sig (flat_map written_types fs))) (no_uses fs h)

  pub expanded_stays : (fs : List (Field N P)) → are_settled fs ≡ true → expanded eq fs ≡ fs
  expanded_stays fs h =
      ap (λ v. map (λ f. with_types (type_taken eq fs) (field_place f) f) fs ++ map implied_field v) (none_implied fs h)
      ∙ append-nil (map (λ f. with_types (type_taken eq fs) (field_place f) f) fs)
      ∙ all_with_types (type_taken eq fs) fs h

  -- what is written out and settled is resolved to itself
  pub resolved_stays : (naming : ℕ → N) (fs : List (Field N P)) → written_out naming fs ≡ fs → are_settled fs ≡ true → resolved eq naming fs ≡ fs
  resolved_stays naming fs w h = ap (λ v. numbered eq (expanded eq v)) w ∙ ap (numbered eq) (expanded_stays fs h) ∙ numbered_stays eq fs h
