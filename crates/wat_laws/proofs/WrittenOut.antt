-- A text means what one means that spells its fields written out, names aside.
use Rattle.std.proofs.Common.{◌≡◌, ℕ, Bool, true, false, List, [], ◌∷◌, ◌++◌, map, Option, None, refl, sym, ◌∙◌, ap, subst}
use Rattle.std.specs.Prelude.{◌&&◌, not, slice_get}
use Rattle.std.specs.List.{flat_map, list_all}
use Rattle.std.proofs.lemmas.Option.{same_Some}
use std.Equiv.{Iso, iso_to_equiv}
use Rattle.wast_grammar.specs.Tokens.{Name}
use Rattle.wast_grammar.specs.Spelling.{same_name}
use Rattle.wast_grammar.specs.Significant.{TextToken}
use Rattle.wast_grammar.specs.Alike.{move}
use Rattle.wast_names.specs.Walk.{first_unmet}
use Rattle.wast_names.specs.Demand.{Demand, is_met}
use Rattle.wast_field_syntax.specs.FieldTree.{Field, Fields, Module}
use Rattle.wast_meaning.specs.Written.{has_any, written_out, by_counter}
use Rattle.wast_meaning.specs.Spaces.{items}
use Rattle.wast_meaning.specs.Scope.{scope_of}
use Rattle.wast_meaning.specs.Demands.{order_demands, item_demands, field_demands, demands, all_demands}
use Rattle.wast_meaning.specs.WellFormed.{breaches, first_breach}
use Rattle.wast_meaning.specs.Modules.{content_fields}
use Rattle.wast_meaning.specs.Numbered.{expanded, numbered, resolved}
use Rattle.wast_meaning.specs.Fresh.{field_names, taken_from, are_distinct, are_new}
use Rattle.wast_meaning.specs.Made.{made, is_made}
use Rattle.wast_meaning.proofs.Settled.{left, two, back}
use Rattle.wast_resolve_laws.proofs.Names.{name_self, name_sound}
use Rattle.wast_resolve_laws.proofs.Plain.{stands_alone, is_plain, written_plain, plain_stays}
use Rattle.wast_resolve_laws.proofs.Unmet.{all_met}
use Rattle.wast_resolve_laws.proofs.WrittenDemands.{written_demands}
use Rattle.wasm_layout.specs.AbstractModule.{AbstractModule}
use Rattle.wasm_layout.specs.Layout.{layout}
use Rattle.wasm_layout.specs.Lays.{bare}
use Rattle.wast_conversions.specs.Covered.{Form}
use Rattle.wast_meant.specs.Binary.{bytes_of, module_with, in_bytes}
use Rattle.wast_meant.specs.Covered.{first_form, uncovered}
use Rattle.wast_meant.specs.Meaning.{meant}
use Rattle.wast_meant.specs.Means.{naming, Worth, IsWorth}
use Rattle.wast_meant.specs.NamesMeant.{GivenName, given_name}
use Rattle.wast_meant_laws.proofs.Bare.{bare_with, names_apart}
use Rattle.wat_verdict.specs.Registered.{registered}
use Rattle.wat_verdict.specs.Spells.{Spells}
use Rattle.wat_verdict.specs.Naming.{unmet_demand}
use Rattle.wat_verdict.specs.Verdict.{tree_breach, tree_uncovered}
use Rattle.wat_verdict.specs.Alike.{SameBare}
use Rattle.wat_verdict.proofs.Free.{Known, Kept, free}
use Rattle.wat_verdict.proofs.Placed.{AreRead, text_read}
use Rattle.wat_verdict.proofs.Told.{name_shown, content_worth, summary, told, told_spelled, spelled_told}
use Rattle.wat_verdict.proofs.Alike.{known_by, same_module}
use Rattle.wat_verdict.proofs.OneSpelling.{one_spelling}
use Rattle.wat_verdict.proofs.Verdict.{IsSound, worth_in, tree_worth, worth_tree, worth_of, none_first}
use Rattle.wat_laws.specs.Bounds.{WithinBounds}
use Rattle.wat_laws.specs.Written.{Places, placed, as_they_were, all_placed, WrittenTokens, WrittenTexts, MeanAlike, WrittenOut}
use Rattle.wat_laws.proofs.PlacedFields.{by_defined, by_field, none_too, demands_same, covered_too, covered_back}
use Rattle.wat_laws.proofs.PlacedMeaning.{resolved_placed, bare_same}
use Rattle.wat_laws.proofs.SameWorth.{none_both, shown, same_worth, sound_same}
use Rattle.wat_laws.proofs.WrittenFormed.{unformed, written_unformed, placed_unformed, no_breach_formed, formed_no_breach, spelled_fields}
use Rattle.wat_laws.proofs.WrittenNames.{other_made, Renames, renames, written_so}

-- FIELDS AT OTHER PLACES in which nothing stands inline
module _ {N P : Type 0} where
  plain_at : (w : Places P) (f : Field N P) → is_plain (placed w f) ≡ is_plain f
  plain_at w f =
      by_field is_plain w (λ i. refl) (λ d. ap (λ b. not (has_any d.exports) && b) (by_defined stands_alone w.heap (λ t. refl) d.defined)) (λ e. refl) (λ e. refl) (λ d. refl) f

  all_plain : (xs : List (Places P × Field N P)) → list_all is_plain (all_placed xs) ≡ list_all is_plain (as_they_were xs)
  all_plain [] = refl
  all_plain (x ∷ xs) = two (λ a b. a && b) (plain_at x.0 x.1) (all_plain xs)

  -- demands of fields that are met, where all are
  own_met : (eq : N → N → Bool) (fs : List (Field N P)) → first_unmet is_met (demands eq fs) ≡ None → list_all is_met (flat_map (field_demands eq (scope_of eq fs)) fs) ≡ true
  own_met eq fs h =
      let own = flat_map (field_demands eq (scope_of eq fs)) fs in
      back is_met (order_demands fs ++ item_demands eq (flat_map items fs)) own (all_met (demands eq fs) h)

-- NAMES THAT ARE SHOWN make no difference to a module without names
shown_bare : (f : GivenName Name → List ℕ) (m : AbstractModule (GivenName Name)) → bare (in_bytes m) ≡ bare (module_with f m)
shown_bare f m = bare_with bytes_of m ∙ sym (bare_with f m)

-- the same is told of tokens at other places
abbrev at_places : Iso ℕ ℕ → List TextToken → List TextToken
at_places i ts = map (move (λ n. n) i.fun) ts

abbrev no_renaming : Iso Name Name
no_renaming = record { fun = λ n. n; inv = λ n. n; rinv = λ n. refl; linv = λ n. refl }

names_stay : Kept shown shown no_renaming.fun
names_stay = record { same = λ a b. refl; is_made = λ n. refl; made = λ k. refl; show = λ n. refl }

told_moved : (i : Iso ℕ ℕ) (ts : List TextToken) → told Name ℕ shown (at_places i ts) ≡ told Name ℕ shown ts
told_moved i ts = free told (iso_to_equiv no_renaming) (iso_to_equiv i) shown shown names_stay ts

-- THE TWO TREES
module _ (tokens others : List TextToken) (read : AreRead tokens) (x : WrittenTokens tokens others) where
  abbrev out : List (Field Name ℕ)
  out = all_placed x.parts

  abbrev were : List (Field Name ℕ)
  were = as_they_were x.parts

  abbrev moved : List TextToken
  moved = at_places x.moving others

  abbrev taken : List Name
  taken = taken_from x.naming 0 x.fields

  -- what stands in the tree, and in the other
  inside : content_fields x.tree.content ≡ x.fields
  inside = ap content_fields x.content

  inside_out : content_fields x.out.content ≡ out
  inside_out = ap content_fields x.out_content

  others_stay : (names : ℕ → Name) → written_out names out ≡ out
  others_stay names = plain_stays names out (all_plain x.parts ∙ ap (list_all is_plain) x.are_written ∙ written_plain x.naming 0 x.fields)

  -- fresh names for those that are made
  other_names : Renames tokens taken
  other_names = renames tokens taken read x.unsaid (left (are_distinct same_name taken) (are_new same_name taken (flat_map field_names x.fields)) x.fresh)

  abbrev plain : Known Name
  plain = known_by (λ n. [])

  abbrev fresh : Known Name
  fresh = other_made other_names.permuted

  same_summary : summary fresh x.tree ≡ summary plain x.tree
  same_summary = same_Some (summary fresh x.tree) (summary plain x.tree) (sym (told_spelled fresh tokens x.tree x.spelled) ∙ other_names.told_so ∙ told_spelled plain tokens x.tree x.spelled)

  written_fresh : written_out (by_counter fresh.made 0 x.fields) x.fields ≡ were
  written_fresh = written_so other_names.permuted.fun x.naming x.fields other_names.made_so ∙ sym x.are_written

  -- DEMANDS
  abbrev unmet_of : Known Name → List (Field Name ℕ) → Option (Demand Name ℕ)
  unmet_of k fs = first_unmet is_met (all_demands k.same (by_counter k.made 0 fs) fs)

  fresh_met : unmet_of fresh x.fields ≡ first_unmet is_met (demands same_name were)
  fresh_met = ap (λ fs. first_unmet is_met (demands same_name fs)) written_fresh

  out_met : unmet_demand x.out ≡ first_unmet is_met (demands same_name out)
  out_met = ap (unmet_of plain) inside_out ∙ ap (λ fs. first_unmet is_met (demands same_name fs)) (others_stay (by_counter made 0 out))

  met_forth : unmet_demand x.tree ≡ None → first_unmet is_met (demands same_name were) ≡ None
  met_forth h =
      sym fresh_met ∙ ap (unmet_of fresh) (sym inside)
      ∙ none_both _ _ (unmet_of fresh (content_fields x.tree.content)) (unmet_of plain (content_fields x.tree.content)) (ap (λ s. s.complaint) same_summary) h

  met_back : first_unmet is_met (demands same_name were) ≡ None → unmet_demand x.tree ≡ None
  met_back h =
      none_both _ _ (unmet_of plain (content_fields x.tree.content)) (unmet_of fresh (content_fields x.tree.content)) (sym (ap (λ s. s.complaint) same_summary))
      (ap (unmet_of fresh) inside ∙ fresh_met ∙ h)

  placed_met : first_unmet is_met (demands same_name were) ≡ None → first_unmet is_met (demands same_name out) ≡ None
  placed_met h = none_too (demands same_name out) (demands same_name were) (demands_same same_name x.parts) h

  were_met : first_unmet is_met (demands same_name out) ≡ None → first_unmet is_met (demands same_name were) ≡ None
  were_met h = none_too (demands same_name were) (demands same_name out) (sym (demands_same same_name x.parts)) h

  fields_met : first_unmet is_met (demands same_name were) ≡ None → first_unmet is_met (demands same_name x.fields) ≡ None
  fields_met h = sym (written_demands same_name name_self name_sound x.naming x.fields x.fresh) ∙ ap (λ fs. first_unmet is_met (demands same_name fs)) (sym x.are_written) ∙ h

  -- FORMS
  abbrev form_of : Known Name → List (Field Name ℕ) → Option (ℕ × Form)
  form_of k fs = uncovered (by_counter k.made 0 fs) fs

  fresh_covered : form_of fresh x.fields ≡ first_form were
  fresh_covered = ap first_form written_fresh

  out_covered : tree_uncovered x.out ≡ first_form out
  out_covered = ap (form_of plain) inside_out ∙ ap first_form (others_stay (by_counter made 0 out))

  covered_forth : tree_uncovered x.tree ≡ None → tree_uncovered x.out ≡ None
  covered_forth h =
      out_covered
      ∙ covered_too x.parts (
      sym fresh_covered ∙ ap (form_of fresh) (sym inside)
      ∙ none_both _ _ (form_of fresh (content_fields x.tree.content)) (form_of plain (content_fields x.tree.content)) (ap (λ s. s.form) same_summary) h)

  were_covered : tree_uncovered x.out ≡ None → tree_uncovered x.tree ≡ None
  were_covered h =
      none_both _ _ (form_of plain (content_fields x.tree.content)) (form_of fresh (content_fields x.tree.content)) (sym (ap (λ s. s.form) same_summary))
      (ap (form_of fresh) inside ∙ fresh_covered ∙ covered_back x.parts (sym out_covered ∙ h))

  -- BREACHES
  same_unformed : unformed out ≡ unformed x.fields
  same_unformed = placed_unformed x.parts ∙ ap unformed x.are_written ∙ written_unformed x.naming x.fields

  breach_forth : tree_breach x.tree ≡ None → first_unmet is_met (demands same_name out) ≡ None → tree_breach x.out ≡ None
  breach_forth h met =
      let none = none_first (breaches same_name is_made x.fields) (ap (first_breach same_name is_made) (sym inside) ∙ h) in
      let spelled = spelled_fields x.out out moved x.out_content x.out_spelled in
      ap (first_breach same_name is_made) inside_out
      ∙ ap (λ ps. slice_get ps 0) (formed_no_breach same_name is_made out spelled.starts spelled.pages (same_unformed ∙ no_breach_formed same_name is_made x.fields none) (own_met same_name out met))

  breach_back : tree_breach x.out ≡ None → first_unmet is_met (demands same_name x.fields) ≡ None → tree_breach x.tree ≡ None
  breach_back h met =
      let none = none_first (breaches same_name is_made out) (ap (first_breach same_name is_made) (sym inside_out) ∙ h) in
      let spelled = spelled_fields x.tree x.fields tokens x.content x.spelled in
      ap (first_breach same_name is_made) inside
      ∙ ap (λ ps. slice_get ps 0) (formed_no_breach same_name is_made x.fields spelled.starts spelled.pages (sym same_unformed ∙ no_breach_formed same_name is_made out none) (own_met same_name x.fields met))

  -- SOUND where the other is
  pub sound_forth : IsSound x.tree → IsSound x.out
  sound_forth s =
      let met = placed_met (met_forth s.met) in
      record { formed = breach_forth s.formed met; met = out_met ∙ met; covered = covered_forth s.covered }

  pub sound_back : IsSound x.out → IsSound x.tree
  sound_back s =
      let met = were_met (sym out_met ∙ s.met) in
      record { formed = breach_back s.formed (fields_met met); met = met_back met; covered = were_covered s.covered }

  -- THE MODULES
  abbrev name_by : Known Name → Module Name ℕ → Option (GivenName Name)
  name_by k t = given_name k.is_made t.given t.id

  abbrev meant_by : Known Name → AbstractModule (GivenName Name)
  meant_by k = meant k.same k.is_made (name_by k x.tree) (resolved k.same (by_counter k.made 0 x.fields) x.fields)

  abbrev meant_out : AbstractModule (GivenName Name)
  meant_out = meant same_name is_made (name_by plain x.out) (resolved same_name (naming out) out)

  -- with the names that are made, and with fresh ones
  same_shown : module_with (name_shown fresh) (meant_by fresh) ≡ module_with (name_shown plain) (meant_by plain)
  same_shown =
      same_module _ _ (ap (content_worth fresh (name_by fresh x.tree)) (sym x.content)
      ∙ ap (λ s. s.worth) same_summary
      ∙ ap (content_worth plain (name_by plain x.tree)) x.content)

  fresh_bare : bare (in_bytes (meant_by plain)) ≡ bare (in_bytes (meant_by fresh))
  fresh_bare = shown_bare (name_shown plain) (meant_by plain) ∙ ap bare (sym same_shown) ∙ sym (shown_bare (name_shown fresh) (meant_by fresh))

  -- with fresh names, and at other places
  out_bare : bare (meant_by fresh) ≡ bare meant_out
  out_bare =
      let r = resolved_placed same_name x.parts in
      ap (λ fs. bare (meant same_name fresh.is_made (name_by fresh x.tree) (numbered same_name (expanded same_name fs)))) written_fresh
      ∙ ap (λ fs. bare (meant same_name fresh.is_made (name_by fresh x.tree) fs)) r.were_so
      ∙ sym (bare_same same_name fresh.is_made (name_by fresh x.tree) r.parts)
      ∙ ap (λ fs. bare (meant same_name fresh.is_made (name_by fresh x.tree) fs)) (sym r.placed_so)
      ∙ names_apart same_name is_made fresh.is_made (name_by plain x.out) (name_by fresh x.tree) (numbered same_name (expanded same_name out))
      ∙ ap (λ fs. bare (meant same_name is_made (name_by plain x.out) (numbered same_name (expanded same_name fs)))) (sym (others_stay (naming out)))

  same_bare : bare (in_bytes (meant_by plain)) ≡ bare (in_bytes meant_out)
  same_bare = fresh_bare ∙ bare_with bytes_of (meant_by fresh) ∙ ap (module_with bytes_of) out_bare ∙ sym (bare_with bytes_of meant_out)

  worth_of_fields : SameBare (worth_in (name_by plain x.tree) (Fields x.fields)) (worth_in (name_by plain x.out) (Fields out))
  worth_of_fields = (same_bare, ap layout same_bare)

  pub worth_forth : SameBare (tree_worth x.tree) (tree_worth x.out)
  worth_forth =
      subst (λ c. SameBare (worth_in (name_by plain x.tree) c) (tree_worth x.out)) (sym x.content)
      (subst (λ c. SameBare (worth_in (name_by plain x.tree) (Fields x.fields)) (worth_in (name_by plain x.out) c)) (sym x.out_content) worth_of_fields)

  worth_of_others : SameBare (worth_in (name_by plain x.out) (Fields out)) (worth_in (name_by plain x.tree) (Fields x.fields))
  worth_of_others = (sym same_bare, ap layout (sym same_bare))

  pub worth_back : SameBare (tree_worth x.out) (tree_worth x.tree)
  worth_back =
      subst (λ c. SameBare (worth_in (name_by plain x.out) c) (tree_worth x.tree)) (sym x.out_content)
      (subst (λ c. SameBare (worth_in (name_by plain x.out) (Fields out)) (worth_in (name_by plain x.tree) c)) (sym x.content) worth_of_others)

-- THE TEXTS
module _ (text other : List ℕ) (x : WrittenTexts text other) where
  read : AreRead x.tokens
  read = text_read false registered text x.tokens x.significant.0

  spelled : Spells text x.written.tree
  spelled = record { tokens = x.tokens; significant = x.significant.0; spelled = x.written.spelled }

  -- the tree that the other spells
  record Counterpart : Type 0 where
    tree : Module Name ℕ
    spells : Spells other tree
    same : summary shown tree ≡ summary shown x.written.out

  counterpart : Counterpart
  counterpart =
      let y = x.written in
      let u = spelled_told shown x.others (summary shown y.out) (sym (told_moved y.moving x.others) ∙ told_spelled shown (at_places y.moving x.others) y.out y.out_spelled) in
      record { tree = u.0; spells = record { tokens = x.others; significant = x.significant.1; spelled = u.1 }; same = u.2 }

  forth : (w : Worth) → IsWorth Spells text w → (v : Worth) × IsWorth Spells other v × SameBare w v
  forth w a =
      let t = worth_tree text w a in
      let u = counterpart in
      let same = one_spelling text t.tree x.written.tree t.spelled spelled in
      let sound = sound_forth x.tokens x.others read x.written (subst IsSound same t.sound) in
      let worth = sym (same_worth x.written.out u.tree u.same) in (
        tree_worth u.tree,
        worth_of other u.tree u.spells (sound_same x.written.out u.tree u.same sound),
        subst (λ v. SameBare v (tree_worth u.tree)) (sym (t.is ∙ ap tree_worth same)) (subst (SameBare (tree_worth x.written.tree)) worth (worth_forth x.tokens x.others read x.written)),
      )

  back_too : (w : Worth) → IsWorth Spells other w → (v : Worth) × IsWorth Spells text v × SameBare w v
  back_too w a =
      let t = worth_tree other w a in
      let u = counterpart in
      let same = one_spelling other t.tree u.tree t.spelled u.spells in
      let sound = sound_back x.tokens x.others read x.written (sound_same u.tree x.written.out (sym u.same) (subst IsSound same t.sound)) in
      let worth = t.is ∙ ap tree_worth same ∙ same_worth x.written.out u.tree u.same in (
        tree_worth x.written.tree,
        worth_of text x.written.tree spelled sound,
        subst (λ v. SameBare v (tree_worth x.written.tree)) (sym worth) (worth_back x.tokens x.others read x.written),
      )

  accepted : WithinBounds text other → MeanAlike text other
  accepted bounds = record {
    forth = λ w a. (let v = forth w a.worth in (v.0, record { short = bounds.short.1; utf8 = bounds.utf8.1; worth = v.1 }, v.2));
    back = λ w a. (let v = back_too w a.worth in (v.0, record { short = bounds.short.0; utf8 = bounds.utf8.0; worth = v.1 }, v.2));
  }

pub written_out_alike : WrittenOut
written_out_alike text other x = record { forth = forth text other x; back = back_too text other x; accepted = accepted text other x }
