-- A group of imports is spelled as the grammar has it exactly where its first member tells so.
use Rattle.std.proofs.Common.{◌≡◌, ℕ, List, [], ◌∷◌, ◌++◌, Option, Some, None, inl, inr, refl, sym, ◌∙◌, ap, subst, append_assoc, append-nil}
use Rattle.wast_signatures.specs.Tokens.{SignificantToken}
use Rattle.wast_signatures.specs.Spelling as spelling
use Rattle.wast_signatures.specs.Grammar.{maybe, seq}
use Rattle.wast_signatures.specs.Productions.{name}
use Rattle.wast_imports.specs.ImportTree.{Item, ImportItems, Group1, Group2}
use Rattle.wast_imports.specs.ImportSyntax.{item_starts, item, member, member_name, each_with_item, all_of_one_item, first_member, with_rest, by_first_member}

module _ {N P : Type 0} where
  -- a member with an item, and one without
  member_first : (m : List ℕ × Item N P) (ts : List (SignificantToken N P)) → member.spells m ts → first_member.spells (m.0, Some m.1) ts
  member_first m ts (us, p, q, e, (x, f, s)) = (us, p, q, e, ((x.0, (x.1.0, Some x.1.1)), ap (λ y. (y.0, Some y.1)) f, s))

  first_member_with : (n : List ℕ) (i : Item N P) (ts : List (SignificantToken N P)) → first_member.spells (n, Some i) ts → member.spells (n, i) ts
  first_member_with n i ts (us, p, q, e, (x, f, (u, v, d, w, r))) =
      (us, p, q, e, ((x.0, (n, i)), refl, (u, v, d, w, subst (λ y. (seq {N = N} {P = P} name (maybe item_starts item)).spells y v) f r)))

  name_first : (n : List ℕ) (ts : List (SignificantToken N P)) → (member_name {N = N} {P = P}).spells n ts → first_member.spells (n, None) ts
  name_first n ts (us, p, q, e, (x, f, (u, v, d, w, r))) = (us, p, q, e, ((x.0, (x.1, None)), ap (λ y. (y, None)) f, (u, v, d, w, (v, [], sym (append-nil v), r, refl))))

  no_item : (n : List ℕ) (v : List (SignificantToken N P)) → (seq {N = N} {P = P} name (maybe item_starts item)).spells (n, None) v → (name {N = N} {P = P}).spells n v
  no_item n v (a, b, e, r, f) = subst ((name {N = N} {P = P}).spells n) (sym (e ∙ ap (λ c. a ++ c) f ∙ append-nil a)) r

  first_member_without : (n : List ℕ) (ts : List (SignificantToken N P)) → first_member.spells (n, None) ts → member_name.spells n ts
  first_member_without n ts (us, p, q, e, (x, f, (u, v, d, w, r))) =
      (us, p, q, e, ((x.0, n), refl, (u, v, d, w, no_item n v (subst (λ y. (seq {N = N} {P = P} name (maybe item_starts item)).spells y v) f r))))

  -- a group
  pub group_decided : (a : ImportItems N P) (ts : List (SignificantToken N P)) → spelling.either each_with_item.spells all_of_one_item.spells a ts → by_first_member.spells a ts
  group_decided a ts (inl (ms, e, (x, f, (us, vs, d, m, more)))) =
      (((x.0.0, Some x.0.1), Group1 (x.0 ∷ x.1)), ap Group1 f ∙ e, (us, vs, d, member_first x.0 us m, (x.1, refl, more)))
  group_decided a ts (inr (g, e, (us, vs, d, (x, f, (u, v, c, m, more)), bare))) =
      (((x.0, None), Group2 (x.0 ∷ x.1) g.1), ap (λ ns. Group2 ns g.1) f ∙ e, (u, v ++ vs, d ∙ ap (λ w. w ++ vs) c ∙ append_assoc u v vs, name_first x.0 u m, ((x.1, g.1), refl, (v, vs, refl, more, bare))))

  decided_by : (n : List ℕ) (i : Option (Item N P)) (b a : ImportItems N P) (us vs ts : List (SignificantToken N P)) → b ≡ a → ts ≡ us ++ vs → first_member.spells (n, i) us → (with_rest (n, i)).spells b vs → spelling.either each_with_item.spells all_of_one_item.spells a ts
  decided_by n (Some i) b a us vs ts e d m (more, f, r) = inl ((n, i) ∷ more, f ∙ e, (((n, i), more), refl, (us, vs, d, first_member_with n i us m, r)))
  decided_by n None b a us vs ts e d m (more, f, (v, w, c, r, bare)) =
      inr ((n ∷ more.0, more.1), f ∙ e, (us ++ v, w, d ∙ ap (λ x. us ++ x) c ∙ sym (append_assoc us v w), ((n, more.0), refl, (us, v, refl, first_member_without n us m, r)), bare))

  pub decided_group : (a : ImportItems N P) (ts : List (SignificantToken N P)) → by_first_member.spells a ts → spelling.either each_with_item.spells all_of_one_item.spells a ts
  decided_group a ts (g, e, (us, vs, d, m, r)) = decided_by g.0.0 g.0.1 g.1 a us vs ts e d m r
