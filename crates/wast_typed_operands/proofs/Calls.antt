-- What an indirect call reads: a type use, and an index behind it where any of it is written.
use Rattle.std.proofs.Common.{◌≡◌, Bool, true, false, List, [], Option, Some, None, refl, sym, ◌∙◌, ap, cond}
use Rattle.std.specs.Prelude.{codes}
use Rattle.std.proofs.lemmas.Option.{same_Some}
use Rattle.wast_signatures.specs.Tokens.{SignificantToken}
use Rattle.wast_signatures.specs.Spelling.{◌>>=◌}
use Rattle.wast_signatures.specs.Look.{this_group, look, fits, at, ask, faults, index_starts, type_starts}
use Rattle.wast_signatures.specs.Grammar.{Reader, group, maybe, seq_reads, map_reads, only_reads, maybe_reads, either_reads}
use Rattle.wast_signatures.specs.Identifiers.{Reference, index}
use Rattle.wast_signatures.specs.TypeTree.{TypeUse, Sig}
use Rattle.wast_signatures.specs.TypeSyntax.{sig_starts, as_use, as_bare, bare_param, bare_sig, bare_use, result, index_of}
use Rattle.wast_signatures.proofs.Uses.{inline_looked}
use Rattle.wast_typed_operands.specs.TypedTree.{Indirect}
use Rattle.wast_typed_operands.specs.UseThenTable.{use_then_table}
use Rattle.wast_typed_operands.specs.TypedSyntax.{is_written, use_starts, use_first, table_last, no_use}

module _ {N P : Type 0} (g : Reader N P (Reference N P)) (q : Reader N P (Sig N P)) (tail : Reader N P (Option (Reference N P))) where
  abbrev Rest : Type 0
  Rest = List (SignificantToken N P)

  abbrev whole : Reader N P (TypeUse N P)
  whole = map_reads as_use (seq_reads (maybe_reads type_starts g) (λ _. maybe_reads sig_starts q))

  -- what the grammar reads
  abbrev looked : Reader N P (Indirect N P)
  looked = either_reads use_starts (map_reads table_last (seq_reads (only_reads is_written whole) (λ _. tail))) (λ ts. Some (table_last (no_use, None), ts))

  -- behind a use
  abbrev pair : TypeUse N P → Option (Reference N P) × Rest → Option ((TypeUse N P × Option (Reference N P)) × Rest)
  pair u y = Some ((u, y.0), y.1)

  abbrev last : (TypeUse N P × Option (Reference N P)) × Rest → Option (Indirect N P × Rest)
  last z = Some (table_last z.0, z.1)

  abbrev behind : TypeUse N P → Option (Reference N P) × Rest → Option (Indirect N P × Rest)
  behind u y = Some (table_last (u, y.0), y.1)

  abbrev after_use : TypeUse N P × Rest → Option (Indirect N P × Rest)
  after_use x = cond (is_written x.0) (tail x.1 >>= behind x.0) (Some (table_last (x.0, None), x.1))

  abbrev that_is_written : TypeUse N P × Rest → Option (TypeUse N P × Rest)
  that_is_written x = cond (is_written x.0) (Some x) None

  abbrev then_tail : TypeUse N P × Rest → Option ((TypeUse N P × Option (Reference N P)) × Rest)
  then_tail x = tail x.1 >>= pair x.0

  at_once : (u : TypeUse N P) (o : Option (Option (Reference N P) × Rest)) → ((o >>= pair u) >>= last) ≡ (o >>= behind u)
  at_once u None = refl
  at_once u (Some y) = refl

  -- where each use that is read is written
  from_use : (w : Option (TypeUse N P × Rest)) → ((x : TypeUse N P × Rest) → w ≡ Some x → is_written x.0 ≡ true) → (((w >>= that_is_written) >>= then_tail) >>= last) ≡ (w >>= after_use)
  from_use None h = refl
  from_use (Some x) h = rw (h x refl) (at_once x.0 (tail x.1))

  -- a use with an index, and one with a signature
  abbrev both : Option (Reference N P) → Option (Sig N P) × Rest → Option ((Option (Reference N P) × Option (Sig N P)) × Rest)
  both i b = Some ((i, b.0), b.1)

  abbrev used : (Option (Reference N P) × Option (Sig N P)) × Rest → Option (TypeUse N P × Rest)
  used z = Some (as_use z.0, z.1)

  abbrev then_inline : Option (Reference N P) × Rest → Option ((Option (Reference N P) × Option (Sig N P)) × Rest)
  then_inline a = maybe_reads sig_starts q a.1 >>= both a.0

  abbrev there : {A : Type 0} → A × Rest → Option (Option A × Rest)
  there a = Some (Some a.0, a.1)

  behind_index : (i : Reference N P) (o : Option (Option (Sig N P) × Rest)) (x : TypeUse N P × Rest) → ((o >>= both (Some i)) >>= used) ≡ Some x → is_written x.0 ≡ true
  behind_index i None x e = absurd (cc)
  behind_index i (Some b) x e = ap (λ (y : TypeUse N P × Rest). is_written y.0) (sym (same_Some _ _ e))

  with_index : (o : Option (Reference N P × Rest)) (x : TypeUse N P × Rest) → (((o >>= there) >>= then_inline) >>= used) ≡ Some x → is_written x.0 ≡ true
  with_index None x e = absurd (cc)
  with_index (Some a) x e = behind_index a.0 (maybe_reads sig_starts q a.1) x e

  with_inline : (o : Option (Sig N P × Rest)) (x : TypeUse N P × Rest) → (((o >>= there) >>= both None) >>= used) ≡ Some x → is_written x.0 ≡ true
  with_inline None x e = absurd (cc)
  with_inline (Some s) x e = ap (λ (y : TypeUse N P × Rest). is_written y.0) (sym (same_Some _ _ e))

  module _ (ts : List (SignificantToken N P)) where
    by_index : ask use_starts ts ≡ Some true → ask type_starts ts ≡ Some true → looked ts ≡ (whole ts >>= after_use)
    by_index u t = rw u (from_use (whole ts) (λ x e. with_index (g ts) x (rw t at e)))

    by_inline : ask use_starts ts ≡ Some true → ask type_starts ts ≡ Some false → ask sig_starts ts ≡ Some true → looked ts ≡ (whole ts >>= after_use)
    by_inline u t s = rw u (from_use (whole ts) (λ x e. with_inline (q ts) x (rw (t, s) at e)))

    by_none : ask use_starts ts ≡ Some false → ask type_starts ts ≡ Some false → ask sig_starts ts ≡ Some false → looked ts ≡ (whole ts >>= after_use)
    by_none u t s = rw (u, t, s) refl

    asks_so : (f a b c : Bool) → at (faults type_starts) ts ≡ f → fits (this_group (codes "type")) (look ts) ≡ a → fits (this_group (codes "param")) (look ts) ≡ b → fits (this_group (codes "result")) (look ts) ≡ c → looked ts ≡ (whole ts >>= after_use)
    asks_so true a b c e t p r = rw e refl
    asks_so false true b c e t p r = by_index (rw (e, t) refl) (rw (e, t) refl)
    asks_so false false true c e t p r = by_inline (rw (e, t, p) refl) (rw (e, t) refl) (rw (e, p) refl)
    asks_so false false false true e t p r = by_inline (rw (e, t, p, r) refl) (rw (e, t) refl) (rw (e, p, r) refl)
    asks_so false false false false e t p r = by_none (rw (e, t, p, r) refl) (rw (e, t) refl) (rw (e, p, r) refl)

    use_looked : looked ts ≡ (whole ts >>= after_use)
    use_looked = asks_so _ _ _ _ refl refl refl refl

module _ {N P : Type 0} where
  abbrev type_group : Reader N P (Reference N P)
  type_group = (group (codes "type") index).reads

  abbrev table_behind : Reader N P (Option (Reference N P))
  table_behind = (maybe index_starts index).reads

  -- the signature, read where one begins
  same_behind : (r s : Reader N P (Option (Sig N P))) → ((us : List (SignificantToken N P)) → r us ≡ s us) → (o : Option (Option (Reference N P) × List (SignificantToken N P))) → map_reads as_use (seq_reads (λ _. o) (λ _. r)) [] ≡ map_reads as_use (seq_reads (λ _. o) (λ _. s)) []
  same_behind r s h None = refl
  same_behind r s h (Some a) = ap (λ (z : Option (Option (Sig N P) × List (SignificantToken N P))). (z >>= both type_group bare_sig.reads table_behind a.0) >>= used type_group bare_sig.reads table_behind) (h a.1)

  bare_looked : (ts : List (SignificantToken N P)) → bare_use.reads ts ≡ whole type_group bare_sig.reads table_behind ts
  bare_looked ts = same_behind _ _ (λ us. inline_looked as_bare bare_param.reads result.reads us) ((index_of (codes "type")).reads ts)

  abbrev asked : (ts : List (SignificantToken N P)) → Option (TypeUse N P × List (SignificantToken N P)) → Option (Indirect N P × List (SignificantToken N P))
  asked ts w = ask use_starts ts >>= λ b. cond b (((w >>= that_is_written type_group bare_sig.reads table_behind) >>= then_tail type_group bare_sig.reads table_behind) >>= last type_group bare_sig.reads table_behind) (Some (table_last (no_use, None), ts))

  -- what reading a use, and then an index where it is written, gives
  pub use_first_read : (ts : List (SignificantToken N P)) → use_first.reads ts ≡ (bare_use.reads ts >>= after_use type_group bare_sig.reads table_behind)
  use_first_read ts = ap (asked ts) (bare_looked ts) ∙ use_looked type_group bare_sig.reads table_behind ts ∙ ap (λ w. w >>= after_use type_group bare_sig.reads table_behind) (sym (bare_looked ts))

  pub use_first_reads : (ts : List (SignificantToken N P)) → use_first.reads ts ≡ use_then_table ts
  use_first_reads ts = use_first_read ts
