-- What is read in parts.
use Rattle.std.proofs.Common.{◌≡◌, Bool, true, false, List, Option, Some, None, Result, Ok, Err, inl, inr, refl, ◌∙◌, ap}
use Rattle.std.proofs.lemmas.Option.{same_Some}
use Rattle.wast_value_types.specs.Tokens.{SignificantToken}
use Rattle.wast_value_types.specs.Problem.{Problem}
use Rattle.wast_value_types.specs.Spelling.{◌>>=◌}
use Rattle.wast_value_types.specs.Look.{Test, ask}
use Rattle.wast_value_types.specs.Grammar.{Reader, map_reads, seq_reads, maybe_reads, either_reads}
use Rattle.wast_value_types.specs.State.{State}
use Rattle.wast_value_types.specs.Reading.{Gives}
use Rattle.wast_value_types.specs.Significant.{TextToken}

none_some : {X Y : Type 0} {x : X} → None ≡ Some x → Y
none_some e = cc

some_none : {X Y : Type 0} {x : X} → Some x ≡ None → Y
some_none e = cc

-- a choice, and what one of its parts begins with
module _ {N P A B C : Type 0} (starts : List Test) (f : A × B → C) (g : Reader N P A) (h : Reader N P B) (k : Reader N P C) (ts : List (SignificantToken N P)) where
  abbrev chosen : Option (C × List (SignificantToken N P))
  chosen = either_reads starts (map_reads f (seq_reads g (λ _. h))) k ts

  abbrev there : A × List (SignificantToken N P) → Option (Option A × List (SignificantToken N P))
  there a = Some (Some a.0, a.1)

  pub no_choice : maybe_reads starts g ts ≡ None → chosen ≡ None
  no_choice e = asked (ask starts ts) refl e
    where
      begun : (q : Option (A × List (SignificantToken N P))) → g ts ≡ q → ask starts ts ≡ Some true → (q >>= there) ≡ None → chosen ≡ None
      begun None d a e = rw (a, d) refl
      begun (Some x) d a e = some_none e

      asked : (o : Option Bool) → ask starts ts ≡ o → maybe_reads starts g ts ≡ None → chosen ≡ None
      asked None a e = rw a refl
      asked (Some true) a e = begun (g ts) refl a (rw a at e)
      asked (Some false) a e = some_none (rw a at e)

  pub first_chosen : (a : A) (us : List (SignificantToken N P)) → maybe_reads starts g ts ≡ Some (Some a, us) → chosen ≡ map_reads (λ b. f (a, b)) h us
  first_chosen a us e = asked (ask starts ts) refl e
    where
      after : (x : A × List (SignificantToken N P)) (o : Option (B × List (SignificantToken N P))) → h x.1 ≡ o → g ts ≡ Some x → ask starts ts ≡ Some true → chosen ≡ map_reads (λ b. f (x.0, b)) h x.1
      after x None i d w = rw (w, d, i) refl
      after x (Some b) i d w = rw (w, d, i) refl

      begun : (q : Option (A × List (SignificantToken N P))) → g ts ≡ q → ask starts ts ≡ Some true → (q >>= there) ≡ Some (Some a, us) → chosen ≡ map_reads (λ b. f (a, b)) h us
      begun None d w e = none_some e
      begun (Some x) d w e =
          let q : (Some x.0, x.1) ≡ (Some a, us) = same_Some _ _ e in
          let i : x.0 ≡ a = same_Some _ _ (ap (λ z. z.0) q) in
          let j : x.1 ≡ us = ap (λ z. z.1) q in
          after x (h x.1) refl d w ∙ ap (λ z. map_reads (λ b. f (z, b)) h x.1) i ∙ ap (map_reads (λ b. f (a, b)) h) j

      asked : (o : Option Bool) → ask starts ts ≡ o → maybe_reads starts g ts ≡ Some (Some a, us) → chosen ≡ map_reads (λ b. f (a, b)) h us
      asked None w e = none_some (rw w at e)
      asked (Some true) w e = begun (g ts) refl w (rw w at e)
      asked (Some false) w e = none_some (ap (λ z. z.0) (same_Some _ _ (rw w at e)))

  pub second_chosen : (us : List (SignificantToken N P)) → maybe_reads starts g ts ≡ Some (None, us) → chosen ≡ k us
  second_chosen us e = asked (ask starts ts) refl e
    where
      begun : (q : Option (A × List (SignificantToken N P))) → (q >>= there) ≡ Some (None, us) → chosen ≡ k us
      begun None e = none_some e
      begun (Some x) e = some_none (ap (λ z. z.0) (same_Some _ _ e))

      asked : (o : Option Bool) → ask starts ts ≡ o → maybe_reads starts g ts ≡ Some (None, us) → chosen ≡ k us
      asked None w e = none_some (rw w at e)
      asked (Some true) w e = begun (g ts) (rw w at e)
      asked (Some false) w e = let j : ts ≡ us = ap (λ z. z.1) (same_Some _ _ (rw w at e)) in rw w (ap k j)

-- what comes second, read in another way
pub second_so : {N P A B : Type 0} (g : Reader N P A) (h k : Reader N P B) (ts : List (SignificantToken N P)) → ((us : List (SignificantToken N P)) → h us ≡ k us) → seq_reads g (λ _. h) ts ≡ seq_reads g (λ _. k) ts
second_so {N} {P} {A} {B} g h k ts same = by (g ts) refl
  where
    by : (o : Option (A × List (SignificantToken N P))) → g ts ≡ o → seq_reads g (λ _. h) ts ≡ seq_reads g (λ _. k) ts
    by None e = rw e refl
    by (Some a) e = rw (e, same a.1) refl

-- seen as another value
pub gives_seen : {X Y Z : Type 0} (view : X → Y) (f : Y → Z) (r : Result X Problem) (s : State) (read : Option (Y × List TextToken)) → Gives view r s read → Gives (λ x. f (view x)) r s (read >>= λ a. Some (f a.0, a.1))
gives_seen view f (Ok x) s read h = rw h refl
gives_seen view f (Err p) s read h = elim h [ inl m ↦ inl m | inr n ↦ inr (rw n refl) ]
