-- States before and after.
use Rattle.std.proofs.Common.{Bool, Result, ◌≡◌, ◌≤◌, Option, Some, None, subst, ◌+◌, inl, inr, [], ◌∷◌, List, ℕ, ◌∙◌, ap, refl, sym, arith}
use Rattle.wast_grammar.specs.Tokens.{Name, Broken}
use Rattle.wast_parser_base.specs.Problem.{Problem}
use Rattle.wast_parser_core.specs.State.{Source, State, ahead, slack, Keeps, KeepsWith, knowing}
use Rattle.wast_grammar.specs.Grammar.{Reader}
use Rattle.wast_parser_core.specs.Reading.{Refuses, Asks}

pub keeps_trans : (a b c : State) → Keeps a b → Keeps b c → Keeps a c
keeps_trans a b c p q = record { source = q.source ∙ p.source; names = q.names ∙ p.names; depth = q.depth ∙ p.depth; onward = omega (arith, p.onward, q.onward); tight = omega (arith, p.tight, q.tight) }

pub keeps_self : (a : State) → Keeps a a
keeps_self a = record { source = refl; names = refl; depth = refl; onward = omega arith; tight = omega arith }

-- what is read inside parentheses
pub keeps_in : (old s t : State) → s ≡ record old { at = s.at; depth = old.depth + 1 } → old.at ≤ s.at → slack s ≤ slack old → Keeps s t → Keeps (record old { depth = t.depth }) t
keeps_in old s t e l m q = record { source = q.source ∙ ap (λ z. z.source) e; names = q.names ∙ ap (λ z. z.names) e; depth = refl; onward = omega (arith, l, q.onward); tight = omega (arith, m, q.tight) }

-- where no name is registered too
pub keeps_plain : (more : List (List ℕ)) (a b : State) → more ≡ [] → KeepsWith more a b → Keeps a b
keeps_plain more a b e k = subst (λ m. KeepsWith m a b) e k

-- what registers no name is read by the names that are registered
pub read_plain : {A : Type 0} (more : List (List ℕ)) (reads : Reader Name ℕ A) (a : A) (old new : State) → more ≡ [] → reads (ahead (knowing more old)) ≡ Some (a, ahead (knowing more new)) → reads (ahead old) ≡ Some (a, ahead new)
read_plain more reads a old new e h = subst (λ m. reads (ahead (knowing m old)) ≡ Some (a, ahead (knowing m new))) e h

pub refused_plain : {A : Type 0} (more : List (List ℕ)) (reads : Reader Name ℕ A) (p : Problem) (old : State) → more ≡ [] → Refuses p (reads (ahead (knowing more old))) → Refuses p (reads (ahead old))
refused_plain more reads p old e h = subst (λ m. Refuses p (reads (ahead (knowing m old)))) e h

-- a refusal of what comes next is one of all
pub refuses_all : {X Y : Type 0} (p : Problem) (o : Option X) (q : Option Y) → (o ≡ None → q ≡ None) → Refuses p o → Refuses p q
refuses_all p o q f r = elim r [ inl m ↦ inl m | inr n ↦ inr (f n) ]

-- no end is there
pub stuck_end : (s : State) → ahead s ≡ Broken ∷ [] → ahead s ≡ [] → ⊥
stuck_end s b e = let q : Broken ∷ [] ≡ [] = sym b ∙ e in cc

pub asks_so : (r : Result Bool Problem) (s t : Source) (o q : Option Bool) → s ≡ t → o ≡ q → Asks r s o → Asks r t q
asks_so r s t o q e f a = subst (Asks r t) f (subst (λ z. Asks r z o) e a)
