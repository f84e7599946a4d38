-- A composite type is read by opening each group `(shared`, what stands within, and closing each.
use Rattle.std.proofs.Common.{◌≡◌, ℕ, zero, suc, ◌-◌, true, false, List, length, ◌<◌, Option, Some, None, refl, ◌∙◌, ap, codes, arith}
use Rattle.std.proofs.lemmas.Option.{same_Some}
use Rattle.wast_grammar.specs.Tokens.{Name}
use Rattle.wast_parser.specs.Significant.{TextToken}
use Rattle.wast_parser.specs.Spelling.{◌>>=◌, that_open, that_close}
use Rattle.wast_parser.specs.Look.{ask}
use Rattle.wast_parser.specs.Grammar.{one_of, word}
use Rattle.wast_grammar.proofs.Looks.{bind_ok}
use Rattle.wast_parser.proofs.GrammarLaws.{one_open, shrinks, word_laws}
use Rattle.wast_signatures.specs.TypeTree.{CompType}
use Rattle.wast_signatures.specs.TypeSyntax.{shared_starts, comp_starts, comp_step, comp_type, as_shared}
use Rattle.wast_core_types.specs.Depths.{closed, within, opened}
use Rattle.wast_core_types.proofs.TypeLaws.{comp_steps}
use Rattle.wast_core_types.proofs.Turns.{fix_turn}

abbrev Tokens : Type 0
Tokens = List TextToken

abbrev Comp : Type 0
Comp = CompType Name ℕ

abbrev shared : List ℕ
shared = codes "shared"

-- one turn
comp_turn : (ts : Tokens) → comp_type.reads ts ≡ (comp_step comp_type).reads ts
comp_turn ts = fix_turn comp_starts false comp_step comp_steps ts

-- what is read in a group
abbrev behind : ℕ → Comp × Tokens → Option ((ℕ × Comp) × Tokens)
behind place b = Some ((place, b.0), b.1)

abbrev led : (ℕ × Comp) × Tokens → Option (Comp × Tokens)
led a = Some (a.0.1, a.1)

abbrev kept : Comp → ℕ × Tokens → Option (Comp × Tokens)
kept t c = Some (t, c.1)

abbrev closing : Comp × Tokens → Option (Comp × Tokens)
closing a = one_of that_close a.1 >>= kept a.0

abbrev marked : Comp × Tokens → Option (Comp × Tokens)
marked a = Some (as_shared a.0, a.1)

after_close : (n : ℕ) (t : Comp) (o : Option (ℕ × Tokens)) → (((o >>= kept t) >>= marked) >>= closed n) ≡ (o >>= λ c. closed n (as_shared t, c.1))
after_close n t None = refl
after_close n t (Some c) = refl

after_open : (n place : ℕ) (o : Option (Comp × Tokens)) → (((((o >>= behind place) >>= led) >>= closing) >>= marked) >>= closed n) ≡ (o >>= closed (suc n))
after_open n place None = refl
after_open n place (Some b) = after_close n b.0 (one_of that_close b.1)

abbrev worded : ℕ × Tokens → Option (Unit {0} × Tokens)
worded k = Some (tt, k.1)

abbrev then_word : ℕ × Tokens → Option (Unit {0} × Tokens)
then_word o = (word shared).reads o.1 >>= worded

pub shared_opened : (n : ℕ) (ts : Tokens) (x : Unit {0} × Tokens) → ask shared_starts ts ≡ Some true → opened shared ts ≡ Some x → within n ts ≡ within (suc n) x.1
shared_opened n ts x a e =
    let o = bind_ok (one_of that_open ts) then_word x e in
    let k = bind_ok ((word shared).reads o.0.1) worded x o.2 in
    let rest : k.0.1 ≡ x.1 = ap (λ z. z.1) (same_Some _ _ k.2) in
    rw (comp_turn ts, a, o.1, k.1) (after_open n k.0.0 (comp_type.reads k.0.1) ∙ ap (within (suc n)) rest)

pub shared_unopened : (n : ℕ) (ts : Tokens) → ask shared_starts ts ≡ Some true → opened shared ts ≡ None → within n ts ≡ None
shared_unopened n ts a e = first (one_of that_open ts) refl e
  where
    second : (o : ℕ × Tokens) → one_of that_open ts ≡ Some o → (q : Option (ℕ × Tokens)) → (word shared).reads o.1 ≡ q → (q >>= worded) ≡ None → within n ts ≡ None
    second o f None g h = rw (comp_turn ts, a, f, g) refl
    second o f (Some k) g h = cc

    first : (o : Option (ℕ × Tokens)) → one_of that_open ts ≡ o → (o >>= then_word) ≡ None → within n ts ≡ None
    first None f h = rw (comp_turn ts, a, f) refl
    first (Some o) f h = second o f ((word shared).reads o.1) refl h

-- each group takes a token
pub opened_shorter : (ts : Tokens) (x : Unit {0} × Tokens) → opened shared ts ≡ Some x → length x.1 < length ts
opened_shorter ts x e =
    let o = bind_ok (one_of that_open ts) then_word x e in
    let k = bind_ok ((word shared).reads o.0.1) worded x o.2 in
    let rest : length k.0.1 ≡ length x.1 = ap (λ z. length z.1) (same_Some _ _ k.2) in
    let front : length ts ≡ suc (length o.0.1) = ap length (one_open ts o.0 o.1) in
    let less = shrinks (word shared) (word_laws shared) refl refl o.0.1 k.0 k.1 in
    omega (arith, rest, front, less)

-- no group is open
pub within_none : (ts : Tokens) → within 0 ts ≡ comp_type.reads ts
within_none ts = as_is (comp_type.reads ts)
  where
    as_is : (o : Option (Comp × Tokens)) → (o >>= closed 0) ≡ o
    as_is None = refl
    as_is (Some x) = refl

-- one of the groups closes
pub closed_one : (left : ℕ) (t : Comp) (ts us : Tokens) (p : ℕ) → 0 < left → one_of that_close ts ≡ Some (p, us) → closed (left - 1) (as_shared t, us) ≡ closed left (t, ts)
closed_one zero t ts us p l e = let no : ⊥ = omega (arith, l) in absurd no
closed_one (suc m) t ts us p l e = let k : suc m - 1 ≡ m = omega arith in rw (k, e) refl
