-- Each turn takes a token.
use Rattle.std.specs.Prelude.{codes}
use Rattle.std.proofs.Common.{◌≡◌, ℕ, suc, ◌≤◌, ◌<◌, ◌+◌, Bool, true, false, List, [], ◌∷◌, ◌++◌, length, Option, Some, None, refl, ◌∙◌, ap, subst, arith, cond, length-append}
use Rattle.std.proofs.lemmas.Option.{same_Some}
use Rattle.wast_grammar.specs.Tokens.{SignificantToken}
use Rattle.wast_grammar.specs.Spelling.{◌>>=◌, that_open, that_close, that_one}
use Rattle.wast_grammar.specs.Look.{ask}
use Rattle.wast_grammar.specs.Grammar.{Syntax, maybe, one_of}
use Rattle.wast_grammar.specs.Lawful.{Lawful, LawfulBut}
use Rattle.wast_expressions.specs.Items.{Made, either_hint}
use Rattle.wast_expressions.specs.Expressions.{GroupKind, OfOperands, OfBlock, OfArms, Heads, hint_tests, hint, ins_tests, group_tests, item_tests, else_tests, one_ins}
use Rattle.wast_expressions.specs.Machine.{Level, EndWith, BlockEnd, Conditions, Arm, AfterThen, AfterElse, State, state, both_hints, headed, open_group, one_item, close_items, row_turn, then_turn, end_turn, turn, step, folded_head, plain_turn}
use Rattle.wast_grammar.proofs.Looks.{bind_ok}
use Rattle.wast_expressions.proofs.ExpressionLaws.{maybe_hint_laws}
use Rattle.wast_expressions.proofs.ReadLaws.{shrinks_but}

-- What is read is no longer.
no_longer : {N P A : Type 0} (g : Syntax N P A) → Lawful g → (ts : List (SignificantToken N P)) (x : A × List (SignificantToken N P)) → g.reads ts ≡ Some x → length x.1 ≤ length ts
no_longer g lg ts x e =
    let s = lg.sound ts x e in
    let l : length ts ≡ length s.taken + length x.1 = ap length s.parts ∙ length-append s.taken x.1 in
    omega arith

one_less : {N P A : Type 0} (f : SignificantToken N P → Option A) (ts : List (SignificantToken N P)) (x : A × List (SignificantToken N P)) → one_of f ts ≡ Some x → length x.1 < length ts
one_less f [] x e = cc
one_less {N} {P} {A} f (t ∷ ts) x e =
    let b = bind_ok (f t) (λ a. Some (a, ts)) x e in
    subst (λ (z : A × List (SignificantToken N P)). length z.1 < suc (length ts)) (same_Some (b.0, ts) x b.2) (omega arith)

module _ {N P I : Type 0} (ins : Syntax N P I) (heads : Heads I) (m : Made P I) (li : LawfulBut (one_ins ins heads) heads.own) where
  -- the states that have fewer tokens than n
  abbrev Less : ℕ → Option (State N P I) → Type 0
  Less n None = Unit {0}
  Less n (Some t) = length t.rest < n

  -- what comes to states with fewer, by what is read first
  through : {A : Type 0} (n : ℕ) (o : Option A) (f : A → Option (State N P I)) → ((a : A) → o ≡ Some a → Less n (f a)) → Less n (o >>= f)
  through n None f h = tt
  through n (Some a) f h = h a refl

  if_so : (n : ℕ) (b : Bool) (x y : Option (State N P I)) → Less n x → Less n y → Less n (cond b x y)
  if_so n true x y h k = h
  if_so n false x y h k = k

  ins_less : (ts : List (SignificantToken N P)) (x : I × List (SignificantToken N P)) → (one_ins ins heads).reads ts ≡ Some x → length x.1 < length ts
  ins_less = shrinks_but (one_ins ins heads) heads.own li refl refl

  headed_rest : (kind : GroupKind) (st : List (Level I)) (out : List (Option ℕ × I)) (h : Option ℕ) (i : I) (r : List (SignificantToken N P)) → (headed ins heads m kind st out h i r).rest ≡ r
  headed_rest OfOperands st out h i r = refl
  headed_rest OfBlock st out h i r = refl
  headed_rest OfArms st out h i r = refl

  open_less : (st : List (Level I)) (out : List (Option ℕ × I)) (h : Option ℕ) (ts : List (SignificantToken N P)) (n : ℕ) → length ts ≤ n → Less n (open_group ins heads m st out h ts)
  open_less st out h ts n b =
      through n (one_of that_open ts) _ (λ o e. through n ((one_ins ins heads).reads o.1) _ (λ i f.
      let x = one_less that_open ts o e in
      let y = ins_less o.1 i f in
      let z = ap length (headed_rest (heads.kind i.0) st out h i.0 i.1) in
      omega (arith, x, y, z, b)))

  item_less : (st : List (Level I)) (out : List (Option ℕ × I)) (ts : List (SignificantToken N P)) → Less (length ts) (one_item ins heads m st out ts)
  item_less st out ts =
      through (length ts) ((maybe hint_tests hint).reads ts) _ (λ h e.
      let x = no_longer (maybe hint_tests hint) maybe_hint_laws ts h e in
      through (length ts) (ask (ins_tests heads) h.1) _ (λ b g. if_so (length ts) b _ _
      (through (length ts) ((one_ins ins heads).reads h.1) _ (λ i f. let y = ins_less h.1 i f in omega (arith, x, y)))
      (open_less st out h.0 h.1 (length ts) x)))

  close_less : (ts : List (SignificantToken N P)) (f : P × List (SignificantToken N P) → State N P I) → ((c : P × List (SignificantToken N P)) → (f c).rest ≡ c.1) → Less (length ts) (one_of that_close ts >>= λ c. Some (f c))
  close_less ts f h = through (length ts) (one_of that_close ts) _ (λ c e. let x = one_less that_close ts c e in let z = ap length (h c) in omega (arith, x, z))

  closes_less : (st : List (Level I)) (out : List (Option ℕ × I)) (ts : List (SignificantToken N P)) → Less (length ts) (close_items ins heads m st out ts)
  closes_less [] out ts = tt
  closes_less (EndWith h i ∷ st) out ts = close_less ts (λ c. state st (out ++ (h, i) ∷ []) c.1) (λ c. refl)
  closes_less (BlockEnd ∷ st) out ts = close_less ts (λ c. state st (out ++ (None, m.end_at c.0) ∷ []) c.1) (λ c. refl)
  closes_less (Arm ∷ st) out ts = close_less ts (λ c. state st out c.1) (λ c. refl)
  closes_less (Conditions h i ∷ st) out ts = tt
  closes_less (AfterThen ∷ st) out ts = tt
  closes_less (AfterElse ∷ st) out ts = tt

  row_less : (st : List (Level I)) (out : List (Option ℕ × I)) (ts : List (SignificantToken N P)) → Less (length ts) (row_turn ins heads m st out ts)
  row_less st out ts = through (length ts) (ask (item_tests heads) ts) _ (λ b e. if_so (length ts) b _ _ (item_less st out ts) (closes_less st out ts))

  words_less : (v : List ℕ) (ts us : List (SignificantToken N P)) (f : P × List (SignificantToken N P) → State N P I) → ((c : P × List (SignificantToken N P)) → (f c).rest ≡ c.1) → length us ≤ length ts → Less (length ts) (one_of that_open us >>= λ o. one_of (that_one v) o.1 >>= λ w. Some (f w))
  words_less v ts us f h l = through (length ts) (one_of that_open us) _ (λ o e. through (length ts) (one_of (that_one v) o.1) _ (λ w g.
      let x = one_less that_open us o e in
      let y = one_less (that_one v) o.1 w g in
      let z = ap length (h w) in
      omega (arith, x, y, z, l)))

  then_less : (h : Option ℕ) (i : I) (st : List (Level I)) (out : List (Option ℕ × I)) (ts : List (SignificantToken N P)) → Less (length ts) (then_turn ins heads m h i st out ts)
  then_less h i st out ts = through (length ts) ((maybe hint_tests hint).reads ts) _ (λ g e. if_so (length ts) (both_hints h g.0) _ _ tt
      (words_less (codes "then") ts g.1 (λ w. state (Arm ∷ AfterThen ∷ st) (out ++ (either_hint h g.0, i) ∷ []) w.1) (λ w. refl) (no_longer (maybe hint_tests hint) maybe_hint_laws ts g e)))

  end_less : (st : List (Level I)) (out : List (Option ℕ × I)) (ts : List (SignificantToken N P)) → Less (length ts) (end_turn ins heads m st out ts)
  end_less st out ts = close_less ts (λ c. state st (out ++ (None, m.end_at c.0) ∷ []) c.1) (λ c. refl)

  turn_less : (st : List (Level I)) (out : List (Option ℕ × I)) (ts : List (SignificantToken N P)) → Less (length ts) (turn ins heads m st out ts)
  turn_less (Conditions h i ∷ st) out ts = through (length ts) (ask (group_tests heads) ts) _ (λ b e. if_so (length ts) b _ _ (open_less (Conditions h i ∷ st) out None ts (length ts) (omega arith)) (then_less h i st out ts))
  turn_less (AfterThen ∷ st) out ts = through (length ts) (ask else_tests ts) _ (λ b e. if_so (length ts) b _ _ (words_less (codes "else") ts ts (λ w. state (Arm ∷ AfterElse ∷ st) (out ++ (None, m.else_at w.0) ∷ []) w.1) (λ w. refl) (omega arith)) (end_less st out ts))
  turn_less (AfterElse ∷ st) out ts = end_less st out ts
  turn_less [] out ts = row_less [] out ts
  turn_less (EndWith h i ∷ st) out ts = row_less (EndWith h i ∷ st) out ts
  turn_less (BlockEnd ∷ st) out ts = row_less (BlockEnd ∷ st) out ts
  turn_less (Arm ∷ st) out ts = row_less (Arm ∷ st) out ts

  -- That the loop makes no more turns than it takes tokens, and one more, rests on this.
  pub step_less : (s t : State N P I) → step ins heads m s ≡ Some t → length t.rest < length s.rest
  step_less s t e = subst (Less (length s.rest)) e (turn_less s.stack s.out s.rest)

  -- the same of plain groups
  folded_less : (st : List (Level I)) (out : List (Option ℕ × I)) (ts : List (SignificantToken N P)) → Less (length ts) (folded_head ins heads st out ts)
  folded_less st out ts =
      through (length ts) (one_of that_open ts) _ (λ o e. through (length ts) ((one_ins ins heads).reads o.1) _ (λ i f.
      let x = one_less that_open ts o e in
      let y = ins_less o.1 i f in
      omega (arith, x, y)))

  plain_less : (st : List (Level I)) (out : List (Option ℕ × I)) (ts : List (SignificantToken N P)) → Less (length ts) (plain_turn ins heads m st out ts)
  plain_less [] out ts = tt
  plain_less (l ∷ st) out ts = through (length ts) (ask (group_tests heads) ts) _ (λ b e. if_so (length ts) b _ _ (folded_less (l ∷ st) out ts) (closes_less (l ∷ st) out ts))

  pub plain_step_less : (s t : State N P I) → plain_turn ins heads m s.stack s.out s.rest ≡ Some t → length t.rest < length s.rest
  plain_step_less s t e = subst (Less (length s.rest)) e (plain_less s.stack s.out s.rest)
