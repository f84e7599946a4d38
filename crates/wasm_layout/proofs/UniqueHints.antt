-- Branch hints are had back from the places of their instructions.
use Rattle.std.proofs.Common.{ℕ, zero, suc, ◌≡◌, ◌<◌, List, [], ◌∷◌, ◌++◌, map, length, take, replicate, slice_get, Some, None, refl, sym, ap, ◌∙◌, subst, arith, flat_map, length-append}
use Rattle.std.specs.List.{AllByRecursion}
use Rattle.std.specs.Option.{option_flatten}
use Rattle.std.proofs.lemmas.Option.{none-some, same_Some}
use Rattle.wasm_encoder_base.specs.Instr.{Instr, IsInstr, instr_bytes}
use Rattle.wasm_encoder_base.proofs.UniqueInstr.{injective_expr}
use Rattle.wasm_encoder_base.proofs.UniqueParts.{cons_head, cons_tail, no_cons}
use Rattle.wasm_encoder_code.specs.Body.{place_of}
use Rattle.wasm_layout.specs.AbstractModule.{Function, Hint, FunctionHints, AbstractModule}
use Rattle.wasm_layout.specs.Layout.{imported_count, function_at, placed, placed_in, placed_hints}
use Rattle.wasm_layout.specs.IsModule.{IsFunction, IsHint, AreHints}

-- no two instructions begin at one place
instr_some : (i : Instr) → IsInstr i → 0 < length (instr_bytes i)
instr_some i p = filled (instr_bytes i) (λ e. no_cons (injective_expr.reads (i ∷ []) [] (p, tt) tt (ap (λ v. (v ++ []) ++ 0x0B ∷ []) e)))
  where
    filled : (xs : List ℕ) → (xs ≡ [] → ⊥) → 0 < length xs
    filled [] f = absurd (f refl)
    filled (x ∷ xs) f = omega arith

before : List Instr → ℕ → ℕ
before is k = length (flat_map instr_bytes (take k is))

places_apart : (is : List Instr) (j k : ℕ) → AllByRecursion IsInstr is → j < length is → k < length is → before is j ≡ before is k → j ≡ k
unfolding before
places_apart [] j k p a b h = absurd (omega arith)
places_apart (i ∷ is) zero zero p a b h = refl
places_apart (i ∷ is) zero (suc k) p a b h = absurd (omega (arith, instr_some i p.0, length-append (instr_bytes i) (flat_map instr_bytes (take k is))))
places_apart (i ∷ is) (suc j) zero p a b h = absurd (omega (arith, instr_some i p.0, length-append (instr_bytes i) (flat_map instr_bytes (take j is))))
places_apart (i ∷ is) (suc j) (suc k) p a b h =
    ap suc (places_apart is j k p.1 (omega arith) (omega arith) (omega (arith, length-append (instr_bytes i) (flat_map instr_bytes (take j is)), length-append (instr_bytes i) (flat_map instr_bytes (take k is)))))

place_one : (f : Function) → IsFunction f → (j k : ℕ) → j < length f.body.instructions → k < length f.body.instructions → place_of f.body j ≡ place_of f.body k → j ≡ k
unfolding before
place_one f p j k a b e = places_apart f.body.instructions j k p.body.instructions a b (omega (arith, e))

hints_one : (f : Function) → IsFunction f → (hs ks : List Hint) → AllByRecursion (IsHint f) hs → AllByRecursion (IsHint f) ks → map (placed f.body) hs ≡ map (placed f.body) ks → hs ≡ ks
hints_one f p [] [] a b e = refl
hints_one f p [] (k ∷ ks) a b e = no_cons (sym e)
hints_one f p (h ∷ hs) [] a b e = no_cons e
hints_one f p (h ∷ hs) (k ∷ ks) a b e =
    let index = place_one f p h.index k.index a.0.index b.0.index (ap (λ v. v.branch_func_offset) (cons_head e)) in
    let rest = hints_one f p hs ks a.1 b.1 (cons_tail e) in
    λ i. record { index = index i; value = (cons_head e i).branch_hint_value } ∷ rest i

-- a function that has a body is one of the module
in_functions : (fs : List Function) → AllByRecursion IsFunction fs → (n : ℕ) (f : Function) → option_flatten (slice_get (map Some fs) n) ≡ Some f → IsFunction f
in_functions [] h n f e = absurd (none-some _ e)
in_functions (g ∷ gs) h zero f e = subst IsFunction (same_Some _ _ e) h.0
in_functions (g ∷ gs) h (suc n) f e = in_functions gs h.1 n f e

in_module : (k : ℕ) (fs : List Function) → AllByRecursion IsFunction fs → (n : ℕ) (f : Function) → option_flatten (slice_get (replicate k None ++ map Some fs) n) ≡ Some f → IsFunction f
in_module zero fs h n f e = in_functions fs h n f e
in_module (suc k) fs h zero f e = absurd (none-some _ e)
in_module (suc k) fs h (suc n) f e = in_module k fs h n f e

-- the hints of functions, as they are where functions are at their numbers
module _ (m : AbstractModule (List ℕ)) (own : AllByRecursion IsFunction m.functions) where
  record AreAt (g : FunctionHints) : Type 0 where
    function : Function
    is_at : function_at m g.function ≡ Some function
    each : AllByRecursion (IsHint function) g.hints

  known : (g : FunctionHints) (f : Function) → function_at m g.function ≡ Some f → placed_in (function_at m g.function) g.hints ≡ map (placed f.body) g.hints
  known g f e = ap (λ o. placed_in o g.hints) e

  group_one : (g h : FunctionHints) → AreAt g → AreAt h → placed_hints (function_at m) g ≡ placed_hints (function_at m) h → g ≡ h
  group_one g h p q e =
      let number : g.function ≡ h.function = ap (λ v. v.function_index) e in
      let same : p.function ≡ q.function = same_Some _ _ (sym p.is_at ∙ ap (function_at m) number ∙ q.is_at) in
      let hints = hints_one p.function (in_module (imported_count m) m.functions own g.function p.function p.is_at) g.hints h.hints p.each (subst (λ f. AllByRecursion (IsHint f) h.hints) (sym same) q.each)
      (sym (known g p.function p.is_at) ∙ ap (λ v. v.hints) e ∙ known h q.function q.is_at ∙ ap (λ f. map (placed f.body) h.hints) (sym same)) in
      λ i. record { function = number i; hints = hints i }

  groups_one : (gs hs : List FunctionHints) → AllByRecursion AreAt gs → AllByRecursion AreAt hs → map (placed_hints (function_at m)) gs ≡ map (placed_hints (function_at m)) hs → gs ≡ hs
  groups_one [] [] p q e = refl
  groups_one [] (h ∷ hs) p q e = no_cons (sym e)
  groups_one (g ∷ gs) [] p q e = no_cons e
  groups_one (g ∷ gs) (h ∷ hs) p q e =
      let first = group_one g h p.0 q.0 (cons_head e) in
      let rest = groups_one gs hs p.1 q.1 (cons_tail e) in
      λ i. first i ∷ rest i

-- the hints of a module whose functions are the same
are_at : (m n : AbstractModule (List ℕ)) (own : AllByRecursion IsFunction m.functions) → function_at n ≡ function_at m → (gs : List FunctionHints) → AllByRecursion (AreHints n) gs → AllByRecursion (AreAt m own) gs
are_at m n own same [] h = tt
are_at m n own same (g ∷ gs) h = (record { function = h.0.function; is_at = ap (λ at. at g.function) (sym same) ∙ h.0.is_at; each = h.0.each }, are_at m n own same gs h.1)

pub hints_back : (m n : AbstractModule (List ℕ)) → AllByRecursion IsFunction m.functions → function_at n ≡ function_at m → AllByRecursion (AreHints m) m.hints → AllByRecursion (AreHints n) n.hints →
    map (placed_hints (function_at m)) m.hints ≡ map (placed_hints (function_at n)) n.hints → m.hints ≡ n.hints
hints_back m n own same p q e =
    groups_one m own m.hints n.hints (are_at m m own refl m.hints p) (are_at m n own same n.hints q) (e ∙ ap (λ at. map (placed_hints at) n.hints) same)
