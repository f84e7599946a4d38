-- Labels of open blocks, counted backward.
use Rattle.std.proofs.Common.{◌≡◌, ℕ, zero, suc, ◌+◌, ◌-◌, ◌<◌, ◌≤◌, Bool, true, false, ◌||◌, List, ◌∷◌, ◌++◌, [], Option, map, reverse, take, length, get_or, refl, sym, ◌∙◌, ap, arith}
use Rattle.std.specs.List.{list_any}
use Rattle.std.proofs.lemmas.List.{take_more}
use Rattle.wasm_encoder_base.specs.Balanced.{Turn, Opens, Closes, Stays}
use Rattle.wast_grammar.specs.Tokens.{Name}
use Rattle.wast_grammar.specs.Spelling.{same_name}
use Rattle.wast_parser.specs.Identifiers.{Named}
use Rattle.wast_core_instr.specs.InstructionTree.{Instruction}
use Rattle.wast_names.specs.Position.{bears}
use Rattle.wast_names.specs.Space.{name_in}
use Rattle.wast_meaning.specs.Scope.{turn_of_head, own_label, labels_from, turned}
use Rattle.wast_bound.specs.Bound.{closed_before}
use Rattle.wast_bound.proofs.Walked.{last_first}

abbrev pub borne : Name → List (Option (Named Name ℕ)) → Bool
borne n labels = list_any (bears same_name n) (map name_in labels)

-- AN INSTRUCTION ITSELF
or_false : (b : Bool) → b ≡ (b || false)
or_false true = refl
or_false false = refl

one_opened : (n : Name) (t : Turn) (label : Option (Named Name ℕ)) (closed : ℕ) → closed ≤ 0 → Opens ≡ t → bears same_name n (name_in label) ≡ borne n (turned t label closed (λ outside. []))
one_opened n t label zero le e = or_false (bears same_name n (name_in label)) ∙ ap (λ u. borne n (turned u label 0 (λ outside. []))) e
one_opened n t label (suc k) le e = absurd (omega (arith, le))

pub borne_opened : (n : Name) (t : Turn) (own label : Option (Named Name ℕ)) (closed : ℕ) → closed ≤ 0 → Opens ≡ t → own ≡ label → bears same_name n (name_in own) ≡ borne n (turned t label closed (λ outside. []))
borne_opened n t own label closed le opens same = ap (λ l. bears same_name n (name_in l)) same ∙ one_opened n t label closed le opens

pub closes_none : (n : Name) (t : Turn) (label : Option (Named Name ℕ)) (closed : ℕ) → Closes ≡ t → false ≡ borne n (turned t label closed (λ outside. []))
closes_none n t label closed e = ap (λ u. borne n (turned u label closed (λ outside. []))) e

pub stays_none : (n : Name) (t : Turn) (label : Option (Named Name ℕ)) (closed : ℕ) → Stays ≡ t → false ≡ borne n (turned t label closed (λ outside. []))
stays_none n t label closed e = ap (λ u. borne n (turned u label closed (λ outside. []))) e

-- AN INSTRUCTION BEHIND OTHERS
apart : (n : Name) (t : Turn) (label : Option (Named Name ℕ)) (closed : ℕ) (outside : ℕ → List (Option (Named Name ℕ)))
    → borne n (turned t label closed outside) ≡ (borne n (turned t label closed (λ m. [])) || borne n (outside (closed_before t closed)))
apart n Opens label zero outside = ap (λ b. b || borne n (outside 0)) (or_false (bears same_name n (name_in label)))
apart n Opens label (suc k) outside = let less : k ≡ suc k - 1 = omega arith in ap (λ m. borne n (outside m)) less
apart n Closes label closed outside = let more : suc closed ≡ closed + 1 = omega arith in ap (λ m. borne n (outside m)) more
apart n Stays label closed outside = refl

pub few_more : (t : Turn) (closed : ℕ) → closed_before t closed ≤ closed + 1
few_more Opens closed = omega arith
few_more Closes closed = omega arith
few_more Stays closed = omega arith

-- A loop over xs from their end, where x is the one before the k-th.
module _ {X : Type 0} (view : X → Instruction Name ℕ) (n : Name) (xs : List X) where
  abbrev turn : X → Turn
  turn x = turn_of_head (view x).head

  -- whether one that is open behind these is borne, and one that x opens
  abbrev pub open_behind : List X → ℕ → Bool
  open_behind is closed = borne n (labels_from (reverse (map view is)) closed)

  abbrev pub opened : X → ℕ → Bool
  opened x closed = borne n (turned (turn x) (own_label (view x).operands) closed (λ outside. []))

  one_more : (k : ℕ) (x : X) (closed : ℕ) → k < length xs → x ≡ get_or xs k x → open_behind (take (k + 1) xs) closed ≡ (opened x closed || open_behind (take k xs) (closed_before (turn x) closed))
  one_more k x closed lt at =
      ap (λ is. open_behind is closed) (take_more xs k x lt ∙ ap (λ y. take k xs ++ y ∷ []) (sym at))
      ∙ ap (λ is. borne n (labels_from is closed)) (last_first view (take k xs) x)
      ∙ apart n (turn x) (own_label (view x).operands) closed (labels_from (reverse (map view (take k xs))))

  at_last : (k : ℕ) (x : X) (closed : ℕ) → 0 < k → k ≤ length xs → x ≡ get_or xs (k - 1) x → open_behind (take k xs) closed ≡ (opened x closed || open_behind (take (k - 1) xs) (closed_before (turn x) closed))
  at_last k x closed pos le at =
      let same : k ≡ (k - 1) + 1 = omega (arith, pos) in
      ap (λ m. open_behind (take m xs) closed) same ∙ one_more (k - 1) x closed (omega (arith, pos, le)) at

  pub open_goes : (k : ℕ) (x : X) (closed : ℕ) (whole : Bool) → 0 < k → k ≤ length xs → x ≡ get_or xs (k - 1) x → false ≡ opened x closed → open_behind (take k xs) closed ≡ whole
      → open_behind (take (k - 1) xs) (closed_before (turn x) closed) ≡ whole
  open_goes k x closed whole pos le at none l = ap (λ b. b || open_behind (take (k - 1) xs) (closed_before (turn x) closed)) none ∙ sym (at_last k x closed pos le at) ∙ l

  pub open_found : (k : ℕ) (x : X) (closed : ℕ) (whole : Bool) → 0 < k → k ≤ length xs → x ≡ get_or xs (k - 1) x → true ≡ opened x closed → open_behind (take k xs) closed ≡ whole → true ≡ whole
  open_found k x closed whole pos le at one l = ap (λ b. b || open_behind (take (k - 1) xs) (closed_before (turn x) closed)) one ∙ sym (at_last k x closed pos le at) ∙ l

  pub open_ends : (k : ℕ) (closed : ℕ) (whole : Bool) → k ≤ 0 → open_behind (take k xs) closed ≡ whole → false ≡ whole
  open_ends zero closed whole le l = l
  open_ends (suc k) closed whole le l = absurd (omega (arith, le))
