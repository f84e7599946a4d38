-- Open blocks and the levels of names.
use Rattle.std.proofs.Common.{◌≡◌, ℕ, ◌+◌, ◌-◌, ◌<◌, suc, List, [], ◌∷◌, ◌++◌, Option, Some, None, Bool, true, false, map, length, reverse, take, refl, sym, subst, ◌∙◌, ap, arith}
use Rattle.std.specs.Prelude.{if◌then◌else◌, is_some, option_map, option_and_then, Result, Ok, Err, OnOk, OnErr}
use Rattle.std.specs.BTreeMap.{BTreeMap}
use Rattle.std.specs.List.{position_from}
use Rattle.std.specs.Cmp.Lexicographic.{bytes_decides}
use Rattle.std.proofs.lemmas.Bool.Decides.{Decides-eqb}
use Rattle.std.proofs.lemmas.List.{reverse-append, length-map, length-append, take_all, take-append-le}
use Rattle.wast_grammar.specs.Tokens.{Name}
use Rattle.wast_grammar.specs.Spelling.{same_name}
use Rattle.wast_parser.specs.Identifier.{Identifier}
use Rattle.wast_parser.specs.Identifiers.{Named, identifier_tree}
use Rattle.wast_names.specs.Position.{bears, position}
use Rattle.wast_names.specs.Space.{name_in}
use Rattle.wast_names.proofs.Order.{alike_names}
use Rattle.wast_scopes.specs.declared.block.OpenBlock.{OpenBlock}
use Rattle.wast_scopes.specs.Open.{IsKept, labels_of, level, level_in}

abbrev Labels : Type 0
Labels = List (Option (Named Name ℕ))

name_is : (n : Name) → same_name n n ≡ true
name_is n = rw ((bytes_decides n.0 n.0).1 refl, (Decides-eqb n.1 n.1).1 refl) refl

-- LISTS
pub reversed : {A : Type 0} (xs : List A) (x : A) → reverse (xs ++ x ∷ []) ≡ x ∷ reverse xs
reversed xs x = reverse-append xs (x ∷ [])

pub popped : {A : Type 0} (xs ys zs : List A) (x : A) (n : ℕ) → n ≡ length ys → ys ≡ xs ++ x ∷ [] → zs ≡ take (n - 1) ys → zs ≡ xs
popped xs ys zs x n many more less =
    let long : length (xs ++ x ∷ []) - 1 ≡ length xs = omega (arith, length-append xs (x ∷ [])) in
    less ∙ ap (λ k. take (k - 1) ys) many ∙ ap (λ l. take (length l - 1) l) more ∙ ap (λ k. take k (xs ++ x ∷ [])) long ∙ take-append-le (length xs) xs (x ∷ []) (omega arith) ∙ take_all (length xs) xs (omega arith)

-- LEVELS
level_below : (n : Name) (labels : Labels) (k : ℕ) → level n labels ≡ Some k → k < length labels
level_below n [] k = λ e. absurd (cc)
level_below n (label ∷ outside) k = of (level_below n outside k) (bears same_name n (name_in label))
  where
    of : (level n outside ≡ Some k → k < length outside) → (b : Bool) → (if b then Some (length outside) else level n outside) ≡ Some k → k < suc (length outside)
    of below true e = let same : length outside ≡ k = cc in omega (arith, same)
    of below false e = omega (arith, below e)

-- the level of a name is counted from the other end
level_position : (n : Name) (labels : Labels) (i : ℕ) → position_from (bears same_name n) i (map name_in labels) ≡ option_map (λ k. i + (length labels - 1 - k)) (level n labels)
level_position n [] i = refl
level_position n (label ∷ outside) i = of (level_position n outside (i + 1)) (bears same_name n (name_in label))
  where
    further : (o : Option ℕ) → level n outside ≡ o → option_map (λ k. (i + 1) + (length outside - 1 - k)) o ≡ option_map (λ k. i + (suc (length outside) - 1 - k)) o
    further None e = refl
    further (Some k) e = ap Some (omega (arith, level_below n outside k e))

    of : position_from (bears same_name n) (i + 1) (map name_in outside) ≡ option_map (λ k. (i + 1) + (length outside - 1 - k)) (level n outside)
        → (b : Bool) → (if b then Some i else position_from (bears same_name n) (i + 1) (map name_in outside)) ≡ option_map (λ k. i + (suc (length outside) - 1 - k)) (if b then Some (length outside) else level n outside)
    of rest true = ap Some (omega (arith))
    of rest false = rest ∙ further (level n outside) refl

labels_long : (blocks : List OpenBlock) → length (labels_of blocks) ≡ length blocks
labels_long blocks = length-map blocks (λ b. option_map identifier_tree b.label)

pub kept_position : (blocks : List OpenBlock) (levels : BTreeMap Identifier ℕ) (n : Name) → IsKept blocks levels
    → position same_name n (map name_in (labels_of blocks)) ≡ option_map (λ k. length blocks - 1 - k) (level_in levels n)
kept_position blocks levels n kept =
    level_position n (labels_of blocks) 0
    ∙ ap (λ o. option_map (λ k. 0 + (length (labels_of blocks) - 1 - k)) o) (sym (kept.levels_are n))
    ∙ ap (λ m. option_map (λ k. 0 + (m - 1 - k)) (level_in levels n)) (labels_long blocks)
    ∙ plain (level_in levels n)
  where
    plain : (o : Option ℕ) → option_map (λ k. 0 + (length blocks - 1 - k)) o ≡ option_map (λ k. length blocks - 1 - k) o
    plain None = refl
    plain (Some k) = ap Some (omega (arith))

pub kept_below : (blocks : List OpenBlock) (levels : BTreeMap Identifier ℕ) (n : Name) (k : ℕ) → IsKept blocks levels → level_in levels n ≡ Some k → k < length blocks
kept_below blocks levels n k kept e = let below = level_below n (labels_of blocks) k (sym (kept.levels_are n) ∙ e) in omega (arith, below, labels_long blocks)

-- ONE MORE BLOCK

-- ONE LESS
left_level : (n : Name) (labels : Labels) (label : Option Name) (outer before : Option ℕ) → outer ≡ option_and_then (λ m. level m labels) label
    → before ≡ (if bears same_name n label then Some (length labels) else level n labels) → (if bears same_name n label then outer else before) ≡ level n labels
left_level n labels None outer before e = λ h. h
left_level n labels (Some m) outer before e = of (same_name m n) refl
  where
    of : (t : Bool) → same_name m n ≡ t → before ≡ (if t then Some (length labels) else level n labels) → (if t then outer else before) ≡ level n labels
    of true same h = e ∙ ap (λ q. level q labels) (alike_names m n same)
    of false same h = h

pub kept_closed : (blocks : List OpenBlock) (old new : BTreeMap Identifier ℕ) (b : OpenBlock) → IsKept (b ∷ blocks) old
    → ((n : Name) → level_in new n ≡ (if bears same_name n (name_in (option_map identifier_tree b.label)) then b.outer else level_in old n)) → IsKept blocks new
kept_closed blocks old new b kept left = record {
  few = omega (arith, kept.few);
  levels_are = λ n. left n ∙ left_level n (labels_of blocks) (name_in (option_map identifier_tree b.label)) b.outer (level_in old n) kept.outer.0 (kept.levels_are n);
  outer = kept.outer.1;
}

-- the name of the innermost block has a level
pub kept_there : (blocks : List OpenBlock) (levels : BTreeMap Identifier ℕ) (b : OpenBlock) (id : Identifier) → IsKept (b ∷ blocks) levels → b.label ≡ Some id
    → is_some (level_in levels (identifier_tree id).0) ≡ true
kept_there blocks levels b id kept e =
    let n : Name = (identifier_tree id).0 in
    ap is_some (kept.levels_are n)
    ∙ ap (λ (o : Option Identifier). is_some (if bears same_name n (name_in (option_map identifier_tree o)) then Some (length (labels_of blocks)) else level n (labels_of blocks))) e
    ∙ rw (name_is n) refl

-- the same levels
pub kept_still : (blocks others : List OpenBlock) (old new : BTreeMap Identifier ℕ) → others ≡ blocks → IsKept blocks old → ((n : Name) → level_in new n ≡ level_in old n) → IsKept others new
kept_still blocks others old new e kept same = subst (λ bs. IsKept bs new) (sym e) (record { few = kept.few; levels_are = λ n. same n ∙ kept.levels_are n; outer = kept.outer })

-- a write where a key is there doesn't fail
pub there_ok : {T E A : Type 0} (r : Result T E) (o : Option ℕ) → OnErr r (o ≡ None) → is_some o ≡ true → OnOk r A → A
there_ok (Ok x) o absent there h = h
there_ok (Err e) None absent there h = absurd (cc)
there_ok (Err e) (Some k) absent there h = absurd (cc)
