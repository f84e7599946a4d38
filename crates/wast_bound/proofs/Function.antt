-- What a function asks is kept exactly where what its type use, its locals and its instructions ask is.
use Rattle.std.proofs.Common.{◌≡◌, ℕ, Bool, true, false, ◌&&◌, [], ◌++◌, refl, sym, ◌∙◌, ap}
use Rattle.std.specs.List.{flat_map}
use Rattle.wasm_encoder_base.specs.Table.{Locals}
use Rattle.wast_grammar.specs.Tokens.{Name}
use Rattle.wast_grammar.specs.Spelling.{same_name}
use Rattle.wast_names.specs.Space as names
use Rattle.wast_fields.specs.FieldTree.{Function}
use Rattle.wast_meaning.specs.Demands.{use_demands, mention_demands, instrs_demands, func_demands}
use Rattle.wast_meaning.specs.Mentions.{local_mentions}
use Rattle.wast_meaning.specs.Scope.{Scope, with_locals, locals_of}
use Rattle.wast_meaning.specs.Spaces.{space_word}
use Rattle.wast_bound.specs.Bound.{are_kept}
use Rattle.wast_bound.proofs.Kept.{kept_then, distinct_kept}

grouped : (a b c d : Bool) → c ≡ true → (((a && b) && c) && d) ≡ ((a && b) && d)
grouped true true c d e = ap (λ x. x && d) e
grouped true false c d e = refl
grouped false b c d e = refl

pub func_kept : (s : Scope Name ℕ) (f : Function Name ℕ)
    → are_kept (func_demands same_name s f)
    ≡ ((are_kept (use_demands same_name s f.type_use) && are_kept (flat_map (mention_demands same_name s) (local_mentions f.locals)))
    && are_kept (instrs_demands same_name (with_locals same_name s (locals_of s f)) [] f.body.instrs))
func_kept s f =
    let used = use_demands same_name s f.type_use in
    let typed = flat_map (mention_demands same_name s) (local_mentions f.locals) in
    let distinct = names.distinct same_name (space_word Locals) (locals_of s f) in
    let told = instrs_demands same_name (with_locals same_name s (locals_of s f)) [] f.body.instrs in
    kept_then ((used ++ typed) ++ distinct) told
    ∙ ap (λ b. b && are_kept told) (kept_then (used ++ typed) distinct ∙ ap (λ b. b && are_kept distinct) (kept_then used typed))
    ∙ grouped (are_kept used) (are_kept typed) (are_kept distinct) (are_kept told) (distinct_kept (space_word Locals) (locals_of s f))

-- where its head keeps to it, the instructions are left
pub func_then : (s : Scope Name ℕ) (f : Function Name ℕ)
    → true ≡ (are_kept (use_demands same_name s f.type_use) && are_kept (flat_map (mention_demands same_name s) (local_mentions f.locals)))
    → are_kept (instrs_demands same_name (with_locals same_name s (locals_of s f)) [] f.body.instrs) ≡ are_kept (func_demands same_name s f)
func_then s f head =
    let told = are_kept (instrs_demands same_name (with_locals same_name s (locals_of s f)) [] f.body.instrs) in
    ap (λ b. b && told) head ∙ sym (func_kept s f)
