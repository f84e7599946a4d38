-- Modules of fields alone, whose fields are read as one list.
use Rattle.std.proofs.Common.{◌≡◌, ℕ, Bool, true, false, List, ◌∷◌, Option, Some, None, Result, Ok, Err, refl, inl, inr, ap, sym, ◌∙◌}
use Rattle.std.specs.Prelude.{if◌then◌else◌}
use Rattle.std.proofs.lemmas.Option.{same_Some}
use Rattle.wast_grammar.specs.Tokens.{Name}
use Rattle.wast_grammar.specs.Spelling.{◌>>=◌}
use Rattle.wast_parser.specs.Significant.{TextToken}
use Rattle.wast_parser.specs.Grammar.{Reader, map_reads, only_reads}
use Rattle.wast_parser.specs.Problem.{Problem}
use Rattle.wast_parser.specs.State.{State, ahead}
use Rattle.wast_parser.specs.Reading.{Gives, Refuses}
use Rattle.wast_module_fields.specs.FieldTree as spec
use Rattle.wast_module_fields.specs.FieldTree.{one_start}
use Rattle.wast_core.specs.ModuleSyntax.{as_fields}
use Rattle.wast_core.specs.ModuleViews.{module_tree}
use Rattle.wast_core.specs.FieldsAlone.{as_list, IsModuleOf}
use Rattle.wast_core.specs.declared.module.Module.{Module}

abbrev Fields : Type 0
Fields = List (spec.Field Name ℕ)

abbrev Pair : Type 0
Pair = spec.Field Name ℕ × Fields

-- what is read as one list, as pairs, and the modules of these
abbrev Read : Type 0
Read = Option (Pair × List TextToken)

abbrev listed : Read → Option (Fields × List TextToken)
listed o = o >>= λ a. Some (as_list a.0, a.1)

abbrev is_kept : Pair → Bool
is_kept fs = one_start (fs.0 ∷ fs.1)

abbrev kept : Option (Pair × List TextToken) → Option (spec.Module Name ℕ × List TextToken)
kept o = o >>= λ a. Some (as_fields a.0, a.1)

abbrev whole : Read → Option (spec.Module Name ℕ × List TextToken)
whole o = kept (o >>= λ a. if is_kept a.0 then Some a else None)

-- the parts of what is read
first_same : (p q : Fields × List TextToken) → Some p ≡ Some q → p.0 ≡ q.0
first_same p q e = ap (λ (x : Fields × List TextToken). x.0) (same_Some p q e)

second_same : (p q : Fields × List TextToken) → Some p ≡ Some q → p.1 ≡ q.1
second_same p q e = ap (λ (x : Fields × List TextToken). x.1) (same_Some p q e)

given : (o : Read) (fields : Fields) (res : Result Module Problem) (s : State) → listed o ≡ Some (fields, ahead s) → IsModuleOf fields res → Gives module_tree res s (whole o)
given (Some a) fields (Ok m) s e h =
    let same : fields ≡ a.0.0 ∷ a.0.1 = sym (first_same (as_list a.0, a.1) (fields, ahead s) e) in
    let end : a.1 ≡ ahead s = second_same (as_list a.0, a.1) (fields, ahead s) e in
    let one : is_kept a.0 ≡ true = ap one_start (sym same) ∙ h.0 in
    ap (λ b. kept (if b then Some a else None)) one ∙ ap (λ m. Some (m, a.1)) (sym (h.1 a.0.0 a.0.1 same)) ∙ ap (λ us. Some (module_tree m, us)) end
given (Some a) fields (Err p) s e h =
    let same : fields ≡ a.0.0 ∷ a.0.1 = sym (first_same (as_list a.0, a.1) (fields, ahead s) e) in
    let none : is_kept a.0 ≡ false = ap one_start (sym same) ∙ h in
    inr (ap (λ b. kept (if b then Some a else None)) none)
given None fields res s e h = absurd (cc)

refused : (o : Read) (p : Problem) → Refuses p (listed o) → Refuses p (whole o)
refused (Some a) p (inl m) = inl m
refused (Some a) p (inr n) = absurd (cc)
refused None p (inl m) = inl m
refused None p (inr n) = inr refl

-- Where the fields are read as one list, a module of these is what is read.
pub of_list : (r : Reader Name ℕ Pair) (ts : List TextToken) (fields : Fields) (res : Result Module Problem) (s : State) →
    map_reads as_list r ts ≡ Some (fields, ahead s) → IsModuleOf fields res → Gives module_tree res s (map_reads as_fields (only_reads is_kept r) ts)
of_list r ts = given (r ts)

-- Where they aren't, no module is.
pub none_listed : (r : Reader Name ℕ Pair) (ts : List TextToken) (p : Problem) → Refuses p (map_reads as_list r ts) → Refuses p (map_reads as_fields (only_reads is_kept r) ts)
none_listed r ts = refused (r ts)
