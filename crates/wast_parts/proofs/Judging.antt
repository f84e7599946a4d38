-- What a field says by itself, among its parts.
use Rattle.std.proofs.Common.{Bool, List, Option, map, sym, ◌∙◌, ap, subst}
use Rattle.std.specs.Prelude.{Result, Ok, Err}
use Rattle.std.proofs.lemmas.List.Folds.{flat_map-map}
use Rattle.wast_names.specs.Walk.{first_unmet}
use Rattle.wast_mentions.specs.Judging.{Judged}

module _ {M Q D E : Type 0} (asks : Q → List D) (holds : D → Bool) (tells : Option D → E → Type 0) (part : M → Q) where
  -- what is answered of mentions is answered of them as parts
  pub judged_as_parts : {T : Type 0} (r : Result T E) (ms : List M) → Judged (λ m. asks (part m)) holds tells r ms → Judged asks holds tells r (map part ms)
  judged_as_parts (Ok x) ms h = ap (first_unmet holds) (flat_map-map asks part ms) ∙ h
  judged_as_parts (Err e) ms h = subst (λ ds. tells (first_unmet holds ds) e) (sym (flat_map-map asks part ms)) h
