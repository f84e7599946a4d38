-- Fields that are written out, given their types and numbered, one after the other.
use Rattle.std.proofs.Common.{◌≡◌, ℕ, List, Result, subst, ◌∙◌, ap}
use Rattle.std.specs.Prelude.{Ok, Err, OnOk, IfErr}
use Rattle.wasm_encoder_base.specs.Table.{Space}
use Rattle.wast_grammar.specs.Tokens.{Name}
use Rattle.wast_grammar.specs.Spelling.{same_name}
use Rattle.wast_parser.specs.Problem.{Problem}
use Rattle.wast_names.specs.Demand.{Answers}
use Rattle.wast_names.specs.Space as names
use Rattle.wast_field_syntax.specs.FieldTree.{Field}
use Rattle.wast_meaning.specs.Demands.{demands}
use Rattle.wast_meaning.specs.Numbered.{expanded, numbered}
use Rattle.wast_meaning.specs.Spaces.{denotes}
use Rattle.wast_resolve_laws.proofs.DemandsKept as kept
use Rattle.wast_resolve_laws.proofs.Expanded as types
use Rattle.wast_resolve_laws.proofs.Names.{name_self, name_sound}
use Rattle.wast_resolve.specs.Resolving.{Means}
use Rattle.wast_expanded.proofs.Given.{gives}
use Rattle.wast_resolve.proofs.Refusals.{answers_first}

pub if_refused : {T E : Type 0} (r : Result T E) (P : E → Type 0) → ((e : E) → P e) → IfErr r P
if_refused (Ok x) P f = tt
if_refused (Err e) P f = f e

-- FIELDS that have their types now
module _ (written now : List (Field Name ℕ)) (typed : now ≡ expanded same_name written) where
  pub answers_before : {T : Type 0} (r : Result T Problem) → Answers r (demands same_name now) → Answers r (demands same_name written)
  answers_before r h =
      answers_first r (demands same_name (expanded same_name written)) (demands same_name written) (kept.demands_kept same_name name_self name_sound written)
      (subst (λ fs. Answers r (demands same_name fs)) typed h)

  pub numbers_before : {T E : Type 0} (r : Result T E) (new : List (Field Name ℕ)) → OnOk r (new ≡ numbered same_name now) → OnOk r (new ≡ numbered same_name (expanded same_name written))
  numbers_before r new = gives r new (numbered same_name now) (numbered same_name (expanded same_name written)) (ap (numbered same_name) typed)

  pub means_before : (spaces : Space → names.Space Name) → Means spaces now → Means spaces written
  means_before spaces h = λ s n. h s n ∙ ap (λ fs. denotes same_name fs s n) typed ∙ types.denotes_kept same_name written s n
