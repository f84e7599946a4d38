-- What a call ensures of mentions, of others that use the same.
use Rattle.std.proofs.Common.{◌≡◌, ℕ, List, ◌++◌, ◌∙◌, ap}
use Rattle.std.specs.Prelude.{Result, OnOk}
use Rattle.std.proofs.lemmas.Result.{on_ok_weaker}
use Rattle.wast_grammar.specs.Tokens.{Name}
use Rattle.wast_meaning.specs.Mentions.{Mention}
use Rattle.wast_implied.specs.Known.{Known, after_mentions}
use Rattle.wast_implied.proofs.Quiet.{used}
use Rattle.wast_implied.proofs.Steps.{both_mentions}
use Rattle.wast_implied.proofs.Instructions.{as_used}

module _ {T E : Type 0} (r : Result T E) (p : ℕ) where
  pub retold : (k t : Known) (ms ns : List (Mention Name ℕ)) → used ms ≡ used ns → OnOk r (t ≡ after_mentions p k ms) → OnOk r (t ≡ after_mentions p k ns)
  retold k t ms ns h = on_ok_weaker r (λ e. e ∙ as_used p k ms ns h)

  -- behind what was said before
  pub told_next : (k s t : Known) (ms ns all : List (Mention Name ℕ)) → s ≡ after_mentions p k ms → used (ms ++ ns) ≡ used all → OnOk r (t ≡ after_mentions p s ns) → OnOk r (t ≡ after_mentions p k all)
  told_next k s t ms ns all before h = on_ok_weaker r (λ e. e ∙ ap (λ u. after_mentions p u ns) before ∙ both_mentions p k ms ns ∙ as_used p k (ms ++ ns) all h)
