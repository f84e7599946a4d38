use Rattle.std.proofs.Common.{sym, ◌∙◌}
use Rattle.std.proofs.lemmas.Result.{on_ok_weaker}
use Rattle.wast_signatures.specs.SignatureViews.{sig_tree}
use Rattle.wast_implied.specs.Views.{known}
use Rattle.wast_implied.proofs.Instructions.{short_uses, long_uses}
use Rattle.wast_implied.proofs.gathered.Implied.add_long.Goals as goal

pub returns-then-is_short : goal.returns-then-is_short
returns-then-is_short c = short_uses c.args.span (known c.args.self.now) (sig_tree c.args.signature.now) (sym c.is_short.ensures ∙ c.if-is_short.true)

pub returns : goal.returns
returns c =
    on_ok_weaker c.add_signature.result (λ e. e ∙ long_uses c.args.span (known c.args.self.now) (sig_tree c.args.signature.now) (sym c.is_short.ensures ∙ c.if-is_short.false)) c.add_signature.ensures
