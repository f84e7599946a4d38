use Rattle.std.proofs.Common.{◌∙◌}
use Rattle.wast_grammar.specs.Spelling.{same_name}
use Rattle.wast_signatures.specs.SignatureViews.{use_tree}
use Rattle.wast_meaning.specs.Demands.{says_demands}
use Rattle.wast_meaning.specs.Mentions.{use_mentions}
use Rattle.wast_bound.proofs.Kept.{judged_all, use_kept}
use Rattle.wast_bound.proofs.place.is_use_bound.Goals as goal

pub returns : goal.returns
returns g c =
    let s = g.K.Known.scope c.args.known in
    c.is_ok.ensures.value ∙ judged_all (says_demands same_name s) c.tell.result (use_mentions (use_tree c.args.ty.now)) c.tell.ensures ∙ use_kept s (use_tree c.args.ty.now)
