use Rattle.std.proofs.Common.{◌∙◌, ap}
use Rattle.wast_grammar.specs.Spelling.{after}
use Rattle.wast_parser_core.proofs.Beginnings.{stripped}
use Rattle.wast_parser_core.proofs.begun.behind.Goals as goal

pub returns : goal.returns
returns c =
    stripped c.as_bytes-2.result.now c.as_bytes.result.now c.strip_prefix.result c.strip_prefix.ensures.cases
    ∙ ap (λ p. after p c.as_bytes.result.now) c.as_bytes-2.ensures.value
    ∙ ap (after c.args.prefix.now) c.as_bytes.ensures.value
