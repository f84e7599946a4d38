use Rattle.std.proofs.Common.{sym, ap, ◌∙◌, ◌++◌, append-nil, string_bytes, lit<}
use Rattle.std.proofs.lemmas.Str.{encode_ascii}
use Rattle.wast_parser_base.proofs.Shown.{spaces_more, spaces_whole}
use Rattle.wast_parser_base.proofs.snippet.push_spaces.Goals as goal

pub loop-init : goal.loop-init
loop-init c = sym (append-nil (string_bytes c.args.text.now))

pub loop-preserved : goal.loop-preserved
loop-preserved c =
    spaces_more (string_bytes c.args.text.now) (string_bytes c.loop.text) (string_bytes c.push.new.self) c.loop.counter c.loop.invariant
    (c.in_ok-push.ensures.bytes ∙ ap (λ l. string_bytes c.loop.text ++ l) (encode_ascii 32 (lit< tt)))

pub returns : goal.returns
returns c =
    spaces_whole (string_bytes c.args.text.now) (string_bytes c.loop.text) c.loop.counter c.args.count c.loop.auto.counter-end c.loop-test.false
    c.loop.invariant
