use Rattle.std.proofs.Common.{sym, ◌∙◌, map-id, string_bytes}
use Rattle.std.proofs.lemmas.Iterator.{YieldsList-from_chars}
use Rattle.std.proofs.lemmas.Iterator.Consumers.{YieldsList-end}
use Rattle.wast_parser_base.proofs.Shown.{snippet_more, snippet_whole}
use Rattle.wast_parser_base.proofs.snippet.push_snippet.Goals as goal

pub loop-character-preserved : goal.loop-character-preserved
loop-character-preserved c =
    snippet_more (string_bytes c.args.text.now) (string_bytes c.loop-character.text) (string_bytes c.push_shown.new.text)
    c.loop-character.yielded c.in-Some.character c.loop-character.invariant c.in_ok-push_shown.ensures

pub returns : goal.returns
returns c =
    let end =
    YieldsList-end (YieldsList-from_chars c.args.line.now c.utf8.line cc) c.loop-character.yielded _ c.loop-character.yielded_by _ _ c.in-None.is
    c.next.ensures.steps in
    snippet_whole (string_bytes c.args.text.now) (string_bytes c.loop-character.text) c.loop-character.yielded c.args.line.now
    (sym (map-id c.loop-character.yielded) ∙ end.0) c.loop-character.invariant
