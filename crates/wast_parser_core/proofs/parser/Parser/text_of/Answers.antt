use Rattle.std.proofs.Common.{◌≡◌, true, false, ◌∙◌, ap}
use Rattle.std.proofs.lemmas.Str.{IsUtf8-string_bytes}
use Rattle.wast_lexer.specs.TokenText.{text_of}
use Rattle.wast_parser_core.proofs.Texts.{string_read, is_text, no_text}
use Rattle.wast_parser_core.proofs.parser.Parser.text_of.Goals as goal

pub returns-in-Ok-clause-value : goal.returns-in-Ok-clause-value
returns-in-Ok-clause-value c =
    is_text (text_of c.args.self.now.source.text c.args.token) c.in_ok-string.field-0 c.in-Ok.text.now (string_read c.args.token _ _ c.in_ok-string.field-0 c.text.ensures c.in_ok-string.ensures.value)
    (c.in-Ok.ensures.cases.0 ∙ c.in-Borrowed.ensures) (rw c.in-Ok.ensures.cases.0 c.in-Ok.ensures.cases.1)

pub returns-in-Borrowed-clause-value : goal.returns-in-Borrowed-clause-value
returns-in-Borrowed-clause-value c =
    no_text (text_of c.args.self.now.source.text c.args.token) c.in_ok-string.field-0 c.in-Borrowed.bytes.now (string_read c.args.token _ _ c.in_ok-string.field-0 c.text.ensures c.in_ok-string.ensures.value)
    c.in-Borrowed.ensures c.in-Err.ensures.cases.0

pub returns-in-Ok-from_utf8-clause-value : goal.returns-in-Ok-from_utf8-clause-value
returns-in-Ok-from_utf8-clause-value c =
    is_text (text_of c.args.self.now.source.text c.args.token) c.in_ok-string.field-0 _ (string_read c.args.token _ _ c.in_ok-string.field-0 c.text.ensures c.in_ok-string.ensures.value)
    (ap (λ v. v.items) c.in-Ok-from_utf8.ensures.ok ∙ c.in-Owned.ensures) (IsUtf8-string_bytes c.in-Ok-from_utf8.text)

pub returns-clause-value : goal.returns-clause-value
returns-clause-value c =
    no_text (text_of c.args.self.now.source.text c.args.token) c.in_ok-string.field-0 c.in-Owned.bytes.items (string_read c.args.token _ _ c.in_ok-string.field-0 c.text.ensures c.in_ok-string.ensures.value)
    c.in-Owned.ensures (λ u. (let e : false ≡ true = c.in-Err-from_utf8.ensures.succeeds u in absurd (cc)))
