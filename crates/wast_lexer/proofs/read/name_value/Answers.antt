use Rattle.std.proofs.Common.{sym, ap, subst, inr}
use Rattle.std.proofs.lemmas.Str.{IsUtf8-string_bytes}
use Rattle.wast_lexer_strings.specs.Strings.{IsString}
use Rattle.wast_lexer.proofs.TokenTextLaws.{quote_cut, name_string, plain_is}
use Rattle.wast_lexer.proofs.read.name_value.Goals as goal

pub range-requires-clause-start_boundary : goal.range-requires-clause-start_boundary
range-requires-clause-start_boundary c = λ _. (
    let q = rw c.as_bytes-bytes.ensures.value at (c.if-not-is_quote_at.ensures.value) in
    quote_cut c.args.name.now c.utf8.name (sym q))

pub returns-then-is_plain-clause-ok : goal.returns-then-is_plain-clause-ok
returns-then-is_plain-clause-ok c =
    let name = c.args.name.now in
    let q = rw c.as_bytes-bytes.ensures.value at (c.if-not-is_quote_at.ensures.value) in
    let plain = rw c.as_bytes-bytes.ensures.value at (c.if-is_plain.ensures) in
    let s = name_string name c.requires.0 c.requires.1 (sym q) in
    (inr (subst (IsString name) (sym c.range.ensures.value) (plain_is name c.requires.0 s (sym plain))), c.range.utf8)

pub returns-in-Ok-clause-ok : goal.returns-in-Ok-clause-ok
returns-in-Ok-clause-ok c =
    let name = c.args.name.now in
    let read = rw c.as_bytes-bytes.ensures.value at (c.in_ok-string_value.ensures) in
    let same = ap (λ v. v.items) c.in-Ok.ensures.ok in
    (inr (subst (IsString name) (sym same) read), IsUtf8-string_bytes c.in-Ok.value)
