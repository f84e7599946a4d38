use Rattle.std.proofs.Common.{◌<◌, Some, slice_get, option_map, sym, ◌∙◌, ap, length, arith}
use Rattle.std.proofs.lemmas.Option.{slice_get_past}
use Rattle.wast_lexer.specs.declared.token.Token.{Token}
use Rattle.wast_lexer.specs.declared.entry.Entry.{Entry}
use Rattle.wast_lexer.specs.Table.{Tabled}
use Rattle.wast_lexer.proofs.EntryLaws.{tokens_length, token_kept}
use Rattle.wast_lexer.proofs.table.TokenTable.kind.Goals as goal

pub returns-then-len-index : goal.returns-then-len-index
returns-then-len-index c =
    let size = ap (λ (t : Tabled). length t.tokens) c.self.view_is in
    ap (option_map (λ (t : Token). t.kind)) (sym (slice_get_past c.args.self.now.tokens c.args.index (omega (arith, c.if-len-index.true, c.len.ensures, tokens_length 0 c.self.inside.entries.items, size))))

pub returns : goal.returns
returns c =
    let es = c.self.inside.entries.items in
    let entry = c.index.result.now in
    let inside : c.args.index < length es = omega (arith, c.if-len-index.false, c.len.ensures) in
    ap (λ (e : Entry). Some e.kind) c.index.ensures
    ∙ ap (option_map (λ (t : Token). t.kind)) (sym (token_kept 0 es c.args.index entry inside) ∙ ap (λ (t : Tabled). slice_get t.tokens c.args.index) c.self.view_is)
