use Rattle.std.proofs.Common.{◌≡◌, ◌<◌, ◌+◌, sym, ◌∙◌, ap, subst, arith, length, drop, get_or}
use Rattle.wast_lexer.specs.declared.paren.Paren.TheVariants.{Opens}
use Rattle.wast_lexer.specs.Entries.{parens_of}
use Rattle.wast_lexer.specs.Groups.{parens, paren_of}
use Rattle.wast_lexer.specs.ParenEnds.{closing, index_of}
use Rattle.wast_lexer.specs.Table.{Tabled}
use Rattle.wast_lexer.proofs.EntryLaws.{same_parens, paren_kept, paren_found, parens_length}
use Rattle.wast_lexer.proofs.ParenEndLaws.{EndOf, no_group, end_of}
use Rattle.wast_lexer.proofs.table.TokenTable.group_end.Goals as goal

pub returns-then-len-index : goal.returns-then-len-index
returns-then-len-index c =
    let es = c.self.inside.entries.items in
    let same : parens_of es ≡ parens c.args.self.now.tokens = sym (same_parens 0 es) ∙ ap (λ (t : Tabled). parens t.tokens) c.self.view_is in
    no_group (parens c.args.self.now.tokens) c.args.index (λ inside _. omega (arith, inside, ap length same, parens_length es, c.len.ensures, c.if-len-index.true))

pub returns-in-Opens : goal.returns-in-Opens
returns-in-Opens c =
    let es = c.self.inside.entries.items in
    let index = c.args.index in
    let same : parens_of es ≡ parens c.args.self.now.tokens = sym (same_parens 0 es) ∙ ap (λ (t : Tabled). parens t.tokens) c.self.view_is in
    let inside : index < length es = omega (arith, c.if-len-index.false, c.len.ensures) in
    let is = paren_kept es index c.index.result.now Opens inside (c.in-Opens.ensures ∙ ap (λ e. paren_of e.kind) c.index.ensures) in
    let answer = c.closing.ensures ∙ ap (λ y. index_of (index + 1) (closing 0 (drop (index + 1) (parens_of y)))) c.deref.ensures.value in
    subst (λ ps. EndOf ps index c.closing.result) same (end_of (parens_of es) index c.closing.result (omega (arith, inside, parens_length es)) is answer)

pub returns-in_default : goal.returns-in_default
returns-in_default c =
    let es = c.self.inside.entries.items in
    let index = c.args.index in
    let same : parens_of es ≡ parens c.args.self.now.tokens = sym (same_parens 0 es) ∙ ap (λ (t : Tabled). parens t.tokens) c.self.view_is in
    let inside : index < length es = omega (arith, c.if-len-index.false, c.len.ensures) in
    let found = paren_found es index c.index.result.now inside in
    let here = c.paren_of.ensures ∙ ap (λ e. paren_of e.kind) c.index.ensures in
    no_group (parens c.args.self.now.tokens) index (λ _ opens. c.in_default.not-Opens (here ∙ sym found ∙ ap (λ y. get_or y index Opens) same ∙ opens))
