use Rattle.std.proofs.Common.{◌≡◌, ◌<◌, ◌-◌, suc, Some, slice_get, sym, ◌∙◌, ap, length, arith}
use Rattle.std.proofs.lemmas.Option.{slice_get_past}
use Rattle.wast_lexer.specs.declared.token.Token.{Token}
use Rattle.wast_lexer.specs.declared.entry.Entry.{Entry}
use Rattle.wast_lexer.specs.Table.{Tabled}
use Rattle.wast_lexer.proofs.EntryLaws.{tokens_length, start_at, start_behind, token_kept, rising_at}
use Rattle.wast_lexer.proofs.table.TokenTable.get.Goals.{then-index-eq0, else-index-eq0}
use Rattle.wast_lexer.proofs.table.TokenTable.get.Goals as goal

pub returns-then-len-index : goal.returns-then-len-index
returns-then-len-index c =
    let size = ap (λ (t : Tabled). length t.tokens) c.self.view_is in
    sym (slice_get_past c.args.self.now.tokens c.args.index (omega (arith, c.if-len-index.true, c.len.ensures, tokens_length 0 c.self.inside.entries.items, size)))

start_is : (c : goal.After-struct_known-1) → c.if-index-eq0.start ≡ start_at 0 c.self.inside.entries.items c.args.index
start_is c =
    let es = c.self.inside.entries.items in
    let inside : c.args.index < length es = omega (arith, c.if-len-index.false, c.len.ensures) in
    elim c.if-index-eq0.branch [
      | then-index-eq0 w ↦ w.start-is ∙ ap (start_at 0 es) (sym w.if-index-eq0.true)
      | else-index-eq0 w ↦
          let before : suc (c.args.index - 1) ≡ c.args.index = omega (arith, w.if-index-eq0.false) in
          w.start-is ∙ ap (λ e. e.end) w.index.ensures ∙ sym (start_behind 0 es (c.args.index - 1) w.index.result.now (omega (arith, inside))) ∙ ap (start_at 0 es) before
    ]

pub overflow_sub-result : goal.overflow_sub-result
overflow_sub-result c =
    let inside : c.args.index < length c.self.inside.entries.items = omega (arith, c.if-len-index.false, c.len.ensures) in
    let rises = rising_at 0 c.self.inside.entries.items c.args.index c.index-entry.result.now c.self.invariant inside in
    omega (arith, start_is c, ap (λ e. e.end) c.index-entry.ensures, rises)

pub returns : goal.returns
returns c =
    let es = c.self.inside.entries.items in
    let entry = c.index-entry.result.now in
    let inside : c.args.index < length es = omega (arith, c.if-len-index.false, c.len.ensures) in
    ap (λ s. Some (let t : Token = record { kind = entry.kind; offset = s; len = entry.end - s } in t)) (start_is c)
    ∙ ap (λ (e : Entry). Some (let t : Token = record { kind = e.kind; offset = start_at 0 es c.args.index; len = e.end - start_at 0 es c.args.index } in t)) c.index-entry.ensures
    ∙ sym (token_kept 0 es c.args.index entry inside) ∙ ap (λ (t : Tabled). slice_get t.tokens c.args.index) c.self.view_is
