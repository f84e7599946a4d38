use Rattle.std.proofs.Common.{◌≡◌, sym, ◌∙◌, ap, subst, refl, arith, [], ◌∷◌, ◌++◌, drop, map, false}
use Rattle.std.specs.List.{All}
use Rattle.std.proofs.lemmas.List.{drop_all}
use Rattle.std.proofs.lemmas.List.Elements.{All-nil, All-push}
use Rattle.wast_lexer.specs.declared.entry.Entry.{Entry}
use Rattle.wast_lexer.specs.Entries.{tokens_of, Rising}
use Rattle.wast_lexer.specs.Lexeme.{lexeme_of}
use Rattle.wast_lexer.specs.Parse.{is_opened}
use Rattle.wast_lexer.specs.Tiling.{TilesUpTo}
use Rattle.wast_lexer.specs.TokenText.{IsOf}
use Rattle.wast_lexer.proofs.EntryLaws.{last_end, kept_more, last_more, rising_more}
use Rattle.wast_lexer.proofs.TableLaws.{tiles_all, table_more, token_moves}
use Rattle.wast_lexer.proofs.table.all_entries.Goals as goal

pub tokens-init : goal.tokens-init
tokens-init c =
    let text = c.args.lexer.input.now in
    record {
      tiles = rw c.new-entries.ensures.items (refl, refl, refl);
      boundary = c.args.lexer.start;
      of_text = rw c.new-entries.ensures.items (All-nil (IsOf text));
      last = rw c.new-entries.ensures.items refl;
      rising = rw c.new-entries.ensures.items tt;
    }

pub tokens-preserved : goal.tokens-preserved
tokens-preserved c =
    let text = c.args.lexer.input.now in
    let allow = c.args.lexer.allow in
    let token = c.in-Ok-Some.token in
    let pos = c.parse.new.pos in
    let es = c.tokens.entries.items in
    let known = c.tokens.invariant in
    let is = rw c.in-Ok-Some.field-0-is at (c.in-Ok-Some.ensures.answers) in
    let items = c.in_ok-push-in-Ok-Some.ensures.items in
    let entry : Entry = record { kind = token.kind; end = pos } in
    let kept : tokens_of 0 c.push.new.self.items ≡ tokens_of 0 es ++ token ∷ [] = ap (tokens_of 0) items ∙ kept_more es token c.tokens.pos pos known.last is.place is.len in
    let moves = token_moves allow text c.tokens.pos pos token is in
    record {
      tiles = subst (λ ts. TilesUpTo allow false 0 text (map (lexeme_of text) ts) (is_opened text pos) pos (drop pos text)) (sym kept) (table_more allow text (tokens_of 0 es) c.tokens.pos pos token known.tiles is);
      boundary = c.in-Ok-Some.ensures.boundary;
      of_text = subst (All (IsOf text)) (sym kept) (All-push (IsOf text) (tokens_of 0 es) token known.of_text (rw c.in-Ok-Some.field-0-is at (c.in-Ok-Some.ensures.token)));
      last = ap (last_end 0) items ∙ last_more 0 es entry;
      rising = subst (Rising 0) (sym items) (rising_more 0 es entry known.rising (omega (arith, known.last, moves)));
    }

pub returns-in-Ok-None-clause-table : goal.returns-in-Ok-None-clause-table
returns-in-Ok-None-clause-table c =
    let text = c.args.lexer.input.now in
    let end = rw c.in-Ok-None.field-0-is at (c.in-Ok-None.ensures.answers) in
    let none : drop c.tokens.pos text ≡ [] = drop_all c.tokens.pos text (omega (arith, end.0)) in
    tiles_all c.args.lexer.allow false 0 text _ (is_opened text c.tokens.pos) c.tokens.pos
    (subst (TilesUpTo c.args.lexer.allow false 0 text (map (lexeme_of text) (tokens_of 0 c.tokens.entries.items)) (is_opened text c.tokens.pos) c.tokens.pos) none c.tokens.invariant.tiles)
