use Rattle.std.proofs.Common.{◌≡◌, ◌-◌, length, drop, map, false}
use Rattle.std.specs.List.{All}
use Rattle.std.specs.Str.{IsCharBoundary}
use Rattle.wast_lexer.specs.Entries.{tokens_of, Rising}
use Rattle.wast_lexer.specs.Lexeme.{lexeme_of}
use Rattle.wast_lexer.specs.Parse.{is_opened}
use Rattle.wast_lexer.specs.Tiling.{TilesUpTo}
use Rattle.wast_lexer.specs.TokenText.{IsOf}
use Rattle.wast_lexer.proofs.EntryLaws.{last_end}
use Rattle.wast_lexer.proofs.table.all_entries.Given as goal

abbrev pub invariant-tokens : goal.invariant-tokens
invariant-tokens l = record {
  tiles : TilesUpTo l.lexer.allow false 0 l.lexer.input.now (map (lexeme_of l.lexer.input.now) (tokens_of 0 l.entries.items)) (is_opened l.lexer.input.now l.pos) l.pos (drop l.pos l.lexer.input.now);
  boundary : IsCharBoundary l.lexer.input.now l.pos;
  of_text : All (IsOf l.lexer.input.now) (tokens_of 0 l.entries.items);
  last : last_end 0 l.entries.items ≡ l.pos;
  rising : Rising 0 l.entries.items;
}

abbrev pub decreases-tokens : goal.decreases-tokens
decreases-tokens l = length l.lexer.input.now - l.pos
