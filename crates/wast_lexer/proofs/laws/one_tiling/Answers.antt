use Rattle.wast_lexer.proofs.TilingLaws.{tile_once}
use Rattle.wast_lexer.proofs.laws.one_tiling.Goals as goal

pub returns : goal.returns
returns c = tile_once
