use Rattle.std.proofs.Common.{refl}
use Rattle.std.proofs.lemmas.Bool.{or_parts}
use Rattle.wast_grammar.specs.Look.{any_end}
use Rattle.wast_grammar.proofs.GrammarLaws.{maybe_laws}
use Rattle.wast_parser_core.proofs.option.OptionMeaning.lawful.Goals as goal

pub returns : goal.returns
returns g c = let s = g.T.Meaning.syntax in maybe_laws s.starts s c.lawful.ensures refl (or_parts s.empty (any_end s.starts) g.met.T.Item.inside).0 g.met.T.Peek.sure
