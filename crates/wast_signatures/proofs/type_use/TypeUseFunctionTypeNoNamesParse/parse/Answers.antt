use Rattle.wast_value_types.specs.State.{ahead}
use Rattle.std.proofs.Common.{codes, option_map}
use Rattle.wast_value_types.specs.Identifiers.{index_tree}
use Rattle.wast_signatures.specs.TypeSyntax.{index_of, as_use, as_inline, as_bare, bare_sig, sig_groups, bare_param, result, sig_starts}
use Rattle.wast_signatures.specs.SignatureViews.{sig_tree}
use Rattle.wast_value_types.specs.Grammar.{maybe_reads, map_reads}
use Rattle.wast_signatures.proofs.Uses.{inline_looked}
use Rattle.wast_signatures.proofs.Readings.{gives_seen, second_so}
use Rattle.wast_signatures.proofs.type_use.TypeUseFunctionTypeNoNamesParse.parse.Goals as goal

pub returns-clause-read : goal.returns-clause-read
returns-clause-read c =
    let ts = ahead c.args.parser.now in
    let same = second_so (index_of (codes "type")).reads (map_reads (as_inline as_bare) (sig_groups bare_param).reads) (maybe_reads sig_starts bare_sig.reads) ts (inline_looked as_bare bare_param.reads result.reads) in
    rw same (gives_seen (λ u. (option_map index_tree u.index, option_map (λ t. sig_tree t.0) u.inline)) as_use c.parse_use.result c.parse_use.new.parser _ c.parse_use.ensures.read)
