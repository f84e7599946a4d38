use Rattle.std.proofs.Common.{arith}
use Rattle.std.specs.Prelude.{unwrap_or}
use Rattle.wast_deinline.proofs.Rounding.{some_page, large_page}
use Rattle.wast_deinline.proofs.sizes.pages.Goals as goal

pub returns-in-Some : goal.returns-in-Some
returns-in-Some c =
    some_page c.args.len c.unwrap_or-log2.result (unwrap_or c.args.page_size_log2 16) c.in-Some.page_size c.div_ceil.result c.unwrap_or-log2.ensures
    c.in-Some.ensures.0 c.in-Some.ensures.1 c.div_ceil.ensures

pub returns-in-None : goal.returns-in-None
returns-in-None c =
    large_page c.args.len c.unwrap_or-log2.result (unwrap_or c.args.page_size_log2 16) c.min.result c.unwrap_or-log2.ensures c.in-None.ensures (omega arith)
    c.min.ensures
