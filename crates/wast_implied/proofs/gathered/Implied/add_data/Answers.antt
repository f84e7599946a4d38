use Rattle.std.proofs.Common.{[], ◌∷◌, ◌++◌, sym, ◌∙◌}
use Rattle.std.specs.Prelude.{option_map}
use Rattle.std.specs.List.{flat_map}
use Rattle.wasm_encoder_base.specs.Table.{Memories}
use Rattle.wast_parser.specs.Identifiers.{index_tree}
use Rattle.wast_meaning.specs.Mentions.{refers_if}
use Rattle.wast_core_instr.specs.ExpressionViews.{expression_tree}
use Rattle.wast_meaning.specs.Mentions.{Constant, says, expr_mentions, part_mentions}
use Rattle.wast_implied.specs.Views.{known}
use Rattle.wast_implied.proofs.Quiet.{used_constant, quiet_before, quiet_if}
use Rattle.wast_implied.proofs.Retold.{retold}
use Rattle.wast_implied.proofs.gathered.Implied.add_data.Goals as goal

pub returns-in-Active : goal.returns-in-Active
returns-in-Active c =
    let ms = refers_if Memories (option_map index_tree c.in-Active.memory) in
    let e = expression_tree c.in-Active.offset in
    rw (c.in-Active.is) (retold c.add_expression.result c.args.segment.now.span (known c.args.self.now) (known c.add_expression.new.self) (expr_mentions e) (flat_map part_mentions (says ms ++ Constant e ∷ []))
    (sym (used_constant e) ∙ sym (quiet_before ms (Constant e ∷ []) (quiet_if Memories (option_map index_tree c.in-Active.memory)))) c.add_expression.ensures)
