use Rattle.std.proofs.Common.{◌≡◌, [], ◌∷◌, subst, ◌∙◌}
use Rattle.std.specs.Prelude.{OnOk}
use Rattle.std.proofs.lemmas.Result.{on_ok_weaker}
use Rattle.wast_signatures.specs.SignatureViews.{use_tree}
use Rattle.wast_typed_operands.specs.declared.block.BlockType.{BlockType}
use Rattle.wast_meaning.specs.Mentions.{UsesInBlock}
use Rattle.wast_implied.specs.Known.{after_mentions}
use Rattle.wast_implied.specs.Views.{known}
use Rattle.wast_implied.proofs.Instructions.{other_instruction, try_table_uses}
use Rattle.wast_implied.proofs.gathered.Implied.add_instruction.Goals as goal

pub returns-in_default : goal.returns-in_default
returns-in_default c =
    other_instruction c.args.span (known c.args.self.now) c.args.instruction.now c.in_default.not-Block c.in_default.not-Loop c.in_default.not-If c.in_default.not-Try c.in_default.not-TryTable c.in_default.not-CallIndirect c.in_default.not-ReturnCallIndirect

pub returns-in-TryTable : goal.returns-in-TryTable
returns-in-TryTable c =
    let k = known c.args.self.now in
    let told = subst (λ (b : BlockType). OnOk c.add_block.result (known c.add_block.new.self ≡ after_mentions c.args.span k (UsesInBlock (use_tree b.ty) ∷ []))) c.deref.ensures c.add_block.ensures in
    rw (c.in-TryTable.is) (on_ok_weaker c.add_block.result (λ e. e ∙ try_table_uses c.args.span k c.in-TryTable.try_table) told)
