use Rattle.std.proofs.Common.{◌≡◌, sym, ◌∙◌, ap, cond, map, drop, get_or, Some, ◌+◌, false, true}
use Rattle.wast_grammar.specs.Spelling.{find_by, same_text}
use Rattle.wast_expression_rows.specs.declared.op.Mnemonic.TheVariants.{Nop}
use Rattle.wast_expression_rows.specs.Ops.{mnemonic_text}
use Rattle.wast_expression_rows.proofs.OpLaws.{find_here, word}
use Rattle.wast_expression_rows.proofs.op.find_among.Goals as goal

pub loop-mnemonic-preserved : goal.loop-mnemonic-preserved
loop-mnemonic-preserved c =
    let here = find_here c.args.text.now c.as_bytes.result.now c.args.mnemonics.now c.loop-mnemonic.mnemonic-index Nop c.loop-mnemonic-test.true (c.as_bytes.ensures.value ∙ c.text.ensures) in
    let other : same_text c.args.text.now c.as_bytes.result.now ≡ false = sym c.eq.ensures ∙ c.if-eq.false in
    sym (here ∙ ap (λ b. cond b (Some (mnemonic_text (get_or c.args.mnemonics.now c.loop-mnemonic.mnemonic-index Nop))) (find_by word c.args.text.now (map mnemonic_text (drop (c.loop-mnemonic.mnemonic-index + 1) c.args.mnemonics.now)))) other) ∙ c.loop-mnemonic.invariant

pub returns-then-eq : goal.returns-then-eq
returns-then-eq c =
    let here = find_here c.args.text.now c.as_bytes.result.now c.args.mnemonics.now c.loop-mnemonic.mnemonic-index Nop c.loop-mnemonic-test.true (c.as_bytes.ensures.value ∙ c.text.ensures) in
    let this : same_text c.args.text.now c.as_bytes.result.now ≡ true = sym c.eq.ensures ∙ c.if-eq.true in
    sym (here ∙ ap (λ b. cond b (Some (mnemonic_text (get_or c.args.mnemonics.now c.loop-mnemonic.mnemonic-index Nop))) (find_by word c.args.text.now (map mnemonic_text (drop (c.loop-mnemonic.mnemonic-index + 1) c.args.mnemonics.now)))) this) ∙ c.loop-mnemonic.invariant
