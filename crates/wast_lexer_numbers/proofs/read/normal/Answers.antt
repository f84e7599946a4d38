use Rattle.wast_lexer_numbers.proofs.NumberPartsLaws.{normal_based, based_of}
use Rattle.wast_lexer_numbers.proofs.read.normal.Goals as goal

pub value-requires-clause-float : goal.value-requires-clause-float
value-requires-clause-float c =
    let text = c.args.text.now in
    let found = rw c.as_bytes.ensures.value at (c.in-Some.ensures) in
    let b = based_of text _ c.utf8.text found in
    let is = rw found at (normal_based c.args.sign text c.requires.float) in
    rw (c.range_from.ensures.value, b.behind) is

pub value-requires-in-None-clause-float : goal.value-requires-in-None-clause-float
value-requires-in-None-clause-float c =
    let none = rw c.as_bytes.ensures.value at (c.in-None.ensures) in
    rw none at (normal_based c.args.sign c.args.text.now c.requires.float)
