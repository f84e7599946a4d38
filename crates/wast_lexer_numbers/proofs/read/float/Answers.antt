use Rattle.std.proofs.Common.{◌≡◌, sym, ◌∙◌, ap, subst, true, ◌-◌, ◌++◌, length, drop, Some, List, ℕ, Option}
use Rattle.std.specs.List.{list_all}
use Rattle.wast_lexer_numbers.specs.declared.kind.FloatKind.{FloatKind}
use Rattle.wast_lexer_numbers.specs.declared.kind.NumberKind.{NumberKind}
use Rattle.wast_lexer_numbers.specs.declared.kind.NumberKind.TheVariants.{Float}
use Rattle.wast_lexer_numbers.specs.Numbers.{sign_text}
use Rattle.wast_lexer_numbers.specs.NumberParts.{IsFloatOf}
use Rattle.wast_lexer_numbers.specs.FloatSteps.{is_ascii}
use Rattle.wast_lexer_numbers.specs.NumberScan.{body, sign_of, unsigned}
use Rattle.wast_lexer_numbers.proofs.NumberPartsLaws.{body_of}
use Rattle.wast_lexer_numbers.proofs.read.float.Goals as goal

pub normal-requires-clause-ascii : goal.normal-requires-clause-ascii
normal-requires-clause-ascii c =
    let word = c.args.word.now in
    let b = body_of (Float c.args.kind) word c.requires in
    let rest = rw c.as_bytes.ensures.value at (c.split_sign-sign.ensures.rest) in
    let is : c.range_from-text.result.now ≡ unsigned word = c.range_from-text.ensures.value ∙ ap (λ (y : List ℕ). drop (length word - length y) word) rest ∙ b.behind in
    subst (λ y. list_all is_ascii y ≡ true) (sym is) b.ascii

pub normal-requires-clause-float : goal.normal-requires-clause-float
normal-requires-clause-float c =
    let word = c.args.word.now in
    let b = body_of (Float c.args.kind) word c.requires in
    let sign = rw c.as_bytes.ensures.value at (c.split_sign-sign.ensures.sign) in
    let rest = rw c.as_bytes.ensures.value at (c.split_sign-sign.ensures.rest) in
    let is : c.range_from-text.result.now ≡ unsigned word = c.range_from-text.ensures.value ∙ ap (λ (y : List ℕ). drop (length word - length y) word) rest ∙ b.behind in
    ap (λ s. body s c.range_from-text.result.now) sign ∙ ap (body (sign_of word)) is ∙ b.scanned ∙ ap (λ (k : FloatKind). let o : Option NumberKind = Some (Float k) in o) c.in-Normal.is

pub returns-in-Normal : goal.returns-in-Normal
returns-in-Normal c =
    let word = c.args.word.now in
    let b = body_of (Float c.args.kind) word c.requires in
    let sign = rw c.as_bytes.ensures.value at (c.split_sign-sign.ensures.sign) in
    let rest = rw c.as_bytes.ensures.value at (c.split_sign-sign.ensures.rest) in
    let is : c.range_from-text.result.now ≡ unsigned word = c.range_from-text.ensures.value ∙ ap (λ (y : List ℕ). drop (length word - length y) word) rest ∙ b.behind in
    let whole : sign_text c.split_sign-sign.result.0 ++ c.range_from-text.result.now ≡ word = ap (λ s. sign_text s ++ c.range_from-text.result.now) sign ∙ ap (λ y. sign_text (sign_of word) ++ y) is ∙ sym b.split in
    subst (λ y. IsFloatOf y c.normal.result) whole c.normal.ensures
