use Rattle.std.proofs.Common.{◌≡◌, ◌+◌, ℕ, List, [], ◌∷◌, ◌++◌, Option, length, take, sym, ap, subst, ◌∙◌, arith, take_all}
use Rattle.std.proofs.Math.Seq.{take-append-add}
use Rattle.std.proofs.KnownBytes.{Appends-kept, Appends-trans}
use Rattle.std.specs.Io.KnownBytes.{Appends, Keeps}
use Rattle.wat.proofs.program.write_line.Goals as goal

-- a line and what of the line feed went out
appended_line : (held between before_flush held_after : Option (List ℕ)) (line : List ℕ) (first second : ℕ)
    → Appends held between (take first line) → first ≡ length line → Appends between before_flush (take second (10 ∷ []))
    → Keeps before_flush held_after
    → Appends held held_after (take (length line + second) (line ++ 10 ∷ []))
appended_line held between before_flush held_after line first second before all after kept =
    let whole : take first line ≡ line = take_all first line (omega arith) in
    let both : take first line ++ take second (10 ∷ []) ≡ take (length line + second) (line ++ 10 ∷ []) =
    ap (λ l. l ++ take second (10 ∷ [])) whole ∙ sym (take-append-add line (10 ∷ []) second) in
    subst (Appends held held_after) both
    (Appends-kept held before_flush held_after _ (Appends-trans held between before_flush _ _ before after) kept)

pub returns-then-write_front-line : goal.returns-then-write_front-line
returns-then-write_front-line g c = (
  length c.args.line.now + c.write_front-then-write_front-line.result,
  appended_line _ _ _ _ c.args.line.now c.write_front.result c.write_front-then-write_front-line.result c.write_front.ensures.front
      c.if-write_front-line.true c.write_front-then-write_front-line.ensures.front c.flush.ensures.bytes,
)
