-- A text with bodies written flat is worth what it was.
use Rattle.std.proofs.Common.{◌≡◌, ◌≤◌, ℕ, false, List, sym, ◌∙◌, arith}
use Rattle.wast_grammar.specs.Tokens.{Name}
use Rattle.wast_mnemonics.specs.Laws.{EveryWord}
use Rattle.wat_verdict.specs.Registered.{registered}
use Rattle.wat_verdict.proofs.Placed.{text_rises}
use Rattle.wat_verdict.proofs.Told.{told, told_spelled}
use Rattle.wat_verdict.proofs.Alike.{told_moved, told_agree}
use Rattle.wat_laws.specs.Laws.{Flattened, Folding}
use Rattle.wat_laws.proofs.Standing.{standing, at_most_once, matched_places}
use Rattle.wat_laws.proofs.FlatTexts.{text_rewrites}
use Rattle.wat_laws.proofs.SameWorth.{shown, told_worth}

module _ (every : EveryWord) (text other : List ℕ) (x : Flattened text other) where
  -- no two of the flat tokens stand at one place
  apart : (p : ℕ) → standing p x.flat ≤ 1
  apart p =
      let within = (text_rewrites every).within x.tree x.tokens x.flat x.rewritten p in
      let once = at_most_once p 0 x.tokens (text_rises false registered text x.tokens x.significant.0) in
      omega (arith, within, once)

  told_same : told Name ℕ shown x.others ≡ told Name ℕ shown x.tokens
  told_same =
      let matched = matched_places 0 x.flat x.others apart (text_rises false registered other x.others x.significant.1) in
      told_moved x.flat x.others x.alike x.same matched
      ∙ told_spelled shown x.flat x.tree ((text_rewrites every).second x.tree x.tokens x.flat x.rewritten)
      ∙ sym (told_spelled shown x.tokens x.tree ((text_rewrites every).first x.tree x.tokens x.flat x.rewritten))

pub folding : EveryWord → Folding
folding every text other x =
    let same = told_same every text other x in
    let here = x.significant.0 in
    let there = x.significant.1 in
    record {
      worth = λ w. (told_worth text other x.tokens x.others here there same w, told_worth other text x.others x.tokens there here (sym same) w);
      agree = λ bounds. told_agree text other x.tokens x.others here there same bounds.short bounds.utf8;
    }
