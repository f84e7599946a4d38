use Rattle.std.proofs.Common.{sym, subst, arith, refl}
use Rattle.std.specs.Str.{IsUtf8, IsCharBoundary}
use Rattle.std.specs.Prelude.{◌+◌, ◌-◌, ◌≡◌, slice_range}
use Rattle.wast_lexer.specs.Kinds.{IsLexeme}
use Rattle.wast_lexer.proofs.Ends.{next_cut}
use Rattle.wast_lexer.specs.Parse.{is_opened}
use Rattle.wast_lexer.proofs.ScanLaws.{token_at, no_token}
use Rattle.wast_lexer.proofs.lexer.Lexer.parse.Goals as goal

pub returns-in-Ok-clause-answers : goal.returns-in-Ok-clause-answers
returns-in-Ok-clause-answers c =
    let found = rw (c.is_opened-opened.ensures, c.as_bytes-text.ensures.value) at (c.in-Ok.ensures) in
    record { begins = token_at c.args.self.now.allow (is_opened c.args.self.now.input.now c.args.pos.now) c.args.self.now.input.now c.args.pos.now c.in-Ok.end c.in-Ok.kind found.0.0 found.0.1 found.1; place = refl; len = omega arith; within = found.0.1 }

pub returns-in-Ok-clause-boundary : goal.returns-in-Ok-clause-boundary
returns-in-Ok-clause-boundary c =
    let found = rw (c.is_opened-opened.ensures, c.as_bytes-text.ensures.value) at (c.in-Ok.ensures) in
    let utf8 : IsUtf8 c.args.self.now.input.now = rw c.as_bytes-text.ensures.value at (c.as_bytes-text.ensures.utf8) in
    next_cut c.args.self.now.allow (is_opened c.args.self.now.input.now c.args.pos.now) c.args.self.now.input.now c.args.pos.now c.in-Ok.end c.in-Ok.kind utf8 found.0.0 found.0.1 found.1

pub returns-in-Ok-clause-token : goal.returns-in-Ok-clause-token
returns-in-Ok-clause-token c =
    let text = c.args.self.now.input.now in
    let from = c.args.pos.now in
    let opened = is_opened text from in
    let found = rw (c.is_opened-opened.ensures, c.as_bytes-text.ensures.value) at (c.in-Ok.ensures) in
    let utf8 : IsUtf8 text = rw c.as_bytes-text.ensures.value at (c.as_bytes-text.ensures.utf8) in
    let same : from + (c.in-Ok.end - from) ≡ c.in-Ok.end = omega (arith, found.0.0) in
    let begins = token_at c.args.self.now.allow opened text from c.in-Ok.end c.in-Ok.kind found.0.0 found.0.1 found.1 in
    let cut = next_cut c.args.self.now.allow opened text from c.in-Ok.end c.in-Ok.kind utf8 found.0.0 found.0.1 found.1 in
    record {
      starts = c.requires;
      ends = subst (IsCharBoundary text) (sym same) cut;
      lexeme = (c.args.self.now.allow, subst (λ n. IsLexeme c.args.self.now.allow c.in-Ok.kind (slice_range text from n)) (sym same) begins.lexeme);
    }

pub returns-in-Err-clause-answers : goal.returns-in-Err-clause-answers
returns-in-Err-clause-answers c =
    let none = rw (c.is_opened-opened.ensures, c.as_bytes-text.ensures.value) at (c.in-Err.ensures) in
    ((omega arith, no_token c.args.self.now.allow (is_opened c.args.self.now.input.now c.args.pos.now) c.args.self.now.input.now c.args.pos.now none, c.from_offset.ensures), refl)
