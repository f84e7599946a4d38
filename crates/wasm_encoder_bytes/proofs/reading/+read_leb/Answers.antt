use Rattle.std.proofs.Common.{ℕ, ◌≡◌, ◌≤◌, ◌∷◌, ◌++◌, ◌∙◌, refl, sym, ap, length, List, arith, slice_index_or}
use Rattle.wasm_encoder_bytes.proofs.ReadSteps.{whole, rest_of, some_map, none_map, none_empty, found_last, none_last, none_short, none_after, none_more, front_more, length_more}
use Rattle.wasm_encoder_bytes.proofs.reading.+read_leb.Goals as goal

-- the first byte
abbrev first_of : List ℕ → ℕ
first_of bytes = slice_index_or bytes 0 0

split : (bytes : List ℕ) → 1 ≤ length bytes → bytes ≡ first_of bytes ∷ rest_of bytes
split bytes h = whole bytes (first_of bytes) h refl

pub returns-in-empty-clause-none : goal.returns-in-empty-clause-none
returns-in-empty-clause-none t c flip n m l f = none_empty c.args.bytes.now flip c.args.last n (omega arith) (omega arith) f

pub returns-then-first-lt128-clause-found : goal.returns-then-first-lt128-clause-found
returns-then-first-lt128-clause-found t c =
    some_map c.last_byte.result (λ x p. (rest_of c.args.bytes.now, split c.args.bytes.now (omega arith) ∙ ap (λ v. v ++ rest_of c.args.bytes.now) (sym (found_last x.flip c.args.last (first_of c.args.bytes.now) x.size p.0 p.1 c.if-first-lt128.true c.requires.last)))) c.last_byte.ensures.some

pub returns-then-first-lt128-clause-length : goal.returns-then-first-lt128-clause-length
returns-then-first-lt128-clause-length t c =
    some_map c.last_byte.result (λ x p. p.3 ∙ sym (ap length (found_last x.flip c.args.last (first_of c.args.bytes.now) x.size p.0 p.1 c.if-first-lt128.true c.requires.last))) c.last_byte.ensures.some

pub returns-then-first-lt128-clause-none : goal.returns-then-first-lt128-clause-none
returns-then-first-lt128-clause-none t c =
    none_map c.last_byte.result (λ over flip n m l f. none_last flip c.args.last c.args.most n (first_of c.args.bytes.now) (rest_of c.args.bytes.now) c.args.bytes.now c.requires.last c.if-first-lt128.true over (split c.args.bytes.now (omega arith)) m l f) c.last_byte.ensures.none

pub returns-then-most-from-clause-none : goal.returns-then-most-from-clause-none
returns-then-most-from-clause-none t c flip n m l f =
    none_short flip c.args.last c.args.most n (first_of c.args.bytes.now) (rest_of c.args.bytes.now) c.args.bytes.now c.requires.last c.if-first-lt128.false (omega arith) (split c.args.bytes.now (omega arith)) l f

pub returns-in-None-clause-none : goal.returns-in-None-clause-none
returns-in-None-clause-none t c flip n m l f =
    none_after flip c.args.last c.args.most n (first_of c.args.bytes.now) (rest_of c.args.bytes.now) c.args.bytes.now c.requires.last c.if-first-lt128.false (λ k q g. c.in-None.ensures.none flip k m q g) (split c.args.bytes.now (omega arith)) l f

pub returns-in-Some-clause-found : goal.returns-in-Some-clause-found
returns-in-Some-clause-found t c =
    some_map c.one_more.result (λ x p. front_more c.in-Some.higher.flip x.flip c.args.last (first_of c.args.bytes.now) c.in-Some.higher.size x.size (rest_of c.args.bytes.now) c.args.bytes.now c.requires.last c.if-first-lt128.false (omega (arith, c.type_inv.bytes 0)) p.0 p.1 p.3 (split c.args.bytes.now (omega arith)) c.in-Some.ensures.found) c.one_more.ensures.some

pub returns-in-Some-clause-length : goal.returns-in-Some-clause-length
returns-in-Some-clause-length t c =
    some_map c.one_more.result (λ x p. p.4 ∙ length_more c.in-Some.higher.flip x.flip c.args.last (first_of c.args.bytes.now) c.in-Some.higher.size x.size c.in-Some.higher.len c.requires.last c.if-first-lt128.false (omega (arith, c.type_inv.bytes 0)) p.0 p.1 p.3 c.in-Some.ensures.length) c.one_more.ensures.some

pub returns-in-Some-clause-none : goal.returns-in-Some-clause-none
returns-in-Some-clause-none t c =
    none_map c.one_more.result (λ none flip n m l f. none_more c.in-Some.higher.flip flip c.args.last c.args.most n (first_of c.args.bytes.now) c.in-Some.higher.size (rest_of c.args.bytes.now) c.args.bytes.now c.requires.last c.if-first-lt128.false c.in-Some.ensures.sign c.in-Some.ensures.found none (split c.args.bytes.now (omega arith)) m l f) c.one_more.ensures.none
