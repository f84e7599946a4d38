-- What a table keeps stands for its tokens.
use Rattle.std.proofs.Common.{◌≡◌, ℕ, zero, suc, ◌+◌, ◌-◌, ◌<◌, ◌≤◌, List, [], ◌∷◌, ◌++◌, Some, length, get_or, slice_get, refl, sym, ◌∙◌, ap, arith}
use Rattle.wast_lexer.specs.declared.entry.Entry.{Entry}
use Rattle.std.proofs.lemmas.List.{length-map, get_or-map}
use Rattle.wast_lexer.specs.declared.paren.Paren.{Paren}
use Rattle.wast_lexer.specs.declared.paren.Paren.TheVariants.{Opens}
use Rattle.wast_lexer.specs.declared.token.Token.{Token}
use Rattle.wast_lexer.specs.Entries.{tokens_of, Rising, parens_of}
use Rattle.wast_lexer.specs.Groups.{paren_of, parens}

pub tokens_length : (from : ℕ) (es : List Entry) → length (tokens_of from es) ≡ length es
tokens_length from [] = refl
tokens_length from (e ∷ es) = ap suc (tokens_length e.end es)

pub same_parens : (from : ℕ) (es : List Entry) → parens (tokens_of from es) ≡ parens_of es
same_parens from [] = refl
same_parens from (e ∷ es) = ap (λ (y : List Paren). paren_of e.kind ∷ y) (same_parens e.end es)

-- where a token begins
abbrev pub start_at : ℕ → List Entry → ℕ → ℕ
start_at from es zero = from
start_at from [] (suc i) = from
start_at from (e ∷ es) (suc i) = start_at e.end es i

pub start_behind : (from : ℕ) (es : List Entry) (i : ℕ) (d : Entry) → i < length es → start_at from es (suc i) ≡ (get_or es i d).end
start_behind from [] i d h = absurd (omega (arith, h))
start_behind from (e ∷ es) zero d h = refl
start_behind from (e ∷ es) (suc i) d h = start_behind e.end es i d (omega (arith, h))

pub token_kept : (from : ℕ) (es : List Entry) (i : ℕ) (d : Entry) → i < length es
    → slice_get (tokens_of from es) i ≡ Some (record { kind = (get_or es i d).kind; offset = start_at from es i; len = (get_or es i d).end - start_at from es i })
token_kept from [] i d h = absurd (omega (arith, h))
token_kept from (e ∷ es) zero d h = refl
token_kept from (e ∷ es) (suc i) d h = token_kept e.end es i d (omega (arith, h))

pub rising_at : (from : ℕ) (es : List Entry) (i : ℕ) (d : Entry) → Rising from es → i < length es → start_at from es i ≤ (get_or es i d).end
rising_at from [] i d r h = absurd (omega (arith, h))
rising_at from (e ∷ es) zero d r h = r.0
rising_at from (e ∷ es) (suc i) d r h = rising_at e.end es i d r.1 (omega (arith, h))

-- where the last token ends
abbrev pub last_end : ℕ → List Entry → ℕ
last_end from [] = from
last_end from (e ∷ es) = last_end e.end es

tokens_more : (from : ℕ) (es : List Entry) (e : Entry) → tokens_of from (es ++ e ∷ []) ≡ tokens_of from es ++ (record { kind = e.kind; offset = last_end from es; len = e.end - last_end from es }) ∷ []
tokens_more from [] e = refl
tokens_more from (x ∷ es) e = ap (λ (y : List Token). (record { kind = x.kind; offset = from; len = x.end - from }) ∷ y) (tokens_more x.end es e)

-- a token more, which stands from one place to another
pub kept_more : (es : List Entry) (t : Token) (from to : ℕ) → last_end 0 es ≡ from → t.offset ≡ from → from + t.len ≡ to → tokens_of 0 (es ++ (record { kind = t.kind; end = to }) ∷ []) ≡ tokens_of 0 es ++ t ∷ []
kept_more es t from to last place len =
    tokens_more 0 es (record { kind = t.kind; end = to })
    ∙ ap (λ (x : Token). tokens_of 0 es ++ x ∷ []) (ap (λ (i : ℕ). let x : Token = record { kind = t.kind; offset = i; len = to - last_end 0 es } in x) (omega (arith, last, place))
    ∙ ap (λ (i : ℕ). let x : Token = record { kind = t.kind; offset = t.offset; len = i } in x) (omega (arith, last, len)))

pub last_more : (from : ℕ) (es : List Entry) (e : Entry) → last_end from (es ++ e ∷ []) ≡ e.end
last_more from [] e = refl
last_more from (x ∷ es) e = last_more x.end es e

pub rising_more : (from : ℕ) (es : List Entry) (e : Entry) → Rising from es → last_end from es ≤ e.end → Rising from (es ++ e ∷ [])
rising_more from [] e r h = (h, tt)
rising_more from (x ∷ es) e r h = (r.0, rising_more x.end es e r.1 h)

pub paren_found : (es : List Entry) (at : ℕ) (d : Entry) → at < length es → get_or (parens_of es) at Opens ≡ paren_of (get_or es at d).kind
paren_found es at d inside = get_or-map (λ e. paren_of e.kind) es at d Opens inside

pub paren_kept : (es : List Entry) (at : ℕ) (d : Entry) (p : Paren) → at < length es → p ≡ paren_of (get_or es at d).kind → get_or (parens_of es) at Opens ≡ p
paren_kept es at d p inside is = paren_found es at d inside ∙ sym is

pub parens_length : (es : List Entry) → length (parens_of es) ≡ length es
parens_length es = length-map es (λ e. paren_of e.kind)
