-- Folded and flat forms spell one expression.
use Rattle.std.proofs.Common.{◌≡◌, ℕ, List, [], ◌∷◌, ◌++◌, map, Option, refl, sym, ◌∙◌, ap, subst}
use Rattle.wast_grammar.specs.Tokens.{SignificantToken}
use Rattle.wast_grammar.specs.Grammar.{Syntax}
use Rattle.wast_grammar.specs.Lawful.{LawfulBut}
use Rattle.wast_expressions.specs.Items.{Made, unfolded, expression_of}
use Rattle.wast_expressions.specs.Expressions.{Heads, one_ins}
use Rattle.wast_expressions.specs.Heeds.{Heeds, Spelled}
use Rattle.wast_expressions.specs.Laws.{kept, kept_heads, kept_made, without_tokens, WrittenFlat, Folding}
use Rattle.wast_expressions.proofs.Flat.{FlatTokens, flat_items, flat_unfolds, written_flat, flat_spelled}
use Rattle.wast_expressions.proofs.Kept.{unfolded_strip, items_kept}

module _ {N P I : Type 0} (ins : Syntax N P I) (heads : Heads I) (m : Made P I) where
  abbrev Toks : Type 0
  Toks = List (SignificantToken N P)

  spelled_kept : Spelled ins m → Spelled (kept ins) (kept_made m)
  spelled_kept sp = record { end_is = λ p. (sp.end_is p, refl); else_is = λ p. (sp.else_is p, refl) }

  -- each is spelled by its tokens
  abbrev AllSpelled : List (Option ℕ × (I × Toks)) → Type 0
  AllSpelled [] = Unit {0}
  AllSpelled (x ∷ xs) = ins.spells x.1.0 x.1.1 × AllSpelled xs

  to_written : (xs : List (Option ℕ × (I × Toks))) (us : Toks) → FlatTokens (kept ins) (kept_heads heads) (kept_made m) xs us → WrittenFlat xs us
  to_written [] us f = f
  to_written (x ∷ xs) us f = (f.0, f.2, f.3 ∙ ap (λ z. (f.0 ++ z) ++ f.2) (sym f.5.1), f.4, to_written xs f.2 f.6)

  to_spelled : (xs : List (Option ℕ × (I × Toks))) (us : Toks) → FlatTokens (kept ins) (kept_heads heads) (kept_made m) xs us → AllSpelled xs
  to_spelled [] us f = tt
  to_spelled (x ∷ xs) us f = (subst (λ z. ins.spells x.1.0 z) (sym f.5.1) f.5.0, to_spelled xs f.2 f.6)

  from_written : (xs : List (Option ℕ × (I × Toks))) (us : Toks) → AllSpelled xs → WrittenFlat xs us → FlatTokens ins heads m (map without_tokens xs) us
  from_written [] us a f = f
  from_written (x ∷ xs) us a f = (f.0, x.1.1, f.1, f.2, f.3, a.0, from_written xs f.1 a.1 f.4)

  pub folding : LawfulBut (one_ins ins heads) heads.own → Heeds heads → Spelled ins m → Folding ins heads m
  folding li heeds sp x ts s =
      let y = items_kept ins heads x ts s in
      let km = kept_made m in
      let xs = unfolded km y.0 in
      let w = written_flat (kept ins) (kept_heads heads) km (spelled_kept sp) y.0 ts y.1 in
      let e : map without_tokens xs ≡ unfolded m x = unfolded_strip m y.0 ∙ ap (unfolded m) y.2 in
      let a = to_spelled xs w.tokens w.spelled in (
        y.0,
        y.1,
        e,
        (w.tokens, to_written xs w.tokens w.spelled),
        λ us f. (
            let g : FlatTokens ins heads m (unfolded m x) us = subst (λ z. FlatTokens ins heads m z us) e (from_written xs us a f) in
            ((x, refl, s), (flat_items ins heads m (unfolded m x), ap expression_of (flat_unfolds ins heads m (unfolded m x)), flat_spelled ins heads m li heeds (unfolded m x) us g))),
      )
