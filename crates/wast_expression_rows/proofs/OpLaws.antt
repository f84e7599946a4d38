-- The small set keeps what expressions ask.
use Rattle.std.specs.Prelude.{codes}
use Rattle.std.proofs.Common.{◌≡◌, ℕ, suc, ◌+◌, ◌<◌, List, [], ◌∷◌, length, Some, refl, sym, ◌∙◌, ap, cond, map, drop, get_or, add-one}
use Rattle.std.proofs.Math.Seq.{drop-cons}
use Rattle.wast_grammar.specs.Tokens.{Word}
use Rattle.wast_grammar.specs.Spelling.{find_by, same_text}
use Rattle.wast_grammar.specs.Lawful.{LawfulBut}
use Rattle.wast_grammar.proofs.TokenLaws.{among_laws}
use Rattle.wast_grammar.proofs.BehindLaws.{but_of}
use Rattle.wast_expressions.specs.Expressions.{one_ins}
use Rattle.wast_expressions.specs.Heeds.{Heeds, Spelled}
use Rattle.wast_expression_rows.specs.declared.op.Mnemonic.{Mnemonic}
use Rattle.wast_expression_rows.specs.Ops.{mnemonic_text, the_words, op, op_heads, op_made}

pub op_laws : LawfulBut (one_ins op op_heads) op_heads.own
op_laws = but_of (one_ins op op_heads) (among_laws (λ w. w) the_words [])

pub op_heeds : Heeds op_heads
op_heeds = record { behind = refl; stops_ended = refl; own_ended = λ i. refl; own_flat = λ i. refl; no_then = refl; no_offset = refl; no_item = refl }

pub op_spelled : Spelled op op_made
op_spelled = record { end_is = λ p. (Word (codes "end") p, refl, refl); else_is = λ p. (Word (codes "else") p, refl, refl) }

abbrev pub word : List ℕ → List ℕ
word w = w

-- the search at one mnemonic of a list
pub find_here : (w t : List ℕ) (ms : List Mnemonic) (i : ℕ) (d : Mnemonic) → i < length ms → t ≡ mnemonic_text (get_or ms i d) →
    find_by word w (map mnemonic_text (drop i ms)) ≡ cond (same_text w t) (Some (mnemonic_text (get_or ms i d))) (find_by word w (map mnemonic_text (drop (i + 1) ms)))
find_here w t ms i d h e =
    ap (λ z. find_by word w (map mnemonic_text z)) (drop-cons ms i d h)
    ∙ ap (λ z. cond (same_text w z) (Some (mnemonic_text (get_or ms i d))) (find_by word w (map mnemonic_text (drop (suc i) ms)))) (sym e)
    ∙ ap (λ k. cond (same_text w t) (Some (mnemonic_text (get_or ms i d))) (find_by word w (map mnemonic_text (drop k ms)))) (sym (add-one i))
