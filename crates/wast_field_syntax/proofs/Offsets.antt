-- Where the offset of an element segment can't begin.
use Rattle.std.proofs.Common.{◌≡◌, ℕ, List, [], ◌∷◌, Some, None, true, false, refl, sym, ◌∙◌}
use Rattle.wast_parser.specs.Tokens.{Name}
use Rattle.wast_parser.specs.Significant.{TextToken}
use Rattle.wast_parser.specs.Look.{Opening, ask, sub}
use Rattle.wast_parser.specs.Grammar.{Syntax, wide}
use Rattle.wast_parser.specs.Lawful.{Lawful}
use Rattle.wast_parser.proofs.GrammarLaws.{wide_laws}
use Rattle.wast_parser.proofs.Looks.{sub_law, within_self}
use Rattle.wast_parser.proofs.Unread.{unread}
use Rattle.wast_field_syntax.specs.DefinitionSyntax.{elem_offset}
use Rattle.wast_field_syntax.proofs.ExpressionLaws.{elem_offset_laws}

-- what begins behind a parenthesis alone is read nowhere else
unopened : {A : Type 0} (g : Syntax Name ℕ A) → Lawful g → g.empty ≡ false → sub g.starts (Opening ∷ []) ≡ true
    → (ts : List TextToken) → (ask (Opening ∷ []) ts ≡ Some true → ⊥) → g.reads ts ≡ None
unopened g lg full deep ts =
    unread (wide (Opening ∷ []) false g.stops g)
    (wide_laws g (Opening ∷ []) false g.stops lg (sub_law g.starts (Opening ∷ []) deep) (λ e. sym full ∙ e) (within_self g.stops))
    refl refl ts

pub offset_opens : (ts : List TextToken) → (ask (Opening ∷ []) ts ≡ Some true → ⊥) → elem_offset.reads ts ≡ None
offset_opens = unopened elem_offset elem_offset_laws refl refl
