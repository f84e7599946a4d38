-- Names of annotations, and those that are registered.
use Rattle.std.proofs.Common.{◌≡◌, ℕ, List, Some, None, map, sym, ◌∙◌, ap, not, ◌&&◌, true, false}
use Rattle.std.specs.Prelude.{slice_get}
use Rattle.std.proofs.Common.{subst, refl, Bool}
use Rattle.wast_grammar.proofs.Looks.{alike, same_self, absurd_of}
use Rattle.wast_lexer.specs.declared.token.Token.{Token}
use Rattle.wast_lexer.specs.declared.token.TokenKind.TheVariants as kinds
use Rattle.wast_lexer.specs.Lexeme.{lexeme_of}
use Rattle.wast_lexer.specs.Tiling.{is_annotation}
use Rattle.wast_lexer.specs.TokenText.{text_of, IsOf}
use Rattle.wast_lexer.specs.Kinds.{IsAnnotationOf, IsAnnotation, IsLexeme}
use Rattle.std.specs.Prelude.{IsTrue}
use Rattle.std.proofs.Common.{◌↔◌}
use Rattle.wast_grammar.proofs.TextLaws.{annotation_is}
use Rattle.wast_grammar.specs.Tokens.{marked_value}
use Rattle.wast_grammar.specs.Spelling.{any_is, same_text}
use Rattle.wast_grammar.specs.Significant.{begins_unknown}
use Rattle.wast_parser_core.specs.State.{State}
use Rattle.wast_parser_core.proofs.Ahead.{lexemes, lexemes_more, past_end}

pub drops_mark : (s : State) (i : ℕ) (t : Token) → slice_get s.source.tokens i ≡ Some t → t.kind ≡ kinds.Annotation → not (any_is (marked_value (text_of s.source.text t)) s.names) ≡ begins_unknown s.names (lexemes s i)
drops_mark s i t got is =
    ap (λ k. is_annotation k && not (any_is (marked_value (text_of s.source.text t)) s.names)) (sym is)
    ∙ ap (begins_unknown s.names) (sym (lexemes_more s i t got))

pub drops_other : (s : State) (i : ℕ) (t : Token) → slice_get s.source.tokens i ≡ Some t → is_annotation t.kind ≡ false → false ≡ begins_unknown s.names (lexemes s i)
drops_other s i t got is =
    ap (λ a. a && not (any_is (marked_value (text_of s.source.text t)) s.names)) (sym is)
    ∙ ap (begins_unknown s.names) (sym (lexemes_more s i t got))

pub drops_none : (s : State) (i : ℕ) → slice_get s.source.tokens i ≡ None → false ≡ begins_unknown s.names (lexemes s i)
drops_none s i got = ap (λ y. begins_unknown s.names (map (lexeme_of s.source.text) y)) (sym (past_end s.source.tokens i got))

pub same_sym : (a b : List ℕ) → same_text a b ≡ same_text b a
same_sym a b = of (same_text a b) (same_text b a) refl refl
  where
    of : (x y : Bool) → same_text a b ≡ x → same_text b a ≡ y → same_text a b ≡ same_text b a
    of true true p q = p ∙ sym q
    of false false p q = p ∙ sym q
    of true false p q = absurd_of (same_text b a) (subst (λ w. same_text w a ≡ true) (alike a b p) (same_self a)) q
    of false true p q = absurd_of (same_text a b) (subst (λ w. same_text w b ≡ true) (alike b a q) (same_self b)) p

-- whether an annotation stands for a name
pub named_so : (text : List ℕ) (t : Token) (name : List ℕ) → IsOf text t → t.kind ≡ kinds.Annotation → (b : Bool) → (IsTrue b ↔ IsAnnotationOf (text_of text t) name) → b ≡ same_text (marked_value (text_of text t)) name
named_so text t name own kind true is = sym (ap (λ w. same_text w name) (annotation_is (text_of text t) name (is.0 refl)) ∙ same_self name)
named_so text t name own kind false is = of (same_text (marked_value (text_of text t)) name) refl
  where
    lexeme : IsAnnotation (text_of text t)
    lexeme = (subst (λ k. IsLexeme own.lexeme.0 k (text_of text t)) kind own.lexeme.1).0

    same : same_text (marked_value (text_of text t)) name ≡ true → lexeme.0 ≡ name
    same e = sym (annotation_is (text_of text t) lexeme.0 lexeme.1) ∙ alike (marked_value (text_of text t)) name e

    of : (x : Bool) → same_text (marked_value (text_of text t)) name ≡ x → false ≡ same_text (marked_value (text_of text t)) name
    of true e = let q : false ≡ true = is.1 (subst (IsAnnotationOf (text_of text t)) (same e) lexeme.1) in absurd (cc)
    of false e = sym e
