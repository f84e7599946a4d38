-- Elements in a row.
use Rattle.std.proofs.Common.{◌≡◌, List, [], ◌∷◌, length, Option, Some, None, true, refl, ap, sym, ◌∙◌}
use Rattle.wast_parser.specs.Tokens.{SignificantToken}
use Rattle.wast_parser.specs.Look.{Test, ask}
use Rattle.wast_parser.specs.Spelling.{◌>>=◌}
use Rattle.wast_parser.specs.Lawful.{Shrinks}
use Rattle.wast_parser.specs.Grammar.{Reader, either_reads, many_reads, map_reads, seq_reads}
use Rattle.wast_parser.proofs.GrammarLaws.{shrinks}
use Rattle.wast_grammar.proofs.Repeats.{with_front, many_next, many_refused}
use Rattle.wast_field_syntax.specs.DefinitionSyntax.{element}
use Rattle.wast_field_syntax.proofs.ExpressionLaws.{element_laws}

module _ {N P : Type 0} where
  pub element_shrinks : Shrinks (element {N = N} {P = P}).reads
  element_shrinks = shrinks element element_laws refl refl

-- A list that begins, as its first item and the others.
module _ {N P A B : Type 0} (starts : List Test) (r : Reader N P A) (less : Shrinks r) (f : List A → B) (ts : List (SignificantToken N P)) (begins : ask starts ts ≡ Some true) where
  abbrev listed : Reader N P (List A)
  listed vs = many_reads starts r (length vs) vs

  -- what is read behind nothing, and behind the first
  front_none : (o : Option (List A × List (SignificantToken N P))) → with_front [] o ≡ o
  front_none None = refl
  front_none (Some m) = refl

  abbrev paired : A → Option (List A × List (SignificantToken N P)) → Option ((A × List A) × List (SignificantToken N P))
  paired x o = o >>= λ b. Some ((x, b.0), b.1)

  abbrev seen_pair : Option ((A × List A) × List (SignificantToken N P)) → Option (B × List (SignificantToken N P))
  seen_pair o = o >>= λ a. Some (f (a.0.0 ∷ a.0.1), a.1)

  abbrev seen_list : Option (List A × List (SignificantToken N P)) → Option (B × List (SignificantToken N P))
  seen_list o = o >>= λ a. Some (f a.0, a.1)

  front_one : (x : A) (o : Option (List A × List (SignificantToken N P))) → seen_pair (paired x o) ≡ seen_list (with_front (x ∷ []) o)
  front_one x None = refl
  front_one x (Some m) = refl

  first : (o : Option (A × List (SignificantToken N P))) → r ts ≡ o → map_reads (λ e. f (e.0 ∷ e.1)) (seq_reads r (λ _. listed)) ts ≡ map_reads f listed ts
  first None e = rw e (ap seen_list (sym (sym (front_none (listed ts)) ∙ many_refused starts r less [] ts begins e)))
  first (Some x) e = rw e (front_one x.0 (listed x.1) ∙ ap seen_list (many_next starts r less [] ts x begins e ∙ front_none (listed ts)))

  pub first_listed : (q : Reader N P B) → either_reads starts (map_reads (λ e. f (e.0 ∷ e.1)) (seq_reads r (λ _. listed))) q ts ≡ map_reads f listed ts
  first_listed q = rw begins (first (r ts) refl)
