-- Laws of integers of a range, of strings and of names.
use Rattle.std.proofs.Common.{◌≡◌, ℕ, ◌-◌, true, false, List, [], ◌∷◌, Option, Some, None, refl}
use Rattle.std.specs.Prelude.{◌^◌}
use Rattle.wast_grammar.specs.Tokens.{SignificantToken, Literal}
use Rattle.wast_grammar.specs.Lawful.{Lawful, Leads}
use Rattle.wast_grammar.specs.Look.{On, AnInteger, AString, Any}
use Rattle.wast_grammar.proofs.GrammarLaws.{seen_laws, only_laws, integer_laws, string_laws}
use Rattle.wast_grammar.proofs.LeadLaws.{integer_leads, string_leads, seen_leads}
use Rattle.wast_grammar.specs.Grammar.{integer, string, seen}
use Rattle.std.specs.Str.{is_utf8}
use Rattle.std.proofs.Math.Dec.{leb-zero}
use Rattle.std.proofs.lemmas.Str.{is_utf8-from_IsUtf8, IsUtf8-nil}
use Rattle.wast_parser_core.specs.Literals.{is_within}
use Rattle.wast_parser_core.specs.Productions.{ranged, name}
use Rattle.wast_parser_core.specs.Integers.{number_in, unsigned, u32}

pub ranged_laws : {N P : Type 0} (most : ℕ) (least : Option ℕ) → Lawful (ranged {N = N} {P = P} most least)
ranged_laws most least = only_laws (λ l. is_within most least l.0) integer integer_laws

pub number_laws : {N P A : Type 0} (most : ℕ) (least : Option ℕ) (says : Literal → A) → Lawful (number_in {N = N} {P = P} most least says)
number_laws most least says = seen_laws (λ x. (says x.0, x.1)) (ranged most least) (ranged_laws most least)

pub u32_laws : {N P : Type 0} → Lawful (u32 {N = N} {P = P})
u32_laws = seen_laws (λ x. x.0) (number_in (2 ^ 32 - 1) None unsigned) (number_laws (2 ^ 32 - 1) None unsigned)

pub name_laws : {N P : Type 0} → Lawful (name {N = N} {P = P})
name_laws = only_laws is_utf8 string string_laws

-- what is read of a range is in it
pub read_within : {N P : Type 0} (most : ℕ) (least : Option ℕ) (ts : List (SignificantToken N P)) (x : (Literal × P) × List (SignificantToken N P)) → (ranged most least).reads ts ≡ Some x → is_within most least x.0.0 ≡ true
read_within most least ts x h = ((ranged_laws most least).sound ts x h).spelled.0

-- WHERE THEY BEGIN; 0 is in each range
pub ranged_leads : {N P : Type 0} (most : ℕ) (least : Option ℕ) → Leads (ranged {N = N} {P = P} most least).spells (On false AnInteger Any ∷ [])
ranged_leads most least = integer_leads (λ l. is_within most least l.0) (record { minus = false; size = 0 }) (λ p. leb-zero most)

pub number_leads : {N P A : Type 0} (most : ℕ) (least : Option ℕ) (says : Literal → A) → Leads (number_in {N = N} {P = P} most least says).spells (On false AnInteger Any ∷ [])
number_leads most least says = seen_leads (λ x. (says x.0, x.1)) (ranged most least).spells (On false AnInteger Any ∷ []) (ranged_leads most least)

-- the number alone
pub integer_value_leads : {N P A : Type 0} (most : ℕ) (least : Option ℕ) (says : Literal → A) → Leads (seen (λ x. x.0) (number_in {N = N} {P = P} most least says)).spells (On false AnInteger Any ∷ [])
integer_value_leads most least says = seen_leads (λ x. x.0) (number_in most least says).spells (On false AnInteger Any ∷ []) (number_leads most least says)

pub name_leads : {N P : Type 0} → Leads (name {N = N} {P = P}).spells (On false AString Any ∷ [])
name_leads = string_leads is_utf8 [] (is_utf8-from_IsUtf8 [] IsUtf8-nil)

pub bytes_leads : {N P : Type 0} → Leads (string {N = N} {P = P}).spells (On false AString Any ∷ [])
bytes_leads {N} {P} = let l = string_leads {N = N} {P = P} (λ _. true) [] refl in record {
  seen = λ a t ts rest s. l.seen a t ts rest (refl, s);
  only = λ ts h. (let k = l.only ts h in (k.0, k.1, k.2, k.3, k.4.1, k.5));
}
