-- The rows and the text's table.
use Rattle.std.proofs.Common.{slice_get, take, ◌∷◌, Bool, ◌≡◌, ℕ, true, false, List, [], map, length, Option, Some, None, option_map, refl, sym, ap, ◌∙◌, subst, nat_eq, nat_le, cond, ◌&&◌, is_some}
use Rattle.std.proofs.lemmas.Bool.{and_parts}
use Rattle.std.proofs.lemmas.Bool.Decides.{Decides-eqb}
use Rattle.std.proofs.lemmas.Option.{slice_get-map, same_Some}
use Rattle.std.specs.Cmp.Lexicographic.{bytes_decides}
use Rattle.wasm_encoder_base.specs.Table.{table}
use Rattle.wasm_encoder_base.specs.Uncovered.{uncovered}
use Rattle.wasm_encoder_base.specs.Leb.{uleb, leb, digits}
use Rattle.wast_grammar.specs.Spelling.{find_by, any_is, same_text}
use Rattle.wast_grammar.proofs.GrammarLaws.{any_found}
use Rattle.wast_grammar.proofs.Looks.{heads_same, tails_same}
use Rattle.wast_mnemonics.specs.Laws.{EveryWord}
use Rattle.wast_mnemonics.specs.declared.table.TheConstants.{LONGEST, WORDS}
use Rattle.wast_mnemonics.specs.TextTable.{TextEntry, text_table}
use Rattle.wast_mnemonics.specs.Mnemonics.{word_mnemonic}
use Rattle.wast_mnemonics.specs.Words.{entry_of, syntax_at}
use Rattle.wast_mnemonics.specs.Rows.{Row, hash, row_number, has_text, word_in}
use Rattle.wast_mnemonics.proofs.Checks.{word_at, all_placed, not_placed}
use Rattle.wast_mnemonics.proofs.WordRows.{text_of, row_of, has_row}

abbrev mnemonic : TextEntry → List ℕ
mnemonic t = t.mnemonic

rows_named : map text_of WORDS ≡ map (λ r. word_mnemonic r.2) WORDS
rows_named = refl

rows_right : map (λ r. find_by mnemonic (word_mnemonic r.2) text_table) WORDS ≡ map (λ r. Some (entry_of r.2)) WORDS
unfolding syntax_at text_table table uncovered uleb leb digits
rows_right = refl

all_there : all_placed (map mnemonic text_table) ≡ true
unfolding all_placed row_number hash text_table table uncovered uleb leb digits
all_there = refl

-- what two functions agree on in all of a list they agree on in what is found there
agree_step : {A B : Type 0} (f g : A → B) (b : Bool) (x e : A) (o : Option A) → f x ≡ g x → (o ≡ Some e → f e ≡ g e) → cond b (Some x) o ≡ Some e → f e ≡ g e
agree_step f g true x e o first others q = subst (λ y. f y ≡ g y) (same_Some _ _ q) first
agree_step f g false x e o first others q = others q

agree_found : {A B : Type 0} (word : A → List ℕ) (f g : A → B) (w : List ℕ) (es : List A) (e : A) → map f es ≡ map g es → find_by word w es ≡ Some e → f e ≡ g e
agree_found word f g w [] e h k = cc
agree_found word f g w (x ∷ es) e h k = agree_step f g (same_text w (word x)) x e (find_by word w es) (heads_same h) (agree_found word f g w es e (tails_same h)) k

-- the entry of a word is that of its mnemonic
pub every_word : EveryWord
every_word w = agree_found text_of (λ r. find_by mnemonic (word_mnemonic r.2) text_table) (λ r. Some (entry_of r.2)) (word_mnemonic w) WORDS (row_of w) rows_right (has_row w)

none_of : (o : Option TextEntry) → is_some o ≡ false → o ≡ None
none_of None e = refl
none_of (Some t) e = cc

not_found : (t : List ℕ) → any_is t (map mnemonic text_table) ≡ false → find_by mnemonic t text_table ≡ None
not_found t e = none_of (find_by mnemonic t text_table) (sym (any_found mnemonic t text_table) ∙ e)

-- what two functions agree on in all of a list they agree on at each place
agree_at : {A B : Type 0} (f g : A → B) (es : List A) (n : ℕ) (e : A) → map f es ≡ map g es → slice_get es n ≡ Some e → f e ≡ g e
agree_at f g es n e h k = same_Some _ _ (sym (ap (option_map f) k) ∙ sym (slice_get-map f es n) ∙ ap (λ l. slice_get l n) h ∙ slice_get-map g es n ∙ ap (option_map g) k)

text_is : (t : List ℕ) (r : Row) → has_text t r ≡ true → text_of r ≡ t
text_is t r h =
    let has = and_parts (nat_eq r.1 (length t) && nat_le (length t) LONGEST) (same_text (take (length t) r.0) t) h in
    let long : r.1 ≡ length t = (Decides-eqb r.1 (length t)).0 (and_parts (nat_eq r.1 (length t)) (nat_le (length t) LONGEST) has.0).0 in
    ap (λ n. take n r.0) long ∙ (bytes_decides (take (length t) r.0) t).0 has.1

-- a row that is found has the word of its text
row_right : (t : List ℕ) (r : Row) → slice_get WORDS (row_number t) ≡ Some r → has_text t r ≡ true → Some (entry_of r.2) ≡ find_by mnemonic t text_table
row_right t r k h = sym (every_word r.2) ∙ ap (λ m. find_by mnemonic m text_table) (sym (agree_at text_of (λ (r : Row). word_mnemonic r.2) WORDS (row_number t) r rows_named k) ∙ text_is t r h)

from_row : (t : List ℕ) (r : Row) (b : Bool) → slice_get WORDS (row_number t) ≡ Some r → has_text t r ≡ b → is_some (cond b (Some r.2) None) ≡ is_some (word_at t) → option_map entry_of (cond b (Some r.2) None) ≡ find_by mnemonic t text_table
from_row t r true k h e = row_right t r k h
from_row t r false k h e = sym (not_found t (not_placed (map mnemonic text_table) t all_there (sym e)))

-- the answer of the look-up is that of the table
looked : (t : List ℕ) (o : Option Row) → slice_get WORDS (row_number t) ≡ o → is_some (word_in t o) ≡ is_some (word_at t) → option_map entry_of (word_in t o) ≡ find_by mnemonic t text_table
looked t None k e = sym (not_found t (not_placed (map mnemonic text_table) t all_there (sym e)))
looked t (Some r) k e = from_row t r (has_text t r) k refl e

pub looked_up : (t : List ℕ) → option_map entry_of (word_at t) ≡ find_by mnemonic t text_table
looked_up t = looked t (slice_get WORDS (row_number t)) refl refl
