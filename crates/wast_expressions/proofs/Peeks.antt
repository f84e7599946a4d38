-- Looking for words, hints, groups and items.
use Rattle.std.proofs.Common.{◌≡◌, ℕ, Bool, true, false, List, [], ◌∷◌, Option, Some, None, refl, sym, ◌∙◌, ap, cond}
use Rattle.wast_grammar.specs.Tokens.{Name, Open, Close, Id, Word, Mark, Integer, Float, Text, Reserved, Broken}
use Rattle.wast_grammar.specs.Significant.{TextToken}
use Rattle.wast_grammar.specs.Spelling.{◌>>=◌}
use Rattle.wast_grammar.specs.Look.{On, AWord, AMark, AFault, Any, This, OneOf, Opening, Look, Test, Texts, first, look, holds, any_fits, at, join, faults, ask, unders}
use Rattle.wast_grammar.specs.Grammar.{mark, maybe, string, only, seq}
use Rattle.wast_grammar.specs.Lawful.{Lawful, Leads}
use Rattle.wast_grammar.proofs.Looks.{absurd_of, first_deep, apart_no2, asked, answered, in_join, join_left, join_right}
use Rattle.wast_grammar.proofs.GrammarLaws.{words_laws, mark_laws, string_laws, only_laws, seq_laws}
use Rattle.wast_grammar.proofs.LeadLaws.{LooksSpelled, spelled_seen, seen_leads, next_leads, mark_leads, paren_leads}
use Rattle.wast_parser_core.specs.State.{past}
use Rattle.wast_parser_core.specs.Openings.{group_here}
use Rattle.wast_expressions.specs.Expressions.{Heads, hint_mark, hint_tests, hint_body, hint, is_hint, hint_value, ins_tests, group_tests, item_tests}
use Rattle.wast_expressions.specs.Views.{any_word}
use Rattle.wast_expressions.proofs.ExpressionLaws.{hint_body_laws}

-- WORDS OF INSTRUCTIONS
module _ {I : Type 0} (heads : Heads I) where
  abbrev one_word : Texts
  one_word = OneOf heads.words heads.but

  held : (w a : List ℕ) (b : Bool) → cond b (Some w) None ≡ Some a → b ≡ true
  held w a true e = refl
  held w a false e = cc

  pub any_word_laws : Lawful (any_word heads)
  any_word_laws = words_laws (λ w. cond (holds one_word w) (Some w) None) one_word (λ w a e. held w a (holds one_word w) e)

  abbrev at_place : ℕ → List ℕ → Option (List ℕ × ℕ)
  at_place p a = Some (a, p)

  found : (w : List ℕ) (p : ℕ) (b : Bool) → cond b true false ≡ true → (cond b (Some w) None >>= at_place p) ≡ Some (w, p)
  found w p true e = refl
  found w p false e = cc

  word_only : (ts : List TextToken) → at (ins_tests heads) ts ≡ true → LooksSpelled (any_word heads).spells ts
  word_only [] h = absurd (cc)
  word_only (Open p ∷ ts) h = shallow (first true ts) (first_deep true ts) h
    where
      shallow : {X : Type 0} (x : Look) → x.deep ≡ true → any_fits (ins_tests heads) x ≡ true → X
      shallow x d h = absurd_of (any_fits (ins_tests heads) x) h (rw d refl)
  word_only (Word w p ∷ ts) h = ((w, p), Word w p, [], [], (Word w p, refl, found w p (holds one_word w) h), refl)
  word_only (_ ∷ ts) h = absurd (cc)

  pub any_word_leads : Leads (any_word heads).spells (ins_tests heads)
  any_word_leads = record { seen = spelled_seen (any_word heads) any_word_laws refl; only = λ ts h. word_only ts (answered (ins_tests heads) ts true h).1 }

-- HINTS
-- a hint, of which one is given
pub hint_leads : ℕ → Leads (hint {N = Name} {P = ℕ}).spells hint_tests
hint_leads p =
    seen_leads hint_value _ hint_tests
    (paren_leads hint_body hint_body_laws (On false AMark (This hint_mark) ∷ [])
    (seen_leads (λ x. x.1) (seq (mark hint_mark) (only is_hint string)).spells (On false AMark (This hint_mark) ∷ [])
    (next_leads (mark hint_mark) (λ _. only is_hint string) (only {N = Name} {P = ℕ} is_hint string).starts false [] (On false AMark (This hint_mark) ∷ []) (seq_laws (mark hint_mark) (only is_hint string) (mark_laws hint_mark) (only_laws is_hint string string_laws) refl) refl (mark_leads hint_mark) refl refl
    (λ a. (0 ∷ [], Text (0 ∷ []) p ∷ [], (refl, (Text (0 ∷ []) p, refl, refl))))))
    refl refl refl refl refl)

-- A FIRST TOKEN
-- where none is to be had
faulty : (b c : Bool) → cond b None (Some c) ≡ None → b ≡ true
faulty true c e = refl
faulty false c e = cc

pub no_token : (tests : List Test) (ts : List TextToken) → ask tests ts ≡ None → at (faults tests) ts ≡ true
no_token tests ts e = faulty (at (faults tests) ts) (at tests ts) e

pub fault_stands : (ts : List TextToken) → at (On false AFault Any ∷ []) ts ≡ true → (us : List TextToken) × (ts ≡ Broken ∷ us)
fault_stands [] e = cc
fault_stands (Open p ∷ us) e = absurd_of (at (On false AFault Any ∷ []) (Open p ∷ us)) e (rw (first_deep true us) refl)
fault_stands (Close p ∷ us) e = cc
fault_stands (Id n p ∷ us) e = cc
fault_stands (Word w p ∷ us) e = cc
fault_stands (Mark w p ∷ us) e = cc
fault_stands (Integer n w p ∷ us) e = cc
fault_stands (Float w p ∷ us) e = cc
fault_stands (Text s p ∷ us) e = cc
fault_stands (Reserved w p ∷ us) e = cc
fault_stands (Broken ∷ us) e = (us, refl)

-- where a parenthesis opens
pub open_stands : (ts : List TextToken) → ask (Opening ∷ []) ts ≡ Some true → (p : ℕ) × (us : List TextToken) × (ts ≡ Open p ∷ us)
open_stands [] e = cc
open_stands (Open p ∷ us) e = (p, us, refl)
open_stands (Close p ∷ us) e = cc
open_stands (Id n p ∷ us) e = cc
open_stands (Word w p ∷ us) e = cc
open_stands (Mark w p ∷ us) e = cc
open_stands (Integer n w p ∷ us) e = cc
open_stands (Float w p ∷ us) e = cc
open_stands (Text s p ∷ us) e = cc
open_stands (Reserved w p ∷ us) e = cc
open_stands (Broken ∷ us) e = cc

-- a group that is no annotation's
pub group_opens : (ts : List TextToken) → group_here ts ≡ true → ask (Opening ∷ []) ts ≡ Some true
group_opens [] e = cc
group_opens (Open p ∷ us) e = rw (first_deep true us) refl
group_opens (Close p ∷ us) e = cc
group_opens (Id n p ∷ us) e = cc
group_opens (Word w p ∷ us) e = cc
group_opens (Mark w p ∷ us) e = cc
group_opens (Integer n w p ∷ us) e = cc
group_opens (Float w p ∷ us) e = cc
group_opens (Text s p ∷ us) e = cc
group_opens (Reserved w p ∷ us) e = cc
group_opens (Broken ∷ us) e = cc

-- bears no hint
pub group_unhinted : (ts : List TextToken) → group_here ts ≡ true → (maybe hint_tests hint).reads ts ≡ Some (None, ts)
group_unhinted [] e = cc
group_unhinted (Open p ∷ []) e = refl
group_unhinted (Open p ∷ Open q ∷ us) e = refl
group_unhinted (Open p ∷ Close q ∷ us) e = refl
group_unhinted (Open p ∷ Id n q ∷ us) e = refl
group_unhinted (Open p ∷ Word w q ∷ us) e = refl
group_unhinted (Open p ∷ Mark w q ∷ us) e = cc
group_unhinted (Open p ∷ Integer n w q ∷ us) e = refl
group_unhinted (Open p ∷ Float w q ∷ us) e = refl
group_unhinted (Open p ∷ Text s q ∷ us) e = refl
group_unhinted (Open p ∷ Reserved w q ∷ us) e = refl
group_unhinted (Open p ∷ Broken ∷ us) e = cc
group_unhinted (Close p ∷ us) e = cc
group_unhinted (Id n p ∷ us) e = cc
group_unhinted (Word w p ∷ us) e = cc
group_unhinted (Mark w p ∷ us) e = cc
group_unhinted (Integer n w p ∷ us) e = cc
group_unhinted (Float w p ∷ us) e = cc
group_unhinted (Text s p ∷ us) e = cc
group_unhinted (Reserved w p ∷ us) e = cc
group_unhinted (Broken ∷ us) e = cc

-- BEHIND A PARENTHESIS
pub is_opening : {X : Type 0} (p : ℕ) (us : List TextToken) (b : Option Bool) → ask (Opening ∷ []) (Open p ∷ us) ≡ b → (b ≡ Some true → X) → X
is_opening p us b e f = f (sym e ∙ rw (first_deep true us) refl)

module _ (t : Texts) where
  abbrev in_front : List Test
  in_front = On false AWord t ∷ []

  abbrev behind : List Test
  behind = On true AWord t ∷ []

  opened : (p : ℕ) (us : List TextToken) → ask behind (Open p ∷ us) ≡ ask in_front us
  opened p [] = refl
  opened p (Open q ∷ us) = rw (first_deep true us) refl
  opened p (Close q ∷ us) = refl
  opened p (Id n q ∷ us) = refl
  opened p (Word w q ∷ us) = refl
  opened p (Mark w q ∷ us) = refl
  opened p (Integer n w q ∷ us) = refl
  opened p (Float w q ∷ us) = refl
  opened p (Text s q ∷ us) = refl
  opened p (Reserved w q ∷ us) = refl
  opened p (Broken ∷ us) = refl

  led_open : (ts : List TextToken) → ask (Opening ∷ []) ts ≡ Some true → ask behind ts ≡ ask in_front (past ts)
  led_open ts e = let s = open_stands ts e in rw s.2 (opened s.0 s.1)

  led_none : (ts : List TextToken) → ask (Opening ∷ []) ts ≡ Some false → ask behind ts ≡ Some false
  led_none [] e = refl
  led_none (Open p ∷ us) e = is_opening p us (Some false) e (λ q. absurd (cc))
  led_none (Close q ∷ us) e = refl
  led_none (Id n q ∷ us) e = refl
  led_none (Word w q ∷ us) e = refl
  led_none (Mark w q ∷ us) e = refl
  led_none (Integer n w q ∷ us) e = refl
  led_none (Float w q ∷ us) e = refl
  led_none (Text s q ∷ us) e = refl
  led_none (Reserved w q ∷ us) e = refl
  led_none (Broken ∷ us) e = cc

  led_fault : (ts : List TextToken) → ask (Opening ∷ []) ts ≡ None → ask behind ts ≡ None
  led_fault ts e = let s = fault_stands ts (no_token (Opening ∷ []) ts e) in rw s.1 refl

-- the same of what begins with a word
module _ (starts : List Test) (t : Texts) (e : starts ≡ On false AWord t ∷ []) (ts : List TextToken) where
  pub word_open : ask (Opening ∷ []) ts ≡ Some true → ask (unders starts) ts ≡ ask starts (past ts)
  word_open h = rw e (led_open t ts h)

  pub word_none : ask (Opening ∷ []) ts ≡ Some false → ask (unders starts) ts ≡ Some false
  word_none h = rw e (led_none t ts h)

  pub word_fault : ask (Opening ∷ []) ts ≡ None → ask (unders starts) ts ≡ None
  word_fault h = rw e (led_fault t ts h)

-- ITEMS
module _ {I : Type 0} (heads : Heads I) (ts : List TextToken) where
  abbrev hinted_tests : List Test
  hinted_tests = join hint_tests (group_tests heads)

  pub item_word : ask (ins_tests heads) ts ≡ Some true → ask (item_tests heads) ts ≡ Some true
  item_word e =
      let y = (answered (ins_tests heads) ts true e).1 in
      asked (item_tests heads) ts true (apart_no2 (look ts) (faults (item_tests heads)) (ins_tests heads) refl y) (join_right (look ts) hint_tests (join (ins_tests heads) (group_tests heads)) (join_left (look ts) (ins_tests heads) (group_tests heads) y))

  pub item_other : ask (ins_tests heads) ts ≡ Some false → ask (item_tests heads) ts ≡ ask hinted_tests ts
  item_other e =
      let n = (answered (ins_tests heads) ts false e).1 in
      let same : at (item_tests heads) ts ≡ at hinted_tests ts =
      in_join (look ts) hint_tests (join (ins_tests heads) (group_tests heads))
      ∙ ap (λ b. cond (at hint_tests ts) true b) (in_join (look ts) (ins_tests heads) (group_tests heads) ∙ ap (λ b. cond b true (at (group_tests heads) ts)) n)
      ∙ sym (in_join (look ts) hint_tests (group_tests heads)) in
      ap (λ b. cond (at (faults hinted_tests) ts) None (Some b)) same
