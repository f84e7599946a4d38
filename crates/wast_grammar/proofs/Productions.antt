-- Worked examples of productions: what they read and spell, by computation, and their laws, each a term that mirrors it.
-- An ambiguous production has no law: a condition of it computes to false, as the last section shows.
use Rattle.std.proofs.Common.{◌≡◌, ℕ, suc, ap, Bool, true, false, not, ◌&&◌, List, [], ◌∷◌, Option, Some, None, inl, inr, refl, codes, nat_lt}
use Rattle.wast_grammar.specs.Tokens as tokens
use Rattle.wast_grammar.specs.Tokens.{SignificantToken, Open, Close, Id, Word, Integer, Literal}
use Rattle.wast_grammar.specs.Spelling.{◌>>=◌, same_name}
use Rattle.wast_grammar.specs.Significant.{TextToken}
use Rattle.wast_grammar.specs.Look.{AnInteger, AnId, AWord, OneOf, Any, Test, On, this_group, apart, join, faults}
use Rattle.wast_grammar.specs.Grammar.{Syntax, word, among, begun, mark, id, integer, float, string, nothing, next, seq, wide, seen, only, maybe, many, times, either, fenced, led, group, annotation, part}
use Rattle.wast_grammar.specs.Recursion.{fix}
use Rattle.wast_grammar.specs.Behind.{next_but, row}
use Rattle.wast_grammar.proofs.Examples.{named, word_at, id_at, mark_at, nameless_at, open_at, close_at, broken, seven, seven_at, text_at, heaps, mnemonics, indices}
use Rattle.wast_grammar.proofs.GrammarLaws.{Lawful, word_laws, among_laws, id_laws, integer_laws, string_laws, nothing_laws, seen_laws, only_laws, seq_laws, next_laws, maybe_laws, many_laws, times_laws, either_laws, fenced_laws, group_laws, annotation_laws, bound_laws, wide_laws, one_value, all_spelled}
use Rattle.wast_grammar.proofs.Looks.{within_self}
use Rattle.wast_grammar.proofs.Twins.{Paired, group_twins, part_twins, part_laws, twins_read}
use Rattle.wast_grammar.proofs.RecursionLaws.{Steps, fix_laws, under_self, under_seen, under_group, under_either}
use Rattle.wast_grammar.proofs.BehindLaws.{but_of, row_laws, next_but_laws}
use Rattle.wast_grammar.proofs.Decide.{names_decide, tokens_decide, renaming, carried_over}
use Rattle.wast_grammar.specs.Alike.{Alike, Same, Matched, Rising, Carries, names as paired, places}

-- ONE TOKEN
reads_word : (word (codes "func")).reads (word_at "func" 3 ∷ id_at "x" 8 ∷ []) ≡ Some (3, id_at "x" 8 ∷ [])
reads_word = refl

-- a word of a set with its value
module _ {N P : Type 0} where
  abbrev heap : Syntax N P (ℕ × P)
  heap = seen (λ e. (e.0.1, e.1)) (among (λ e. e.0) heaps [])

  heap_laws : Lawful heap
  heap_laws = seen_laws _ _ (among_laws (λ e. e.0) heaps [])

reads_heap : heap.reads (word_at "extern" 3 ∷ []) ≡ Some ((0x6F, 3), [])
reads_heap = refl

-- a word of a set but some
reads_no_then : (among (λ w. w) mnemonics (codes "then" ∷ [])).reads (word_at "then" 3 ∷ []) ≡ None
reads_no_then = refl

reads_begun : (begun (codes "offset=") (λ w. Some w)).reads (word_at "offset=8" 3 ∷ []) ≡ Some ((codes "8", 3), [])
reads_begun = refl

reads_mark : (mark (codes "name")).reads (mark_at "name" 3 ∷ []) ≡ Some (3, [])
reads_mark = refl

reads_id : id.reads (id_at "x" 3 ∷ []) ≡ Some ((named "x", 3), [])
reads_id = refl

reads_no_id : id.reads (nameless_at 3 ∷ []) ≡ None
reads_no_id = refl

reads_integer : integer.reads (seven_at 3 ∷ []) ≡ Some ((seven, 3), [])
reads_integer = refl

reads_float : float.reads (seven_at 3 ∷ []) ≡ Some ((codes "7", 3), [])
reads_float = refl

reads_string : string.reads (text_at "a" 3 ∷ []) ≡ Some (codes "a", [])
reads_string = refl

reads_nothing : nothing.reads (seven_at 3 ∷ []) ≡ Some (tt, seven_at 3 ∷ [])
reads_nothing = refl

-- CHOICES: an index is a number that has 32 bits, or a name (6.3.5 and 6.6.1)
data Idx (N P : Type 0) : Type 0 where
  Number : ℕ → P → Idx N P
  Name : N → P → Idx N P

abbrev is_u32 : Literal → Bool
is_u32 l = not l.minus && nat_lt l.size 4294967296

abbrev numbers : List Test
numbers = On false AnInteger Any ∷ []

module _ {N P : Type 0} where
  abbrev index : Syntax N P (Idx N P)
  index = either numbers (seen (λ n. Number n.0.size n.1) (only (λ n. is_u32 n.0) integer)) (seen (λ n. Name n.0 n.1) id)

  index_laws : Lawful index
  index_laws = either_laws _ _ _ (seen_laws _ _ (only_laws _ _ integer_laws)) (seen_laws _ _ id_laws) refl refl refl refl

reads_number : index.reads (seven_at 3 ∷ close_at 4 ∷ []) ≡ Some (Number 7 3, close_at 4 ∷ [])
reads_number = refl

reads_name : index.reads (id_at "x" 3 ∷ []) ≡ Some (Name (named "x") 3, [])
reads_name = refl

spells_name : index.spells (Name (named "x") 3) (id_at "x" 3 ∷ [])
spells_name = inr ((named "x", 3), refl, (id_at "x" 3, refl, refl))

fault_met : index.reads (broken ∷ []) ≡ None
fault_met = refl

-- LISTS: (elem id? func index*)
abbrev names : List Test
names = On false AnId Any ∷ []

module _ {N P : Type 0} where
  abbrev elem : Syntax N P (Option (N × P) × List (Idx N P))
  elem = group (codes "elem") (seq (maybe names id) (led (codes "func") (many indices index)))

  elem_laws : Lawful elem
  elem_laws = group_laws (codes "elem") _ (seq_laws _ _ (maybe_laws _ _ id_laws refl refl refl) (seen_laws _ _ (seq_laws _ _ (word_laws (codes "func")) (many_laws _ _ index_laws refl refl refl refl refl) refl)) refl) refl

abbrev elem_tokens : List TextToken
elem_tokens = open_at 0 ∷ word_at "elem" 1 ∷ id_at "e" 6 ∷ word_at "func" 9 ∷ seven_at 14 ∷ id_at "x" 16 ∷ close_at 18 ∷ []

reads_elem : elem.reads elem_tokens ≡ Some ((Some (named "e", 6), Number 7 14 ∷ Name (named "x") 16 ∷ []), [])
reads_elem = refl

-- these tokens spell that, and nothing else
elem_once : (a : Option (tokens.Name × ℕ) × List (Idx tokens.Name ℕ)) → elem.spells a elem_tokens → a ≡ (Some (named "e", 6), Number 7 14 ∷ Name (named "x") 16 ∷ [])
elem_once a s = one_value elem elem_laws refl elem_tokens a _ s (all_spelled elem elem_laws elem_tokens _ reads_elem)

-- COUNTED: so many integers, and as many as an integer says
module _ {N P : Type 0} where
  abbrev two_lanes : Syntax N P (List (Literal × P))
  two_lanes = times 2 integer

  two_lanes_laws : Lawful two_lanes
  two_lanes_laws = times_laws _ integer_laws refl refl 2

  abbrev counted : Syntax N P ((Literal × P) × List (Literal × P))
  counted = next integer (λ n. times n.0.size integer) numbers true []

  counted_laws : Lawful counted
  counted_laws = next_laws integer (λ n. times n.0.size integer) numbers true [] integer_laws (λ n. bound_laws _ numbers [] (times_laws integer integer_laws refl refl n.0.size) refl refl) refl

abbrev one : Literal
one = record { minus = false; size = 1 }

reads_two : two_lanes.reads (seven_at 0 ∷ seven_at 2 ∷ seven_at 4 ∷ []) ≡ Some ((seven, 0) ∷ (seven, 2) ∷ [], seven_at 4 ∷ [])
reads_two = refl

reads_too_few : two_lanes.reads (seven_at 0 ∷ []) ≡ None
reads_too_few = refl

reads_counted : counted.reads (Integer one (codes "1") 0 ∷ seven_at 2 ∷ seven_at 4 ∷ []) ≡ Some (((one, 0), (seven, 2) ∷ []), seven_at 4 ∷ [])
reads_counted = refl

-- GROUPS: (@name "a"), and the place where a group closes
module _ {N P : Type 0} where
  abbrev name_note : Syntax N P (List ℕ)
  name_note = annotation (codes "name") string

  name_note_laws : Lawful name_note
  name_note_laws = annotation_laws (codes "name") _ string_laws refl

  abbrev closed : Syntax N P ((N × P) × P)
  closed = fenced id

  closed_laws : Lawful closed
  closed_laws = fenced_laws _ id_laws refl refl

reads_note : name_note.reads (open_at 0 ∷ mark_at "name" 1 ∷ text_at "a" 7 ∷ close_at 10 ∷ []) ≡ Some (codes "a", [])
reads_note = refl

reads_closed : closed.reads (open_at 0 ∷ id_at "x" 1 ∷ close_at 3 ∷ []) ≡ Some (((named "x", 1), 3), [])
reads_closed = refl

-- by the relation: the parentheses, and what stands within
spells_closed : closed.spells ((named "x", 1), 3) (open_at 0 ∷ id_at "x" 1 ∷ close_at 3 ∷ [])
spells_closed = (id_at "x" 1 ∷ [], 0, refl, (id_at "x" 1, refl, refl))

spells_two : two_lanes.spells ((seven, 0) ∷ (seven, 2) ∷ []) (seven_at 0 ∷ seven_at 2 ∷ [])
spells_two = (refl, (seven_at 0 ∷ [], seven_at 2 ∷ [], refl, (seven_at 0, refl, refl), (seven_at 2 ∷ [], [], refl, (seven_at 2, refl, refl), refl)))

-- MARKED PARTS: any index may stand for another
module _ {N P : Type 0} where
  abbrev any_index : Syntax N P (Unit {0})
  any_index = seen (λ _. tt) index

  abbrev start : Syntax N P (Unit {0})
  start = group (codes "start") (part any_index)

  start_laws : Lawful start
  start_laws = group_laws (codes "start") _ (part_laws _ (seen_laws _ _ index_laws)) refl

  start_twins : Paired start
  start_twins = group_twins (codes "start") _ (part_twins any_index)

  -- two that differ in the part
  twins_of : (n : N) (p q r s : P) (l : Literal) → is_u32 l ≡ true → start.twins tt (Open p ∷ Word (codes "start") q ∷ Id (Some n) r ∷ Close s ∷ []) (Open p ∷ Word (codes "start") q ∷ Integer l [] r ∷ Close s ∷ [])
  twins_of n p q r s l h =
      let by_name : index.spells (Name n r) (Id (Some n) r ∷ []) = inr ((n, r), refl, (Id (Some n) r, refl, refl)) in
      let by_number : index.spells (Number l.size r) (Integer l [] r ∷ []) = inl ((l, r), refl, (h, (Integer l [] r, refl, refl))) in (
        Word (codes "start") q ∷ Id (Some n) r ∷ [],
        Word (codes "start") q ∷ Integer l [] r ∷ [],
        p,
        s,
        refl,
        refl,
        ((q, tt), refl, (Word (codes "start") q ∷ [], Id (Some n) r ∷ [], Word (codes "start") q ∷ [], Integer l [] r ∷ [], refl, refl, (Word (codes "start") q, refl, refl, refl), ((Name n r, refl, by_name), (Number l.size r, refl, by_number)))),
      )

  twins_alike : (ts us : List (SignificantToken N P)) → start.twins tt ts us → start.reads ts ≡ start.reads us
  twins_alike = twins_read start start_laws start_twins refl tt

-- IN THEMSELVES: (shared (shared (func))), by its depth
abbrev comps : List Test
comps = this_group (codes "shared") ∷ this_group (codes "func") ∷ []

module _ {N P : Type 0} where
  abbrev plain_comp : Syntax N P ℕ
  plain_comp = seen (λ _. 0) (group (codes "func") nothing)

  abbrev shared_comp : Syntax N P ℕ → Syntax N P ℕ
  shared_comp g = seen suc (group (codes "shared") g)

  abbrev comp_step : Syntax N P ℕ → Syntax N P ℕ
  comp_step g = either (this_group (codes "shared") ∷ []) (shared_comp g) plain_comp

  abbrev comp : Syntax N P ℕ
  comp = fix comps false [] comp_step

  comp_steps : Steps {N = N} {P = P} comps false [] comp_step
  comp_steps = record {
    keeps = λ g lg. wide_laws (comp_step (wide comps false [] g)) comps false [] (either_laws _ _ _ (seen_laws _ _ (group_laws (codes "shared") _ lg refl)) (seen_laws _ _ (group_laws (codes "func") _ nothing_laws refl)) refl refl refl refl) (within_self comps) (λ e. e) (within_self []);
    guards = λ n g h u. (
        let v = under_seen (suc n) suc _ _ (under_group n (codes "shared") (wide comps false [] g) (wide comps false [] h) u) in
        under_either (suc n) (this_group (codes "shared") ∷ []) (shared_comp (wide comps false [] g)) (shared_comp (wide comps false [] h)) plain_comp plain_comp v (under_self (suc n) plain_comp));
  }

  comp_laws : Lawful comp
  comp_laws = fix_laws comps false [] comp_step comp_steps

reads_comp : comp.reads (open_at 0 ∷ word_at "shared" 1 ∷ open_at 8 ∷ word_at "shared" 9 ∷ open_at 16 ∷ word_at "func" 17 ∷ close_at 21 ∷ close_at 22 ∷ close_at 23 ∷ []) ≡ Some (2, [])
reads_comp = refl

-- UP TO AN END: instructions in a row
abbrev sums : List (List ℕ)
sums = codes "one" ∷ codes "two" ∷ codes "add" ∷ []

abbrev sum_tests : List Test
sum_tests = On false AWord (OneOf sums []) ∷ []

module _ {N P : Type 0} where
  abbrev sum_word : Syntax N P (List ℕ)
  sum_word = seen (λ e. e.0) (among (λ w. w) sums [])

  sum_word_laws : Lawful sum_word
  sum_word_laws = seen_laws _ _ (among_laws (λ w. w) sums [])

  abbrev flat_sum : Syntax N P (List (List ℕ))
  flat_sum = row sum_tests sum_word (λ _. [])

  flat_sum_laws : Lawful flat_sum
  flat_sum_laws = row_laws sum_tests sum_word (λ _. []) (but_of _ sum_word_laws) refl refl refl refl refl refl refl refl (λ _. refl)

  abbrev labelled_sum : Syntax N P ((N × P) × List (List ℕ))
  labelled_sum = next_but id (λ _. []) (λ _. flat_sum) sum_tests

  labelled_sum_laws : Lawful labelled_sum
  labelled_sum_laws = next_but_laws id (λ _. []) (λ _. flat_sum) sum_tests (but_of _ id_laws) (λ _. record { laws = flat_sum_laws; open_ended = refl; begins = within_self sum_tests }) refl refl (λ _. refl) refl refl

reads_flat : labelled_sum.reads (id_at "x" 0 ∷ word_at "one" 3 ∷ word_at "two" 7 ∷ word_at "add" 11 ∷ close_at 14 ∷ []) ≡ Some (((named "x", 0), codes "one" ∷ codes "two" ∷ codes "add" ∷ []), close_at 14 ∷ [])
reads_flat = refl

-- not up to an end
reads_no_flat : flat_sum.reads (word_at "one" 0 ∷ seven_at 4 ∷ []) ≡ None
reads_no_flat = refl

-- TOKENS DECIDE: whether (elem id id) has one name twice, for any names and places
abbrev one_twice : (N P : Type 0) → (N → N → Bool) → List (SignificantToken N P) → Option Bool
one_twice N P eq ts = (group (codes "elem") (seq id id)).reads ts >>= λ x. Some (eq x.0.0.0 x.0.1.0)

twice_decided : (ts us : List TextToken) → Alike ts us → Same (paired ts us) → Rising (places ts us) → one_twice tokens.Name ℕ same_name us ≡ one_twice tokens.Name ℕ same_name ts
twice_decided = tokens_decide one_twice

twice_renamed : (ts us : List TextToken) → Alike ts us → Matched (paired ts us) → Rising (places ts us) → one_twice tokens.Name ℕ same_name us ≡ one_twice tokens.Name ℕ same_name ts
twice_renamed = renaming one_twice

-- that some tokens spell one is decided too: a relation is an answer
abbrev is_pair : (N P : Type 0) → (N → N → Bool) → List (SignificantToken N P) → Type 0
is_pair N P eq ts = (a : (N × P) × (N × P)) × (group (codes "elem") (seq id id)).spells a ts

pair_renamed : (ts us : List TextToken) → Alike ts us → Matched (paired ts us) → Rising (places ts us) → is_pair tokens.Name ℕ same_name us ≡ is_pair tokens.Name ℕ same_name ts
pair_renamed = renaming is_pair

-- what is read has its name and place carried along
abbrev read_id : (N P : Type 0) → (N → N → Bool) → List (SignificantToken N P) → Option (N × P)
read_id N P eq ts = id.reads ts >>= λ x. Some x.0

abbrev carry_id : (N M P Q : Type 0) → (N → M) → (P → Q) → Option (N × P) → Option (M × Q)
carry_id N M P Q f g o = o >>= λ x. Some (f x.0, g x.1)

carry_none : (N P : Type 0) (o : Option (N × P)) → carry_id N N P P (λ n. n) (λ p. p) o ≡ o
carry_none N P None = refl
carry_none N P (Some x) = refl

id_carried : (ts us : List TextToken) → Alike ts us → Matched (paired ts us) → Matched (places ts us) →
    (f : tokens.Name → tokens.Name) × (g : ℕ → ℕ) × Carries f (paired ts us) × Carries g (places ts us) × (read_id tokens.Name ℕ same_name us ≡ carry_id tokens.Name tokens.Name ℕ ℕ f g (read_id tokens.Name ℕ same_name ts))
id_carried = carried_over (λ N P. Option (N × P)) carry_id carry_none read_id same_name names_decide

-- AMBIGUOUS: index* index*
abbrev Lists : Type 0
Lists = List (Idx tokens.Name ℕ) × List (Idx tokens.Name ℕ)

abbrev two_lists : Syntax tokens.Name ℕ Lists
two_lists = seq (many indices index) (many indices index)

-- its law would ask for `apart (many indices index).stops (many indices index).starts ≡ true`, by `refl`
lists_clash : apart (many indices (index {N = tokens.Name} {P = ℕ})).stops (many indices (index {N = tokens.Name} {P = ℕ})).starts ≡ false
lists_clash = refl

-- an index stands in the one list, or in the other
abbrev in_first : Lists
in_first = (Name (named "x") 0 ∷ [], [])

abbrev in_second : Lists
in_second = ([], Name (named "x") 0 ∷ [])

abbrev index_x : List TextToken
index_x = id_at "x" 0 ∷ []

spells_x : index.spells (Name (named "x") 0) index_x
spells_x = inr ((named "x", 0), refl, (id_at "x" 0, refl, refl))

first_spelled : two_lists.spells in_first index_x
first_spelled = (index_x, [], refl, (index_x, [], refl, spells_x, refl), refl)

second_spelled : two_lists.spells in_second index_x
second_spelled = ([], index_x, refl, refl, (index_x, [], refl, spells_x, refl))

-- so there is no law
two_lists_unlawful : ¬ Lawful two_lists
two_lists_unlawful l = not_both (one_value two_lists l refl index_x in_first in_second first_spelled second_spelled)
  where
    not_both : in_first ≡ in_second → ⊥
    not_both e = let q : in_first.0 ≡ [] = ap (λ (a : Lists). a.0) e in cc

-- a choice of which the second begins as the first does: its law would ask for the opposite
choice_clashes : apart (join (faults indices) indices) (On false AnId Any ∷ []) ≡ false
choice_clashes = refl
