-- Tokens that spell each item, and where items, members of groups and imports begin.
use Rattle.std.proofs.Common.{false, true, List, [], ◌∷◌, ◌++◌, None, inl, inr, refl, codes}
use Rattle.std.proofs.lemmas.Str.{is_utf8-from_IsUtf8, IsUtf8-nil}
use Rattle.wast_signatures.specs.Tokens.{SignificantToken, Literal, Open, Close, Word, Integer, Text}
use Rattle.wast_signatures.specs.Look.{join}
use Rattle.wast_signatures.specs.Lawful.{Leads}
use Rattle.wast_signatures.specs.Grammar.{Syntax, among, maybe, seq}
use Rattle.wast_signatures.specs.Productions.{name}
use Rattle.wast_signatures.proofs.LeadLaws.{among_leads, seen_leads, next_leads, paren_leads, group_leads}
use Rattle.wast_signatures.proofs.IntegerLaws.{name_laws}
use Rattle.wast_value_types.specs.ValueTree.{Cont, I32, Number}
use Rattle.wast_value_types.specs.ValueSyntax.{as_limits, as_table, as_memory, as_global, limits, table_type, memory_type, global_type, nullable}
use Rattle.wast_signatures.specs.TypeSyntax.{type_use, as_use}
use Rattle.wast_exports.specs.Exports.{ExportKind, Func, Table, Memory, Global, Tag, export_word, export_kinds, kind_starts}
use Rattle.wast_imports.specs.ImportTree.{OfFunc, OfTable, OfMemory, OfGlobal, OfTag}
use Rattle.wast_imports.specs.ImportSyntax.{item_starts, member_starts, head, extern_type, extern_starts, extern_stops, as_item, item_body, item, member, member_name, first_member}
use Rattle.wast_imports.proofs.ImportLaws.{item_parts_laws, item_body_laws, named_laws, first_parts_laws}

abbrev zero_literal : Literal
zero_literal = record { minus = false; size = 0 }

module _ {N P : Type 0} where
  -- some tokens spell one
  abbrev Spelled : {A : Type 0} → Syntax N P A → Type 0
  Spelled {A} g = (a : A) × (us : List (SignificantToken N P)) × g.spells a us

  -- a 0
  abbrev zero_token : P → SignificantToken N P
  zero_token p = Integer zero_literal [] p

  use_spelled : Spelled type_use
  use_spelled = (as_use (None, None), [], ((None, None), refl, ([], [], refl, refl, (([], []), refl, ([], [], refl, refl, refl)))))

  limits_spelled : (p : P) → (limits {N = N} {P = P}).spells (as_limits (false, (0, None))) (zero_token p ∷ [])
  limits_spelled p =
      ((false, (0, None)), refl, ([], zero_token p ∷ [], refl, (None, refl, refl), (zero_token p ∷ [], [], refl, ((0, p), refl, ((zero_literal, p), refl, (refl, (zero_token p, refl, refl)))), refl)))

  table_spelled : P → Spelled table_type
  table_spelled p =
      let l = as_limits (false, (0, None)) in
      let r = nullable Cont in (
        as_table (false, (l, r)),
        zero_token p ∷ Word (codes "contref") p ∷ [],
        ((false, (l, r)), refl, ([], zero_token p ∷ Word (codes "contref") p ∷ [], refl, (None, refl, refl), (zero_token p ∷ [], Word (codes "contref") p ∷ [], refl, limits_spelled p, inr (Cont, refl, (((codes "contref", Cont), p), refl, (Word (codes "contref") p, refl, refl)))))),
      )

  memory_spelled : P → Spelled memory_type
  memory_spelled p =
      let l = as_limits (false, (0, None)) in
      (as_memory (l, (false, None)), zero_token p ∷ [], ((l, (false, None)), refl, (zero_token p ∷ [], [], refl, limits_spelled p, ([], [], refl, (None, refl, refl), refl))))

  global_spelled : P → Spelled global_type
  global_spelled p =
      (as_global false false (Number I32), Word (codes "i32") p ∷ [], inr (inr (Number I32, refl, inl (I32, refl, (((codes "i32", I32), p), refl, (Word (codes "i32") p, refl, refl))))))

  extern_spelled : P → (k : ExportKind) → Spelled (extern_type k)
  extern_spelled p Func = (OfFunc use_spelled.0, use_spelled.1, inr (use_spelled.0, refl, use_spelled.2))
  extern_spelled p Table = let s = table_spelled p in (OfTable s.0, s.1, (s.0, refl, s.2))
  extern_spelled p Memory = let s = memory_spelled p in (OfMemory s.0, s.1, (s.0, refl, s.2))
  extern_spelled p Global = let s = global_spelled p in (OfGlobal s.0, s.1, (s.0, refl, s.2))
  extern_spelled p Tag = (OfTag use_spelled.0, use_spelled.1, (use_spelled.0, refl, use_spelled.2))

  -- the same, with nothing before it
  headed_spelled : P → (k : ExportKind) → Spelled (seq head (extern_type k))
  headed_spelled p k = let s = extern_spelled p k in (((None, None), s.0), s.1, ([], s.1, refl, ([], [], refl, refl, refl), s.2))

  item_spelled : P → Spelled item
  item_spelled p =
      let s = headed_spelled p Func in (
        as_item ((Func, p), s.0),
        Open p ∷ (Word (codes "func") p ∷ s.1) ++ Close p ∷ [],
        (Word (codes "func") p ∷ s.1, p, p, refl, (((Func, p), s.0), refl, (Word (codes "func") p ∷ [], s.1, refl, (Word (codes "func") p, refl, refl), s.2))),
      )

  -- a name without bytes
  empty_name : (p : P) → (name {N = N}).spells [] (Text [] p ∷ [])
  empty_name p = (is_utf8-from_IsUtf8 [] IsUtf8-nil, (Text [] p, refl, refl))

  named_spelled : P → Spelled (seq name item)
  named_spelled p = let s = item_spelled p in (([], s.0), Text [] p ∷ s.1, (Text [] p ∷ [], s.1, refl, empty_name p, s.2))

  first_spelled : P → Spelled (seq name (maybe item_starts item))
  first_spelled p = (([], None), Text [] p ∷ [], (Text [] p ∷ [], [], refl, empty_name p, refl))

  -- WHERE THEY BEGIN
  pub item_leads : P → Leads (item {N = N} {P = P}).spells item_starts
  item_leads p =
      paren_leads (item_body head) item_body_laws kind_starts
      (seen_leads as_item _ kind_starts
      (next_leads (among export_word export_kinds []) (λ k. seq head (extern_type k.0)) (join (head {N = N} {P = P}).starts (extern_starts N P)) true (join (extern_stops N P) (head {N = N} {P = P}).stops) kind_starts item_parts_laws refl (among_leads export_word export_kinds []) refl refl (λ k. headed_spelled p k.0))) refl refl refl refl refl

  pub member_leads : P → Leads (member {N = N} {P = P}).spells member_starts
  member_leads p = let s = named_spelled p in group_leads (codes "item") (seq name item) named_laws s.0 s.1 s.2

  pub member_name_leads : P → Leads (member_name {N = N} {P = P}).spells member_starts
  member_name_leads p = group_leads (codes "item") name name_laws [] (Text [] p ∷ []) (empty_name p)

  pub first_member_leads : P → Leads (first_member {N = N} {P = P}).spells member_starts
  first_member_leads p = let s = first_spelled p in group_leads (codes "item") (seq name (maybe item_starts item)) first_parts_laws s.0 s.1 s.2
