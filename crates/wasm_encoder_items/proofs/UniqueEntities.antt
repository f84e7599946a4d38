-- The types of tables, memories, globals and tags are told apart by their bytes.
use Rattle.std.proofs.Common.{ℕ, ◌≡◌, ◌+◌, ◌%◌, Bool, true, false, nat_eq, nat_le, List, [], ◌∷◌, ◌++◌, Option, Some, None, is_some, refl, sym, ap, ◌∙◌, arith}
use Rattle.wasm_encoder_base.specs.Bytes.{optional}
use Rattle.wasm_encoder_base.specs.Leb.{uleb}
use Rattle.wasm_encoder_base.specs.Unique.{Unique, Any}
use Rattle.wasm_encoder_base.proofs.UniqueLeb.{unique_uleb}
use Rattle.wasm_encoder_base.proofs.UniqueParts.{cons_head, cons_tail, unique_pair, unique_then, unique_via, unique_where, unique_code}
use Rattle.wasm_encoder_base.proofs.UniqueTypes.{unique_ref, unique_val, unique_after}
use Rattle.wasm_encoder_items.specs.EntityTypes.{Limits, TableType, GlobalType, EntityType, FunctionEntity, TableEntity, MemoryEntity, GlobalEntity, TagEntity, flag, limits_bytes, table_bytes, global_bytes, tag_bytes, entity_bytes}

-- where it is known whether there is one
unique_option : (b : Bool) → Unique (λ o. is_some o ≡ b) (optional uleb)
unique_option b = record { reads = λ x y r s p q e. by x y r s (p ∙ sym q) e }
  where
    by : (x y : Option ℕ) (r s : List ℕ) → is_some x ≡ is_some y → optional uleb x ++ r ≡ optional uleb y ++ s → (x ≡ y) × (r ≡ s)
    by None None r s p e = (refl, e)
    by (Some m) (Some n) r s p e = let h = unique_uleb.reads m n r s tt tt e in (ap Some h.0, h.1)
    by None (Some n) r s p e = absurd cc
    by (Some m) None r s p e = absurd cc

-- four flags, and the number that they make
record Flags : Type 0 where
  first : Bool
  second : Bool
  third : Bool
  fourth : Bool

abbrev flags_code : Flags → ℕ
flags_code f = flag f.first 1 + flag f.second 2 + flag f.third 4 + flag f.fourth 8

abbrev flags_of : ℕ → Flags
flags_of n = record { first = nat_eq (n % 2) 1; second = nat_le 2 (n % 4); third = nat_le 4 (n % 8); fourth = nat_le 8 n }

flags_back : (a b c d : Bool) → flags_of (flag a 1 + flag b 2 + flag c 4 + flag d 8) ≡ record { first = a; second = b; third = c; fourth = d }
flags_back false false false false = refl
flags_back true false false false = refl
flags_back false true false false = refl
flags_back true true false false = refl
flags_back false false true false = refl
flags_back true false true false = refl
flags_back false true true false = refl
flags_back true true true false = refl
flags_back false false false true = refl
flags_back true false false true = refl
flags_back false true false true = refl
flags_back true true false true = refl
flags_back false false true true = refl
flags_back true false true true = refl
flags_back false true true true = refl
flags_back true true true true = refl

unique_flags : Unique {A = Flags} Any (λ f. flags_code f ∷ [])
unique_flags = unique_code flags_code flags_of (λ f. flags_back f.first f.second f.third f.fourth)

-- the numbers of limits, whose flags say which are there
abbrev Numbers : Type 0
Numbers = ℕ × (Option ℕ × Option ℕ)

abbrev Stand : Flags → Numbers → Type 0
Stand f n = Any n.0 × ((is_some n.1.0 ≡ f.first) × (is_some n.1.1 ≡ f.fourth))

unique_numbers : (f : Flags) → Unique (Stand f) (λ n. uleb n.0 ++ (optional uleb n.1.0 ++ optional uleb n.1.1))
unique_numbers f = unique_pair unique_uleb (unique_pair (unique_option f.first) (unique_option f.fourth))

limits_parts : Limits → Flags × Numbers
limits_parts l = (record { first = is_some l.maximum; second = l.shared; third = l.is_64; fourth = is_some l.page_size_log2 }, (l.minimum, (l.maximum, l.page_size_log2)))

pub unique_limits : Unique Any limits_bytes
unfolding limits_parts
unique_limits =
    unique_where (λ l _. (tt, (tt, (refl, refl))))
    (unique_via {A = Limits} limits_parts (λ p. record { minimum = p.1.0; maximum = p.1.1.0; shared = p.0.second; is_64 = p.0.third; page_size_log2 = p.1.1.1 }) (λ l. refl)
    (unique_then {A = Flags} {B = Numbers} {Q = Stand} unique_flags (λ f _. unique_numbers f)))

pub unique_table : Unique Any table_bytes
unique_table = unique_where (λ t _. (tt, tt)) (unique_via {A = TableType} (λ t. (t.element_type, t.limits)) (λ p. record { element_type = p.0; limits = p.1 }) (λ t. refl) (unique_pair unique_ref unique_limits))

-- two flags, as the four of which the others aren't set
pair_back : (a b : Bool) → (nat_eq ((flag a 1 + flag b 2) % 2) 1 ≡ a) × (nat_le 2 (flag a 1 + flag b 2) ≡ b)
pair_back false false = (refl, refl)
pair_back true false = (refl, refl)
pair_back false true = (refl, refl)
pair_back true true = (refl, refl)

unique_two_flags : Unique {A = Bool × Bool} Any (λ f. (flag f.0 1 + flag f.1 2) ∷ [])
unique_two_flags = unique_code (λ f. flag f.0 1 + flag f.1 2) (λ n. (nat_eq (n % 2) 1, nat_le 2 n)) (λ f. (let h = pair_back f.0 f.1 in λ i. (h.0 i, h.1 i)))

pub unique_global : Unique Any global_bytes
unique_global =
    unique_where (λ g _. (tt, tt))
    (unique_via {A = GlobalType} (λ g. (g.val_type, (g.mutable, g.shared))) (λ p. record { val_type = p.0; mutable = p.1.0; shared = p.1.1 }) (λ g. refl) (unique_pair unique_val unique_two_flags))

pub unique_tag : Unique Any tag_bytes
unique_tag = unique_after 0x00 unique_uleb

entity_one : (x y : EntityType) (r s : List ℕ) → entity_bytes x ++ r ≡ entity_bytes y ++ s → (x ≡ y) × (r ≡ s)
entity_one (FunctionEntity x) (FunctionEntity y) r s e = let h = unique_uleb.reads x y r s tt tt (cons_tail e) in (ap FunctionEntity h.0, h.1)
entity_one (TableEntity x) (TableEntity y) r s e = let h = unique_table.reads x y r s tt tt (cons_tail e) in (ap TableEntity h.0, h.1)
entity_one (MemoryEntity x) (MemoryEntity y) r s e = let h = unique_limits.reads x y r s tt tt (cons_tail e) in (ap MemoryEntity h.0, h.1)
entity_one (GlobalEntity x) (GlobalEntity y) r s e = let h = unique_global.reads x y r s tt tt (cons_tail e) in (ap GlobalEntity h.0, h.1)
entity_one (TagEntity x) (TagEntity y) r s e = let h = unique_tag.reads x y r s tt tt (cons_tail e) in (ap TagEntity h.0, h.1)
entity_one _ _ r s e = absurd (omega (arith, cons_head e))

pub unique_entity : Unique Any entity_bytes
unique_entity = record { reads = λ x y r s _ _ e. entity_one x y r s e }
