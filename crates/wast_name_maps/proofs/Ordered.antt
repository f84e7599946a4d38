-- All maps, in the order of their numbers.
use Rattle.std.proofs.Common.{ℕ, suc, ◌≡◌, ◌+◌, ◌<◌, ◌≤◌, ◌^◌, Bool, true, false, List, [], ◌∷◌, ◌++◌, length, map, take, get_or, Option, Some, None, refl, sym, ap, ◌∙◌, subst, arith, append-nil, ⊎_elim, le_refl, nat_eq, ne_eqb, suc-ne-zero}
use Rattle.std.specs.Prelude.{if◌then◌else◌, ◌||◌, is_some}
use Rattle.std.specs.List.{flat_map, list_any, AllByRecursion}
use Rattle.std.proofs.lemmas.Bool.{cases_lt}
use Rattle.std.proofs.lemmas.List.{flat_map_more, length-append, take_all, take_more}
use Rattle.std.proofs.lemmas.List.Folds.{length-flat_map-take}
use Rattle.std.proofs.Math.ListN.{get_or-map}
use Rattle.wasm_encoder_bytes.proofs.LebSteps.{length-uleb-last, length-uleb-more}
use Rattle.wasm_encoder_base.specs.Bytes.{counted, sized}
use Rattle.wasm_encoder_base.specs.Leb.{uleb}
use Rattle.wasm_encoder_base.specs.Lists.{Listed, listed, list_bytes}
use Rattle.wasm_encoder_custom.specs.Custom.{subsection}
use Rattle.wasm_encoder_custom.specs.Names.{naming_bytes, inner_naming_bytes, Space, InnerSpace, number_of, inner_number_of, Names, InnerNames, name_subsection_bytes}
use Rattle.wasm_encoder_custom.specs.Names as binary
use Rattle.wasm_layout.specs.AbstractModule.{Naming, InnerNaming, NameMaps}
use Rattle.wasm_layout.specs.Layout.{naming, inner_naming, if_there, subsection_of, name_bytes}
use Rattle.wasm_layout.specs.Present.{MapKind, OfItems, Inner, map_order, has_any, has_map}
use Rattle.wasm_layout.specs.Present.MapKind.{OfModule}
use Rattle.wasm_layout.specs.IsModule.{Rise, IsMap, IsInner, AreInner, AreNames}
use Rattle.wast_meant.specs.NamesMeant as meant
use Rattle.wast_meant.specs.NamesMeant.{entries, named, named_from, group_naming, inner_named, inner_from}
use Rattle.wast_name_maps.specs.Listed.{name_item, inner_item}
use Rattle.wast_name_maps.specs.Numbered.{Numbered, none_yet, Fit, NameFits, NamesJoined, GroupFits, GroupsJoined}
use Rattle.wasm_layout.proofs.Joined.{all_joined}
use Rattle.wast_name_maps.proofs.Joining.{flat_of}
use Rattle.wast_name_maps.proofs.Entries.{list_is, groups_list_is, map_bytes, inner_bytes}
use Rattle.wast_name_maps.specs.Fits.{NamesFit}
use Rattle.wast_name_maps.specs.Kinds.{map_view}
use Rattle.wast_name_maps.specs.Maps.{section_data}
use Rattle.wast_name_maps.specs.declared.kinds.Map.{Map}
use Rattle.wast_name_maps.specs.declared.kinds.Map.TheVariants as maps
use Rattle.wast_name_maps.specs.declared.kinds.Items.TheVariants as items
use Rattle.wast_name_maps.specs.declared.kinds.Inside.TheVariants as insides
use Rattle.wast_name_maps.specs.Subsections.{KindIs, if_any, module_bytes, subsection_if}

abbrev pub items_bytes : Space → List (Naming (List ℕ)) → List ℕ
items_bytes space names = flat_map name_subsection_bytes (if_there (has_any names) (Names space (map naming names)))

abbrev pub inside_bytes : InnerSpace → List (InnerNaming (List ℕ)) → List ℕ
inside_bytes space names = flat_map name_subsection_bytes (if_there (has_any names) (InnerNames space (map inner_naming names)))

abbrev pub kind_bytes : NameMaps (List ℕ) → MapKind → List ℕ
kind_bytes names k = flat_map name_subsection_bytes (subsection_of names k)

-- the data, map by map
pub bytes_by_kind : (names : NameMaps (List ℕ)) → name_bytes names ≡ flat_map (kind_bytes names) map_order
bytes_by_kind names = sym (flat_of name_subsection_bytes (subsection_of names) map_order)

-- SIZES of parts
empty_size : length (uleb 0 ++ []) < 2 ^ 32
empty_size = omega (arith, length-uleb-last 0 (omega arith), length-append (uleb 0) [])

part_at : (names : NameMaps (List ℕ)) (i : ℕ) → i < 14 → length (kind_bytes names (get_or map_order i OfModule)) ≤ length (name_bytes names)
part_at names i l =
    let whole = ap length (bytes_by_kind names) in
    let parts = length-flat_map-take (kind_bytes names) map_order i OfModule l in
    omega arith

items_part : (names : NameMaps (List ℕ)) (s : Space) → length (items_bytes s (names.items s)) ≤ length (name_bytes names)
items_part names binary.Functions = part_at names 1 (omega arith)
items_part names binary.Types = part_at names 4 (omega arith)
items_part names binary.Tables = part_at names 5 (omega arith)
items_part names binary.Memories = part_at names 6 (omega arith)
items_part names binary.Globals = part_at names 7 (omega arith)
items_part names binary.Elements = part_at names 8 (omega arith)
items_part names binary.DataSegments = part_at names 9 (omega arith)
items_part names binary.Tags = part_at names 11 (omega arith)

inside_part : (names : NameMaps (List ℕ)) (s : InnerSpace) → length (inside_bytes s (names.inner s)) ≤ length (name_bytes names)
inside_part names binary.Locals = part_at names 2 (omega arith)
inside_part names binary.Labels = part_at names 3 (omega arith)
inside_part names binary.Fields = part_at names 10 (omega arith)
inside_part names binary.Parameters = part_at names 12 (omega arith)
inside_part names binary.TagParameters = part_at names 13 (omega arith)

section_size : (n : ℕ) (contents : List ℕ) → length contents ≤ length (subsection n contents ++ [])
section_size n contents = omega (arith, length-append (subsection n contents) [], length-append (uleb (length contents)) contents)

items_size : (s : Space) (ns : List (Naming (List ℕ))) (total : ℕ) → length (items_bytes s ns) ≤ total → total < 2 ^ 32 → length (counted naming_bytes (map naming ns)) < 2 ^ 32
items_size s [] total l h = empty_size
items_size s (n ∷ ns) total l h = let part = section_size (number_of s) (counted naming_bytes (map naming (n ∷ ns))) in omega arith

inside_size : (s : InnerSpace) (ns : List (InnerNaming (List ℕ))) (total : ℕ) → length (inside_bytes s ns) ≤ total → total < 2 ^ 32 → length (counted inner_naming_bytes (map inner_naming ns)) < 2 ^ 32
inside_size s [] total l h = empty_size
inside_size s (n ∷ ns) total l h = let part = section_size (inner_number_of s) (counted inner_naming_bytes (map inner_naming (n ∷ ns))) in omega arith

-- where all maps fit, each does: its parts are short
some_byte : (n : ℕ) → 1 ≤ length (uleb n)
some_byte n = ⊎_elim (λ h. omega (arith, length-uleb-last n h)) (λ h. omega (arith, length-uleb-more n h)) (cases_lt n 128)

name_size : (n : Naming (List ℕ)) → 1 + length n.name ≤ length (name_item n)
name_size n = omega (arith, length-append (uleb n.index) (sized n.name), length-append (uleb (length n.name)) n.name, some_byte n.index)

few_names : (ns : List (Naming (List ℕ))) → length ns ≤ length (flat_map name_item ns)
few_names [] = le_refl 0
few_names (n ∷ ns) = omega (arith, few_names ns, name_size n, length-append (name_item n) (flat_map name_item ns))

can_names : (least : ℕ) (ns : List (Naming (List ℕ))) → Rise least (map (λ n. n.index) ns) → length (flat_map name_item ns) < 2 ^ 32 → AllByRecursion NameFits ns
can_names least [] h l = tt
can_names least (n ∷ ns) h l =
    let parts = length-append (name_item n) (flat_map name_item ns) in
    let size = name_size n in
    (record { index = h.1; name = omega arith }, can_names (suc n.index) ns h.2 (omega arith))

group_size : (n : InnerNaming (List ℕ)) → 1 + length (flat_map name_item n.names) ≤ length (inner_item n)
group_size n =
    let same = ap length (map_bytes n.names) in
    omega (arith, length-append (uleb n.index) (counted naming_bytes (map naming n.names)), length-append (uleb (length n.names)) (flat_map name_item n.names), some_byte n.index)

few_groups : (ns : List (InnerNaming (List ℕ))) → length ns ≤ length (flat_map inner_item ns)
few_groups [] = le_refl 0
few_groups (n ∷ ns) = omega (arith, few_groups ns, group_size n, length-append (inner_item n) (flat_map inner_item ns))

can_groups : (least : ℕ) (ns : List (InnerNaming (List ℕ))) → Rise least (map (λ n. n.index) ns) → AllByRecursion IsInner ns → length (flat_map inner_item ns) < 2 ^ 32 → AllByRecursion GroupFits ns
can_groups least [] h each l = tt
can_groups least (n ∷ ns) h each l =
    let parts = length-append (inner_item n) (flat_map inner_item ns) in
    let size = group_size n in
    let few = few_names n.names in
    (record { index = h.1; each = can_names 0 n.names each.0.is_map (omega arith); count = omega arith }, can_groups (suc n.index) ns h.2 each.1 (omega arith))

-- the names of items
pub items_size_fits : (names : NameMaps (List ℕ)) (s : Space) → NamesFit names → length (list_bytes (listed name_item (names.items s))) < 2 ^ 32
items_size_fits names s h = subst (λ b. length b < 2 ^ 32) (sym (map_bytes (names.items s))) (items_size s (names.items s) (length (name_bytes names)) (items_part names s) h.size)

pub items_fit : (names : NameMaps (List ℕ)) (s : Space) (os : List (Option (List ℕ))) → named os ≡ names.items s → NamesFit names → Fit meant.naming NameFits none_yet os
items_fit names s os same h =
    let ns = names.items s in
    let all : entries meant.naming 0 os ≡ ns = same in
    let size = items_size_fits names s h in
    let parts = length-append (uleb (length ns)) (flat_map name_item ns) in
    let few = few_names ns in
    record {
      each = subst (AllByRecursion NameFits) (sym all) (can_names 0 ns (h.are_names.items s) (omega arith));
      count = subst (λ v. 0 < length v → 0 + length v < 2 ^ 32) (sym all) (λ l. omega arith);
    }

-- and those inside of items
pub inside_size_fits : (names : NameMaps (List ℕ)) (s : InnerSpace) → NamesFit names → length (list_bytes (listed inner_item (names.inner s))) < 2 ^ 32
inside_size_fits names s h = subst (λ b. length b < 2 ^ 32) (sym (inner_bytes (names.inner s))) (inside_size s (names.inner s) (length (name_bytes names)) (inside_part names s) h.size)

pub inside_fit : (names : NameMaps (List ℕ)) (s : InnerSpace) (gs : List (List (Option (List ℕ)))) → inner_named gs ≡ names.inner s → NamesFit names → Fit group_naming GroupFits none_yet gs
inside_fit names s gs same h =
    let ns = names.inner s in
    let all : entries group_naming 0 gs ≡ ns = same in
    let size = inside_size_fits names s h in
    let parts = length-append (uleb (length ns)) (flat_map inner_item ns) in
    let few = few_groups ns in
    record {
      each = subst (AllByRecursion GroupFits) (sym all) (can_groups 0 ns (h.are_names.inner s).indices (h.are_names.inner s).each (omega arith));
      count = subst (λ v. 0 < length v → 0 + length v < 2 ^ 32) (sym all) (λ l. omega arith);
    }

-- INDICES RISE, since they are counted
rises : (n least : ℕ) (os : List (Option (List ℕ))) → least ≤ n → AllByRecursion NameFits (named_from n os) → Rise least (map (λ r. r.index) (named_from n os))
rises n least [] l h = tt
rises n least (None ∷ os) l h = rises (suc n) least os (omega arith) h
rises n least (Some name ∷ os) l h = (l, h.0.index, rises (suc n) (suc n) os (le_refl (suc n)) h.1)

pub items_rise : (os : List (Option (List ℕ))) → Fit meant.naming NameFits none_yet os → IsMap (named os)
items_rise os h = rises 0 0 os (le_refl 0) h.each

groups_rise : (n least : ℕ) (gs : List (List (Option (List ℕ)))) → least ≤ n → AllByRecursion GroupFits (inner_from n gs) → Rise least (map (λ r. r.index) (inner_from n gs))
groups_rise n least [] l h = tt
groups_rise n least (g ∷ gs) l h = of (named g) (groups_rise (suc n) least gs (omega arith)) (groups_rise (suc n) (suc n) gs (le_refl (suc n))) h
  where
    of : (ns : List (Naming (List ℕ))) → (AllByRecursion GroupFits (inner_from (suc n) gs) → Rise least (map (λ r. r.index) (inner_from (suc n) gs)))
        → (AllByRecursion GroupFits (inner_from (suc n) gs) → Rise (suc n) (map (λ r. r.index) (inner_from (suc n) gs)))
        → AllByRecursion GroupFits (meant.inner_naming n ns ++ inner_from (suc n) gs) → Rise least (map (λ r. r.index) (meant.inner_naming n ns ++ inner_from (suc n) gs))
    of [] rest behind h = rest h
    of (x ∷ xs) rest behind h = (l, h.0.index, behind h.1)

groups_inner : (n : ℕ) (gs : List (List (Option (List ℕ)))) → AllByRecursion GroupFits (inner_from n gs) → AllByRecursion IsInner (inner_from n gs)
groups_inner n [] h = tt
groups_inner n (g ∷ gs) h = of (named g) refl (groups_inner (suc n) gs) h
  where
    of : (ns : List (Naming (List ℕ))) → named g ≡ ns → (AllByRecursion GroupFits (inner_from (suc n) gs) → AllByRecursion IsInner (inner_from (suc n) gs))
        → AllByRecursion GroupFits (meant.inner_naming n ns ++ inner_from (suc n) gs) → AllByRecursion IsInner (meant.inner_naming n ns ++ inner_from (suc n) gs)
    of [] e rest h = rest h
    of (x ∷ xs) e rest h = (record { is_some = omega arith; is_map = subst IsMap e (rises 0 0 g (le_refl 0) (subst (AllByRecursion NameFits) (sym e) h.0.each)) }, rest h.1)

pub inside_rise : (gs : List (List (Option (List ℕ)))) → Fit group_naming GroupFits none_yet gs → AreInner (inner_named gs)
inside_rise gs h =
    record { indices = groups_rise 0 0 gs (le_refl 0) h.each; each = groups_inner 0 gs h.each }

-- ONE SUBSECTION of the list of a map
pub nothing_if : (number : ℕ) (list : Listed) (base : List ℕ) → nat_eq list.count 0 ≡ true → base ≡ base ++ subsection_if number list
nothing_if number list base e = sym (append-nil base) ∙ ap (λ b. base ++ (if b then [] else subsection number (list_bytes list))) (sym e)

pub something_if : (number : ℕ) (list lent : Listed) → nat_eq list.count 0 ≡ false → lent ≡ list → subsection number (list_bytes lent) ≡ subsection_if number list
something_if number list lent e same = ap (λ l. subsection number (list_bytes l)) same ∙ ap (λ b. if b then [] else subsection number (list_bytes list)) (sym e)

some_count : (n : ℕ) → nat_eq (suc n) 0 ≡ false
some_count n = ne_eqb (suc n) 0 (suc-ne-zero n)

pub items_if : (s : Space) (ns : List (Naming (List ℕ))) → subsection_if (number_of s) (listed name_item ns) ≡ items_bytes s ns
items_if s [] = refl
items_if s (n ∷ ns) =
    let there = subsection (number_of s) (list_bytes (listed name_item (n ∷ ns))) in
    ap (λ b. if b then [] else there) (some_count (length ns)) ∙ ap (subsection (number_of s)) (map_bytes (n ∷ ns)) ∙ sym (append-nil (name_subsection_bytes (Names s (map naming (n ∷ ns)))))

pub inside_if : (s : InnerSpace) (ns : List (InnerNaming (List ℕ))) → subsection_if (inner_number_of s) (listed inner_item ns) ≡ inside_bytes s ns
inside_if s [] = refl
inside_if s (n ∷ ns) =
    let there = subsection (inner_number_of s) (list_bytes (listed inner_item (n ∷ ns))) in
    ap (λ b. if b then [] else there) (some_count (length ns)) ∙ ap (subsection (inner_number_of s)) (inner_bytes (n ∷ ns)) ∙ sym (append-nil (name_subsection_bytes (InnerNames s (map inner_naming (n ∷ ns)))))

-- what has come as the list of its map
pub items_listed : (names : NameMaps (List ℕ)) (s : Space) (os : List (Option (List ℕ))) (come : Numbered) → named os ≡ names.items s → NamesJoined none_yet come os → come.list ≡ listed name_item (names.items s)
items_listed names s os come same h = list_is come os h ∙ ap (listed name_item) same

pub inside_listed : (names : NameMaps (List ℕ)) (s : InnerSpace) (gs : List (List (Option (List ℕ)))) (come : Numbered) → inner_named gs ≡ names.inner s → GroupsJoined none_yet come gs → come.list ≡ listed inner_item (names.inner s)
inside_listed names s gs come same h = groups_list_is come gs h ∙ ap (listed inner_item) same

-- THE SECTION is there where a map has anything
abbrev filled : List ℕ → Bool
filled [] = false
filled (b ∷ bs) = true

kind_filled : (names : NameMaps (List ℕ)) (k : MapKind) → filled (kind_bytes names k) ≡ has_map names k
kind_filled names OfModule = of names.module_name
  where
    of : (o : Option (List ℕ)) → filled (module_bytes o) ≡ is_some o
    of None = refl
    of (Some name) = refl
kind_filled names (OfItems s) = of (names.items s)
  where
    of : (ns : List (Naming (List ℕ))) → filled (items_bytes s ns) ≡ has_any ns
    of [] = refl
    of (n ∷ ns) = refl
kind_filled names (Inner s) = of (names.inner s)
  where
    of : (ns : List (InnerNaming (List ℕ))) → filled (inside_bytes s ns) ≡ has_any ns
    of [] = refl
    of (n ∷ ns) = refl

filled_then : (xs ys : List ℕ) → filled (xs ++ ys) ≡ (filled xs || filled ys)
filled_then [] ys = refl
filled_then (x ∷ xs) ys = refl

kinds_filled : (names : NameMaps (List ℕ)) (ks : List MapKind) → filled (flat_map (kind_bytes names) ks) ≡ list_any (has_map names) ks
kinds_filled names [] = refl
kinds_filled names (k ∷ ks) = filled_then (kind_bytes names k) (flat_map (kind_bytes names) ks) ∙ (λ i. kind_filled names k i || kinds_filled names ks i)

if_filled : (bs : List ℕ) → if_any bs ≡ (if filled bs then Some bs else None)
if_filled [] = refl
if_filled (b ∷ bs) = refl

pub data_is : (names : NameMaps (List ℕ)) → if_any (name_bytes names) ≡ section_data names
data_is names =
    if_filled (name_bytes names)
    ∙ ap (λ b. if b then Some (name_bytes names) else None) (ap filled (bytes_by_kind names) ∙ kinds_filled names map_order)

-- one map more, and all of them
order_step : (names : NameMaps (List ℕ)) (i : ℕ) (d : MapKind) (base old new : List ℕ) → i < 14 → old ≡ base ++ flat_map (kind_bytes names) (take i map_order) → new ≡ old ++ kind_bytes names (get_or map_order i d) → new ≡ base ++ flat_map (kind_bytes names) (take (i + 1) map_order)
order_step names i d base old new l e h =
    h
    ∙ ap (λ v. v ++ kind_bytes names (get_or map_order i d)) e
    ∙ flat_map_more (kind_bytes names) base (take i map_order) (get_or map_order i d)
    ∙ ap (λ v. base ++ flat_map (kind_bytes names) v) (sym (take_more map_order i d l))

pub order_end : (names : NameMaps (List ℕ)) (i : ℕ) (base new : List ℕ) → 14 ≤ i → new ≡ base ++ flat_map (kind_bytes names) (take i map_order) → new ≡ base ++ name_bytes names
order_end names i base new l e = e ∙ ap (λ v. base ++ v) (ap (flat_map (kind_bytes names)) (take_all i map_order l) ∙ sym (bytes_by_kind names))

-- what stands behind so many maps
pub record Done (names : NameMaps (List ℕ)) (base section : List ℕ) (i : ℕ) : Type 0 where
  pub bytes : section ≡ base ++ flat_map (kind_bytes names) (take i map_order)
  pub kinds : AllByRecursion (KindIs names) (take i map_order)

pub done_more : (names : NameMaps (List ℕ)) (base old new : List ℕ) (i : ℕ) (d : MapKind) → i < 14 → Done names base old i → new ≡ old ++ kind_bytes names (get_or map_order i d) → KindIs names (get_or map_order i d) → Done names base new (i + 1)
done_more names base old new i d l h same kind = record {
  bytes = order_step names i d base old new l h.bytes same;
  kinds = subst (AllByRecursion (KindIs names)) (sym (take_more map_order i d l)) (all_joined (KindIs names) (take i map_order) (get_or map_order i d ∷ []) h.kinds (kind, tt));
}

-- where the indices of each rise, all are names
all_kinds : (names : NameMaps (List ℕ)) → AllByRecursion (KindIs names) map_order → AreNames names
all_kinds names h = record { items = of_items; inner = of_inner }
  where
    of_items : (s : Space) → IsMap (names.items s)
    of_items binary.Functions = h.1.0
    of_items binary.Types = h.1.1.1.1.0
    of_items binary.Tables = h.1.1.1.1.1.0
    of_items binary.Memories = h.1.1.1.1.1.1.0
    of_items binary.Globals = h.1.1.1.1.1.1.1.0
    of_items binary.Elements = h.1.1.1.1.1.1.1.1.0
    of_items binary.DataSegments = h.1.1.1.1.1.1.1.1.1.0
    of_items binary.Tags = h.1.1.1.1.1.1.1.1.1.1.1.0

    of_inner : (s : InnerSpace) → AreInner (names.inner s)
    of_inner binary.Locals = h.1.1.0
    of_inner binary.Labels = h.1.1.1.0
    of_inner binary.Fields = h.1.1.1.1.1.1.1.1.1.1.0
    of_inner binary.Parameters = h.1.1.1.1.1.1.1.1.1.1.1.1.0
    of_inner binary.TagParameters = h.1.1.1.1.1.1.1.1.1.1.1.1.1.0

pub done_all : (names : NameMaps (List ℕ)) (base section : List ℕ) (i : ℕ) → 14 ≤ i → Done names base section i → AreNames names
done_all names base section i l h = all_kinds names (subst (AllByRecursion (KindIs names)) (take_all i map_order l) h.kinds)

-- the maps in the order of the code
abbrev pub code_order : List Map
code_order =
    maps.Module ∷ maps.Items items.Functions ∷ maps.Inside insides.Locals ∷ maps.Inside insides.Labels ∷ maps.Items items.Types ∷ maps.Items items.Tables ∷ maps.Items items.Memories
    ∷ maps.Items items.Globals ∷ maps.Items items.Elements ∷ maps.Items items.DataSegments ∷ maps.Inside insides.Fields ∷ maps.Items items.Tags ∷ maps.Inside insides.Parameters
    ∷ maps.Inside insides.TagParameters ∷ []

pub kind_at : (i : ℕ) (d : Map) → map_view (get_or code_order i d) ≡ get_or map_order i (map_view d)
kind_at i d = sym (get_or-map map_view code_order i d)
