-- A module with other names is one.
use Rattle.std.proofs.Common.{◌≡◌, ◌<◌, ◌+◌, ◌&&◌, not, is_some, List, [], ◌∷◌, map, length, filter, codes, refl, sym, ap, ◌∙◌, subst}
use Rattle.std.specs.List.{AllByRecursion, list_any}
use Rattle.std.proofs.lemmas.List.{length-map}
use Rattle.wasm_layout.specs.Section.{SectionKind, Types, Imports, Functions, Tables, Memories, Tags, Globals, Exports, Starts, Elements, DataCount, Hints, Codes, Datas, Names, order}
use Rattle.wasm_layout.specs.AbstractModule.{Naming, InnerNaming, NameMaps, FunctionHints, AbstractModule}
use Rattle.wasm_layout.specs.Present.{has_any, MapKind, OfModule, OfItems, Inner, map_order, has_map, is_called, is_present}
use Rattle.wasm_layout.specs.IsModule.{Rise, IsMap, IsInner, AreInner, AreNames, AreHints, IsModule}
use Rattle.wast_parser_core.proofs.WordSets.{some_map}
use Rattle.wast_meant.specs.Binary.{naming_with, inner_with, maps_with, module_with}

pub any_of_map : {A B : Type 0} (f : A → B) (xs : List A) → has_any (map f xs) ≡ has_any xs
any_of_map f [] = refl
any_of_map f (x ∷ xs) = refl

module _ {A B : Type 0} (f : A → B) where
  -- the same sections are there
  same_map : (names : NameMaps A) (k : MapKind) → has_map (maps_with f names) k ≡ has_map names k
  same_map names OfModule = some_map f names.module_name
  same_map names (OfItems space) = any_of_map (naming_with f) (names.items space)
  same_map names (Inner space) = any_of_map (inner_with f) (names.inner space)

  pub same_sections : (m : AbstractModule A) (k : SectionKind) → is_present (module_with f m) k ≡ is_present m k
  same_sections m Names = λ i. list_any (λ k. same_map m.names k i) map_order && not (is_called (codes "name") m.customs)
  same_sections m Types = refl
  same_sections m Imports = refl
  same_sections m Functions = refl
  same_sections m Tables = refl
  same_sections m Memories = refl
  same_sections m Tags = refl
  same_sections m Globals = refl
  same_sections m Exports = refl
  same_sections m Starts = refl
  same_sections m Elements = refl
  same_sections m DataCount = refl
  same_sections m Hints = refl
  same_sections m Codes = refl
  same_sections m Datas = refl

  same_indices : (ns : List (Naming A)) → map (λ n. n.index) (map (naming_with f) ns) ≡ map (λ n. n.index) ns
  same_indices [] = refl
  same_indices (n ∷ ns) = ap (λ v. n.index ∷ v) (same_indices ns)

  same_inner : (ns : List (InnerNaming A)) → map (λ n. n.index) (map (inner_with f) ns) ≡ map (λ n. n.index) ns
  same_inner [] = refl
  same_inner (n ∷ ns) = ap (λ v. n.index ∷ v) (same_inner ns)

  map_is : (ns : List (Naming A)) → IsMap ns → IsMap (map (naming_with f) ns)
  map_is ns h = subst (Rise 0) (sym (same_indices ns)) h

  each_inner : (ns : List (InnerNaming A)) → AllByRecursion IsInner ns → AllByRecursion IsInner (map (inner_with f) ns)
  each_inner [] h = tt
  each_inner (n ∷ ns) h = (record { is_some = subst (λ k. 0 < k) (sym (length-map n.names (naming_with f))) h.0.is_some; is_map = map_is n.names h.0.is_map }, each_inner ns h.1)

  inner_is : (ns : List (InnerNaming A)) → AreInner ns → AreInner (map (inner_with f) ns)
  inner_is ns h = record { indices = subst (Rise 0) (sym (same_inner ns)) h.indices; each = each_inner ns h.each }

  pub named : (names : NameMaps A) → AreNames names → AreNames (maps_with f names)
  named names h = record { items = λ space. map_is (names.items space) (h.items space); inner = λ space. inner_is (names.inner space) (h.inner space) }

  each_hint : (m : AbstractModule A) (gs : List FunctionHints) → AllByRecursion (AreHints m) gs → AllByRecursion (AreHints (module_with f m)) gs
  each_hint m [] h = tt
  each_hint m (g ∷ gs) h = (record { function = h.0.function; is_at = h.0.is_at; is_some = h.0.is_some; indices = h.0.indices; each = h.0.each }, each_hint m gs h.1)

  pub renamed : (m : AbstractModule A) → IsModule m → IsModule (module_with f m)
  renamed m h = record {
    types = h.types;
    imports = h.imports;
    functions = h.functions;
    tables = h.tables;
    memories = h.memories;
    tags = h.tags;
    globals = h.globals;
    exports = h.exports;
    start = h.start;
    elements = h.elements;
    datas = h.datas;
    names = named m.names h.names;
    hint_functions = h.hint_functions;
    hints = each_hint m m.hints h.hints;
    gaps = h.gaps ∙ sym (λ i. length (filter (λ k. same_sections m k i) order) + 1);
  }
