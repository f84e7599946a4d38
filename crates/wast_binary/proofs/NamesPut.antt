-- The section of names, appended where there are names and no custom section is called so.
use Rattle.std.proofs.Common.{◌≡◌, ℕ, ◌<◌, ◌^◌, Bool, true, false, not, List, [], ◌∷◌, ◌++◌, length, codes, Option, Some, None, Result, Ok, Err, refl, sym, ap, arith, subst, append-nil}
use Rattle.std.specs.Prelude.{if◌then◌else◌, is_some, map, option_to_list}
use Rattle.std.specs.List.{flat_map, list_any}
use Rattle.std.proofs.lemmas.Bool.{false≢true, or_parts}
use Rattle.std.proofs.lemmas.Option.{same_Some}
use Rattle.std.proofs.lemmas.List.{length-append}
use Rattle.wasm_encoder_base.specs.Bytes.{sized}
use Rattle.wasm_encoder_base.specs.EncodeError.{EncodeError}
use Rattle.wasm_encoder_base.specs.EncodeError.TheVariants.{TooLarge}
use Rattle.wasm_encoder_base.specs.Encodes.{Encodes}
use Rattle.wasm_encoder_custom.specs.Custom.{CustomFits, custom_bytes}
use Rattle.wasm_encoder_custom.specs.Names.{name_section, ModuleName, Names, InnerNames, name_subsection_bytes}
use Rattle.wasm_encoder.specs.Module.{numbered}
use Rattle.wasm_layout.specs.AbstractModule.{NameMaps}
use Rattle.wasm_layout.specs.Layout.{if_there, naming, inner_naming, subsection_of, name_bytes}
use Rattle.wasm_layout.specs.Present.{MapKind, OfItems, Inner, map_order, has_map, has_names}
use Rattle.wasm_layout.specs.Present.MapKind.{OfModule}
use Rattle.wast_name_maps.specs.Fits.{NamesFit}
use Rattle.wast_name_maps.specs.Maps.{section_data}
use Rattle.wast_binary.specs.Puts.{unless, FitsUnless, PutsNames}

some_if : (b : Bool) (x y : List ℕ) → Some x ≡ (if b then Some y else None) → (b ≡ true) × (x ≡ y)
some_if true x y e = (refl, same_Some x y e)
some_if false x y e = let never : ⊥ = cc in absurd never

none_if : (b : Bool) (y : List ℕ) → None ≡ (if b then Some y else None) → b ≡ false
none_if true y e = cc
none_if false y e = refl

-- no maps, no bytes
module _ (names : NameMaps (List ℕ)) where
  kind_none : (k : MapKind) → has_map names k ≡ false → subsection_of names k ≡ []
  kind_none OfModule e = of names.module_name e
    where
      of : (o : Option (List ℕ)) → is_some o ≡ false → map ModuleName (option_to_list o) ≡ []
      of None e = refl
      of (Some name) e = absurd (false≢true (sym e))
  kind_none (OfItems space) e = ap (λ b. if_there b (Names space (map naming (names.items space)))) e
  kind_none (Inner space) e = ap (λ b. if_there b (InnerNames space (map inner_naming (names.inner space)))) e

  kinds_none : (ks : List MapKind) → list_any (has_map names) ks ≡ false → flat_map (subsection_of names) ks ≡ []
  kinds_none [] e = refl
  kinds_none (k ∷ ks) e =
      let both = or_parts (has_map names k) (list_any (has_map names) ks) e in
      λ i. kind_none k both.0 i ++ kinds_none ks both.1 i

  no_bytes : has_names names ≡ false → name_bytes names ≡ []
  no_bytes e = ap (flat_map name_subsection_bytes) (kinds_none map_order e)

name_size : (bytes : List ℕ) → CustomFits (name_section bytes) → length bytes < 2 ^ 32
name_size bytes h = omega (arith, h, length-append (sized (codes "name")) bytes)

module _ (names : NameMaps (List ℕ)) (before : List ℕ) where
  pub taken_put : (taken : Bool) → taken ≡ true → PutsNames taken names before before (Ok tt)
  taken_put taken e = subst (λ t. PutsNames t names before before (Ok tt)) (sym e) (record { put = sym (append-nil before); size = tt; too_large = λ x are fits. cc })

  pub free_put : (taken : Bool) (after : List ℕ) (r : Result (Unit {0}) EncodeError) → taken ≡ false → PutsNames false names before after r → PutsNames taken names before after r
  free_put taken after r e h = subst (λ t. PutsNames t names before after r) (sym e) h

  by_answer : (bytes after : List ℕ) (r : Result (Unit {0}) EncodeError) → has_names names ≡ true → bytes ≡ name_bytes names
      → Encodes (numbered 0 (custom_bytes (name_section bytes))) (CustomFits (name_section bytes)) before after r → PutsNames false names before after r
  by_answer bytes after (Ok v) has is h = record {
    put = subst (λ b. after ≡ before ++ unless (not b) (numbered 0 (custom_bytes (name_section (name_bytes names))))) (sym has) (subst (λ bs. after ≡ before ++ numbered 0 (custom_bytes (name_section bs))) is h.spelled);
    size = subst (λ b. FitsUnless (not b) (CustomFits (name_section (name_bytes names)))) (sym has) (subst (λ bs. CustomFits (name_section bs)) is h.fit);
    too_large = λ x are fits. cc;
  }
  by_answer bytes after (Err error) has is h = record {
    put = tt;
    size = tt;
    too_large = λ x are fits. h.too_large x (subst (λ bs. CustomFits (name_section bs)) (sym is) (subst (λ b. FitsUnless (not b) (CustomFits (name_section (name_bytes names)))) has fits));
  }

  pub some_put : (section after : List ℕ) (r : Result (Unit {0}) EncodeError) → Some section ≡ section_data names
      → Encodes (numbered 0 (custom_bytes (name_section section))) (CustomFits (name_section section)) before after r → PutsNames false names before after r
  some_put section after r e h = let is = some_if (has_names names) section (name_bytes names) e in by_answer section after r is.0 is.1 h

  pub none_put : None ≡ section_data names → PutsNames false names before before (Ok tt)
  none_put e =
      let has = none_if (has_names names) (name_bytes names) e in
      record {
        put = subst (λ b. before ≡ before ++ unless (not b) (numbered 0 (custom_bytes (name_section (name_bytes names))))) (sym has) (sym (append-nil before));
        size = subst (λ b. FitsUnless (not b) (CustomFits (name_section (name_bytes names)))) (sym has) tt;
        too_large = λ x are fits. cc;
      }

  by_has : (b : Bool) → has_names names ≡ b → FitsUnless (not (has_names names)) (CustomFits (name_section (name_bytes names))) → length (name_bytes names) < 2 ^ 32
  by_has true e fits = name_size (name_bytes names) (subst (λ b. FitsUnless (not b) (CustomFits (name_section (name_bytes names)))) e fits)
  by_has false e fits = let empty : length (name_bytes names) ≡ 0 = ap length (no_bytes names e) in omega (arith, empty)

  pub err_put : (error : EncodeError) → (error ≡ TooLarge → ¬ (NamesFit names)) → PutsNames false names before before (Err error)
  err_put error large = record {
    put = tt;
    size = tt;
    too_large = λ x are fits. large (let e : error ≡ TooLarge = cc in e) (record { are_names = are; size = by_has (has_names names) refl fits });
  }
