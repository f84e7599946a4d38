-- A subsection of `dylink.0` of fewer than 2^32 bytes has counts and lengths that are less.
use Rattle.std.proofs.Common.{ℕ, ◌+◌, ◌≡◌, ◌<◌, ◌≤◌, ◌^◌, List, ◌++◌, length, arith, flat_map, length-append}
use Rattle.std.specs.Prelude.{All}
use Rattle.std.proofs.lemmas.List.Elements.{All-weaker}
use Rattle.wasm_encoder_base.specs.Bytes.{counted, sized}
use Rattle.wasm_encoder_base.specs.Leb.{uleb}
use Rattle.wast_customs.specs.CustomTree.{Subsection, MemInfo, Needed, ExportInfo, ImportInfo, RuntimePath}
use Rattle.wast_customs.specs.Dylink.{payload, PayloadFits, NameFits, ExportFits, ImportFits, export_bytes, import_bytes}
use Rattle.wast_custom_sections.proofs.Sizes.{sized_size, count_size, each_size, counted_size}

-- a list whose items have a byte at the least, and fit where they have few bytes
list_fits : {A : Type 0} (f : A → List ℕ) (Fits : A → Type 0) → ((x : A) → 1 ≤ length (f x)) → ((x : A) → length (f x) < 2 ^ 32 → Fits x) → (xs : List A) →
    length (counted f xs) < 2 ^ 32 → (length xs < 2 ^ 32) × All Fits xs
list_fits f Fits one fit xs h =
    let less : length (flat_map f xs) < 2 ^ 32 = omega (arith, counted_size f xs) in
    (omega (arith, count_size f one xs), All-weaker (λ x. length (f x) < 2 ^ 32) Fits fit xs (each_size f (2 ^ 32) xs less))

name_some : (name : List ℕ) → 1 ≤ length (sized name)
name_some name = omega (arith, sized_size name)

name_fits : (name : List ℕ) → length (sized name) < 2 ^ 32 → NameFits name
name_fits name h = omega (arith, sized_size name)

export_size : (e : List ℕ × ℕ) → length e.0 + 1 ≤ length (export_bytes e)
export_size e = omega (arith, sized_size e.0, length-append (sized e.0) (uleb e.1))

import_size : (i : List ℕ × (List ℕ × ℕ)) → length i.0 + length i.1.0 + 1 ≤ length (import_bytes i)
import_size i =
    let whole : length (import_bytes i) ≡ length (sized i.0 ++ sized i.1.0) + length (uleb i.1.1) = length-append (sized i.0 ++ sized i.1.0) (uleb i.1.1) in
    omega (arith, sized_size i.0, sized_size i.1.0, length-append (sized i.0) (sized i.1.0))

pub payload_fits : (s : Subsection) → length (payload s) < 2 ^ 32 → PayloadFits s
payload_fits (MemInfo a b c d) h = tt
payload_fits (Needed names) h = list_fits sized NameFits name_some name_fits names h
payload_fits (ExportInfo es) h = list_fits export_bytes ExportFits (λ e. omega (arith, export_size e)) (λ e l. omega (arith, export_size e)) es h
payload_fits (ImportInfo is) h = list_fits import_bytes ImportFits (λ i. omega (arith, import_size i)) (λ i l. (omega (arith, import_size i), omega (arith, import_size i))) is h
payload_fits (RuntimePath names) h = list_fits sized NameFits name_some name_fits names h
