-- Imports whose counts and lengths fit, as the encoder has them and as they are meant.
use Rattle.std.proofs.Common.{◌≡◌, [], ◌∷◌, refl, sym, subst, arith}
use Rattle.std.specs.Prelude.{Result}
use Rattle.std.proofs.lemmas.List.{length-map}
use Rattle.wasm_encoder_base.specs.EncodeError.{EncodeError}
use Rattle.wasm_encoder_base.specs.Lists.{Listed}
use Rattle.wasm_encoder_items.specs.Imports as binary
use Rattle.wasm_encoder_items.specs.Imports.{imports_bytes}
use Rattle.wasm_encoder_items.specs.Views as views
use Rattle.wasm_encoder_items.specs.Views.{named_view, imports_view}
use Rattle.wasm_encoder_items.specs.declared.imports.Imports.{Imports}
use Rattle.wasm_encoder_items.specs.declared.imports.Imports.TheVariants.{Single, Compact1, Compact2}
use Rattle.wasm_encoder_sections.specs.Writes.{Writes}
use Rattle.wasm_layout.specs.IsModule.{IsImport}
use Rattle.wast_section_items.specs.Appends.{Appends}
use Rattle.wast_section_items.specs.Fits.{Counted, ImportsFit}
use Rattle.wast_section_items.proofs.Appending.{appends_one, each_seen, each_again}

abbrev NameFits : binary.Named → Type 0
NameFits n = Counted n.name

imports_seen : (i : Imports) → views.ImportsFit i → ImportsFit (imports_view i)
imports_seen (Single i) h = h
imports_seen (Compact1 m items) h = (h.0, omega (arith, h.1, length-map items named_view), each_seen NameFits named_view items h.2)
imports_seen (Compact2 m ty names) h = (h.0, omega (arith, h.1, length-map names (λ n. n.now)), each_seen Counted (λ n. n.now) names h.2)

imports_again : (i : Imports) → ImportsFit (imports_view i) → views.ImportsFit i
imports_again (Single i) h = h
imports_again (Compact1 m items) h = (h.0, omega (arith, h.1, length-map items named_view), each_again NameFits named_view items h.2)
imports_again (Compact2 m ty names) h = (h.0, omega (arith, h.1, length-map names (λ n. n.now)), each_again Counted (λ n. n.now) names h.2)

pub adds_imports : (i : Imports) (j : binary.Imports) (before after : Listed) (r : Result (Unit {0}) EncodeError) → imports_view i ≡ j → IsImport j
    → Writes (imports_bytes (imports_view i)) (views.ImportsFit i) before after r → Appends imports_bytes ImportsFit IsImport (j ∷ []) before after r
adds_imports i j before after r e ranges w =
    subst (λ k. Appends imports_bytes ImportsFit IsImport (k ∷ []) before after r) e
    (appends_one imports_bytes ImportsFit IsImport (imports_view i) _ _ before after r refl (imports_seen i) (imports_again i) (subst IsImport (sym e) ranges) w)
