use Rattle.std.proofs.Common.{◌<◌, ◌^◌, length, sym, subst}
use Rattle.wasm_encoder_items.specs.Imports.{export_bytes}
use Rattle.wasm_layout.specs.IsModule.{IsExport}
use Rattle.wast_section_items.specs.Fits.{ExportFits}
use Rattle.wast_section_items.proofs.Appending.{appends_one}
use Rattle.wast_section_items.proofs.export.ExportSectionItem.encode.Goals as goal

pub returns : goal.returns
returns c =
    let name = c.as_str.ensures.value in
    appends_one export_bytes ExportFits IsExport _ _ _ _ _ c.add_export.result (λ i. export_bytes (record { name = name i; kind = c.export_kind.ensures i; index = c.index.ensures.same i }))
    (λ h. subst (λ n. length n < 2 ^ 32) name h) (λ h. subst (λ n. length n < 2 ^ 32) (sym name) h) c.index.ensures.sound c.add_export.ensures
