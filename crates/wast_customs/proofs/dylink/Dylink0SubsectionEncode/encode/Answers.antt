use Rattle.std.proofs.Common.{subst, sym}
use Rattle.std.specs.Cow.{cow_str_bytes}
use Rattle.wasm_encoder_base.specs.Bytes.{sized}
use Rattle.wasm_encoder_base.specs.Encodes.{Encodes}
use Rattle.wast_customs.specs.Dylink.{payload, PayloadFits, NameFits, ExportFits, ImportFits, export_bytes, import_bytes}
use Rattle.wast_customs.specs.CustomViews.{subsection_tree}
use Rattle.wast_customs.proofs.Encodings.{list_encodes}
use Rattle.wast_customs.proofs.dylink.Dylink0SubsectionEncode.encode.Goals as goal

pub returns-in-Needed : goal.returns-in-Needed
returns-in-Needed c =
    subst (λ s. Encodes (payload (subsection_tree s)) (PayloadFits (subsection_tree s)) c.args.sink.now.items c.encode-in-Needed.new.sink.items c.encode-in-Needed.result) (sym c.in-Needed.is)
    (list_encodes c.in-Needed.names.items sized NameFits (λ n. NameFits (cow_str_bytes n)) cow_str_bytes (λ x f. f) (λ x f. f) c.encode-in-Needed.ensures)

pub returns-in-ExportInfo : goal.returns-in-ExportInfo
returns-in-ExportInfo c =
    subst (λ s. Encodes (payload (subsection_tree s)) (PayloadFits (subsection_tree s)) c.args.sink.now.items c.encode-in-ExportInfo.new.sink.items c.encode-in-ExportInfo.result) (sym c.in-ExportInfo.is)
    (list_encodes c.in-ExportInfo.exports.items export_bytes ExportFits (λ e. NameFits (cow_str_bytes e.0) × Unit {0}) (λ e. (cow_str_bytes e.0, e.1)) (λ x f. f.0) (λ x f. (f, tt)) c.encode-in-ExportInfo.ensures)

pub returns-in-ImportInfo : goal.returns-in-ImportInfo
returns-in-ImportInfo c =
    subst (λ s. Encodes (payload (subsection_tree s)) (PayloadFits (subsection_tree s)) c.args.sink.now.items c.encode-in-ImportInfo.new.sink.items c.encode-in-ImportInfo.result) (sym c.in-ImportInfo.is)
    (list_encodes c.in-ImportInfo.imports.items import_bytes ImportFits (λ i. NameFits (cow_str_bytes i.0) × NameFits (cow_str_bytes i.1) × Unit {0}) (λ i. (cow_str_bytes i.0, (cow_str_bytes i.1, i.2))) (λ x f. (f.0, f.1)) (λ x f. (f.0, f.1, tt)) c.encode-in-ImportInfo.ensures)

pub returns-in-RuntimePath : goal.returns-in-RuntimePath
returns-in-RuntimePath c =
    subst (λ s. Encodes (payload (subsection_tree s)) (PayloadFits (subsection_tree s)) c.args.sink.now.items c.encode-in-RuntimePath.new.sink.items c.encode-in-RuntimePath.result) (sym c.in-RuntimePath.is)
    (list_encodes c.in-RuntimePath.names.items sized NameFits (λ n. NameFits (cow_str_bytes n)) cow_str_bytes (λ x f. f) (λ x f. f) c.encode-in-RuntimePath.ensures)
