use Rattle.std.proofs.Common.{◌<◌, length, refl, subst}
use Rattle.std.proofs.lemmas.List.{length-map}
use Rattle.std.proofs.lemmas.Option.{slice_get_read}
use Rattle.wast_imports.specs.ImportViews.{unique_sigs_of}
use Rattle.wast_imports.proofs.import.Imports.replace_unique_sig.Goals as goal

pub returns-in-Group1-clause-items : goal.returns-in-Group1-clause-items
returns-in-Group1-clause-items c =
    let items = c.in-Group1.items.items in
    let within = subst (λ n. c.args.at < n) (length-map items _) (subst (λ v. c.args.at < length (unique_sigs_of v)) c.in-Group1.is c.requires) in
    rw (c.in-Group1.is, slice_get_read items _ c.args.at c.index_mut.result.now refl within c.index_mut.ensures.value, c.replace-in-Group1.ensures.after) refl
