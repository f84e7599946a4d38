use Rattle.std.proofs.Common.{◌≡◌, length, map, replicate, ap, sym, ◌∙◌, arith, flat_map}
use Rattle.std.proofs.lemmas.List.{length-map}
use Rattle.wast_imports.specs.ImportViews.{extern_tree, member_name_tree}
use Rattle.wast_meant.specs.NamesMeant.{imported_function}
use Rattle.wast_custom_sections.proofs.Counted.{alike}
use Rattle.wast_custom_sections.proofs.functions.imported_count.Goals as goal

pub returns-in-Group2 : goal.returns-in-Group2
returns-in-Group2 c =
    let t = extern_tree c.in-Group2.sig.kind in
    let members = c.in-Group2.items.items in
    let count : c.len.result ≡ length (map member_name_tree members) = omega (arith, c.len.ensures, length-map members member_name_tree) in
    rw (c.in-Group2.is) (c.repeated-in-Group2.ensures
    ∙ ap (λ n. length (flat_map imported_function (replicate n t))) count
    ∙ ap (λ ts. length (flat_map imported_function ts)) (sym (alike t (map member_name_tree members))))
