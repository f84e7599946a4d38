use Rattle.std.proofs.Common.{◌++◌, ap, sym}
use Rattle.std.specs.List.{flat_map}
use Rattle.std.proofs.lemmas.List.Concat.{flat_map-append}
use Rattle.wast_module_fields.specs.ElemViews.{elements_tree, mode_tree}
use Rattle.wast_meaning.specs.Mentions.{elem_mode_parts, elements_parts, part_mentions}
use Rattle.wast_implied.specs.Views.{known}
use Rattle.wast_implied.proofs.Quiet.{used}
use Rattle.wast_implied.proofs.Retold.{told_next}
use Rattle.wast_implied.proofs.gathered.Implied.add_elem.Goals as goal

pub returns : goal.returns
returns c =
    let ps = elem_mode_parts (mode_tree c.args.elem.now.kind) in
    let qs = elements_parts (elements_tree c.args.elem.now.payload) in
    told_next c.add_elements.result c.args.elem.now.span (known c.args.self.now) (known c.add_mode.new.self) (known c.add_elements.new.self)
    (flat_map part_mentions ps) (flat_map part_mentions qs) (flat_map part_mentions (ps ++ qs)) c.in_ok-add_mode.ensures (ap used (sym (flat_map-append part_mentions ps qs))) c.add_elements.ensures
