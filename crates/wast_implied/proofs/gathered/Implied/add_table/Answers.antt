use Rattle.std.proofs.Common.{◌++◌, map, sym}
use Rattle.std.specs.Prelude.{option_map, option_to_list}
use Rattle.std.specs.List.{flat_map}
use Rattle.wast_value_types.specs.ValueViews.{ref_tree}
use Rattle.wast_core_instr.specs.ExpressionViews.{expression_tree}
use Rattle.wast_module_fields.specs.ElemViews.{elements_tree}
use Rattle.wast_meaning.specs.Mentions.{Constant, says, ref_mentions, elements_parts, part_mentions}
use Rattle.wast_implied.specs.Views.{known}
use Rattle.wast_implied.proofs.Quiet.{quiet_heap, quiet_said, quiet_before}
use Rattle.wast_implied.proofs.Instructions.{unchanged}
use Rattle.wast_implied.proofs.Retold.{retold}
use Rattle.wast_implied.proofs.gathered.Implied.add_table.Goals as goal

pub returns-in-Import : goal.returns-in-Import
returns-in-Import c =
    let ms = ref_mentions (ref_tree c.in-Import.ty.elem) in
    rw (c.in-Import.is) (unchanged c.args.table.now.span (known c.args.self.now) (flat_map part_mentions (says ms)) (quiet_said ms (quiet_heap (ref_tree c.in-Import.ty.elem).heap_type)))

pub returns-in-Normal : goal.returns-in-Normal
returns-in-Normal c =
    let ms = ref_mentions (ref_tree c.in-Normal.ty.elem) in
    let ps = map Constant (option_to_list (option_map expression_tree c.in-Normal.init_expr)) in
    rw (c.in-Normal.is) (retold c.add_if.result c.args.table.now.span (known c.args.self.now) (known c.add_if.new.self) (flat_map part_mentions ps) (flat_map part_mentions (says ms ++ ps))
    (sym (quiet_before ms ps (quiet_heap (ref_tree c.in-Normal.ty.elem).heap_type))) c.add_if.ensures)

pub returns-in-Inline : goal.returns-in-Inline
returns-in-Inline c =
    let ms = ref_mentions (ref_tree c.in-Inline.elem) in
    let ps = elements_parts (elements_tree c.in-Inline.payload) in
    rw (c.in-Inline.is) (retold c.add_elements.result c.args.table.now.span (known c.args.self.now) (known c.add_elements.new.self) (flat_map part_mentions ps) (flat_map part_mentions (says ms ++ ps))
    (sym (quiet_before ms ps (quiet_heap (ref_tree c.in-Inline.elem).heap_type))) c.add_elements.ensures)
