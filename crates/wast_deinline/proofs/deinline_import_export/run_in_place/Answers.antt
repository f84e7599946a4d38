use Rattle.std.proofs.Common.{◌≡◌, true, map, sym, subst, arith}
use Rattle.std.specs.List.{list_all}
use Rattle.wast_module_fields.specs.ModuleFieldViews.{field_tree}
use Rattle.wast_meaning.specs.Written.{by_counter}
use Rattle.wast_meaning.specs.Made.{made}
use Rattle.wast_deinline.specs.Definitions.{stands_alone}
use Rattle.wast_deinline.proofs.Alone.{none_named, written_alone}
use Rattle.wast_deinline.proofs.deinline_import_export.run_in_place.Goals as goal

pub returns-then-all_stand_alone-clause-written : goal.returns-then-all_stand_alone-clause-written
returns-then-all_stand_alone-clause-written c =
    let trees = map field_tree c.args.fields.now.items in
    let alone = subst (λ xs. list_all stands_alone (map field_tree xs) ≡ true) c.deref.ensures.value (sym c.if-all_stand_alone.ensures) in
    sym (written_alone (by_counter made c.args.gensym.now trees) trees alone)

pub returns-then-all_stand_alone-clause-counted : goal.returns-then-all_stand_alone-clause-counted
returns-then-all_stand_alone-clause-counted c =
    let alone = subst (λ xs. list_all stands_alone (map field_tree xs) ≡ true) c.deref.ensures.value (sym c.if-all_stand_alone.ensures) in
    let none = none_named (map field_tree c.args.fields.now.items) alone in
    omega (arith, none)
