use Rattle.std.proofs.Common.{subst, sym, inl, inr}
use Rattle.wast_meaning.specs.Views.{space_view}
use Rattle.wast_spaces.proofs.Written.{func_items, global_items, tag_items}
use Rattle.wast_name_maps.specs.Gathered.{bound_names}
use Rattle.wast_name_maps.specs.Numbered.{NamesJoin, NamesJoined}
use Rattle.wast_name_maps.proofs.Joining.{joined_none}
use Rattle.wast_name_maps.proofs.Gathering.{field_names}
use Rattle.wast_name_maps.proofs.items.add_field.Goals as goal

pub returns-in-Func : goal.returns-in-Func
returns-in-Func c = rw c.in-Func.is (subst (λ bs. NamesJoin c.add.result c.args.names.now c.add.new.names (bound_names (space_view c.args.space) bs)) (sym (func_items c.in-Func.func)) c.add.ensures)

pub returns-in-Global : goal.returns-in-Global
returns-in-Global c = rw c.in-Global.is (subst (λ bs. NamesJoin c.add-in-Global.result c.args.names.now c.add-in-Global.new.names (bound_names (space_view c.args.space) bs)) (sym (global_items c.in-Global.global)) c.add-in-Global.ensures)

pub returns-in-Tag : goal.returns-in-Tag
returns-in-Tag c = rw c.in-Tag.is (subst (λ bs. NamesJoin c.add-in-Tag.result c.args.names.now c.add-in-Tag.new.names (bound_names (space_view c.args.space) bs)) (sym (tag_items c.in-Tag.tag)) c.add-in-Tag.ensures)

pub returns-in-Export : goal.returns-in-Export
returns-in-Export c =
    let s = c.args.names.now in
    elim c.in-Export.is [
      | inl h ↦ subst (λ f. NamesJoined s s (field_names (space_view c.args.space) f)) (sym h.1) (joined_none s)
      | inr (inl h) ↦ subst (λ f. NamesJoined s s (field_names (space_view c.args.space) f)) (sym h.1) (joined_none s)
      | inr (inr h) ↦ subst (λ f. NamesJoined s s (field_names (space_view c.args.space) f)) (sym h.1) (joined_none s)
    ]
