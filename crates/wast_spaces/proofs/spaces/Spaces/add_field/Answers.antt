use Rattle.std.proofs.Common.{inl, inr, subst, sym}
use Rattle.std.specs.Prelude.{option_map}
use Rattle.wast_signatures.specs.SignatureViews.{name_tree}
use Rattle.wast_spaces.specs.Joins.{Joined, Joins}
use Rattle.wast_spaces.proofs.Fields.{field_items}
use Rattle.wast_spaces.proofs.Joins.{joined_none}
use Rattle.wast_spaces.proofs.Written.{func_items, global_items, tag_items}
use Rattle.wast_spaces.proofs.spaces.Spaces.add_field.Goals as goal

pub returns-in-Func : goal.returns-in-Func
returns-in-Func c = rw c.in-Func.is (subst (Joins c.add.result c.args.self.now c.add.new.self) (sym (func_items c.in-Func.func)) (c.add.ensures (option_map name_tree c.in-Func.func.name)))

pub returns-in-Global : goal.returns-in-Global
returns-in-Global c = rw c.in-Global.is (subst (Joins c.add-in-Global.result c.args.self.now c.add-in-Global.new.self) (sym (global_items c.in-Global.global)) (c.add-in-Global.ensures (option_map name_tree c.in-Global.global.name)))

pub returns-in-Tag : goal.returns-in-Tag
returns-in-Tag c = rw c.in-Tag.is (subst (Joins c.add-in-Tag.result c.args.self.now c.add-in-Tag.new.self) (sym (tag_items c.in-Tag.tag)) (c.add-in-Tag.ensures (option_map name_tree c.in-Tag.tag.name)))

pub returns-in-Export : goal.returns-in-Export
returns-in-Export c =
    let s = c.args.self.now in
    elim c.in-Export.is [
      | inl h ↦ subst (λ f. Joined s s (field_items f)) (sym h.1) (joined_none s)
      | inr (inl h) ↦ subst (λ f. Joined s s (field_items f)) (sym h.1) (joined_none s)
      | inr (inr h) ↦ subst (λ f. Joined s s (field_items f)) (sym h.1) (joined_none s)
    ]
