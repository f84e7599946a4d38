use Rattle.std.proofs.Common.{◌+◌, ◌++◌, [], ◌∷◌, map, ap, sym, ◌∙◌}
use Rattle.std.specs.Prelude.{if◌then◌else◌}
use Rattle.std.proofs.lemmas.Result.{on_ok_weaker}
use Rattle.wast_module_fields.specs.ModuleFieldViews.{field_tree}
use Rattle.wast_meaning.specs.Written.{field_out, takes_name}
use Rattle.wast_meaning.specs.Made.{made}
use Rattle.wast_deinline.proofs.Parts.{stays, takes_none}
use Rattle.wast_deinline.proofs.deinline_import_export.write_out.Goals as goal

pub returns-in-Ok-clause-written : goal.returns-in-Ok-clause-written
returns-in-Ok-clause-written c =
    on_ok_weaker c.write_definition.result
    (λ h. h ∙ ap (λ f. map field_tree c.args.out.now.items ++ field_out (made c.args.gensym.now) f) (sym c.in-Ok.ensures.definition))
    c.write_definition.ensures.written

pub returns-in-Ok-clause-counted : goal.returns-in-Ok-clause-counted
returns-in-Ok-clause-counted c =
    c.write_definition.ensures.counted
    ∙ ap (λ f. if takes_name f then c.args.gensym.now + 1 else c.args.gensym.now) (sym c.in-Ok.ensures.definition)

pub returns-in-Err-clause-written : goal.returns-in-Err-clause-written
returns-in-Err-clause-written c =
    on_ok_weaker c.push.result
    (λ h. h ∙ ap (λ f. map field_tree c.args.out.now.items ++ field_tree f ∷ []) c.in-Err.ensures.other.0
    ∙ ap (λ l. map field_tree c.args.out.now.items ++ l) (sym (stays (made c.args.gensym.now) (field_tree c.args.field) c.in-Err.ensures.other.1)))
    c.push.ensures

pub returns-in-Err-clause-counted : goal.returns-in-Err-clause-counted
returns-in-Err-clause-counted c =
    ap (λ b. if b then c.args.gensym.now + 1 else c.args.gensym.now) (sym (takes_none (field_tree c.args.field) c.in-Err.ensures.other.1))
