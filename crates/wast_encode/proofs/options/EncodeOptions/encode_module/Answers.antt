use Rattle.std.proofs.Common.{ℕ, sym, ap, ◌∙◌, subst}
use Rattle.std.specs.Prelude.{option_map}
use Rattle.wast_grammar.specs.Tokens.{Name}
use Rattle.wast_parser.specs.Identifiers.{identifier_tree}
use Rattle.wast_signatures.specs.SignatureViews.{name_tree}
use Rattle.wast_module_fields.specs.FieldTree.{Module}
use Rattle.wast_core.specs.ModuleViews.{content_tree, module_tree}
use Rattle.wast_uncovered.specs.First.{placed}
use Rattle.wast_encode.specs.Encoded.{naming}
use Rattle.wast_encode.specs.Resolved.{ContentReady, IsEncoded, IsUnencoded}
use Rattle.wast_encode.proofs.Encoded.{binary_of, fault_of, content_ready, unresolved_deserves, unresolved_leaves, resolved_counts, refused_again, pieces_stay, ok_of, err_of}
use Rattle.wast_encode.proofs.options.EncodeOptions.encode_module.Goals as goal

pub returns-in-Err-clause-fault : goal.returns-in-Err-clause-fault
returns-in-Err-clause-fault c = λ none. unresolved_deserves c.args.gensym.now (module_tree c.args.«module».now) (module_tree c.resolve_names.new.«module») c.in-Err.fault none c.in-Err.ensures.fault

pub returns-in-Err-clause-left : goal.returns-in-Err-clause-left
returns-in-Err-clause-left c = λ none. unresolved_leaves c.args.gensym.now (module_tree c.args.«module».now) (module_tree c.resolve_names.new.«module») c.in-Err.fault none c.in-Err.ensures.fault

pub returns-in-Err-clause-refused : goal.returns-in-Err-clause-refused
returns-in-Err-clause-refused c = λ why was. refused_again c.args.gensym.now (module_tree c.args.«module».now) (module_tree c.resolve_names.new.«module») why c.in-Err.fault was (c.in-Err.ensures.kept why was) c.in-Err.ensures.fault

pub encode_resolved-requires : goal.encode_resolved-requires
encode_resolved-requires c =
    let m = c.args.«module».now in
    let g = c.args.gensym.now in
    let clear = sym (c.uncovered-form.ensures (naming g (module_tree m))) ∙ ap placed c.in-None.is in
    subst (λ (t : Module Name ℕ). ContentReady t.content) (sym c.in-Ok.ensures.resolved.1)
    (content_ready g m.span (option_map identifier_tree m.id) (option_map name_tree m.name) m.refusal m.kind (c.requires.formed c.in-Ok.ensures.resolved.0) (c.in-Ok.ensures.met c.in-Ok.ensures.resolved.0) clear)

pub returns-in-None-clause-binary : goal.returns-in-None-clause-binary
returns-in-None-clause-binary c =
    let m = c.args.«module».now in
    let g = c.args.gensym.now in
    let clear = sym (c.uncovered-form.ensures (naming g (module_tree m))) ∙ ap placed c.in-None.is in
    ok_of _ _ _ (λ b e.
    binary_of g m.span (option_map identifier_tree m.id) (option_map name_tree m.name) m.refusal (content_tree m.kind) (c.requires.formed c.in-Ok.ensures.resolved.0) (c.in-Ok.ensures.met c.in-Ok.ensures.resolved.0) clear b.items
    (subst (λ (t : Module Name ℕ). IsEncoded t b.items) c.in-Ok.ensures.resolved.1 e)) c.encode_resolved.result c.encode_resolved.ensures

pub returns-in-None-clause-fault : goal.returns-in-None-clause-fault
returns-in-None-clause-fault c = λ none.
    let m = c.args.«module».now in
    let g = c.args.gensym.now in
    let clear = sym (c.uncovered-form.ensures (naming g (module_tree m))) ∙ ap placed c.in-None.is in
    err_of _ _ _ (λ f u.
    fault_of g m.span (option_map identifier_tree m.id) (option_map name_tree m.name) m.refusal (content_tree m.kind) (c.requires.formed none) (c.in-Ok.ensures.met none) clear f
    (subst (λ (t : Module Name ℕ). IsUnencoded t f) c.in-Ok.ensures.resolved.1 u)) c.encode_resolved.result c.encode_resolved.ensures

pub returns-in-None-clause-reached : goal.returns-in-None-clause-reached
returns-in-None-clause-reached c = err_of _ _ _ (λ f u. resolved_counts c.args.gensym.now (module_tree c.args.«module».now) (module_tree c.resolve_names.new.«module») f _ c.in-Ok.ensures.counted) c.encode_resolved.result c.encode_resolved.ensures

pub returns-in-None-clause-pieces : goal.returns-in-None-clause-pieces
returns-in-None-clause-pieces c = λ none are. c.in-Ok.ensures.resolved.1 ∙ pieces_stay c.args.gensym.now (module_tree c.args.«module».now) are

pub returns-in-Some-clause-pieces : goal.returns-in-Some-clause-pieces
returns-in-Some-clause-pieces c = λ none are. c.in-Ok.ensures.resolved.1 ∙ pieces_stay c.args.gensym.now (module_tree c.args.«module».now) are
