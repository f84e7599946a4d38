use Rattle.std.proofs.Common.{ap, sym, ◌∙◌}
use Rattle.std.specs.Prelude.{option_and_then}
use Rattle.wasm_encoder_base.specs.Table as table
use Rattle.wast_grammar.specs.Tokens.{Name}
use Rattle.wast_signatures.specs.SignatureViews.{sig_tree}
use Rattle.wast_names.specs.Space as names
use Rattle.wast_scopes.specs.Numbered.{same_sig_by}
use Rattle.wast_scopes.specs.Signatures.{signatures, sig_in}
use Rattle.wast_scopes.specs.Views.{known}
use Rattle.wast_scopes.proofs.scope.Scope.agrees.Goals as goal

pub returns-in-Some : goal.returns-in-Some
returns-in-Some c =
    let sig = sig_tree c.args.signature.now in
    let sigs = signatures c.args.self.now.signatures.now in
    c.agrees.ensures ∙ ap (λ (s : names.Space Name). same_sig_by s.look sig (sig_in sigs c.in-Some.number)) c.space-types.ensures
    ∙ ap (λ o. same_sig_by ((known c.args.self.now).look table.Types) sig (option_and_then (sig_in sigs) o)) (sym c.in-Some.is ∙ c.type_number.ensures)
