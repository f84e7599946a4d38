-- What contracts see of the function types of a module.
use Rattle.std.specs.Prelude.{◌≡◌, ℕ, Bool, List, ◌++◌, map, slice_get, Option, option_map, option_and_then, Result, OnOk}
use Rattle.wast_grammar.specs.Tokens.{Name}
use Rattle.wast_signatures.specs.TypeTree.{Sig, TypeItem}
use Rattle.wast_meaning.specs.Implied.{func_sig}
use Rattle.wast_scopes.specs.Numbered.{Look, NumberedSig, numbered_sig}
use Rattle.wast_scopes.specs.NumberedViews.{sig_of_numbered}
use Rattle.wast_scopes.specs.declared.signatures.Signatures.{Signatures}

-- each type by number, where it is a function type
abbrev pub signatures : Signatures → List (Option NumberedSig)
signatures s = map (option_map sig_of_numbered) s.types.items

abbrev pub sig_in : List (Option NumberedSig) → ℕ → Option NumberedSig
sig_in sigs n = option_and_then (λ s. s) (slice_get sigs n)

-- the function type that is written, in a group or outside
abbrev pub func_type : TypeItem Name ℕ × Bool → Option (Sig Name ℕ)
func_type t = func_sig t.0.definition.comp.inner

-- these types come behind those that were there
abbrev pub Adds : {T E : Type 0} → Look → Result T E → Signatures → Signatures → List (Option (Sig Name ℕ)) → Type 0
Adds look result old new sigs = OnOk result (signatures new ≡ signatures old ++ map (option_map (numbered_sig look)) sigs)
