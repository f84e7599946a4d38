-- Where fields begin.
use Rattle.std.proofs.Common.{◌≡◌, ℕ, List, [], ◌∷◌, ◌++◌, refl, codes}
use Rattle.wast_parser.specs.Tokens.{Close, Word}
use Rattle.wast_parser.specs.Look.{this_group, type_starts}
use Rattle.wast_parser.specs.Lawful.{Lawful, Leads}
use Rattle.wast_parser.specs.Grammar.{Syntax, paren}
use Rattle.wast_parser.specs.Identifiers.{ByNumber}
use Rattle.wast_parser.proofs.LeadLaws.{seen_leads, either_leads}
use Rattle.wast_signatures.specs.TypeSyntax.{rec_body}
use Rattle.wast_core_types.proofs.TypeLaws.{rec_group_laws}
use Rattle.wast_core_types.proofs.Samples.{type_item_leads}
use Rattle.wast_exports.specs.Exports.{export_starts, import_starts, export_body}
use Rattle.wast_exports.proofs.ExportLaws.{export_laws}
use Rattle.wast_customs.specs.CustomSyntax.{custom_starts}
use Rattle.wast_customs.proofs.CustomLaws.{custom_leads}
use Rattle.wast_imports.specs.ImportSyntax.{imports_body}
use Rattle.wast_imports.proofs.ImportLaws.{imports_laws}
use Rattle.wast_fields.specs.DefinitionSyntax.{definition_body}
use Rattle.wast_fields.specs.FuncSyntax.{func_defined, global_defined, tag_defined}
use Rattle.wast_fields.specs.ElemSyntax.{elem_body}
use Rattle.wast_fields.specs.DataSyntax.{data_body}
use Rattle.wast_fields.specs.TableSyntax.{memory_defined, table_defined}
use Rattle.wast_module_fields.specs.FieldSyntax.{as_start, start_body, defining_starts, describing_starts, field_starts, defining, describing, field}
use Rattle.wast_fields.proofs.FieldLaws.{tag_laws, global_laws, func_laws, elem_laws, data_laws, memory_laws, table_laws}
use Rattle.wast_module_fields.proofs.ModuleFieldLaws.{start_laws}
use Rattle.wast_module_fields.proofs.Begins.{group_begins}
use Rattle.wast_fields.proofs.FieldSamples.{SpelledBehind, zero_token, index_spelled, func_spelled, table_spelled, memory_spelled, global_spelled, tag_spelled, rec_spelled, import_spelled, export_spelled, elem_spelled, data_spelled}

module _ {N P : Type 0} where
  -- tokens that spell the start function
  start_spelled : P → SpelledBehind {N = N} {P = P} (codes "start") start_body
  start_spelled p = (p, as_start (p, ByNumber 0 p), zero_token p ∷ [], ((p, ByNumber 0 p), refl, (Word (codes "start") p ∷ [], zero_token p ∷ [], refl, (Word (codes "start") p, refl, refl), index_spelled p)))

  -- a group of which what stands in the parentheses is spelled
  paren_begins : {A : Type 0} (w : List ℕ) (g : Syntax N P A) → Lawful (paren g) → (paren g).starts ≡ this_group w ∷ [] → SpelledBehind w g → Leads (paren g).spells (this_group w ∷ [])
  paren_begins w g lg e s = group_begins (paren g) lg w e s.1 s.0 s.0 (s.2 ++ Close s.0 ∷ []) (Word w s.0 ∷ s.2, s.0, s.0, refl, s.3)

  pub defining_leads : P → Leads (defining {N = N} {P = P}).spells defining_starts
  defining_leads p =
      either_leads _ _ (this_group (codes "func") ∷ []) _
      (seen_leads _ _ _ (paren_begins (codes "func") (definition_body (codes "func") func_defined) func_laws refl (func_spelled p)))
      (either_leads _ _ (this_group (codes "table") ∷ []) _
      (seen_leads _ _ _ (paren_begins (codes "table") (definition_body (codes "table") table_defined) table_laws refl (table_spelled p)))
      (either_leads _ _ (this_group (codes "memory") ∷ []) _
      (seen_leads _ _ _ (paren_begins (codes "memory") (definition_body (codes "memory") memory_defined) memory_laws refl (memory_spelled p)))
      (either_leads _ _ (this_group (codes "global") ∷ []) (this_group (codes "tag") ∷ [])
      (seen_leads _ _ _ (paren_begins (codes "global") (definition_body (codes "global") global_defined) global_laws refl (global_spelled p)))
      (seen_leads _ _ _ (paren_begins (codes "tag") (definition_body (codes "tag") tag_defined) tag_laws refl (tag_spelled p))) refl refl refl) refl refl refl) refl refl refl) refl refl refl

  pub describing_leads : P → Leads (describing {N = N} {P = P}).spells describing_starts
  describing_leads p =
      either_leads _ _ export_starts _
      (seen_leads _ _ _ (paren_begins (codes "export") export_body export_laws refl (export_spelled p)))
      (either_leads _ _ (this_group (codes "start") ∷ []) _
      (seen_leads _ _ _ (paren_begins (codes "start") start_body start_laws refl (start_spelled p)))
      (either_leads _ _ (this_group (codes "elem") ∷ []) _
      (seen_leads _ _ _ (paren_begins (codes "elem") elem_body elem_laws refl (elem_spelled p)))
      (either_leads _ _ (this_group (codes "data") ∷ []) custom_starts
      (seen_leads _ _ _ (paren_begins (codes "data") data_body data_laws refl (data_spelled p)))
      (seen_leads _ _ _ (custom_leads p)) refl refl refl) refl refl refl) refl refl refl) refl refl refl

  pub field_leads : P → Leads (field {N = N} {P = P}).spells field_starts
  field_leads p =
      either_leads _ _ type_starts _ (seen_leads _ _ _ (type_item_leads p))
      (either_leads _ _ (this_group (codes "rec") ∷ []) _
      (seen_leads _ _ _ (paren_begins (codes "rec") rec_body rec_group_laws refl (rec_spelled p)))
      (either_leads _ _ import_starts _
      (seen_leads _ _ _ (paren_begins (codes "import") imports_body imports_laws refl (import_spelled p)))
      (either_leads _ _ defining_starts describing_starts (defining_leads p) (describing_leads p) refl refl refl) refl refl refl) refl refl refl) refl refl refl
