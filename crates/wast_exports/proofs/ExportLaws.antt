-- The laws of exports, and of the exports and imports that stand inline: each mirrors its production.
use Rattle.std.proofs.Common.{sym, append-nil, [], ◌∷◌, refl}
use Rattle.std.specs.Prelude.{codes}
use Rattle.wast_parser.specs.Tokens.{Text}
use Rattle.wast_parser.specs.Lawful.{Lawful, Leads}
use Rattle.wast_parser.specs.Grammar.{among, seq}
use Rattle.wast_parser.specs.Productions.{name}
use Rattle.wast_parser.proofs.GrammarLaws.{among_laws, word_laws, seen_laws, seq_laws, many_laws, led_laws, paren_laws}
use Rattle.wast_parser.proofs.LeadLaws.{spelled_seen, among_leads, seen_leads, group_leads}
use Rattle.wast_parser.proofs.IntegerLaws.{name_laws}
use Rattle.wast_parser.proofs.IdentifierLaws.{index_laws}
use Rattle.wast_exports.specs.Exports.{export_word, export_kinds, kind_starts, export_starts, import_starts, export_kind, exported_body, exported, export_body, export, export_name_body, export_name, inline_export, inline_import_body, inline_import}
use Rattle.std.proofs.lemmas.Str.{is_utf8-from_IsUtf8, IsUtf8-nil}

module _ {N P : Type 0} where
  pub export_kind_laws : Lawful (export_kind {N = N} {P = P})
  export_kind_laws = seen_laws _ _ (among_laws export_word export_kinds [])

  pub exported_body_laws : Lawful (exported_body {N = N} {P = P})
  exported_body_laws = seq_laws _ _ export_kind_laws index_laws refl

  pub exported_laws : Lawful (exported {N = N} {P = P})
  exported_laws = paren_laws exported_body exported_body_laws refl refl

  pub export_body_laws : Lawful (export_body {N = N} {P = P})
  export_body_laws = seen_laws _ _ (seq_laws _ _ (word_laws (codes "export")) (seq_laws _ _ name_laws exported_laws refl) refl)

  pub export_laws : Lawful (export {N = N} {P = P})
  export_laws = paren_laws export_body export_body_laws refl refl

  pub export_name_body_laws : Lawful (export_name_body {N = N} {P = P})
  export_name_body_laws = led_laws (codes "export") name name_laws

  pub export_name_laws : Lawful (export_name {N = N} {P = P})
  export_name_laws = paren_laws export_name_body export_name_body_laws refl refl

  pub inline_export_laws : Lawful (inline_export {N = N} {P = P})
  inline_export_laws = many_laws _ _ export_name_laws refl refl refl refl refl

  two_names_laws : Lawful (seq {N = N} {P = P} name name)
  two_names_laws = seq_laws _ _ name_laws name_laws refl

  pub inline_import_body_laws : Lawful (inline_import_body {N = N} {P = P})
  inline_import_body_laws = led_laws (codes "import") (seq name name) two_names_laws

  pub inline_import_laws : Lawful (inline_import {N = N} {P = P})
  inline_import_laws = paren_laws inline_import_body inline_import_body_laws refl refl

  -- WHERE THEY BEGIN
  -- a name without bytes
  empty_name : (p : P) → (name {N = N}).spells [] (Text [] p ∷ [])
  empty_name p = (is_utf8-from_IsUtf8 [] IsUtf8-nil, (Text [] p, refl, refl))

  pub export_kind_leads : Leads (export_kind {N = N} {P = P}).spells kind_starts
  export_kind_leads = seen_leads (λ k. k.0) (among export_word export_kinds []).spells kind_starts (among_leads export_word export_kinds [])

  pub export_name_leads : P → Leads (export_name {N = N} {P = P}).spells export_starts
  export_name_leads p = group_leads (codes "export") name name_laws [] (Text [] p ∷ []) (empty_name p)

  pub inline_export_leads : P → Leads (inline_export {N = N} {P = P}).spells export_starts
  inline_export_leads p = record {
    seen = spelled_seen inline_export inline_export_laws refl;
    only = λ ts h. (let k = (export_name_leads p).only ts h in (k.0 ∷ [], k.1, k.2, k.3, (k.1 ∷ k.2, [], sym (append-nil (k.1 ∷ k.2)), k.4, refl), k.5));
  }

  pub inline_import_leads : P → Leads (inline_import {N = N} {P = P}).spells import_starts
  inline_import_leads p = group_leads (codes "import") (seq name name) two_names_laws ([], []) (Text [] p ∷ Text [] p ∷ []) (Text [] p ∷ [], Text [] p ∷ [], refl, empty_name p, empty_name p)
