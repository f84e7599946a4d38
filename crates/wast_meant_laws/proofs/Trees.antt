-- What renamed trees stand for.
use Rattle.std.proofs.Common.{◌≡◌, ◌↔◌, ℕ, sym, ◌∙◌, ap, subst}
use std.Path.{fun_ext, transport, transport⁻¹, transport-transport⁻¹}
use std.Univalence.{iso_to_path}
use Rattle.wast_grammar.specs.Tokens.{Name}
use Rattle.wast_grammar.specs.Spelling.{same_name}
use Rattle.wast_field_syntax.specs.FieldTree.{Content, Module}
use Rattle.wast_meaning.specs.Made.{made, is_made}
use Rattle.wast_meaning.specs.Modules.{content_fields}
use Rattle.wast_meaning.specs.Written.{by_counter}
use Rattle.wasm_layout.specs.AbstractModule.{AbstractModule}
use Rattle.wasm_layout.specs.Lays.{bare}
use Rattle.wast_resolve_laws.specs.Renamed.{FieldList}
use Rattle.wast_resolve_laws.proofs.Renamed.{free}
use Rattle.wast_resolve_laws.proofs.RenamedFields.{naming_so, names_kept}
use Rattle.wast_meant.specs.NamesMeant.{GivenName}
use Rattle.wast_meant.specs.Meaning.{Meaning}
use Rattle.wast_meant.specs.Means.{naming_of}
use Rattle.wast_meant.specs.Binary.{module_with, bytes_of, in_bytes}
use Rattle.wast_meant.proofs.OneMeaning.{one_meaning}
use Rattle.wast_meant_laws.specs.Renamed.{Renaming, MadeStay, renamed_by, tree_renamed, given_renamed}
use Rattle.wast_meant_laws.proofs.Free.{said}
use Rattle.wast_meant_laws.proofs.Renamed.{Given, Meant, meant_so}
use Rattle.wast_meant_laws.proofs.Bare.{bare_renamed}

-- fresh names, a tree and a module
abbrev Stands : Type 0 → Type 0 → Type 0
Stands N P = (ℕ → N) × Module N P × AbstractModule (GivenName N)

module _ (r : Renaming) where
  pub content_renamed : (t : Module Name ℕ) → content_fields (tree_renamed r t).content ≡ renamed_by r (content_fields t.content)
  content_renamed t = free Content FieldList (λ N P eq c. content_fields c) r.names r.places same_name same_name (names_kept r.names) t.content

  module _ (stays : MadeStay r) (t : Module Name ℕ) where
    -- the counter's names
    pub naming_renamed : naming_of (tree_renamed r t) ≡ (λ n. r.names.fun (naming_of t n))
    naming_renamed =
        ap (λ fs. by_counter made 0 fs) (content_renamed t)
        ∙ ap (λ make. by_counter make 0 (renamed_by r (content_fields t.content))) (sym (fun_ext stays) ∙ sym (naming_so r.names r.places made))
        ∙ free Given (λ N P. ℕ → N) (λ N P eq x. by_counter x.0 0 x.1) r.names r.places same_name same_name (names_kept r.names) (made, content_fields t.content)
        ∙ naming_so r.names r.places (naming_of t)

    meaning_renamed : (m : AbstractModule (GivenName Name))
        → Meaning same_name is_made (naming_of (tree_renamed r t)) (tree_renamed r t) (module_with (given_renamed r.names.fun) m) ≡ Meaning same_name is_made (naming_of t) t m
    meaning_renamed m =
        (λ i. Meaning same_name is_made ((naming_renamed ∙ sym (naming_so r.names r.places (naming_of t))) i) (tree_renamed r t) (sym (meant_so r.names r.places m) i))
        ∙ said Stands (λ N P eq made x. Meaning eq made x.0 x.1 x.2) r.names r.places same_name same_name (names_kept r.names) is_made is_made r.keeps_made (naming_of t, t, m)

    pub tree_means : (m : AbstractModule (GivenName Name))
        → Meaning same_name is_made (naming_of (tree_renamed r t)) (tree_renamed r t) (module_with (given_renamed r.names.fun) m) ↔ Meaning same_name is_made (naming_of t) t m
    tree_means m = (transport (meaning_renamed m), transport (sym (meaning_renamed m)))

    -- each module is one with renamed names
    pub means_only : (n : AbstractModule (GivenName Name)) → Meaning same_name is_made (naming_of (tree_renamed r t)) (tree_renamed r t) n
        → (m : AbstractModule (GivenName Name)) × Meaning same_name is_made (naming_of t) t m × (n ≡ module_with (given_renamed r.names.fun) m)
    means_only n h =
        let p : Meant Name ℕ ≡ Meant Name ℕ = λ i. Meant (iso_to_path r.names i) (iso_to_path r.places i) in
        let m : AbstractModule (GivenName Name) = transport⁻¹ p n in
        let same : n ≡ module_with (given_renamed r.names.fun) m = sym (transport-transport⁻¹ p n) ∙ meant_so r.names r.places m in
        (m, (tree_means m).0 (subst (Meaning same_name is_made (naming_of (tree_renamed r t)) (tree_renamed r t)) same h), same)

    pub tree_bare : (m n : AbstractModule (GivenName Name)) → Meaning same_name is_made (naming_of t) t m → Meaning same_name is_made (naming_of (tree_renamed r t)) (tree_renamed r t) n
        → bare (in_bytes n) ≡ bare (in_bytes m)
    tree_bare m n a b =
        let back = means_only n b in
        ap (λ v. bare (in_bytes v)) (back.2 ∙ ap (module_with (given_renamed r.names.fun)) (one_meaning (naming_of t) t back.0 m back.1 a))
        ∙ bare_renamed (given_renamed r.names.fun) bytes_of bytes_of m
