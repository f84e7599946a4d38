-- What is known in a module is what its scope tells.
use Rattle.std.proofs.Common.{◌≡◌, ℕ, List, [], ◌++◌, map, Option, Some, None, refl, ◌∙◌, ap}
use Rattle.std.specs.Prelude.{option_map, option_and_then, slice_get}
use Rattle.std.specs.List.{flat_map}
use Rattle.std.proofs.lemmas.Option.{slice_get-map}
use Rattle.wasm_encoder_base.specs.Table.{Labels, Locals, Functions, Types, Tables, Memories, Globals, Tags, Datas, Elems, Fields}
use Rattle.wasm_encoder_base.specs.Table as table
use Rattle.wast_grammar.specs.Tokens.{Name}
use Rattle.wast_grammar.specs.Spelling.{same_name}
use Rattle.wast_parser.specs.Identifiers.{Named}
use Rattle.wast_signatures.specs.TypeTree.{Sig}
use Rattle.wast_names.specs.Space as names
use Rattle.wast_names.specs.Space.{name_in}
use Rattle.wast_names.specs.Position.{position}
use Rattle.wast_names.specs.Views.{space}
use Rattle.wast_names.proofs.Positions.{numbers_of}
use Rattle.wast_module_fields.specs.FieldTree.{Field}
use Rattle.wast_meaning.specs.Spaces.{Bound, space_word, items, items_in, fields_at, denotes}
use Rattle.wast_meaning.specs.Implied.{written_types, implied_sigs, sig_at}
use Rattle.wast_meaning.specs.Scope.{scope_of, locals_or}
use Rattle.wast_meaning.proofs.Walked.{tells_so}
use Rattle.wast_spaces.specs.Joins.{spaces_behind, type_fields}
use Rattle.wast_spaces.specs.Views.{spaces_of, fields_of_types}
use Rattle.wast_scopes.specs.declared.scope.Scope.{Scope}
use Rattle.wast_scopes.specs.Numbered.{Look, numbered_sig}
use Rattle.wast_scopes.specs.Signatures.{func_type, signatures, sig_in}
use Rattle.wast_scopes.specs.Known.{known_in}
use Rattle.wast_scopes.specs.Views.{module_look, look_in, known}

module _ (fs : List (Field Name ℕ)) (c : Scope) where
  abbrev Spaces : Type 0
  Spaces = spaces_of c.spaces.now ≡ spaces_behind (λ t. names.empty) (flat_map items fs)

  look_is : Spaces → space c.locals ≡ names.empty → (t : table.Space) (n : Name) → locals_or (space c.locals).look (module_look c.spaces.now) t n ≡ denotes same_name fs t n
  look_is h none Labels n = refl
  look_is h none Locals n = ap (λ (s : names.Space Name). s.look n) none
  look_is h none Functions n = ap (λ (s : table.Space → names.Space Name). (s Functions).look n) h ∙ tells_so same_name fs Functions n
  look_is h none Types n = ap (λ (s : table.Space → names.Space Name). (s Types).look n) h ∙ tells_so same_name fs Types n
  look_is h none Tables n = ap (λ (s : table.Space → names.Space Name). (s Tables).look n) h ∙ tells_so same_name fs Tables n
  look_is h none Memories n = ap (λ (s : table.Space → names.Space Name). (s Memories).look n) h ∙ tells_so same_name fs Memories n
  look_is h none Globals n = ap (λ (s : table.Space → names.Space Name). (s Globals).look n) h ∙ tells_so same_name fs Globals n
  look_is h none Tags n = ap (λ (s : table.Space → names.Space Name). (s Tags).look n) h ∙ tells_so same_name fs Tags n
  look_is h none Datas n = ap (λ (s : table.Space → names.Space Name). (s Datas).look n) h ∙ tells_so same_name fs Datas n
  look_is h none Elems n = ap (λ (s : table.Space → names.Space Name). (s Elems).look n) h ∙ tells_so same_name fs Elems n
  look_is h none Fields n = refl

  fields_is : fields_of_types c.spaces.now ≡ type_fields (flat_map items fs) → (t : ℕ) (n : Name) → look_in (slice_get (fields_of_types c.spaces.now) t) n ≡ position same_name n (map name_in (fields_at fs t))
  fields_is h t n =
      ap (λ l. look_in (slice_get l t) n) h ∙ ap (λ o. look_in o n) (slice_get-map (λ b. names.space_of same_name (space_word Fields) b.fields) (items_in Types fs) t) ∙ of (slice_get (items_in Types fs) t)
    where
      of : (o : Option (Bound Name ℕ)) → look_in (option_map (λ b. names.space_of same_name (space_word Fields) b.fields) o) n
          ≡ position same_name n (map name_in (elim o as (λ _. List (Option (Named Name ℕ))) [ Some b ↦ b.fields | None ↦ [] ]))
      of None = refl
      of (Some b) = numbers_of same_name (space_word Fields) b.fields n

  sigs_is : (look : Look) (xs : List (Option (Sig Name ℕ))) (n : ℕ) → sig_in (map (option_map (numbered_sig look)) xs) n ≡ option_map (numbered_sig look) (option_and_then (λ s. s) (slice_get xs n))
  sigs_is look xs n = ap (λ o. option_and_then (λ s. s) o) (slice_get-map (option_map (numbered_sig look)) xs n) ∙ of (slice_get xs n)
    where
      of : (o : Option (Option (Sig Name ℕ))) → option_and_then (λ s. s) (option_map (option_map (numbered_sig look)) o) ≡ option_map (numbered_sig look) (option_and_then (λ s. s) o)
      of None = refl
      of (Some s) = refl

  pub module_is : Spaces → fields_of_types c.spaces.now ≡ type_fields (flat_map items fs)
      → signatures c.signatures.now ≡ map (option_map (numbered_sig (spaces_of c.spaces.now Types).look)) (map func_type (flat_map written_types fs) ++ implied_sigs same_name fs)
      → space c.locals ≡ names.empty → known c ≡ known_in (scope_of same_name fs)
  module_is h fields sigs none = λ i. record {
    look = λ t n. look_is h none t n i;
    fields = λ t n. fields_is fields t n i;
    sig_of = λ n.
        (ap (λ l. sig_in l n) sigs ∙ sigs_is (spaces_of c.spaces.now Types).look (map func_type (flat_map written_types fs) ++ implied_sigs same_name fs) n
        ∙ ap (λ (look : Look). option_map (numbered_sig look) (sig_at same_name fs n)) (λ j m. look_is h none Types m j)) i;
    blocks = [];
  }
