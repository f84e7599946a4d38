-- Trees that are no pieces of a binary, and in which no custom field has the name of a section that is written by itself.
use Rattle.std.specs.Prelude.{◌≡◌, false, List, [], ◌∷◌, map, codes}
use Rattle.std.specs.List.{flat_map}
use Rattle.wast_field_syntax.specs.FieldTree.{Field, Content, Fields, Pieces, Module}
use Rattle.wasm_layout.specs.Present.{is_called}
use Rattle.wast_meant.specs.CustomsMeant.{custom_of, customs_in}

module _ {N P : Type 0} where
  pub record ArePlain (fs : List (Field N P)) : Type 0 where
    pub no_names : is_called (codes "name") (map custom_of (flat_map customs_in fs) ∷ []) ≡ false
    pub no_hints : is_called (codes "metadata.code.branch_hint") (map custom_of (flat_map customs_in fs) ∷ []) ≡ false

  abbrev pub IsPlainContent : Content N P → Type 0
  IsPlainContent (Fields fs) = ArePlain fs
  IsPlainContent (Pieces pieces) = ⊥

  abbrev pub IsPlain : Module N P → Type 0
  IsPlain t = IsPlainContent t.content
