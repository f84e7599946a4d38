-- A module that a text means is laid out without its names as with them, but for the section of names.
use Rattle.std.proofs.Common.{◌≡◌, ℕ, List, ◌++◌, Option, refl, sym, ◌∙◌, ap, subst}
use Rattle.std.specs.List.{flat_map}
use Rattle.wast_grammar.specs.Tokens.{Name}
use Rattle.wast_grammar.specs.Spelling.{same_name}
use Rattle.wast_field_syntax.specs.FieldTree.{Field, Content, Fields}
use Rattle.wast_field_syntax.specs.FieldTree as fields
use Rattle.wast_meaning.specs.Made.{is_made}
use Rattle.wast_meaning.specs.Numbered.{resolved}
use Rattle.wasm_encoder.specs.Module.{header}
use Rattle.wasm_layout.specs.AbstractModule.{AbstractModule}
use Rattle.wasm_layout.specs.Layout.{piece_bytes, layout}
use Rattle.wast_meant.specs.NamesMeant.{GivenName, given_name}
use Rattle.wast_meant.specs.Meaning.{meant}
use Rattle.wast_meant.specs.Binary.{in_bytes}
use Rattle.wast_meant.specs.Means.{naming, Means, Stands, Pieces}
use Rattle.wast_meant_laws.proofs.Unnamed.{pieces_left}
use Rattle.wat_verdict.specs.Spells.{Spells}
use Rattle.wat_verdict.proofs.Alike.{same_module, no_pieces}
use Rattle.wat_verdict.proofs.Verdict.{worth_in, worth_tree}
use Rattle.wat_laws.specs.Unnamed.{LaidBare, WithoutNames}

of_fields : (name : Option (GivenName Name)) (fs : List (Field Name ℕ)) → LaidBare (in_bytes (meant same_name is_made name fs))
of_fields name fs = record { laid = refl; bare_laid = ap (λ ps. header ++ flat_map piece_bytes ps) (pieces_left same_name is_made name fs) }

of_content : (m : AbstractModule (List ℕ)) (name : Option (GivenName Name)) (c : Content Name ℕ) → Stands m ≡ worth_in name c → LaidBare m
of_content m name (Fields fs) e = subst LaidBare (sym (same_module m _ e)) (of_fields name (resolved same_name (naming fs) fs))
of_content m name (fields.Pieces pieces) e = no_pieces m _ e

of_text : (text : List ℕ) (m : AbstractModule (List ℕ)) → Means Spells text m → LaidBare m
of_text text m w = let t = worth_tree text (Stands m) w in of_content m (given_name is_made t.tree.given t.tree.id) t.tree.content t.is

pub without_names : WithoutNames
without_names = record {
  of_text = of_text;
  of_texts = λ text other m n w v same. sym (of_text text m w).bare_laid ∙ ap layout same ∙ (of_text other n v).bare_laid;
}
