-- What contracts see of gathered types.
use Rattle.std.specs.Prelude.{ℕ, map}
use Rattle.std.specs.Map.{lookup}
use Rattle.wast_grammar.specs.Tokens.{Name}
use Rattle.wast_signatures.specs.TypeTree.{Sig}
use Rattle.wast_signatures.specs.SignatureViews.{sig_tree}
use Rattle.wast_implied.specs.Shapes.{same_shape, shape_of_key}
use Rattle.wast_implied.specs.Known.{Known}
use Rattle.wast_implied.specs.declared.gathered.ImpliedType.{ImpliedType}
use Rattle.wast_implied.specs.declared.gathered.Implied.{Implied}

-- an implied type: its place, and its signature
abbrev pub implied_tree : ImpliedType → ℕ × Sig Name ℕ
implied_tree t = (t.span, sig_tree t.signature)

abbrev pub known : Implied → Known
known i = record {
  types = record { count = i.count; look = λ s. lookup (λ k. same_shape (shape_of_key k) s) i.numbers.entries };
  implied = map implied_tree i.types.items;
}
