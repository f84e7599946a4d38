use Rattle.std.proofs.Common.{ℕ, Bool, map}
use Rattle.std.specs.List.{find, flat_map}
use Rattle.wast_grammar.specs.Tokens.{Name}
use Rattle.wast_grammar.specs.Spelling.{same_name}
use Rattle.wast_parser.specs.Identifiers.{identifier_tree}
use Rattle.wast_signatures.specs.TypeTree.{TypeItem}
use Rattle.wast_core.specs.ModuleFieldViews.{field_tree}
use Rattle.wast_names.specs.Position.{bears}
use Rattle.wast_names.specs.Space.{name_in}
use Rattle.wast_bound.specs.Bound.{has, types}
use Rattle.wast_bound.proofs.TypeWalk.{told_here, told_past}
use Rattle.wast_bound.proofs.types.is_member_of.Goals as goal

pub returns-in-Some : goal.returns-in-Some
returns-in-Some c =
    let fs = c.args.fields.now in
    let p : TypeItem Name ℕ → Bool = λ t. bears same_name (identifier_tree c.args.name.now).0 (name_in t.id) in
    told_here field_tree types fs c.loop-field.field-index p (has (identifier_tree c.args.id.now).0) c.field-item.result c.in-Some.found (find p (flat_map types (map field_tree fs))) c.loop-field-test.true c.field-item.is c.in-Some.ensures c.loop-field.invariant

pub loop-field-preserved : goal.loop-field-preserved
loop-field-preserved c =
    let fs = c.args.fields.now in
    let p : TypeItem Name ℕ → Bool = λ t. bears same_name (identifier_tree c.args.name.now).0 (name_in t.id) in
    told_past field_tree types fs c.loop-field.field-index p (has (identifier_tree c.args.id.now).0) c.field-item.result (find p (flat_map types (map field_tree fs))) c.loop-field-test.true c.field-item.is c.in-None.ensures c.loop-field.invariant
