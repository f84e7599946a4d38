use Rattle.std.proofs.Common.{map, sym, ◌∙◌, subst}
use Rattle.std.specs.Prelude.{option_map}
use Rattle.std.specs.List.{flat_map}
use Rattle.wasm_encoder_base.specs.Encodes.{Encodes}
use Rattle.wast_parser.specs.Identifiers.{identifier_tree}
use Rattle.wast_signatures.specs.SignatureViews.{name_tree}
use Rattle.wast_customs.specs.CustomViews.{place_tree}
use Rattle.wasm_layout.specs.Layout.{Free, piece_bytes}
use Rattle.wasm_layout.specs.Lays.{PiecesFit}
use Rattle.wast_meant.specs.CustomsMeant.{at_place}
use Rattle.wast_binary.specs.Sources.{fields_in, module_in}
use Rattle.wast_binary.specs.Views.{kind_view}
use Rattle.wast_binary.proofs.Absent.{nothing_put}
use Rattle.wast_binary.proofs.Others.{put_customs}
use Rattle.wast_binary.proofs.AtKind.{at_stop}
use Rattle.wast_binary.proofs.stops.put_stop.Goals as goal

pub returns-in-At : goal.returns-in-At
returns-in-At c =
    let id = option_map identifier_tree c.args.id.now in
    let name = option_map name_tree c.args.name.now in
    let place = place_tree c.in-At.place in
    at_stop c.args.id.now c.args.name.now c.args.fields.now c.in-At.is
    (put_customs name id (fields_in c.args.fields.now) _ _ c.put_customs.result place
    (subst (λ cs. Encodes (flat_map piece_bytes (map Free (at_place cs place))) (PiecesFit (map Free (at_place cs place))) c.args.«module».now c.put_customs.new.«module» c.put_customs.result) c.requires.customs c.put_customs.ensures))

pub returns-then-has : goal.returns-then-has
returns-then-has c = at_stop c.args.id.now c.args.name.now c.args.fields.now c.in-Of.is c.put_kind.ensures

pub returns-else-has : goal.returns-else-has
returns-else-has c =
    let absent = c.requires.present (option_map name_tree c.args.name.now) (option_map identifier_tree c.args.id.now) c.in-Of.kind (sym c.has.ensures ∙ c.if-has.false) in
    at_stop c.args.id.now c.args.name.now c.args.fields.now c.in-Of.is (nothing_put (module_in c.args.id.now c.args.name.now c.args.fields.now) (kind_view c.in-Of.kind) _ absent)
