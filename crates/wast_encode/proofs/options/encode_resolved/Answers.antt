use Rattle.std.proofs.Common.{map, ap}
use Rattle.wast_core.specs.ModuleFieldViews.{field_tree}
use Rattle.wast_core.specs.ModuleViews.{content_tree, module_tree}
use Rattle.wast_encode.proofs.Encoded.{match_of, text_encoded, text_unencoded, text_can, pieces_encoded, pieces_unencoded}
use Rattle.wast_encode.proofs.options.encode_resolved.Goals as goal

pub encode_text-requires : goal.encode_text-requires
encode_text-requires c = text_can (module_tree c.args.«module».now) _ _ (ap content_tree c.in-Text.is) (ap (map field_tree) c.deref.ensures.value) c.requires

pub returns-in-Text : goal.returns-in-Text
returns-in-Text c =
    let t = module_tree c.args.«module».now in
    let is = ap content_tree c.in-Text.is in
    let same = ap (map field_tree) c.deref.ensures.value in
    match_of _ _ _ _ (λ b l. text_encoded t _ _ is same b.items l) (λ f u. text_unencoded t _ _ is same f u) c.encode_text.result c.encode_text.ensures

pub returns-in-Binary : goal.returns-in-Binary
returns-in-Binary c =
    let t = module_tree c.args.«module».now in
    let is = ap content_tree c.in-Binary.is in
    match_of _ _ _ _ (λ b e. pieces_encoded t _ _ is c.deref-in-Binary.ensures.value b.items e) (λ f e. pieces_unencoded t _ is f e) c.join.result c.join.ensures
