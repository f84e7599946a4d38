use Rattle.std.proofs.Common.{map, ap, sym, ◌∙◌}
use Rattle.std.specs.Prelude.{option_map}
use Rattle.std.proofs.lemmas.Result.{IfOk-weaker}
use Rattle.wast_parser.specs.Identifiers.{identifier_tree}
use Rattle.wast_spaces.proofs.Written.{ids_seen}
use Rattle.wast_spaces.proofs.spaces.field_ids.Goals as goal

pub returns-in-Struct : goal.returns-in-Struct
returns-in-Struct c =
    rw (c.in-Struct.is, sym c.deref.ensures.value) (IfOk-weaker c.ids_of.result _ _ (λ ids h. ap (map (option_map identifier_tree)) h ∙ ids_seen c.deref.result.now) c.ids_of.ensures)
