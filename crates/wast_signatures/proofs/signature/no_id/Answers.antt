use Rattle.std.proofs.Common.{Some, inl, inr, map, option_map, ap, ◌∙◌}
use Rattle.wast_value_types.specs.Grammar.{map_reads}
use Rattle.wast_value_types.specs.State.{ahead}
use Rattle.wast_value_types.specs.ValueSyntax.{val_type}
use Rattle.wast_signatures.specs.TypeSyntax.{given_starts, given_name, as_given, unnamed, val_types}
use Rattle.wast_signatures.specs.SignatureViews.{name_tree}
use Rattle.wast_signatures.proofs.Readings.{no_choice, first_chosen, second_chosen}
use Rattle.wast_signatures.proofs.signature.no_id.Goals as goal

pub returns-in-Ok-Some-clause-read : goal.returns-in-Ok-Some-clause-read
returns-in-Ok-Some-clause-read c =
    let e = first_chosen given_starts as_given given_name.reads val_type.reads (map_reads (map unnamed) val_types.reads) (ahead c.args.parser.now) (name_tree c.in-Ok-Some.name) (ahead c.parse.new.parser) (c.in-Ok-Some.ensures.read ∙ ap (λ o. Some (option_map name_tree o, ahead c.parse.new.parser)) c.in-Ok-Some.field-0-is) in
    rw e c.one_given.ensures.read

pub returns-in-Ok-None-clause-read : goal.returns-in-Ok-None-clause-read
returns-in-Ok-None-clause-read c =
    let e = second_chosen given_starts as_given given_name.reads val_type.reads (map_reads (map unnamed) val_types.reads) (ahead c.args.parser.now) (ahead c.parse.new.parser) (c.in-Ok-None.ensures.read ∙ ap (λ o. Some (option_map name_tree o, ahead c.parse.new.parser)) c.in-Ok-None.field-0-is) in
    rw e c.unnamed.ensures.read

pub returns-in-Err-clause-read : goal.returns-in-Err-clause-read
returns-in-Err-clause-read c = elim c.in-Err.ensures.read [
  | inl m ↦ inl m
  | inr n ↦ inr (no_choice given_starts as_given given_name.reads val_type.reads (map_reads (map unnamed) val_types.reads) (ahead c.args.parser.now) n)
]
