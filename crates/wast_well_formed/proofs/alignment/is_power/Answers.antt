use Rattle.std.proofs.Common.{◌&&◌, nat_lt, ap, sym, ◌∙◌}
use Rattle.wast_well_formed.proofs.Powers.{power_is}
use Rattle.wast_well_formed.proofs.alignment.is_power.Goals as goal

pub returns-then-is_power_of_two : goal.returns-then-is_power_of_two
returns-then-is_power_of_two c =
    let bytes = c.args.bytes in
    ap (λ b. b && nat_lt bytes 65536) (sym c.if-is_power_of_two.true ∙ c.is_power_of_two.ensures) ∙ power_is bytes

pub returns-else-is_power_of_two : goal.returns-else-is_power_of_two
returns-else-is_power_of_two c =
    let bytes = c.args.bytes in
    c.if-is_power_of_two.false ∙ ap (λ b. b && nat_lt bytes 65536) (sym c.if-is_power_of_two.false ∙ c.is_power_of_two.ensures) ∙ power_is bytes
