-- Bodies that can be encoded.
use Rattle.std.proofs.Common.{◌≡◌, [], ◌++◌}
use Rattle.std.specs.Prelude.{All}
use Rattle.std.specs.List.{flat_map}
use Rattle.wast_module_fields.specs.FieldTree.{Function, Func}
use Rattle.wast_conversions.specs.Operands.{OperandsAligned}
use Rattle.wast_conversions.specs.Resolved.{ValResolved, InstrsResolved}
use Rattle.wast_conversions.specs.Covered.{val_forms, use_forms}
use Rattle.wast_conversions.proofs.Empty.{front, back}
use Rattle.wast_meant.specs.Covered.{expr_forms, defined_forms}
use Rattle.wast_custom_sections.specs.Hints.{BodyReady}

-- So is that of a function that is resolved and has no form without bytes, and whose alignments are powers of two.
pub body_ready : {N P : Type 0} (f : Function N P) → All (λ l. ValResolved l.val_type) f.locals → InstrsResolved f.body.instrs → All (λ i. OperandsAligned i.operands) f.body.instrs
    → defined_forms (Func f) ≡ [] → BodyReady f.locals f.body
body_ready f locals body aligned none =
    let of_use = use_forms f.type_use in
    let of_locals = flat_map (λ l. val_forms l.val_type) f.locals in
    record {
      locals_resolved = locals;
      locals_covered = back of_use of_locals (front (of_use ++ of_locals) (expr_forms f.body) none);
      resolved = body;
      covered = back (of_use ++ of_locals) (expr_forms f.body) none;
      aligned = aligned;
    }
