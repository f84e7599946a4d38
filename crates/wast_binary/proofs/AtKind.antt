-- A section as what stands at its stop.
use Rattle.std.proofs.Common.{◌≡◌, ℕ, List, Option, Result, sym, subst}
use Rattle.wasm_encoder_base.specs.EncodeError.{EncodeError}
use Rattle.wast_parser_base.specs.Identifier.{Identifier}
use Rattle.wast_parser_base.specs.declared.index.NameAnnotation.{NameAnnotation}
use Rattle.wast_module_fields.specs.declared.field.ModuleField.{ModuleField}
use Rattle.wast_meant.specs.CustomsMeant.{Of}
use Rattle.wast_binary.specs.Parts.{KindSound, StopSound}
use Rattle.wast_binary.specs.Puts.{Puts}
use Rattle.wast_binary.specs.Sources.{module_in, pieces_at}
use Rattle.wast_binary.specs.Views.{kind_view, stop_view}
use Rattle.wast_binary.specs.declared.stop.Kind.{Kind}
use Rattle.wast_binary.specs.declared.stop.Stop.{Stop}

-- where the kind is this one
pub at_kind : (id : Option Identifier) (name : Option NameAnnotation) (fields : List ModuleField) {kind that : Kind} {before after : List ℕ} {r : Result (Unit {0}) EncodeError} → kind ≡ that
    → Puts (module_in id name fields) (pieces_at id name fields (Of (kind_view that))) (KindSound (module_in id name fields) (kind_view that)) before after r
    → Puts (module_in id name fields) (pieces_at id name fields (Of (kind_view kind))) (KindSound (module_in id name fields) (kind_view kind)) before after r
at_kind id name fields {kind} {that} {before} {after} {r} e h =
    subst (λ k. Puts (module_in id name fields) (pieces_at id name fields (Of (kind_view k))) (KindSound (module_in id name fields) (kind_view k)) before after r) (sym e) h

pub at_stop : (id : Option Identifier) (name : Option NameAnnotation) (fields : List ModuleField) {stop that : Stop} {before after : List ℕ} {r : Result (Unit {0}) EncodeError} → stop ≡ that
    → Puts (module_in id name fields) (pieces_at id name fields (stop_view that)) (StopSound (module_in id name fields) (stop_view that)) before after r
    → Puts (module_in id name fields) (pieces_at id name fields (stop_view stop)) (StopSound (module_in id name fields) (stop_view stop)) before after r
at_stop id name fields {stop} {that} {before} {after} {r} e h =
    subst (λ t. Puts (module_in id name fields) (pieces_at id name fields (stop_view t)) (StopSound (module_in id name fields) (stop_view t)) before after r) (sym e) h
