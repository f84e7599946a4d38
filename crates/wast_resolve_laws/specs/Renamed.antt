-- Fields with other names and other places.
use Rattle.std.specs.Prelude.{List}
use std.Equiv.{Iso}
use std.Path.{transport}
use std.Univalence.{iso_to_path}
use Rattle.wast_names.specs.Demand.{Demand, Complaint, Duplicate, Unknown, ImportAfter, TypeMismatch, LabelMismatch}
use Rattle.wast_field_syntax.specs.FieldTree.{Field}

-- What is over names and places, with their counterparts: types whose values correspond one to one are equal (univalence), so what is
-- over the first is over the others too. Each name and each place becomes its counterpart, and nothing else changes.
abbrev pub renamed : {N M P Q : Type 0} (T : Type 0 → Type 0 → Type 0) → Iso N M → Iso P Q → T N P → T M Q
renamed T names places x = transport (λ i. T (iso_to_path names i) (iso_to_path places i)) x

-- fields
abbrev pub FieldList : Type 0 → Type 0 → Type 0
FieldList N P = List (Field N P)

abbrev pub fields_renamed : {N M P Q : Type 0} → Iso N M → Iso P Q → List (Field N P) → List (Field M Q)
fields_renamed names places fs = renamed FieldList names places fs

-- demands, constructor by constructor
abbrev pub complaint_renamed : {N M : Type 0} → (N → M) → Complaint N → Complaint M
complaint_renamed f (Duplicate kind) = Duplicate kind
complaint_renamed f (Unknown kind n) = Unknown kind (f n)
complaint_renamed f (ImportAfter kind) = ImportAfter kind
complaint_renamed f TypeMismatch = TypeMismatch
complaint_renamed f LabelMismatch = LabelMismatch

abbrev pub demand_renamed : {N M P Q : Type 0} → (N → M) → (P → Q) → Demand N P → Demand M Q
demand_renamed f g d = record { place = g d.place; complaint = complaint_renamed f d.complaint; holds = d.holds }
