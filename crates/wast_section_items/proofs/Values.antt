-- Values of data that are covered have bytes.
use Rattle.std.proofs.Common.{◌≡◌, [], true, refl}
use Rattle.std.specs.Prelude.{is_some}
use Rattle.wast_data.specs.DataTree.{DataVal, Text, Integral, Float, bytes_of}
use Rattle.wast_meant.specs.Covered.{data_forms}

pub has_bytes : (v : DataVal) → data_forms v ≡ [] → is_some (bytes_of v) ≡ true
has_bytes (Text bytes) e = refl
has_bytes (Integral bytes) e = refl
has_bytes (Float count) e = cc
