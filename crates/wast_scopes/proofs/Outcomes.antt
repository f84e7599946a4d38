-- What holds where a call answers.
use Rattle.std.specs.Prelude.{Result, Ok, Err, OnOk}

pub on_always : {T E A : Type 0} (r : Result T E) → A → OnOk r A
on_always (Ok x) a = a
on_always (Err e) a = tt
