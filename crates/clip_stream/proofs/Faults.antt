-- What holds after a call, and after a fault.
use Rattle.std.specs.Prelude.{Result, Ok, Err, OnErr, OnOk}

pub on_err : {T E P : Type 0} (r : Result T E) → P → OnErr r P
on_err (Ok x) p = tt
on_err (Err x) p = p

pub on_ok : {T E P : Type 0} (r : Result T E) → P → OnOk r P
on_ok (Ok x) p = p
on_ok (Err x) p = tt
