-- What holds of a result where it is one.
use Rattle.std.proofs.Common.{Result, Ok, Err, IfOk}

pub on_ok : {T E : Type 0} (r : Result T E) (P Q : T → Type 0) → ((x : T) → P x → Q x) → IfOk r P → IfOk r Q
on_ok (Ok value) P Q f holds = f value holds
on_ok (Err error) P Q f holds = tt
