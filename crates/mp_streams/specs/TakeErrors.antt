-- The faults of a source that is read whole.
use Rattle.std.specs.Prelude.{ℕ, Result, Ok, Err}
use Rattle.mp_streams.specs.declared.take_error.TakeError.{TakeError}
use Rattle.mp_streams.specs.declared.take_error.TakeError.TheVariants.{Failed, OutOfMemory}
use Rattle.mp_streams.specs.StreamFaults.{one_more}

-- the number of faults after the reading: only the device's own error adds one
abbrev pub counted_take : {T : Type 0} → Result T TakeError → ℕ → ℕ
counted_take (Ok value) faults = faults
counted_take (Err Failed) faults = one_more faults
counted_take (Err OutOfMemory) faults = faults
