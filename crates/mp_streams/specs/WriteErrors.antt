-- What a call that writes, and that may want memory, makes of its text.
use Rattle.std.specs.Prelude.{ℕ, Bool, true, false, List, Result}
use Rattle.mp_streams.specs.declared.write_error.WriteError.{WriteError}
use Rattle.mp_streams.specs.declared.write_error.WriteError.TheVariants.{WriteFailed, OutOfMemory}
use Rattle.mp_streams.specs.Outgoing.{Outgoing, Puts}

-- whether the sink failed
abbrev pub is_fault : WriteError → Bool
is_fault WriteFailed = true
is_fault OutOfMemory = false

-- a call wrote this text: where memory was wanting, some of it, from the front, is with the sink or held
abbrev pub Writes : {S T : Type 0} → Result T WriteError → Outgoing S → Outgoing S → List ℕ → Type 0
Writes result old new text = Puts is_fault result old new text
