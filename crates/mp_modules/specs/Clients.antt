-- Whom a module serves, and who waits.
use Rattle.std.specs.Prelude.{Bool, true, false}
use Rattle.mp_modules.specs.declared.memory.Client.{Client}
use Rattle.mp_modules.specs.declared.memory.Client.TheVariants.{Nobody, First, Second}
use Rattle.mp_modules.specs.declared.memory.Waiting.{Waiting}
use Rattle.mp_modules.specs.declared.memory.Memory.{Memory}

-- nobody is served
abbrev pub is_free : Client → Bool
is_free Nobody = true
is_free First = false
is_free Second = false

abbrev pub is_same : Client → Client → Bool
is_same Nobody Nobody = true
is_same First First = true
is_same Second Second = true
is_same _ _ = false

abbrev pub waits : Client → Waiting → Bool
waits Nobody w = false
waits First w = w.first
waits Second w = w.second

-- whether a client waits from now on
abbrev pub with_waiting : Client → Bool → Waiting → Waiting
with_waiting Nobody waits w = w
with_waiting First waits w = record w { first = waits }
with_waiting Second waits w = record w { second = waits }

-- this client is served from now on
abbrev pub serving : Client → Memory → Memory
serving client memory = record memory { served = client }
