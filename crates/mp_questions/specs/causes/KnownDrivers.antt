-- Drivers of wires that were searched for.
use Rattle.std.specs.Prelude.{◌≡◌, ℕ, List, Option, Some}
use Rattle.mp_netlist.specs.declared.driver.Driver.{Driver}
use Rattle.mp_netlist.specs.Slots.{slot_at}
use Rattle.mp_netlist.specs.Circuit.{Circuit}
use Rattle.mp_netlist.specs.Drivers.{driver}

-- each driver that is known, by the number of the wire, is its wire's
abbrev pub AreKnown : Circuit → List (Option Driver) → Type 0
AreKnown n known = (w : ℕ) (found : Driver) → slot_at known w ≡ Some found → found ≡ driver n w
